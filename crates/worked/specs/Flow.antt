-- The operations that halt, push, exchange, discard, jump, branch and call, 00, 01, 04 to 0A, 3B to 40, 55 to 5A and 80 to FF: each row a program, the cells
-- before, and all after.
use Rattle.std.specs.Prelude.{ℕ, List, [], ◌∷◌, ◌++◌, replicate}
use Rattle.machine.specs.Machine.{machine}
use Rattle.machine.specs.Run.{came}
use Rattle.machine.specs.declared.Status.TheVariants.{Halted, Faulted}
use Rattle.guarantee.specs.Marked.{Example, runs, at}

abbrev pub ordered : List Example
ordered =
    -- "halt, and function 0, count one step, halt and keep the address"
    runs (0x00 ∷ []) [] [] (came (machine (at 0 0 Halted) [] []) 1)
    -- "01 discard", "dead cells keep what was last written there"
    ∷ runs (0xC1 ∷ 0x02 ∷ 0x01 ∷ 0x01 ∷ 0x00 ∷ []) [] (7 ∷ 7 ∷ []) (came (machine (at 4 1 Halted) [] (1 ∷ 2 ∷ [])) 3)
    -- "04 swap"; 004: "push a; push b", a being the top, here 1, and b 2
    ∷ runs (0xC1 ∷ 0x02 ∷ 0x01 ∷ 0x04 ∷ 0x00 ∷ []) [] (7 ∷ 7 ∷ []) (came (machine (at 4 2 Halted) [] (2 ∷ 1 ∷ [])) 3)
    ∷ []

abbrev pub led : List Example
led =
    -- "05 call: push the address of the next instruction, go to a. 06 jump"
    runs (0x84 ∷ 0x05 ∷ 0x01 ∷ 0x01 ∷ 0x00 ∷ []) [] (7 ∷ []) (came (machine (at 4 1 Halted) [] (2 ∷ [])) 3)
    ∷ runs (0x83 ∷ 0x06 ∷ 0x01 ∷ 0x00 ∷ []) [] (7 ∷ []) (came (machine (at 3 0 Halted) [] (3 ∷ [])) 3)
    -- "07 jump-if and 08 jump-if-not: go to a if b is not 0, is 0; both are taken either way"; 256 is not 0
    ∷ runs (0xC1 ∷ 0x01 ∷ 0x05 ∷ 0x07 ∷ 0x00 ∷ 0x00 ∷ []) [] (7 ∷ 7 ∷ []) (came (machine (at 5 0 Halted) [] (5 ∷ 1 ∷ [])) 3)
    ∷ runs (0xC5 ∷ 0x00 ∷ 0x01 ∷ 0x06 ∷ 0x07 ∷ 0x00 ∷ 0x00 ∷ []) [] (7 ∷ 7 ∷ []) (came (machine (at 6 0 Halted) [] (6 ∷ 256 ∷ [])) 3)
    ∷ runs (0xC1 ∷ 0x00 ∷ 0x05 ∷ 0x07 ∷ 0x00 ∷ 0x00 ∷ []) [] (7 ∷ 7 ∷ []) (came (machine (at 4 0 Halted) [] (5 ∷ 0 ∷ [])) 3)
    ∷ runs (0xC1 ∷ 0x00 ∷ 0x05 ∷ 0x08 ∷ 0x00 ∷ 0x00 ∷ []) [] (7 ∷ 7 ∷ []) (came (machine (at 5 0 Halted) [] (5 ∷ 0 ∷ [])) 3)
    ∷ runs (0xC5 ∷ 0x00 ∷ 0x01 ∷ 0x06 ∷ 0x08 ∷ 0x00 ∷ 0x00 ∷ []) [] (7 ∷ 7 ∷ []) (came (machine (at 5 0 Halted) [] (6 ∷ 256 ∷ [])) 3)
    ∷ runs (0xC1 ∷ 0x01 ∷ 0x05 ∷ 0x08 ∷ 0x00 ∷ 0x00 ∷ []) [] (7 ∷ 7 ∷ []) (came (machine (at 4 0 Halted) [] (5 ∷ 1 ∷ [])) 3)
    -- "3B call, 3C jump, 3D jump if a is not 0, 3E if 0 [..] all with x"
    ∷ runs (0x3B ∷ 0x04 ∷ 0x01 ∷ 0x01 ∷ 0x00 ∷ []) [] (7 ∷ []) (came (machine (at 4 1 Halted) [] (2 ∷ [])) 2)
    ∷ runs (0x3C ∷ 0x03 ∷ 0x01 ∷ 0x00 ∷ []) [] (7 ∷ []) (came (machine (at 3 0 Halted) [] (7 ∷ [])) 2)
    ∷ runs (0x81 ∷ 0x3D ∷ 0x04 ∷ 0x00 ∷ 0x00 ∷ []) [] (7 ∷ []) (came (machine (at 4 0 Halted) [] (1 ∷ [])) 3)
    ∷ runs (0x80 ∷ 0x3D ∷ 0x04 ∷ 0x00 ∷ 0x00 ∷ []) [] (7 ∷ []) (came (machine (at 3 0 Halted) [] (0 ∷ [])) 3)
    ∷ runs (0x80 ∷ 0x3E ∷ 0x04 ∷ 0x00 ∷ 0x00 ∷ []) [] (7 ∷ []) (came (machine (at 4 0 Halted) [] (0 ∷ [])) 3)
    ∷ runs (0x81 ∷ 0x3E ∷ 0x04 ∷ 0x00 ∷ 0x00 ∷ []) [] (7 ∷ []) (came (machine (at 3 0 Halted) [] (1 ∷ [])) 3)
    -- "55 to 5A: the same families [..] with a two-byte x", 258 as 02 01; "A jump to a bad address succeeds; the next step gives 1"
    ∷ runs (0x55 ∷ 0x02 ∷ 0x01 ∷ []) [] (7 ∷ []) (came (machine (at 258 1 (Faulted 1)) [] (3 ∷ [])) 1)
    ∷ runs (0x56 ∷ 0x02 ∷ 0x01 ∷ []) [] (7 ∷ []) (came (machine (at 258 0 (Faulted 1)) [] (7 ∷ [])) 1)
    ∷ runs (0x81 ∷ 0x57 ∷ 0x02 ∷ 0x01 ∷ 0x00 ∷ []) [] (7 ∷ []) (came (machine (at 258 0 (Faulted 1)) [] (1 ∷ [])) 2)
    ∷ runs (0x80 ∷ 0x57 ∷ 0x02 ∷ 0x01 ∷ 0x00 ∷ []) [] (7 ∷ []) (came (machine (at 4 0 Halted) [] (0 ∷ [])) 3)
    ∷ runs (0x80 ∷ 0x58 ∷ 0x02 ∷ 0x01 ∷ 0x00 ∷ []) [] (7 ∷ []) (came (machine (at 258 0 (Faulted 1)) [] (0 ∷ [])) 2)
    ∷ runs (0x81 ∷ 0x58 ∷ 0x02 ∷ 0x01 ∷ 0x00 ∷ []) [] (7 ∷ []) (came (machine (at 4 0 Halted) [] (1 ∷ [])) 3)
    ∷ []

abbrev pub asked : List Example
asked =
    -- "09 syscall, 0A extcall: function a"; "function 0 by code 09 takes its operand"; "Left out: [..] extension functions, all system functions but
    -- 0"; "8 no such function", which "alters only the status"; function 256 is another than 0
    runs (0x80 ∷ 0x09 ∷ []) [] (7 ∷ []) (came (machine (at 1 0 Halted) [] (0 ∷ [])) 2)
    ∷ runs (0x81 ∷ 0x09 ∷ []) [] (7 ∷ []) (came (machine (at 1 1 (Faulted 8)) [] (1 ∷ [])) 1)
    ∷ runs (0xC4 ∷ 0x00 ∷ 0x01 ∷ 0x09 ∷ []) [] (7 ∷ []) (came (machine (at 3 1 (Faulted 8)) [] (256 ∷ [])) 1)
    ∷ runs (0x80 ∷ 0x0A ∷ []) [] (7 ∷ []) (came (machine (at 1 1 (Faulted 8)) [] (0 ∷ [])) 1)
    ∷ runs (0x81 ∷ 0x0A ∷ []) [] (7 ∷ []) (came (machine (at 1 1 (Faulted 8)) [] (1 ∷ [])) 1)
    -- "3F syscall, 40 extcall, all with x": no operand is taken
    ∷ runs (0x85 ∷ 0x3F ∷ 0x00 ∷ []) [] (7 ∷ []) (came (machine (at 1 1 Halted) [] (5 ∷ [])) 2)
    ∷ runs (0x3F ∷ 0x00 ∷ []) [] [] (came (machine (at 0 0 Halted) [] []) 1)
    ∷ runs (0x3F ∷ 0x01 ∷ []) [] [] (came (machine (at 0 0 (Faulted 8)) [] []) 0)
    ∷ runs (0x40 ∷ 0x00 ∷ []) [] [] (came (machine (at 0 0 (Faulted 8)) [] []) 0)
    ∷ runs (0x40 ∷ 0x01 ∷ []) [] [] (came (machine (at 0 0 (Faulted 8)) [] []) 0)
    -- "55 to 5A: the same families in the same order with a two-byte x"
    ∷ runs (0x85 ∷ 0x59 ∷ 0x00 ∷ 0x00 ∷ []) [] (7 ∷ []) (came (machine (at 1 1 Halted) [] (5 ∷ [])) 2)
    ∷ runs (0x59 ∷ 0x00 ∷ 0x00 ∷ []) [] [] (came (machine (at 0 0 Halted) [] []) 1)
    ∷ runs (0x59 ∷ 0x01 ∷ 0x00 ∷ []) [] [] (came (machine (at 0 0 (Faulted 8)) [] []) 0)
    ∷ runs (0x59 ∷ 0x00 ∷ 0x01 ∷ []) [] [] (came (machine (at 0 0 (Faulted 8)) [] []) 0)
    ∷ runs (0x5A ∷ 0x00 ∷ 0x00 ∷ []) [] [] (came (machine (at 0 0 (Faulted 8)) [] []) 0)
    ∷ runs (0x5A ∷ 0x01 ∷ 0x00 ∷ []) [] [] (came (machine (at 0 0 (Faulted 8)) [] []) 0)
    ∷ []

-- a first byte of C0 to FF and the bytes behind it, then a halt: where that stands, how many values there are, and four cells, which held 7 before
abbrev pub of_values : ℕ → List ℕ → ℕ → ℕ → List ℕ → Example
of_values code bytes next count cells = runs (code ∷ (bytes ++ (0x00 ∷ []))) [] (7 ∷ 7 ∷ 7 ∷ 7 ∷ []) (came (machine (at next count Halted) [] cells) 2)

-- every byte from 80 to BF, and a halt
abbrev pub sixes : List ℕ
sixes =
    0x80 ∷ 0x81 ∷ 0x82 ∷ 0x83 ∷ 0x84 ∷ 0x85 ∷ 0x86 ∷ 0x87 ∷ 0x88 ∷ 0x89 ∷ 0x8A ∷ 0x8B ∷ 0x8C ∷ 0x8D ∷ 0x8E ∷ 0x8F
    ∷ 0x90 ∷ 0x91 ∷ 0x92 ∷ 0x93 ∷ 0x94 ∷ 0x95 ∷ 0x96 ∷ 0x97 ∷ 0x98 ∷ 0x99 ∷ 0x9A ∷ 0x9B ∷ 0x9C ∷ 0x9D ∷ 0x9E ∷ 0x9F
    ∷ 0xA0 ∷ 0xA1 ∷ 0xA2 ∷ 0xA3 ∷ 0xA4 ∷ 0xA5 ∷ 0xA6 ∷ 0xA7 ∷ 0xA8 ∷ 0xA9 ∷ 0xAA ∷ 0xAB ∷ 0xAC ∷ 0xAD ∷ 0xAE ∷ 0xAF
    ∷ 0xB0 ∷ 0xB1 ∷ 0xB2 ∷ 0xB3 ∷ 0xB4 ∷ 0xB5 ∷ 0xB6 ∷ 0xB7 ∷ 0xB8 ∷ 0xB9 ∷ 0xBA ∷ 0xBB ∷ 0xBC ∷ 0xBD ∷ 0xBE ∷ 0xBF
    ∷ 0x00 ∷ []

-- 63 to 0
abbrev pub downward : List ℕ
downward =
    63 ∷ 62 ∷ 61 ∷ 60 ∷ 59 ∷ 58 ∷ 57 ∷ 56 ∷ 55 ∷ 54 ∷ 53 ∷ 52 ∷ 51 ∷ 50 ∷ 49 ∷ 48
    ∷ 47 ∷ 46 ∷ 45 ∷ 44 ∷ 43 ∷ 42 ∷ 41 ∷ 40 ∷ 39 ∷ 38 ∷ 37 ∷ 36 ∷ 35 ∷ 34 ∷ 33 ∷ 32
    ∷ 31 ∷ 30 ∷ 29 ∷ 28 ∷ 27 ∷ 26 ∷ 25 ∷ 24 ∷ 23 ∷ 22 ∷ 21 ∷ 20 ∷ 19 ∷ 18 ∷ 17 ∷ 16
    ∷ 15 ∷ 14 ∷ 13 ∷ 12 ∷ 11 ∷ 10 ∷ 9 ∷ 8 ∷ 7 ∷ 6 ∷ 5 ∷ 4 ∷ 3 ∷ 2 ∷ 1 ∷ 0
    ∷ []

abbrev pub pushed : List Example
pushed =
    -- "80 to BF push the low six bits": 0 to 63, so that 63 is the top and 0 the deepest
    runs sixes [] (replicate 64 7) (came (machine (at 64 64 Halted) [] downward) 65)
    -- "C0 to FF push one to four values: bits 0-1 hold the count less one; bits 2, 3, 4, 5 say, for the first to the fourth value, 0 = one byte, 1 = two.
    -- [..] The length is one, plus the count, plus the number of set flags. The last value ends on top"
    ∷ of_values 0xC0 (0xFE ∷ []) 2 1 (7 ∷ 7 ∷ 7 ∷ 0xFE ∷ [])
    ∷ of_values 0xC4 (0x11 ∷ 1 ∷ []) 3 1 (7 ∷ 7 ∷ 7 ∷ 0x111 ∷ [])
    ∷ of_values 0xC1 (1 ∷ 2 ∷ []) 3 2 (7 ∷ 7 ∷ 2 ∷ 1 ∷ [])
    ∷ of_values 0xC5 (0x11 ∷ 1 ∷ 2 ∷ []) 4 2 (7 ∷ 7 ∷ 2 ∷ 0x111 ∷ [])
    ∷ of_values 0xC9 (1 ∷ 0x12 ∷ 2 ∷ []) 4 2 (7 ∷ 7 ∷ 0x212 ∷ 1 ∷ [])
    ∷ of_values 0xCD (0x11 ∷ 1 ∷ 0x12 ∷ 2 ∷ []) 5 2 (7 ∷ 7 ∷ 0x212 ∷ 0x111 ∷ [])
    ∷ of_values 0xC2 (1 ∷ 2 ∷ 3 ∷ []) 4 3 (7 ∷ 3 ∷ 2 ∷ 1 ∷ [])
    ∷ of_values 0xC6 (0x11 ∷ 1 ∷ 2 ∷ 3 ∷ []) 5 3 (7 ∷ 3 ∷ 2 ∷ 0x111 ∷ [])
    ∷ of_values 0xCA (1 ∷ 0x12 ∷ 2 ∷ 3 ∷ []) 5 3 (7 ∷ 3 ∷ 0x212 ∷ 1 ∷ [])
    ∷ of_values 0xCE (0x11 ∷ 1 ∷ 0x12 ∷ 2 ∷ 3 ∷ []) 6 3 (7 ∷ 3 ∷ 0x212 ∷ 0x111 ∷ [])
    ∷ of_values 0xD2 (1 ∷ 2 ∷ 0x13 ∷ 3 ∷ []) 5 3 (7 ∷ 0x313 ∷ 2 ∷ 1 ∷ [])
    ∷ of_values 0xD6 (0x11 ∷ 1 ∷ 2 ∷ 0x13 ∷ 3 ∷ []) 6 3 (7 ∷ 0x313 ∷ 2 ∷ 0x111 ∷ [])
    ∷ of_values 0xDA (1 ∷ 0x12 ∷ 2 ∷ 0x13 ∷ 3 ∷ []) 6 3 (7 ∷ 0x313 ∷ 0x212 ∷ 1 ∷ [])
    ∷ of_values 0xDE (0x11 ∷ 1 ∷ 0x12 ∷ 2 ∷ 0x13 ∷ 3 ∷ []) 7 3 (7 ∷ 0x313 ∷ 0x212 ∷ 0x111 ∷ [])
    ∷ of_values 0xC3 (1 ∷ 2 ∷ 3 ∷ 4 ∷ []) 5 4 (4 ∷ 3 ∷ 2 ∷ 1 ∷ [])
    ∷ of_values 0xC7 (0x11 ∷ 1 ∷ 2 ∷ 3 ∷ 4 ∷ []) 6 4 (4 ∷ 3 ∷ 2 ∷ 0x111 ∷ [])
    ∷ of_values 0xCB (1 ∷ 0x12 ∷ 2 ∷ 3 ∷ 4 ∷ []) 6 4 (4 ∷ 3 ∷ 0x212 ∷ 1 ∷ [])
    ∷ of_values 0xCF (0x11 ∷ 1 ∷ 0x12 ∷ 2 ∷ 3 ∷ 4 ∷ []) 7 4 (4 ∷ 3 ∷ 0x212 ∷ 0x111 ∷ [])
    ∷ of_values 0xD3 (1 ∷ 2 ∷ 0x13 ∷ 3 ∷ 4 ∷ []) 6 4 (4 ∷ 0x313 ∷ 2 ∷ 1 ∷ [])
    ∷ of_values 0xD7 (0x11 ∷ 1 ∷ 2 ∷ 0x13 ∷ 3 ∷ 4 ∷ []) 7 4 (4 ∷ 0x313 ∷ 2 ∷ 0x111 ∷ [])
    ∷ of_values 0xDB (1 ∷ 0x12 ∷ 2 ∷ 0x13 ∷ 3 ∷ 4 ∷ []) 7 4 (4 ∷ 0x313 ∷ 0x212 ∷ 1 ∷ [])
    ∷ of_values 0xDF (0x11 ∷ 1 ∷ 0x12 ∷ 2 ∷ 0x13 ∷ 3 ∷ 4 ∷ []) 8 4 (4 ∷ 0x313 ∷ 0x212 ∷ 0x111 ∷ [])
    ∷ of_values 0xE3 (1 ∷ 2 ∷ 3 ∷ 0x14 ∷ 4 ∷ []) 6 4 (0x414 ∷ 3 ∷ 2 ∷ 1 ∷ [])
    ∷ of_values 0xE7 (0x11 ∷ 1 ∷ 2 ∷ 3 ∷ 0x14 ∷ 4 ∷ []) 7 4 (0x414 ∷ 3 ∷ 2 ∷ 0x111 ∷ [])
    ∷ of_values 0xEB (1 ∷ 0x12 ∷ 2 ∷ 3 ∷ 0x14 ∷ 4 ∷ []) 7 4 (0x414 ∷ 3 ∷ 0x212 ∷ 1 ∷ [])
    ∷ of_values 0xEF (0x11 ∷ 1 ∷ 0x12 ∷ 2 ∷ 3 ∷ 0x14 ∷ 4 ∷ []) 8 4 (0x414 ∷ 3 ∷ 0x212 ∷ 0x111 ∷ [])
    ∷ of_values 0xF3 (1 ∷ 2 ∷ 0x13 ∷ 3 ∷ 0x14 ∷ 4 ∷ []) 7 4 (0x414 ∷ 0x313 ∷ 2 ∷ 1 ∷ [])
    ∷ of_values 0xF7 (0x11 ∷ 1 ∷ 2 ∷ 0x13 ∷ 3 ∷ 0x14 ∷ 4 ∷ []) 8 4 (0x414 ∷ 0x313 ∷ 2 ∷ 0x111 ∷ [])
    ∷ of_values 0xFB (1 ∷ 0x12 ∷ 2 ∷ 0x13 ∷ 3 ∷ 0x14 ∷ 4 ∷ []) 8 4 (0x414 ∷ 0x313 ∷ 0x212 ∷ 1 ∷ [])
    ∷ of_values 0xFF (0x11 ∷ 1 ∷ 0x12 ∷ 2 ∷ 0x13 ∷ 3 ∷ 0x14 ∷ 4 ∷ []) 9 4 (0x414 ∷ 0x313 ∷ 0x212 ∷ 0x111 ∷ [])
    ∷ []
