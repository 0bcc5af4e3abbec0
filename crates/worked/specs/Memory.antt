-- The loads, stores and copies, 1D to 24, 33 to 3A, 4D to 54, 02 and 03: each row a program, the data and cells before, and all after.
use Rattle.std.specs.Prelude.{ℕ, List, [], ◌∷◌, ◌++◌, replicate}
use Rattle.machine.specs.Machine.{machine}
use Rattle.machine.specs.Run.{came}
use Rattle.machine.specs.declared.Status.TheVariants.{Halted}
use Rattle.guarantee.specs.Marked.{Example, runs, at}

-- data of five bytes, none of them alike and all over 127
abbrev pub five : List ℕ
five = 0x81 ∷ 0x92 ∷ 0xA3 ∷ 0xB4 ∷ 0xC5 ∷ []

-- data of 258 nines and two bytes more: what a two-byte x reaches
abbrev pub far : ℕ → ℕ → List ℕ
far b₀ b₁ = replicate 258 9 ++ (b₀ ∷ b₁ ∷ [])

abbrev pub loaded : List Example
loaded =
    -- "1D to 20 ld-u8, ld-u16, ld-u8--offs, ld-u16-offs: at a, or at a+b"; 004: "little-endian order with the least significant byte first"
    runs (0x82 ∷ 0x1D ∷ 0x00 ∷ []) five (7 ∷ []) (came (machine (at 2 1 Halted) five (0xA3 ∷ [])) 3)
    ∷ runs (0x81 ∷ 0x1E ∷ 0x00 ∷ []) five (7 ∷ []) (came (machine (at 2 1 Halted) five (0xA392 ∷ [])) 3)
    ∷ runs (0x83 ∷ 0x81 ∷ 0x1F ∷ 0x00 ∷ []) five (7 ∷ 7 ∷ []) (came (machine (at 3 1 Halted) five (1 ∷ 0xC5 ∷ [])) 4)
    ∷ runs (0x82 ∷ 0x81 ∷ 0x20 ∷ 0x00 ∷ []) five (7 ∷ 7 ∷ []) (came (machine (at 3 1 Halted) five (1 ∷ 0xC5B4 ∷ [])) 4)
    -- "33 to 36 loads at x, x, a+x, a+x"
    ∷ runs (0x33 ∷ 0x04 ∷ 0x00 ∷ []) five (7 ∷ []) (came (machine (at 2 1 Halted) five (0xC5 ∷ [])) 2)
    ∷ runs (0x34 ∷ 0x01 ∷ 0x00 ∷ []) five (7 ∷ []) (came (machine (at 2 1 Halted) five (0xA392 ∷ [])) 2)
    ∷ runs (0x81 ∷ 0x35 ∷ 0x02 ∷ 0x00 ∷ []) five (7 ∷ []) (came (machine (at 3 1 Halted) five (0xB4 ∷ [])) 3)
    ∷ runs (0x81 ∷ 0x36 ∷ 0x02 ∷ 0x00 ∷ []) five (7 ∷ []) (came (machine (at 3 1 Halted) five (0xC5B4 ∷ [])) 3)
    -- "4D to 50 [..] the same families in the same order with a two-byte x"
    ∷ runs (0x4D ∷ 0x02 ∷ 0x01 ∷ 0x00 ∷ []) (far 0x81 0x92) (7 ∷ []) (came (machine (at 3 1 Halted) (far 0x81 0x92) (0x81 ∷ [])) 2)
    ∷ runs (0x4E ∷ 0x02 ∷ 0x01 ∷ 0x00 ∷ []) (far 0x81 0x92) (7 ∷ []) (came (machine (at 3 1 Halted) (far 0x81 0x92) (0x9281 ∷ [])) 2)
    ∷ runs (0x81 ∷ 0x4F ∷ 0x02 ∷ 0x01 ∷ 0x00 ∷ []) (far 0x81 0x92) (7 ∷ []) (came (machine (at 4 1 Halted) (far 0x81 0x92) (0x92 ∷ [])) 3)
    ∷ runs (0x82 ∷ 0x50 ∷ 0x00 ∷ 0x01 ∷ 0x00 ∷ []) (far 0x81 0x92) (7 ∷ []) (came (machine (at 4 1 Halted) (far 0x81 0x92) (0x9281 ∷ [])) 3)
    ∷ []

-- the value stored is 0x1234: 0x34 is 52, 0x12 is 18
abbrev pub stored : List Example
stored =
    -- "21 to 24 st-u8, st-u16 (b to a), then the offs pair (c to a+b). A store pushes what it stored; a u8 store uses the value modulo 256"
    runs (0xC4 ∷ 0x34 ∷ 0x12 ∷ 0x82 ∷ 0x21 ∷ 0x00 ∷ []) (9 ∷ 9 ∷ 9 ∷ 9 ∷ 9 ∷ []) (7 ∷ 7 ∷ [])
    (came (machine (at 5 1 Halted) (9 ∷ 9 ∷ 0x34 ∷ 9 ∷ 9 ∷ []) (2 ∷ 0x34 ∷ [])) 4)
    ∷ runs (0xC4 ∷ 0x34 ∷ 0x12 ∷ 0x82 ∷ 0x22 ∷ 0x00 ∷ []) (9 ∷ 9 ∷ 9 ∷ 9 ∷ 9 ∷ []) (7 ∷ 7 ∷ [])
    (came (machine (at 5 1 Halted) (9 ∷ 9 ∷ 0x34 ∷ 0x12 ∷ 9 ∷ []) (2 ∷ 0x1234 ∷ [])) 4)
    ∷ runs (0xC4 ∷ 0x34 ∷ 0x12 ∷ 0x81 ∷ 0x82 ∷ 0x23 ∷ 0x00 ∷ []) (9 ∷ 9 ∷ 9 ∷ 9 ∷ 9 ∷ []) (7 ∷ 7 ∷ 7 ∷ [])
    (came (machine (at 6 1 Halted) (9 ∷ 9 ∷ 9 ∷ 0x34 ∷ 9 ∷ []) (2 ∷ 1 ∷ 0x34 ∷ [])) 5)
    ∷ runs (0xC4 ∷ 0x34 ∷ 0x12 ∷ 0x81 ∷ 0x82 ∷ 0x24 ∷ 0x00 ∷ []) (9 ∷ 9 ∷ 9 ∷ 9 ∷ 9 ∷ []) (7 ∷ 7 ∷ 7 ∷ [])
    (came (machine (at 6 1 Halted) (9 ∷ 9 ∷ 9 ∷ 0x34 ∷ 0x12 ∷ []) (2 ∷ 1 ∷ 0x1234 ∷ [])) 5)
    -- "37 to 3A stores of a at x (two), of b at a+x (two)"
    ∷ runs (0xC4 ∷ 0x34 ∷ 0x12 ∷ 0x37 ∷ 0x02 ∷ 0x00 ∷ []) (9 ∷ 9 ∷ 9 ∷ 9 ∷ 9 ∷ []) (7 ∷ []) (came (machine (at 5 1 Halted) (9 ∷ 9 ∷ 0x34 ∷ 9 ∷ 9 ∷ []) (0x34 ∷ [])) 3)
    ∷ runs (0xC4 ∷ 0x34 ∷ 0x12 ∷ 0x38 ∷ 0x02 ∷ 0x00 ∷ []) (9 ∷ 9 ∷ 9 ∷ 9 ∷ 9 ∷ []) (7 ∷ [])
    (came (machine (at 5 1 Halted) (9 ∷ 9 ∷ 0x34 ∷ 0x12 ∷ 9 ∷ []) (0x1234 ∷ [])) 3)
    ∷ runs (0xC4 ∷ 0x34 ∷ 0x12 ∷ 0x81 ∷ 0x39 ∷ 0x02 ∷ 0x00 ∷ []) (9 ∷ 9 ∷ 9 ∷ 9 ∷ 9 ∷ []) (7 ∷ 7 ∷ [])
    (came (machine (at 6 1 Halted) (9 ∷ 9 ∷ 9 ∷ 0x34 ∷ 9 ∷ []) (1 ∷ 0x34 ∷ [])) 4)
    ∷ runs (0xC4 ∷ 0x34 ∷ 0x12 ∷ 0x81 ∷ 0x3A ∷ 0x02 ∷ 0x00 ∷ []) (9 ∷ 9 ∷ 9 ∷ 9 ∷ 9 ∷ []) (7 ∷ 7 ∷ [])
    (came (machine (at 6 1 Halted) (9 ∷ 9 ∷ 9 ∷ 0x34 ∷ 0x12 ∷ []) (1 ∷ 0x1234 ∷ [])) 4)
    -- "51 to 54 [..] the same families in the same order with a two-byte x"
    ∷ runs (0xC4 ∷ 0x34 ∷ 0x12 ∷ 0x51 ∷ 0x02 ∷ 0x01 ∷ 0x00 ∷ []) (far 9 9) (7 ∷ []) (came (machine (at 6 1 Halted) (far 0x34 9) (0x34 ∷ [])) 3)
    ∷ runs (0xC4 ∷ 0x34 ∷ 0x12 ∷ 0x52 ∷ 0x02 ∷ 0x01 ∷ 0x00 ∷ []) (far 9 9) (7 ∷ []) (came (machine (at 6 1 Halted) (far 0x34 0x12) (0x1234 ∷ [])) 3)
    ∷ runs (0xC4 ∷ 0x34 ∷ 0x12 ∷ 0x81 ∷ 0x53 ∷ 0x02 ∷ 0x01 ∷ 0x00 ∷ []) (far 9 9) (7 ∷ 7 ∷ []) (came (machine (at 7 1 Halted) (far 9 0x34) (1 ∷ 0x34 ∷ [])) 4)
    ∷ runs (0xC4 ∷ 0x34 ∷ 0x12 ∷ 0x82 ∷ 0x54 ∷ 0x00 ∷ 0x01 ∷ 0x00 ∷ []) (far 9 9) (7 ∷ 7 ∷ []) (came (machine (at 7 1 Halted) (far 0x34 0x12) (2 ∷ 0x1234 ∷ [])) 4)
    ∷ []

abbrev pub copied : List Example
copied =
    -- "02 dcopy: c bytes from data b to data a .. push a+c", "all source bytes are read before any is written" (02, No. 2): apart, c 2, b 4, a 1; down
    -- by one, c 4, b 1, a 0; up by one, c 4, b 0, a 1; up and down by all but one, c 3, b 0, a 2 and b 2, a 0; onto itself, c 3, b 1, a 1
    runs (0xC2 ∷ 0x02 ∷ 0x04 ∷ 0x01 ∷ 0x02 ∷ 0x00 ∷ []) (1 ∷ 2 ∷ 3 ∷ 4 ∷ 5 ∷ 6 ∷ []) (7 ∷ 7 ∷ 7 ∷ [])
    (came (machine (at 5 1 Halted) (1 ∷ 5 ∷ 6 ∷ 4 ∷ 5 ∷ 6 ∷ []) (1 ∷ 4 ∷ 3 ∷ [])) 3)
    ∷ runs (0xC2 ∷ 0x04 ∷ 0x01 ∷ 0x00 ∷ 0x02 ∷ 0x00 ∷ []) (1 ∷ 2 ∷ 3 ∷ 4 ∷ 5 ∷ []) (7 ∷ 7 ∷ 7 ∷ [])
    (came (machine (at 5 1 Halted) (2 ∷ 3 ∷ 4 ∷ 5 ∷ 5 ∷ []) (0 ∷ 1 ∷ 4 ∷ [])) 3)
    ∷ runs (0xC2 ∷ 0x04 ∷ 0x00 ∷ 0x01 ∷ 0x02 ∷ 0x00 ∷ []) (1 ∷ 2 ∷ 3 ∷ 4 ∷ 5 ∷ []) (7 ∷ 7 ∷ 7 ∷ [])
    (came (machine (at 5 1 Halted) (1 ∷ 1 ∷ 2 ∷ 3 ∷ 4 ∷ []) (1 ∷ 0 ∷ 5 ∷ [])) 3)
    ∷ runs (0xC2 ∷ 0x03 ∷ 0x00 ∷ 0x02 ∷ 0x02 ∷ 0x00 ∷ []) (1 ∷ 2 ∷ 3 ∷ 4 ∷ 5 ∷ []) (7 ∷ 7 ∷ 7 ∷ [])
    (came (machine (at 5 1 Halted) (1 ∷ 2 ∷ 1 ∷ 2 ∷ 3 ∷ []) (2 ∷ 0 ∷ 5 ∷ [])) 3)
    ∷ runs (0xC2 ∷ 0x03 ∷ 0x02 ∷ 0x00 ∷ 0x02 ∷ 0x00 ∷ []) (1 ∷ 2 ∷ 3 ∷ 4 ∷ 5 ∷ []) (7 ∷ 7 ∷ 7 ∷ [])
    (came (machine (at 5 1 Halted) (3 ∷ 4 ∷ 5 ∷ 4 ∷ 5 ∷ []) (0 ∷ 2 ∷ 3 ∷ [])) 3)
    ∷ runs (0xC2 ∷ 0x03 ∷ 0x01 ∷ 0x01 ∷ 0x02 ∷ 0x00 ∷ []) (1 ∷ 2 ∷ 3 ∷ 4 ∷ 5 ∷ []) (7 ∷ 7 ∷ 7 ∷ [])
    (came (machine (at 5 1 Halted) (1 ∷ 2 ∷ 3 ∷ 4 ∷ 5 ∷ []) (1 ∷ 1 ∷ 4 ∷ [])) 3)
    -- "03 pcopy: the same from program b": c 2, b 1, a 3
    ∷ runs (0xC2 ∷ 0x02 ∷ 0x01 ∷ 0x03 ∷ 0x03 ∷ 0x00 ∷ []) (9 ∷ 9 ∷ 9 ∷ 9 ∷ 9 ∷ []) (7 ∷ 7 ∷ 7 ∷ [])
    (came (machine (at 5 1 Halted) (9 ∷ 9 ∷ 9 ∷ 2 ∷ 1 ∷ []) (3 ∷ 1 ∷ 5 ∷ [])) 3)
    -- "a copy needs this at both ends, also for c = 0": at the very end of both it is good, and pushes a + 0
    ∷ runs (0xC2 ∷ 0x00 ∷ 0x03 ∷ 0x03 ∷ 0x02 ∷ 0x00 ∷ []) (1 ∷ 2 ∷ 3 ∷ []) (7 ∷ 7 ∷ 7 ∷ [])
    (came (machine (at 5 1 Halted) (1 ∷ 2 ∷ 3 ∷ []) (3 ∷ 3 ∷ 3 ∷ [])) 3)
    ∷ runs (0xC2 ∷ 0x00 ∷ 0x06 ∷ 0x01 ∷ 0x03 ∷ 0x00 ∷ []) (9 ∷ []) (7 ∷ 7 ∷ 7 ∷ []) (came (machine (at 5 1 Halted) (9 ∷ []) (1 ∷ 6 ∷ 1 ∷ [])) 3)
    ∷ []
