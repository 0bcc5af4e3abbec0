-- The faults of a step, 1 to 8, each where it alone applies and where it is the first of two: "A step checks 1, then 2 on the first byte, 3, 2 on the second
-- byte, 4, 5, 6, 7, 8".
use Rattle.std.specs.Prelude.{ℕ, List, [], ◌∷◌, ◌++◌, map, replicate}
use Rattle.basis.specs.Answer.{refused}
use Rattle.machine.specs.Machine.{machine}
use Rattle.machine.specs.Run.{came}
use Rattle.machine.specs.declared.Status.TheVariants.{Faulted}
use Rattle.guarantee.specs.Marked.{Example, decodes, runs, at}

-- "A fault alters only the status. It needs a budget of at least one and counts no step": the first instruction's fault
abbrev pub at_once : List ℕ → List ℕ → List ℕ → ℕ → Example
at_once program mem cells n = runs program mem cells (came (machine (at 0 0 (Faulted n)) mem cells) 0)

-- "1 address at or past the program's end"
abbrev pub past : List Example
past =
    at_once [] [] [] 1
    ∷ runs (0x85 ∷ []) [] (7 ∷ []) (came (machine (at 1 1 (Faulted 1)) [] (5 ∷ [])) 1)
    ∷ []

-- "2 illegal first byte, flags or shift byte", "5B to 7F are illegal", "Flags of absent values must be 0"; the first byte before 3, the shift byte after 3
-- and before 4
abbrev pub illegal : List Example
illegal =
    at_once (0x5B ∷ 0x00 ∷ []) [] [] 2
    ∷ at_once (0xC8 ∷ []) [] [] 2
    ∷ at_once (0x31 ∷ []) [] [] 3
    ∷ at_once (0x31 ∷ 0x10 ∷ []) [] [] 2
    ∷ at_once (0x32 ∷ 0x10 ∷ []) [] [] 2
    ∷ at_once (0x32 ∷ 0xFF ∷ []) [] [] 2
    ∷ runs (0x85 ∷ 0x32 ∷ 0x10 ∷ []) [] (7 ∷ []) (came (machine (at 1 1 (Faulted 2)) [] (5 ∷ [])) 1)
    ∷ []

-- every illegal first byte, with nothing behind it
abbrev pub unread : List Example
unread =
    map (λ b. decodes (b ∷ []) (refused 2))
    (0x5B ∷ 0x5C ∷ 0x5D ∷ 0x5E ∷ 0x5F ∷ 0x60 ∷ 0x61 ∷ 0x62 ∷ 0x63 ∷ 0x64 ∷ 0x65 ∷ 0x66 ∷ 0x67 ∷ 0x68 ∷ 0x69 ∷ 0x6A ∷ 0x6B ∷ 0x6C ∷ 0x6D ∷ 0x6E ∷ 0x6F
    ∷ 0x70 ∷ 0x71 ∷ 0x72 ∷ 0x73 ∷ 0x74 ∷ 0x75 ∷ 0x76 ∷ 0x77 ∷ 0x78 ∷ 0x79 ∷ 0x7A ∷ 0x7B ∷ 0x7C ∷ 0x7D ∷ 0x7E ∷ 0x7F
    ∷ 0xC8 ∷ 0xCC ∷ 0xD0 ∷ 0xD4 ∷ 0xD8 ∷ 0xDC ∷ 0xE0 ∷ 0xE4 ∷ 0xE8 ∷ 0xEC ∷ 0xF0 ∷ 0xF4 ∷ 0xF8 ∷ 0xFC
    ∷ 0xD1 ∷ 0xD5 ∷ 0xD9 ∷ 0xDD ∷ 0xE1 ∷ 0xE5 ∷ 0xE9 ∷ 0xED ∷ 0xF1 ∷ 0xF5 ∷ 0xF9 ∷ 0xFD
    ∷ 0xE2 ∷ 0xE6 ∷ 0xEA ∷ 0xEE ∷ 0xF2 ∷ 0xF6 ∷ 0xFA ∷ 0xFE ∷ [])

-- "3 operands cut by the program's end": every code with a one-byte x alone, every code with a two-byte x with one byte of it, values cut; before 4, 5 and 8
abbrev pub cut : List Example
cut =
    map (λ b. at_once (b ∷ []) [] [] 3)
    (0x25 ∷ 0x26 ∷ 0x27 ∷ 0x28 ∷ 0x29 ∷ 0x2A ∷ 0x2B ∷ 0x2C ∷ 0x2D ∷ 0x2E ∷ 0x2F ∷ 0x30 ∷ 0x31 ∷ 0x32 ∷ 0x33 ∷ 0x34 ∷ 0x35 ∷ 0x36 ∷ 0x37 ∷ 0x38 ∷ 0x39 ∷ 0x3A
    ∷ 0x3B ∷ 0x3C ∷ 0x3D ∷ 0x3E ∷ 0x3F ∷ 0x40 ∷ [])
    ++ (map (λ b. at_once (b ∷ 1 ∷ []) [] [] 3)
    (0x41 ∷ 0x42 ∷ 0x43 ∷ 0x44 ∷ 0x45 ∷ 0x46 ∷ 0x47 ∷ 0x48 ∷ 0x49 ∷ 0x4A ∷ 0x4B ∷ 0x4C ∷ 0x4D ∷ 0x4E ∷ 0x4F ∷ 0x50 ∷ 0x51 ∷ 0x52 ∷ 0x53 ∷ 0x54
    ∷ 0x55 ∷ 0x56 ∷ 0x57 ∷ 0x58 ∷ 0x59 ∷ 0x5A ∷ [])
    ++ (at_once (0xC0 ∷ []) [] [] 3
    ∷ at_once (0xC4 ∷ 1 ∷ []) [] [] 3
    ∷ at_once (0xC3 ∷ 1 ∷ 2 ∷ 3 ∷ []) [] [] 3
    ∷ at_once (0xFF ∷ 1 ∷ 0 ∷ 2 ∷ 0 ∷ 3 ∷ 0 ∷ 4 ∷ []) [] [] 3
    ∷ []))

-- so many zeros pushed, then a code with no data: fault 4 at that depth
abbrev pub fewer : ℕ → ℕ → Example
fewer depth code =
    runs (replicate depth 0x80 ++ (code ∷ 0x00 ∷ 0x00 ∷ [])) [] (0 ∷ 0 ∷ 0 ∷ []) (came (machine (at depth depth (Faulted 4)) [] (0 ∷ 0 ∷ 0 ∷ [])) depth)

-- "4 fewer values than are taken": every code that takes one, two and three values, with one fewer; before 6 and 8. In the last four there are fewer
-- cells than values pushed, so that a difference that stopped at 0 would give 5
abbrev pub few : List Example
few =
    map (fewer 0)
    (0x01 ∷ 0x05 ∷ 0x06 ∷ 0x09 ∷ 0x0A ∷ 0x19 ∷ 0x1A ∷ 0x1B ∷ 0x1C ∷ 0x1D ∷ 0x1E
    ∷ 0x25 ∷ 0x26 ∷ 0x27 ∷ 0x28 ∷ 0x29 ∷ 0x2A ∷ 0x2B ∷ 0x2C ∷ 0x2D ∷ 0x2E ∷ 0x2F ∷ 0x30 ∷ 0x31 ∷ 0x32 ∷ 0x35 ∷ 0x36 ∷ 0x37 ∷ 0x38 ∷ 0x3D ∷ 0x3E
    ∷ 0x41 ∷ 0x42 ∷ 0x43 ∷ 0x44 ∷ 0x45 ∷ 0x46 ∷ 0x47 ∷ 0x48 ∷ 0x49 ∷ 0x4A ∷ 0x4B ∷ 0x4C ∷ 0x4F ∷ 0x50 ∷ 0x51 ∷ 0x52 ∷ 0x57 ∷ 0x58 ∷ [])
    ++ (map (fewer 1)
    (0x04 ∷ 0x07 ∷ 0x08 ∷ 0x0B ∷ 0x0C ∷ 0x0D ∷ 0x0E ∷ 0x0F ∷ 0x10 ∷ 0x11 ∷ 0x12 ∷ 0x13 ∷ 0x14 ∷ 0x15 ∷ 0x16 ∷ 0x17 ∷ 0x18
    ∷ 0x1F ∷ 0x20 ∷ 0x21 ∷ 0x22 ∷ 0x39 ∷ 0x3A ∷ 0x53 ∷ 0x54 ∷ [])
    ++ (map (fewer 2) (0x02 ∷ 0x03 ∷ 0x23 ∷ 0x24 ∷ [])
    ++ (at_once (0x04 ∷ []) [] (7 ∷ []) 4
    ∷ at_once (0x05 ∷ []) [] [] 4
    ∷ at_once (0x1D ∷ []) [] [] 4
    ∷ at_once (0x19 ∷ []) [] [] 4
    ∷ [])))

-- "5 depth less taken plus pushed exceeds the cells": every code that pushes more than it takes; before 6; of several values none is written
abbrev pub full : List Example
full =
    at_once (0x80 ∷ []) [] [] 5
    ∷ at_once (0xBF ∷ []) [] [] 5
    ∷ at_once (0xC0 ∷ 1 ∷ []) [] [] 5
    ∷ at_once (0xC1 ∷ 1 ∷ 2 ∷ []) [] (7 ∷ []) 5
    ∷ at_once (0xC2 ∷ 1 ∷ 2 ∷ 3 ∷ []) [] (7 ∷ 7 ∷ []) 5
    ∷ at_once (0xC3 ∷ 1 ∷ 2 ∷ 3 ∷ 4 ∷ []) [] (7 ∷ 7 ∷ 7 ∷ []) 5
    ∷ at_once (0x33 ∷ 0x00 ∷ []) (9 ∷ 9 ∷ []) [] 5
    ∷ at_once (0x34 ∷ 0x00 ∷ []) (9 ∷ 9 ∷ []) [] 5
    ∷ at_once (0x3B ∷ 0x00 ∷ []) [] [] 5
    ∷ at_once (0x4D ∷ 0x00 ∷ 0x00 ∷ []) (9 ∷ 9 ∷ []) [] 5
    ∷ at_once (0x4E ∷ 0x00 ∷ 0x00 ∷ []) (9 ∷ 9 ∷ []) [] 5
    ∷ at_once (0x55 ∷ 0x00 ∷ 0x00 ∷ []) [] [] 5
    ∷ at_once (0x33 ∷ 0x00 ∷ []) [] [] 5
    ∷ at_once (0x4E ∷ 0x00 ∷ 0x00 ∷ []) [] [] 5
    ∷ []

-- the operands pushed by C4, C9 and the like in one step, then the fault
abbrev pub behind : List ℕ → List ℕ → List ℕ → ℕ → ℕ → ℕ → Example
behind program mem cells next depth n = runs program mem (replicate depth 7) (came (machine (at next depth (Faulted n)) mem cells) 1)

-- "6 data range": "Address sums are exact whole numbers. An access of w bytes at p is good exactly if p + w is at most the memory's length"; one byte past the
-- end, two bytes at the last, and sums of 65,536
abbrev pub outside : List Example
outside =
    behind (0x82 ∷ 0x1D ∷ []) (9 ∷ 9 ∷ []) (2 ∷ []) 1 1 6
    ∷ behind (0x81 ∷ 0x1E ∷ []) (9 ∷ 9 ∷ []) (1 ∷ []) 1 1 6
    ∷ behind (0xC1 ∷ 1 ∷ 1 ∷ 0x1F ∷ []) (9 ∷ 9 ∷ []) (1 ∷ 1 ∷ []) 3 2 6
    ∷ behind (0xC9 ∷ 1 ∷ 0xFF ∷ 0xFF ∷ 0x1F ∷ []) (9 ∷ 9 ∷ []) (65535 ∷ 1 ∷ []) 4 2 6
    ∷ behind (0xC1 ∷ 1 ∷ 0 ∷ 0x20 ∷ []) (9 ∷ 9 ∷ []) (0 ∷ 1 ∷ []) 3 2 6
    ∷ behind (0xC1 ∷ 5 ∷ 2 ∷ 0x21 ∷ []) (9 ∷ 9 ∷ []) (2 ∷ 5 ∷ []) 3 2 6
    ∷ behind (0xC1 ∷ 5 ∷ 1 ∷ 0x22 ∷ []) (9 ∷ 9 ∷ []) (1 ∷ 5 ∷ []) 3 2 6
    ∷ behind (0xC2 ∷ 5 ∷ 1 ∷ 1 ∷ 0x23 ∷ []) (9 ∷ 9 ∷ []) (1 ∷ 1 ∷ 5 ∷ []) 4 3 6
    ∷ behind (0xD2 ∷ 5 ∷ 1 ∷ 0xFF ∷ 0xFF ∷ 0x23 ∷ []) (9 ∷ 9 ∷ []) (65535 ∷ 1 ∷ 5 ∷ []) 5 3 6
    ∷ behind (0xC2 ∷ 5 ∷ 1 ∷ 0 ∷ 0x24 ∷ []) (9 ∷ 9 ∷ []) (0 ∷ 1 ∷ 5 ∷ []) 4 3 6
    ∷ at_once (0x33 ∷ 2 ∷ []) (9 ∷ 9 ∷ []) (7 ∷ []) 6
    ∷ at_once (0x34 ∷ 1 ∷ []) (9 ∷ 9 ∷ []) (7 ∷ []) 6
    ∷ behind (0x81 ∷ 0x35 ∷ 1 ∷ []) (9 ∷ 9 ∷ []) (1 ∷ []) 1 1 6
    ∷ behind (0xC4 ∷ 0xFF ∷ 0xFF ∷ 0x35 ∷ 1 ∷ []) (9 ∷ 9 ∷ []) (65535 ∷ []) 3 1 6
    ∷ behind (0x81 ∷ 0x36 ∷ 0 ∷ []) (9 ∷ 9 ∷ []) (1 ∷ []) 1 1 6
    ∷ behind (0x85 ∷ 0x37 ∷ 2 ∷ []) (9 ∷ 9 ∷ []) (5 ∷ []) 1 1 6
    ∷ behind (0x85 ∷ 0x38 ∷ 1 ∷ []) (9 ∷ 9 ∷ []) (5 ∷ []) 1 1 6
    ∷ behind (0xC1 ∷ 5 ∷ 1 ∷ 0x39 ∷ 1 ∷ []) (9 ∷ 9 ∷ []) (1 ∷ 5 ∷ []) 3 2 6
    ∷ behind (0xC1 ∷ 5 ∷ 1 ∷ 0x3A ∷ 0 ∷ []) (9 ∷ 9 ∷ []) (1 ∷ 5 ∷ []) 3 2 6
    ∷ at_once (0x4D ∷ 2 ∷ 0 ∷ []) (9 ∷ 9 ∷ []) (7 ∷ []) 6
    ∷ at_once (0x4E ∷ 1 ∷ 0 ∷ []) (9 ∷ 9 ∷ []) (7 ∷ []) 6
    ∷ behind (0x81 ∷ 0x4F ∷ 0xFF ∷ 0xFF ∷ []) (9 ∷ 9 ∷ []) (1 ∷ []) 1 1 6
    ∷ behind (0x81 ∷ 0x50 ∷ 0 ∷ 0 ∷ []) (9 ∷ 9 ∷ []) (1 ∷ []) 1 1 6
    ∷ behind (0x85 ∷ 0x51 ∷ 2 ∷ 0 ∷ []) (9 ∷ 9 ∷ []) (5 ∷ []) 1 1 6
    ∷ behind (0x85 ∷ 0x52 ∷ 1 ∷ 0 ∷ []) (9 ∷ 9 ∷ []) (5 ∷ []) 1 1 6
    ∷ behind (0xC1 ∷ 5 ∷ 1 ∷ 0x53 ∷ 0xFF ∷ 0xFF ∷ []) (9 ∷ 9 ∷ []) (1 ∷ 5 ∷ []) 3 2 6
    ∷ behind (0xC1 ∷ 5 ∷ 1 ∷ 0x54 ∷ 0 ∷ 0 ∷ []) (9 ∷ 9 ∷ []) (1 ∷ 5 ∷ []) 3 2 6
    ∷ []

-- "a copy needs this at both ends, also for c = 0": c, b and a in this order; 6 for data at either end, "7 program range in pcopy", 6 before 7
abbrev pub apart : List Example
apart =
    behind (0xC2 ∷ 2 ∷ 1 ∷ 0 ∷ 0x02 ∷ []) (9 ∷ 9 ∷ []) (0 ∷ 1 ∷ 2 ∷ []) 4 3 6
    ∷ behind (0xC2 ∷ 2 ∷ 0 ∷ 1 ∷ 0x02 ∷ []) (9 ∷ 9 ∷ []) (1 ∷ 0 ∷ 2 ∷ []) 4 3 6
    ∷ behind (0xC2 ∷ 0 ∷ 3 ∷ 0 ∷ 0x02 ∷ []) (9 ∷ 9 ∷ []) (0 ∷ 3 ∷ 0 ∷ []) 4 3 6
    ∷ behind (0xC2 ∷ 0 ∷ 0 ∷ 3 ∷ 0x02 ∷ []) (9 ∷ 9 ∷ []) (3 ∷ 0 ∷ 0 ∷ []) 4 3 6
    ∷ behind (0xC2 ∷ 2 ∷ 0 ∷ 1 ∷ 0x03 ∷ []) (9 ∷ 9 ∷ []) (1 ∷ 0 ∷ 2 ∷ []) 4 3 6
    ∷ behind (0xC2 ∷ 2 ∷ 4 ∷ 0 ∷ 0x03 ∷ []) (9 ∷ 9 ∷ []) (0 ∷ 4 ∷ 2 ∷ []) 4 3 7
    ∷ behind (0xC2 ∷ 0 ∷ 6 ∷ 0 ∷ 0x03 ∷ []) (9 ∷ 9 ∷ []) (0 ∷ 6 ∷ 0 ∷ []) 4 3 7
    ∷ behind (0xC2 ∷ 2 ∷ 4 ∷ 1 ∷ 0x03 ∷ []) (9 ∷ 9 ∷ []) (1 ∷ 4 ∷ 2 ∷ []) 4 3 6
    ∷ []
