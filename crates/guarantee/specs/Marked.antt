-- The marked examples of 01, M1 to M12, one table; M12 as request No. 2 has it.
use Rattle.std.specs.Prelude.{ℕ, suc, ◌≤◌, ◌≡◌, List, [], ◌∷◌, length, replicate}
use Rattle.basis.specs.Answer.{Answer, refused}
use Rattle.decoder.specs.Decode.{Reading, decode_of}
use Rattle.machine.specs.Machine.{machine, fresh}
use Rattle.machine.specs.Run.{Outcome, came, outcome_of}
use Rattle.verifier.specs.Verify.{good, names, Verified, verify_of}
use Rattle.machine.specs.declared.State.{State}
use Rattle.machine.specs.declared.Status.{Status}
use Rattle.machine.specs.declared.Status.TheVariants.{Halted, Faulted}

-- an example: a program and what the decoder answers at its address 0; a program, data and cells, and what a run of a thousand
-- steps from a fresh state hands back; or a program and a number of cells, and what the verifier answers and leaves in a map of zeros
pub data Example : Type 0 where
  decodes : List ℕ → Answer Reading → Example
  runs : List ℕ → List ℕ → List ℕ → Outcome → Example
  verifies : List ℕ → ℕ → Verified → Example

abbrev pub at : ℕ → ℕ → Status → State
at address depth status = record { address = address; depth = depth; status = status }

-- "every cell 65,535"
abbrev pub none : ℕ → List ℕ
none n = replicate n 65535

abbrev pub marked : List Example
marked =
    -- "M1 85 83 15 00, 2 cells: 4 steps, halted at 3, depth 1, cells 3, 65,534"
    runs (0x85 ∷ 0x83 ∷ 0x15 ∷ 0x00 ∷ []) [] (0 ∷ 0 ∷ []) (came (machine (at 3 1 Halted) [] (3 ∷ 65534 ∷ [])) 4)
    -- "M2 verified at 2: map 0 1 2 1. M3 at 1 cell: 5 at 1"
    ∷ verifies (0x85 ∷ 0x83 ∷ 0x15 ∷ 0x00 ∷ []) 2 (good, (0 ∷ 1 ∷ 2 ∷ 1 ∷ []))
    ∷ verifies (0x85 ∷ 0x83 ∷ 0x15 ∷ 0x00 ∷ []) 1 (names 5 1, none 4)
    -- "M4 83 37 00 3D 06 00 33 00 1A 3C 01, one data byte, one cell: 19 steps, halted at 5, data 0"
    ∷ runs (0x83 ∷ 0x37 ∷ 0x00 ∷ 0x3D ∷ 0x06 ∷ 0x00 ∷ 0x33 ∷ 0x00 ∷ 0x1A ∷ 0x3C ∷ 0x01 ∷ []) (9 ∷ []) (0 ∷ []) (came (machine (at 5 0 Halted) (0 ∷ []) (0 ∷ [])) 19)
    -- "M5 its map at 1, with - for 65,535: 0 1 - 1 - 0 0 - 1 1 -"
    ∷ verifies (0x83 ∷ 0x37 ∷ 0x00 ∷ 0x3D ∷ 0x06 ∷ 0x00 ∷ 0x33 ∷ 0x00 ∷ 0x1A ∷ 0x3C ∷ 0x01 ∷ []) 1
    (good, (0 ∷ 1 ∷ 65535 ∷ 1 ∷ 65535 ∷ 0 ∷ 0 ∷ 65535 ∷ 1 ∷ 1 ∷ 65535 ∷ []))
    -- "M6 81 3D 00 at 1: refusal 1 at 1. M7 81 3C 00 at 1: 10 at 1. M8 empty: 1 at 0"
    ∷ verifies (0x81 ∷ 0x3D ∷ 0x00 ∷ []) 1 (names 1 1, none 3)
    ∷ verifies (0x81 ∷ 0x3C ∷ 0x00 ∷ []) 1 (names 10 1, none 3)
    ∷ verifies [] 1 (names 1 0, [])
    -- "M9 C9 01 FF FF 20, 2 cells, any data: fault 6 at 4, depth 2, 1 step"; any data below
    ∷ runs (0xC9 ∷ 0x01 ∷ 0xFF ∷ 0xFF ∷ 0x20 ∷ []) (7 ∷ 8 ∷ []) (0 ∷ 0 ∷ []) (came (machine (at 4 2 (Faulted 6)) (7 ∷ 8 ∷ []) (65535 ∷ 1 ∷ [])) 1)
    -- "M10 C8 05: 2. M11 31 10: 2; 31 alone: 3"
    ∷ decodes (0xC8 ∷ 0x05 ∷ []) (refused 2)
    ∷ decodes (0x31 ∷ 0x10 ∷ []) (refused 2)
    ∷ decodes (0x31 ∷ []) (refused 3)
    -- "M12 data 1 2 3 4, dcopy a 1, b 0, c 3: .. pushes 4", "M12 becomes data 1 1 2 3": c, b and a are pushed, then 02 and 00
    ∷ runs (0x83 ∷ 0x80 ∷ 0x81 ∷ 0x02 ∷ 0x00 ∷ []) (1 ∷ 2 ∷ 3 ∷ 4 ∷ []) (0 ∷ 0 ∷ 0 ∷ []) (came (machine (at 4 1 Halted) (1 ∷ 1 ∷ 2 ∷ 3 ∷ []) (1 ∷ 0 ∷ 4 ∷ [])) 5)
    ∷ []

-- an example holds
abbrev pub Holds : Example → Type 0
Holds (decodes program answer) = decode_of program 0 ≡ answer
Holds (runs program mem cells outcome) = outcome_of 1000 program (machine fresh mem cells) ≡ outcome
Holds (verifies program cells verified) = verify_of program cells (replicate (length program) 0) ≡ verified

-- all of them hold
abbrev pub AllHold : List Example → Type 0
AllHold [] = Unit {0}
AllHold (e ∷ es) = Holds e × AllHold es

-- M9 for any data of an allowed size, whatever the cells hold, at any budget of two or more
unfoldable pub AnyData : Type 0
AnyData =
    (mem : List ℕ) (c₀ c₁ more : ℕ) → length mem ≤ 65535
    → outcome_of (suc (suc more)) (0xC9 ∷ 0x01 ∷ 0xFF ∷ 0xFF ∷ 0x20 ∷ []) (machine fresh mem (c₀ ∷ c₁ ∷ [])) ≡ came (machine (at 4 2 (Faulted 6)) mem (65535 ∷ 1 ∷ [])) 1
