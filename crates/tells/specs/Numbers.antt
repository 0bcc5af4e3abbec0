-- The numbers that C gets, in rows worked by hand from include/khalixoshi.h.
use Rattle.std.specs.Prelude.{ℕ, ◌≡◌, List, [], ◌∷◌, drop, replicate}
use Rattle.std.proofs.Math.Option.{none, some}
use Rattle.basis.specs.Answer.{given, refused}
use Rattle.decoder.specs.Decode.{decode_of}
use Rattle.shapes.specs.Shapes.{shape_of}
use Rattle.machine.specs.Machine.{machine}
use Rattle.machine.specs.Run.{outcome_of}
use Rattle.verifier.specs.Verify.{verify_of}
use Rattle.answers.specs.declared.KhxState.{KhxState}
use Rattle.answers.specs.declared.KhxRan.{KhxRan}
use Rattle.answers.specs.declared.KhxInstruction.{KhxInstruction}
use Rattle.answers.specs.declared.KhxEntry.{KhxEntry}
use Rattle.answers.specs.declared.KhxAdmitted.{KhxAdmitted}
use Rattle.answers.specs.Runs.{state_of, ran_in}
use Rattle.answers.specs.Verdicts.{verified_in}
use Rattle.answers.specs.Instructions.{decoded_in, row_in}
use Rattle.answers.specs.Written.{written_in}
use Rattle.answers.specs.Packs.{checked_in, found_in, listed_in}
use Rattle.answers.specs.Admissions.{start_in, close_in, ask_in, chunk_in, lent}

-- khx_state: address, depth, status, fault
abbrev pub state : ℕ → ℕ → ℕ → ℕ → KhxState
state address depth status fault = record { address = address; depth = depth; status = status; fault = fault }

-- khx_ran: refusal, steps, state
abbrev pub ran : ℕ → ℕ → KhxState → KhxRan
ran refusal steps state = record { refusal = refusal; steps = steps; state = state }

-- khx_run over one cell, which holds 7, and no data: what comes back, and the cell
abbrev pub Runs : KhxState → List ℕ → ℕ → KhxRan → ℕ → Type 0
Runs s program budget answer cell = ran_in (outcome_of budget program (machine (state_of s) [] (7 ∷ []))) ≡ (answer, [], (cell ∷ []))

abbrev pub States : Type 0
States =
    -- "All 0 is the fresh state"; "KHX_RUNNING = 0, KHX_HALTED = 1, KHX_FAULTED = 2", "`fault` is the fault's number where the status is KHX_FAULTED"
    Runs (state 0 0 0 0) (0x85 ∷ 0x00 ∷ []) 1 (ran 0 1 (state 1 1 0 0)) 5
    × Runs (state 0 0 0 0) (0x85 ∷ 0x00 ∷ []) 9 (ran 0 2 (state 1 1 1 0)) 5
    × Runs (state 0 0 0 0) (0x85 ∷ 0x5B ∷ []) 9 (ran 0 1 (state 1 1 2 2)) 5
    × Runs (state 0 0 0 0) (0x33 ∷ 0x00 ∷ []) 9 (ran 0 0 (state 0 0 2 6)) 7
    -- "A stopped state comes back as khx_ran says, 0 steps"
    × Runs (state 1 1 1 0) (0x85 ∷ 0x00 ∷ []) 9 (ran 0 0 (state 1 1 1 0)) 7
    × Runs (state 1 1 2 8) (0x85 ∷ 0x00 ∷ []) 9 (ran 0 0 (state 1 1 2 8)) 7
    -- "Handed in, a status over 2 is taken as KHX_FAULTED, so it cannot run, and comes back so; the fault beside KHX_RUNNING or KHX_HALTED is not looked at and comes back 0"
    × Runs (state 0 0 3 5) (0x85 ∷ 0x00 ∷ []) 9 (ran 0 0 (state 0 0 2 5)) 7
    × Runs (state 0 0 1 5) (0x85 ∷ 0x00 ∷ []) 9 (ran 0 0 (state 0 0 1 0)) 7
    × Runs (state 0 0 0 5) (0x85 ∷ 0x00 ∷ []) 0 (ran 0 0 (state 0 0 0 0)) 7
    -- "refusal: 0, or the number of the first refusal that applies"; "After a refusal, and where the state had stopped, it is the one handed in, but that a status over 2 comes back as KHX_FAULTED"
    × Runs (state 4 2 0 0) (0x85 ∷ 0x00 ∷ []) 9 (ran 24 0 (state 4 2 0 0)) 7
    × Runs (state 4 2 3 5) (0x85 ∷ 0x00 ∷ []) 9 (ran 24 0 (state 4 2 2 5)) 7

-- "What the verifier says. `at` is the address of the instruction refused by 1 to 10, and 0 otherwise"
abbrev pub Verdicts : Type 0
Verdicts =
    (verified_in (verify_of (0x85 ∷ 0x00 ∷ []) 1 (7 ∷ 7 ∷ [])) ≡ (record { refusal = 0; at = 0 }, (0 ∷ 1 ∷ [])))
    × (verified_in (verify_of (0x85 ∷ 0x5B ∷ []) 1 (7 ∷ 7 ∷ [])) ≡ (record { refusal = 2; at = 1 }, (65535 ∷ 65535 ∷ [])))
    × (verified_in (verify_of (0x85 ∷ 0x5B ∷ []) 1025 (7 ∷ 7 ∷ [])) ≡ (record { refusal = 22; at = 0 }, (7 ∷ 7 ∷ [])))

-- khx_instruction, a code with its number
abbrev pub instruction : ℕ → ℕ → KhxInstruction
instruction code number = record { code = code; count = 0; flags = 0; number = number; v0 = 0; v1 = 0; v2 = 0; v3 = 0 }

-- khx_entry, present where `present` is 1
abbrev pub entry : ℕ → ℕ → ℕ → ℕ → ℕ → ℕ → KhxEntry
entry refusal present tag cells offset length = record { refusal = refusal; present = present; tag = tag; cells = cells; offset = offset; length = length }

-- "After a refusal the other fields are 0 but where it is said"
abbrev pub Answers : Type 0
Answers =
    (decoded_in (decode_of (0x25 ∷ 0x07 ∷ []) 0) ≡ record { refusal = 0; length = 2; instruction = instruction 0x25 7 })
    × (decoded_in (decode_of (0x25 ∷ []) 0) ≡ record { refusal = 3; length = 0; instruction = instruction 0 0 })
    × (row_in (shape_of 0x3B) ≡ record { refusal = 0; length = 2; taken = 0; pushed = 1 })
    × (row_in (shape_of 0x5B) ≡ record { refusal = 2; length = 0; taken = 0; pushed = 0 })
    × (written_in (given 9) ≡ record { refusal = 0; length = 9 })
    × (written_in (refused 25) ≡ record { refusal = 25; length = 0 })
    × (checked_in (given 64) ≡ record { refusal = 0; entries = 64 })
    × (checked_in (refused 31) ≡ record { refusal = 31; entries = 0 })
    × (found_in (given (record { tag = 7; cells = 2; offset = 10; length = 4 })) ≡ entry 0 1 7 2 10 4)
    × (found_in (refused 36) ≡ entry 36 0 0 0 0 0)
    -- "past the last `present` is 0 and `refusal` too"
    × (listed_in (given (some (record { tag = 7; cells = 2; offset = 10; length = 4 }))) ≡ entry 0 1 7 2 10 4)
    × (listed_in (given none) ≡ entry 0 0 0 0 0 0)
    × (listed_in (refused 34) ≡ entry 34 0 0 0 0 0)

-- khx_admitted: refusal, closed, verdicts, lost
abbrev pub admitted : ℕ → ℕ → ℕ → ℕ → KhxAdmitted
admitted refusal closed verdicts lost = record { refusal = refusal; closed = closed; verdicts = verdicts; lost = lost }

-- the numbers after khx_admit_start, and after khx_admit_close of no bytes, which are no contents
abbrev pub begun : List ℕ
begun = (start_in (replicate 9 7)).1

abbrev pub ended : List ℕ
ended = (close_in begun).1

abbrev pub Admissions : Type 0
Admissions =
    -- "Begins an admission: writes the eight numbers, and touches nothing else. Refusal: 90"
    ((start_in (replicate 9 7)).0 ≡ admitted 0 0 0 0)
    × (drop 8 begun ≡ 7 ∷ [])
    × (start_in (replicate 7 7) ≡ (admitted 90 0 0 0, replicate 7 7))
    -- "How an admission stands; nothing is written. Refusals: 90, 91, then after the close the first close's; before it none"
    × (ask_in begun ≡ admitted 0 0 0 0)
    × (ask_in ended ≡ admitted 30 1 0 30)
    × (ask_in (replicate 7 7) ≡ admitted 90 0 0 0)
    × (ask_in (replicate 8 0) ≡ admitted 91 0 0 0)
    -- "Refusals: 90, 91, 37, which change nothing: the first close's answer stays; then the pack's own"
    × ((close_in begun).0 ≡ admitted 30 1 0 30)
    × (close_in ended ≡ (admitted 37 1 0 30, ended))
    × (close_in (replicate 8 0) ≡ (admitted 91 0 0 0, replicate 8 0))
    -- "by 90 and 91 all else is 0": 90 comes first
    × (chunk_in (0 ∷ []) ended [] [] [] [] ≡ lent (admitted 90 0 0 0) ended [] [] [] [])

abbrev pub Numbers : Type 0
Numbers = States × Verdicts × Answers × Admissions
