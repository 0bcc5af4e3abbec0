-- Budgets, states handed in again, and what is refused before a step.
use Rattle.std.specs.Prelude.{ℕ, ◌≡◌, [], ◌∷◌, replicate}
use Rattle.basis.specs.Answer as answer
use Rattle.decoder.specs.Decode.{decode_of}
use Rattle.machine.specs.Machine.{Machine, machine, fresh}
use Rattle.machine.specs.Run.{came, refused, outcome_of}
use Rattle.verifier.specs.Verify.{good, names, nameless, verify_of}
use Rattle.machine.specs.declared.Status.TheVariants.{Running, Halted, Faulted}
use Rattle.guarantee.specs.Marked.{at}

-- so large a stack
abbrev pub stack : ℕ → Machine
stack n = machine fresh [] (replicate n 7)

abbrev pub Resumed : Type 0
Resumed =
    -- "A run ends when its budget is used (status running: paused), halted or faulted": 85 83 15 00 of M1 in two parts
    (outcome_of 2 (0x85 ∷ 0x83 ∷ 0x15 ∷ 0x00 ∷ []) (stack 2) ≡ came (machine (at 2 2 Running) [] (3 ∷ 5 ∷ [])) 2)
    × (outcome_of 2 (0x85 ∷ 0x83 ∷ 0x15 ∷ 0x00 ∷ []) (machine (at 2 2 Running) [] (3 ∷ 5 ∷ [])) ≡ came (machine (at 3 1 Halted) [] (3 ∷ 65534 ∷ [])) 2)
    -- "It needs a budget of at least one and counts no step"
    × (outcome_of 0 (0x5B ∷ []) (stack 1) ≡ came (stack 1) 0)
    × (outcome_of 1 (0x5B ∷ []) (stack 1) ≡ came (machine (at 0 0 (Faulted 2)) [] (7 ∷ [])) 0)
    × (outcome_of 1 (0x85 ∷ 0x5B ∷ []) (stack 1) ≡ came (machine (at 1 1 Running) [] (5 ∷ [])) 1)
    × (outcome_of 1 (0x00 ∷ []) (stack 1) ≡ came (machine (at 0 0 Halted) [] (7 ∷ [])) 1)
    -- "A stopped state comes back as it was, 0 steps"
    × (outcome_of 9 (0x85 ∷ 0x00 ∷ []) (machine (at 0 1 Halted) (4 ∷ []) (7 ∷ [])) ≡ came (machine (at 0 1 Halted) (4 ∷ []) (7 ∷ [])) 0)
    × (outcome_of 9 (0x85 ∷ 0x00 ∷ []) (machine (at 0 0 (Faulted 6)) (4 ∷ []) (7 ∷ [])) ≡ came (machine (at 0 0 (Faulted 6)) (4 ∷ []) (7 ∷ [])) 0)
    -- "address at or past the program's end", however far
    × (outcome_of 1 (0x00 ∷ []) (machine (at 1 0 Running) [] []) ≡ came (machine (at 1 0 (Faulted 1)) [] []) 0)
    × (outcome_of 1 (0x00 ∷ []) (machine (at 65536 0 Running) [] []) ≡ came (machine (at 65536 0 (Faulted 1)) [] []) 0)

-- "Run, and a single step where it is public, checks 20, 21, 22, 24; a refusal returns the same state, 0 steps, and touches no memory"
abbrev pub Refused : Type 0
Refused =
    -- "20, 21, 22: program, data, cells over size": 22; 1,024 are allowed
    (outcome_of 1 (0x00 ∷ []) (stack 1024) ≡ came (machine (at 0 0 Halted) [] (replicate 1024 7)) 1)
    × (outcome_of 1 (0x00 ∷ []) (stack 1025) ≡ refused 22 (stack 1025))
    -- "24 state deeper than the stack", whatever the status and the budget; after 22
    × (outcome_of 1 (0x00 ∷ []) (machine (at 0 1 Running) [] (7 ∷ [])) ≡ came (machine (at 0 1 Halted) [] (7 ∷ [])) 1)
    × (outcome_of 1 (0x00 ∷ []) (machine (at 0 2 Running) [] (7 ∷ [])) ≡ refused 24 (machine (at 0 2 Running) [] (7 ∷ [])))
    × (outcome_of 0 (0x00 ∷ []) (machine (at 0 2 Halted) [] (7 ∷ [])) ≡ refused 24 (machine (at 0 2 Halted) [] (7 ∷ [])))
    × (outcome_of 1 (0x00 ∷ []) (machine (at 0 2000 Running) [] (replicate 1025 7)) ≡ refused 22 (machine (at 0 2000 Running) [] (replicate 1025 7)))
    -- "20, 21, 22: program, data, cells over size": 20 first; 16,384 bytes of program and 65,535 of data are allowed
    × (outcome_of 1 (replicate 16384 0x00) (stack 0) ≡ came (machine (at 0 0 Halted) [] []) 1)
    × (outcome_of 1 (replicate 16385 0x00) (stack 0) ≡ refused 20 (stack 0))
    × (outcome_of 1 (replicate 16385 0x00) (stack 1025) ≡ refused 20 (stack 1025))
    × (outcome_of 1 (0x00 ∷ []) (machine fresh (replicate 65535 9) []) ≡ came (machine (at 0 0 Halted) (replicate 65535 9) []) 1)
    × (outcome_of 1 (0x00 ∷ []) (machine fresh (replicate 65536 9) []) ≡ refused 21 (machine fresh (replicate 65536 9) []))
    × (outcome_of 1 (0x00 ∷ []) (machine fresh (replicate 65536 9) (replicate 1025 7)) ≡ refused 21 (machine fresh (replicate 65536 9) (replicate 1025 7)))
    × (outcome_of 1 (replicate 16385 0x00) (machine fresh (replicate 65536 9) []) ≡ refused 20 (machine fresh (replicate 65536 9) []))
    × (decode_of (replicate 16385 0x00) 20000 ≡ answer.refused 20)
    × (decode_of (0x15 ∷ 0x00 ∷ []) 2 ≡ answer.refused 1)
    -- "The checks are 20, 22, 23, then the walk", "By 20 to 23: untouched"; "23 depth map not as long as the program", shorter or longer
    × (verify_of (0x5B ∷ []) 1 [] ≡ (nameless 23, []))
    × (verify_of (0x5B ∷ []) 1 (5 ∷ 6 ∷ []) ≡ (nameless 23, (5 ∷ 6 ∷ [])))
    × (verify_of (0x5B ∷ []) 1025 (5 ∷ 6 ∷ []) ≡ (nameless 22, (5 ∷ 6 ∷ [])))
    × (verify_of (replicate 16385 0x00) 1025 (5 ∷ 6 ∷ []) ≡ (nameless 20, (5 ∷ 6 ∷ [])))
    -- "Accepted: a cell holds the depth of its address if a path meets it, else 65,535. Refused by 1 to 10: every cell 65,535", whatever it held before
    × (verify_of (0x00 ∷ 0x00 ∷ []) 1 (5 ∷ 6 ∷ []) ≡ (good, (0 ∷ 65535 ∷ [])))
    × (verify_of (0x5B ∷ 0x00 ∷ []) 1 (5 ∷ 6 ∷ []) ≡ (names 2 0, (65535 ∷ 65535 ∷ [])))
