-- The run: its step, iterated within a budget, and what the public run answers.
use Rattle.std.specs.Prelude.{ℕ, zero, suc, ◌+◌, Bool, true, false, List, length, ltb, Result, Ok, Err}
use Rattle.basis.specs.Pick.{pick}
use Rattle.basis.specs.Refusal.{number_of}
use Rattle.machine.specs.Machine.{Machine, machine, step_of}
use Rattle.machine.specs.declared.Status.{Status}
use Rattle.machine.specs.declared.Status.TheVariants.{Running, Halted, Faulted}
use Rattle.machine.specs.declared.Ran.{Ran}
use Rattle.machine.specs.declared.Unrun.{Unrun}

-- the machine afterwards and the steps taken; or a refusal's number, and the machine as it was
pub data Outcome : Type 0 where
  came : Machine → ℕ → Outcome
  refused : ℕ → Machine → Outcome

abbrev pub is_running : Status → Bool
is_running Running = true
is_running Halted = false
is_running (Faulted n) = false

abbrev pub is_faulted : Status → Bool
is_faulted Running = false
is_faulted Halted = false
is_faulted (Faulted n) = true

-- at most n steps more, k being counted: "A run ends when its budget is used .., halted or faulted"; a fault "needs a
-- budget of at least one and counts no step", a halt counts one; "A stopped state comes back as it was"
unfoldable pub run_of : ℕ → List ℕ → Machine → ℕ → Outcome
run_of zero program m k = came m k
run_of (suc n) program m k =
    pick (is_running m.state.status)
    (pick (is_faulted (step_of program m).state.status) (came (step_of program m) k) (run_of n program (step_of program m) (k + 1)))
    (came m k)

-- the public run: "checks 20, 21, 22, 24; a refusal returns the same state, 0 steps, and touches no memory"
unfoldable pub outcome_of : ℕ → List ℕ → Machine → Outcome
outcome_of budget program m =
    pick (ltb 16384 (length program)) (refused 20 m)
    (pick (ltb 65535 (length m.mem)) (refused 21 m)
    (pick (ltb 1024 (length m.cells)) (refused 22 m)
    (pick (ltb (length m.cells) m.state.depth) (refused 24 m)
    (run_of budget program m 0))))

-- the code's answer, with the data and the cells as they are then, as 01 gives it
abbrev pub ran_outcome : Result Ran Unrun → List ℕ → List ℕ → Outcome
ran_outcome (Ok r) mem cells = came (machine r.state mem cells) r.steps
ran_outcome (Err u) mem cells = refused (number_of u.refusal) (machine u.state mem cells)
