-- States and what a run came to, as numbers.
use Rattle.std.specs.Prelude.{ℕ, List, eqb}
use Rattle.basis.specs.Pick.{pick}
use Rattle.machine.specs.Machine.{Machine}
use Rattle.machine.specs.Run.{Outcome, came, refused}
use Rattle.machine.specs.declared.State.{State}
use Rattle.machine.specs.declared.Status.{Status}
use Rattle.machine.specs.declared.Status.TheVariants.{Running, Halted, Faulted}
use Rattle.answers.specs.declared.KhxState.{KhxState}
use Rattle.answers.specs.declared.KhxRan.{KhxRan}

-- 0 is running, 1 halted; 2, and any number that is no status, is faulted by the fault's number, so that it cannot run
unfoldable pub status_of : ℕ → ℕ → Status
status_of status fault = pick (eqb status 0) Running (pick (eqb status 1) Halted (Faulted fault))

-- the state that a host hands in
abbrev pub state_of : KhxState → State
state_of s = record { address = s.address; depth = s.depth; status = status_of s.status s.fault }

-- and what is handed back for a state with this status
abbrev pub state_with : ℕ → ℕ → Status → KhxState
state_with address depth Running = record { address = address; depth = depth; status = 0; fault = 0 }
state_with address depth Halted = record { address = address; depth = depth; status = 1; fault = 0 }
state_with address depth (Faulted n) = record { address = address; depth = depth; status = 2; fault = n }

abbrev pub state_in : State → KhxState
state_in s = state_with s.address s.depth s.status

-- a refusal's number, 0 for none, the steps and the state; then the data and the cells
abbrev pub ran_with : ℕ → ℕ → Machine → KhxRan × List ℕ × List ℕ
ran_with refusal steps m = (record { refusal = refusal; steps = steps; state = state_in m.state }, m.mem, m.cells)

-- what a run came to, with the data and the cells; a refusal has taken no step
abbrev pub ran_in : Outcome → KhxRan × List ℕ × List ℕ
ran_in (came m k) = ran_with 0 k m
ran_in (refused n m) = ran_with n 0 m
