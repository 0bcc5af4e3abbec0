-- The machine and its step.
use Rattle.std.specs.Prelude.{ℕ, List}
use Rattle.basis.specs.Answer.{Answer, given, refused}
use Rattle.effects.specs.Act.{Done, act_of}
use Rattle.effects.specs.declared.Move.{Move}
use Rattle.effects.specs.declared.Move.TheVariants.{To, Halt}
use Rattle.machine.specs.declared.State.{State}
use Rattle.machine.specs.declared.Status.TheVariants.{Running, Halted, Faulted}

-- the state, the data and the stack cells
pub record Machine : Type 0 where
  pub state : State
  pub mem : List ℕ
  pub cells : List ℕ

abbrev pub machine : State → List ℕ → List ℕ → Machine
machine s d c = record { state = s; mem = d; cells = c }

-- "A fresh state is address 0, depth 0, running"
abbrev pub fresh : State
fresh = record { address = 0; depth = 0; status = Running }

-- the state after a move: on at an address, halted where it stands, or, altered only in its status, faulted
abbrev pub state_after : State → Answer Move → State
state_after s (given (To address depth)) = record { address = address; depth = depth; status = Running }
state_after s (given (Halt depth)) = record { address = s.address; depth = depth; status = Halted }
state_after s (refused n) = record { address = s.address; depth = s.depth; status = Faulted n }

abbrev pub landed : State → Done → Machine
landed s d = machine (state_after s d.move) d.mem d.cells

-- one step of a running machine
unfoldable pub step_of : List ℕ → Machine → Machine
step_of program m = landed m.state (act_of program m.state.address m.state.depth m.mem m.cells)
