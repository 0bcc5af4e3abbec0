-- `machine::State::went` meets its contract; the loop's invariant and its measure.
-- Assumes nothing.
use Rattle.machine.specs.Machine.{machine}
use Rattle.machine.proofs.Loop.{Under}
use Rattle.machine.proofs.State.went.Given as goal

abbrev pub invariant-loop-left : goal.invariant-loop-left
invariant-loop-left l = Under l.program l.budget (machine l.initial.state l.initial.«data» l.initial.cells) (machine l.state l.«data» l.cells) l.left

abbrev pub decreases-loop-left : goal.decreases-loop-left
decreases-loop-left l = l.left
