-- `machine::State::went` meets its contract: each turn of the loop, and each end of it, is a law of proofs/Loop.antt.
-- Assumes nothing.
use native.Mathlib.Omega.{arith}
use Rattle.machine.specs.Machine.{machine}
use Rattle.machine.proofs.Loop.{turned, ended, failed, used, rested}
use Rattle.machine.proofs.State.went.Goals as goal

pub returns-in_default : goal.returns-in_default
returns-in_default c = rested c.args.program.now c.args.budget (machine c.args.self c.args.«data».now c.args.cells.now) c.in_default.not-Running

pub loop-left-preserved : goal.loop-left-preserved
loop-left-preserved c = turned c.loop-left.invariant c.loop-left-test.true c.stepped-state.ensures c.in-Running-status.is

pub returns-in-Halted : goal.returns-in-Halted
returns-in-Halted c = ended c.loop-left.invariant c.loop-left-test.true c.stepped-state.ensures c.in-Halted.is

pub returns-in-Faulted : goal.returns-in-Faulted
returns-in-Faulted c = failed c.loop-left.invariant c.loop-left-test.true c.stepped-state.ensures _ c.in-Faulted.is

pub returns : goal.returns
returns c = used c.loop-left.invariant c.loop-left-test.false
