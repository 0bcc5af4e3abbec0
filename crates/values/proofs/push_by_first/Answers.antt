-- `values::push_by_first` meets its contract: each arm is the push of its byte, and a byte without one has a flag of an absent value.
-- Assumes nothing.
use native.Mathlib.Omega.{arith}
use mathlib.Core.Path.{sym}
use Rattle.values.proofs.Arms.{unarmed}
use Rattle.values.proofs.push_by_first.Goals as goal

pub returns-in_default : goal.returns-in_default
returns-in_default c = λ m. sym (unarmed c.requires.0 c.requires.1 (omega arith) c.in_default.in_default-own.rest c.args.depth m c.args.cells.now)
