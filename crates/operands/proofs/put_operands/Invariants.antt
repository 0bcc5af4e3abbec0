-- `operands::put_operands` meets its contract.
-- Assumes nothing.
use lib.ListN.{take}
use Rattle.text.specs.Pen.{Puts}
use Rattle.operands.proofs.Shown.{all_of}
use Rattle.operands.proofs.put_operands.Given as goal

abbrev pub invariant-loop-width : goal.invariant-loop-width
invariant-loop-width l = Puts (all_of (take l.width-index l.width-items)) l.initial.pen l.pen
