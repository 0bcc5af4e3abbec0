-- `lines::put_said` meets its contract.
-- Assumes nothing.
use Rattle.text.proofs.Puts.{puts-append}
use Rattle.lines.specs.Line.{said_of}
use Rattle.lines.proofs.put_said.Goals as goal

pub returns-in-Ok : goal.returns-in-Ok
unfolding said_of
returns-in-Ok g c number = rw c.in-Ok.is (puts-append c.put.ensures c.put_operands.ensures)
