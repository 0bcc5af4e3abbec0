-- `verdicts::put_decimal` meets its contract.
-- Assumes nothing.
use Rattle.verdicts.proofs.put_decimal.Goals.{then-number-ge10, else-number-ge10}
use Rattle.verdicts.proofs.Lines.{put_low, put-high}
use Rattle.verdicts.proofs.put_decimal.Goals as goal

pub returns : goal.returns
returns c = elim c.if-number-ge10.branch [
  | then-number-ge10 w ↦ put-high _ w.if-number-ge10.true w.put.ensures (rw w.pen-is at c.put-2.ensures)
  | else-number-ge10 w ↦ put_low _ w.if-number-ge10.false (rw w.pen-is at c.put-2.ensures)
]
