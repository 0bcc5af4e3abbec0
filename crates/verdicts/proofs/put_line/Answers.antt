-- `verdicts::put_line` meets its contract.
-- Assumes nothing.
use Rattle.text.proofs.Puts.{puts-append, puts-place}
use Rattle.verdicts.specs.Line.{line_of}
use Rattle.verdicts.proofs.put_line.Goals as goal

pub put-requires : goal.put-requires
put-requires g c = c.put_said.ensures.place 1 (puts-place 20 c.put_hex.ensures c.requires)

pub returns : goal.returns
unfolding line_of
returns g c = λ number h. puts-append c.put_hex.ensures (puts-append (c.put_said.ensures.said number h) c.put.ensures)
