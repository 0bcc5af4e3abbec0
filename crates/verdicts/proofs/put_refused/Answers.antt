-- `verdicts::put_refused` meets its contract.
-- Assumes nothing.
use Rattle.text.proofs.Puts.{puts-append, puts-place}
use Rattle.verdicts.specs.Line.{refused_of}
use Rattle.verdicts.proofs.put_refused.Goals as goal

pub put_decimal-requires : goal.put_decimal-requires
put_decimal-requires c = puts-place _ c.put_text.ensures c.requires

pub returns : goal.returns
unfolding refused_of
returns c = puts-append c.put_text.ensures c.put_decimal.ensures
