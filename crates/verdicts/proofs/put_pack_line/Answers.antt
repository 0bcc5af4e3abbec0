-- `verdicts::put_pack_line` meets its contract.
-- Assumes nothing.
use native.Mathlib.Omega.{arith}
use lib.ListN.{length-append}
use Rattle.text.proofs.Puts.{puts-append, puts-place}
use Rattle.verdicts.specs.Line.{pack_line_of}
use Rattle.verdicts.proofs.Lines.{length-refused}
use Rattle.verdicts.proofs.put_pack_line.Goals as goal

pub put-requires : goal.put-requires
put-requires c = puts-place _ (puts-append c.put_text.ensures c.put_refused.ensures) (simp length-append (omega (arith, c.requires, length-refused c.args.number)))

pub returns : goal.returns
unfolding pack_line_of
returns c = puts-append c.put_text.ensures (puts-append c.put_refused.ensures c.put.ensures)
