-- `verdicts::put_refused_at` meets its contract.
-- Assumes nothing.
use native.Mathlib.Omega.{arith}
use lib.ListN.{length-append}
use Rattle.text.proofs.Puts.{puts-append, puts-place}
use Rattle.verdicts.specs.Line.{said_of}
use Rattle.verdicts.proofs.Lines.{length-refused, hex-low}
use Rattle.verdicts.proofs.put_refused_at.Goals as goal

pub put_text-requires : goal.put_text-requires
put_text-requires c = puts-place _ c.put_refused.ensures (omega (arith, c.requires, length-refused c.args.number))

pub put_hex-requires : goal.put_hex-requires
put_hex-requires c = (omega arith, puts-place _ (puts-append c.put_refused.ensures c.put_text.ensures) (simp length-append (omega (arith, c.requires, length-refused c.args.number))))

pub returns : goal.returns
unfolding said_of
returns c = puts-append c.put_refused.ensures (puts-append c.put_text.ensures (rw hex-low at c.put_hex.ensures))
