-- `verdicts::put_said` meets its contract: what is said is short.
-- Assumes nothing.
use native.Mathlib.Omega.{arith}
use Rattle.text.proofs.Puts.{puts-place}
use Rattle.verifier.specs.Verify.{names}
use Rattle.verdicts.proofs.Lines.{length-refused, length-said}
use Rattle.verdicts.proofs.put_said.Goals as goal

pub returns-in-Err-Before-clause-place : goal.returns-in-Err-Before-clause-place
returns-in-Err-Before-clause-place g c n h = puts-place n c.put_refused.ensures (omega (arith, h, length-refused c.into.result))

pub returns-in-Err-At-clause-place : goal.returns-in-Err-At-clause-place
returns-in-Err-At-clause-place g c n h = puts-place n c.put_refused_at.ensures (omega (arith, h, length-said (names c.into-in-Err-At.result c.in-Err-At.address)))
