-- `lines::line_length` meets its contract.
-- Assumes nothing.
use native.Mathlib.Omega.{arith}
use Rattle.basis.specs.Refusal.{answer_by}
use Rattle.lines.proofs.Written.{length-line}
use Rattle.lines.proofs.line_length.Goals as goal

pub overflow_add-result : goal.overflow_add-result
overflow_add-result g c = omega (arith, c.said_length.ensures (λ _. 0))

pub returns : goal.returns
returns g c number = let s = c.said_length.ensures number in (omega (arith, length-line 0 (answer_by number c.args.answer.now) 0), omega arith)
