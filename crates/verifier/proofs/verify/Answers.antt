-- `verifier::verify` meets its contract: the checks in their order, then the walk.
-- Assumes nothing.
use native.Mathlib.Omega.{arith}
use borrow.Author.Rules.{rules}
use Rattle.verifier.proofs.Verdicts.{empty-program}
use Rattle.verifier.proofs.verify.Goals as goal

pub returns-then-is_empty : goal.returns-then-is_empty
returns-then-is_empty c = empty-program _ _ _ (omega arith) (omega arith) c.if-map-program.false (search rules) _ (c.fill.ensures.after (λ y e. e))
