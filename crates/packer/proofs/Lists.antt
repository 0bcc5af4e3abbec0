-- Laws of the entries made from lists, as `layout` has them.
-- Assumes nothing.
pub use Rattle.layout.proofs.Lists.{Alike, alike-shown, alike-back, length-laid, end-sum, refusal-laid, laid_next, sum-next, lists-refused, lists-next}
