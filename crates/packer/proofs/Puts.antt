-- Laws of the stores of entries and bodies, as `layout` has them.
-- Assumes nothing.
pub use Rattle.layout.proofs.Puts.{length-entry, length-entries, length-pack, put_four, entries_next, put_three}
