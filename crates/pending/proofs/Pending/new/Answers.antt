-- `Pending::new` meets its contract: neither the words nor the tops hold anything.
-- Assumes nothing.
use Rattle.pending.proofs.Words.{empty-held, empty-topped}
use Rattle.pending.proofs.Pending.new.Goals as goal

pub invariant_of-result : goal.invariant_of-result
invariant_of-result c = record { topped = empty-topped }

pub returns : goal.returns
returns c = empty-held 256
