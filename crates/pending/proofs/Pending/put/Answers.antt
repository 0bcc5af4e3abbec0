-- `Pending::put` meets its contract: the word and its top are joined.
-- Assumes nothing.
use Rattle.pending.proofs.Words.{topped-put}
use Rattle.pending.proofs.Pending.put.Goals as goal

pub invariant_of-self : goal.invariant_of-self
invariant_of-self c = record { topped = topped-put c.args.self.now.topped c.args.a c.join.ensures c.join-2.ensures }
