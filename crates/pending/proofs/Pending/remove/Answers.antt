-- `Pending::remove` meets its contract: the top goes with the last of its word.
-- Assumes nothing.
use native.Mathlib.Omega.{arith}
use mathlib.Core.Path.{refl}
use Rattle.pending.proofs.Words.{topped-kept, topped-held}
use Rattle.pending.proofs.Pending.remove.Goals as goal

pub leave-requires-then-self-j-eq0 : goal.leave-requires-then-self-j-eq0
leave-requires-then-self-j-eq0 c = let h = c.args.self.now.topped.high in let l = c.requires.0 in (omega arith, topped-held c.args.self.now.topped c.args.a c.requires.1)

pub invariant_of-self-else-self-j-eq0 : goal.invariant_of-self-else-self-j-eq0
invariant_of-self-else-self-j-eq0 c = record { topped = topped-kept c.args.self.now.topped c.args.a _ refl c.requires.1 c.leave.ensures c.if-self-j-eq0.false }
