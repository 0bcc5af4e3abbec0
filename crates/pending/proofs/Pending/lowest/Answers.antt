-- `Pending::lowest` meets its contract: the first top, then the first digit of its word.
-- Assumes nothing.
use Rattle.pending.proofs.Words.{none-held, topped-none}
use Rattle.pending.proofs.Pending.lowest.Goals as goal

pub returns-in_err-top : goal.returns-in_err-top
returns-in_err-top c = rw c.from_residual.ensures (topped-none c.args.self.now.topped (none-held c.args.self.now.tops c.in_err-top.ensures))
