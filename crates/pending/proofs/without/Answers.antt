-- `pending::without` meets its contract: the digit taken away and the others.
-- Assumes nothing.
use Rattle.pending.proofs.Words.{without-same, without-other}
use Rattle.pending.proofs.without.Goals as goal

pub returns : goal.returns
returns c = (without-same c.args.w c.args.t c.requires.0 c.requires.1, without-other c.args.w c.args.t c.requires.0)
