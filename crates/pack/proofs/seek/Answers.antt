-- `pack::seek` meets its contract.
-- Assumes nothing.
use Rattle.pack.proofs.Keeps.{reached-in}
use Rattle.pack.proofs.seek.Goals as goal

pub kept-requires : goal.kept-requires
kept-requires c = let a = c.args in
    let p = c.requires in
    reached-in a.pack.now a.n _ c.reach.result c.if-n-eq0.false p.0 p.1 c.reach.ensures
