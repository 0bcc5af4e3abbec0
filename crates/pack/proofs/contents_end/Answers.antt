-- `pack::contents_end` meets its contract.
-- Assumes nothing.
use mathlib.Core.Path.{sym}
use Rattle.pack.proofs.Sounds.{held-bounds}
use Rattle.pack.proofs.contents_end.Goals as goal

pub bodies_end-requires : goal.bodies_end-requires
bodies_end-requires c = held-bounds c.args.pack.now _ (sym c.in_ok-n.ensures)
