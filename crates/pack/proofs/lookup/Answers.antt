-- `pack::lookup` meets its contract.
-- Assumes nothing.
use mathlib.Core.Path.{sym}
use Rattle.pack.proofs.Sounds.{held-bounds}
use Rattle.pack.proofs.lookup.Goals as goal

pub seek-requires : goal.seek-requires
seek-requires c = held-bounds c.args.pack.now _ (sym c.in_ok-count.ensures)
