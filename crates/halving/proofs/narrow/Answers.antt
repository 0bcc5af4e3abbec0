-- `halving::narrow` meets its contract.
-- Assumes nothing.
use Prim.Native.Nat.{◌-◌}
use native.Mathlib.Omega.{arith}
use lib.ListN.{length}
use Rattle.halving.proofs.Spans.{left-next}
use Rattle.halving.proofs.Steps.{narrowed-by}
use Rattle.halving.proofs.narrow.Goals as goal

pub halve-requires : goal.halve-requires
halve-requires c = let a = c.args in
    let p = c.requires in
    (p.0, p.1, left-next a.stride a.start a.n (a.n - a.whole) a.whole (length a.s.now) a.s.now a.sought _ c.later-at.result (omega arith) (omega arith) p.3 c.later-at.ensures)

pub returns : goal.returns
returns c = let a = c.args in
    narrowed-by a.rounds a.whole a.start a.stride a.s.now a.sought a.n c.later-at.result c.halve.result c.later-at.ensures c.halve.ensures
