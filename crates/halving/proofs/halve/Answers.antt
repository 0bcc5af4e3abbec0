-- `halving::halve` meets its contract.
-- Assumes nothing.
use Prim.Native.Nat.{◌+◌, ◌-◌, ◌/◌}
use native.Mathlib.Omega.{arith}
use lib.ListN.{length}
use Rattle.halving.proofs.Spans.{left-next}
use Rattle.halving.proofs.Steps.{halved-next}
use Rattle.halving.proofs.halve.Goals as goal

pub loop-preserved : goal.loop-preserved
loop-preserved c = let l = c.loop in
    let a = c.args in
    let half = l.left / 2 in
    let more = a.rounds - l.counter in (
      omega arith,
      left-next a.stride l.at l.left half (l.left - half) (length a.s.now) a.s.now a.sought _ c.later-at.result (omega arith) (omega arith) l.invariant.1 c.later-at.ensures,
      halved-next more (a.rounds - (l.counter + 1)) a.stride a.s.now a.sought l.at l.left c.later-at.result _ (omega arith) l.invariant.2 c.later-at.ensures,
    )
