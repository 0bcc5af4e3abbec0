-- `halving::halve` meets its contract.
-- Assumes nothing.
use Prim.Native.Nat.{◌+◌, ◌-◌, ◌*◌, ◌≤◌, ◌<◌}
use mathlib.Core.Path.{◌≡◌}
use lib.ListN.{length}
use Rattle.halving.specs.Halving.{halved}
use Rattle.halving.proofs.halve.Given as goal

abbrev pub invariant-loop : goal.invariant-loop
invariant-loop l = (0 < l.left) × (l.at + l.stride * l.left ≤ length l.s) × (halved (l.rounds - l.counter) l.stride l.s l.sought l.at l.left ≡ halved l.rounds l.stride l.s l.sought l.from l.many)
