-- `listing::lines_length` meets its contract.
-- Assumes nothing.
use Prim.Native.Nat.{◌+◌, ◌*◌, ◌≤◌}
use mathlib.Core.Path.{◌≡◌}
use lib.ListN.{length}
use Rattle.listing.specs.Walk.{left}
use Rattle.listing.proofs.lines_length.Given as goal

abbrev pub invariant-loop-place : goal.invariant-loop-place
invariant-loop-place l = record {
  can : goal.iterator-loop-place.can_next l.place-iterator;
  ends : goal.iterator-loop-place.is_finite l.place-iterator;
  short : l.n + 291 * goal.iterator-loop-place.remaining l.place-iterator ≤ 291 * goal.iterator-loop-place.remaining l.initial.place-iterator;
  so_far : l.n + length (left l.place-iterator) ≡ length (left l.initial.place-iterator);
}
