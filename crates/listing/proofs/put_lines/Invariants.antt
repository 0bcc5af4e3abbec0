-- `listing::put_lines` meets its contract.
-- Assumes nothing.
use mathlib.Core.Path.{◌≡◌}
use Prim.Native.Nat.{ℕ}
use mathlib.Core.List.{List, ◌++◌}
use Rattle.text.specs.Pen.{Puts}
use Rattle.listing.specs.Walk.{left}
use Rattle.listing.proofs.put_lines.Given as goal

abbrev pub invariant-loop-place : goal.invariant-loop-place
invariant-loop-place l = record {
  can : goal.iterator-loop-place.can_next l.place-iterator;
  ends : goal.iterator-loop-place.is_finite l.place-iterator;
  so_far : (xs : List ℕ) × (Puts xs l.initial.pen l.pen × (xs ++ left l.place-iterator ≡ left l.initial.place-iterator));
}
