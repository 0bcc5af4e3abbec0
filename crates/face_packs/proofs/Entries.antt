-- The entry at an index is the same in the code's options and in the list's.
-- Assumes nothing.
use Prim.Native.Nat.{ℕ, zero, suc}
use mathlib.Core.Path.{◌≡◌, refl}
use mathlib.Core.List.{List, [], ◌∷◌}
use lib.ListN.{get_elem?}
use Rattle.std.specs.Prelude.{slice_get}
use Rattle.basis.specs.Answer.{Answer, given, refused, seen}
use Rattle.pack.specs.declared.Entry.{Entry}
use Rattle.answers.specs.Packs.{placed_in, listed_in}

placed-given : (es : List Entry) (i : ℕ) → placed_in (given (slice_get es i)) ≡ listed_in (given (get_elem? es i))
placed-given [] i = refl
placed-given (e ∷ es) zero = refl
placed-given (e ∷ es) (suc i) = placed-given es i

pub placed : (a : Answer (List Entry)) (i : ℕ) → placed_in (seen (λ es. slice_get es i) a) ≡ listed_in (seen (λ es. get_elem? es i) a)
placed (given es) i = placed-given es i
placed (refused k) i = refl
