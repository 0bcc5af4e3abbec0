-- Where the walk refuses: at an address of the program; the empty program is 1 at 0.
-- Assumes nothing.
use Prim.Native.Nat.{ℕ, ◌<◌}
use mathlib.Core.Path.{◌≡◌, refl}
use mathlib.Core.Logic.{◌⊎◌, inl, inr}
use Rattle.paths.specs.Paths.{Outcome, Shown, empty, refuses, leaves, differs}
use Rattle.paths.specs.Walk.{refused, walk}
use Rattle.paths.proofs.Walks.{shows}

module _ (clash : ℕ → ℕ → ℕ) (look : ℕ → ℕ → Outcome) where
  shown-inside : (n k a : ℕ) → Shown clash look n k a → (a < n) ⊎ ((n ≡ 0) × (k ≡ 1) × (a ≡ 0))
  shown-inside n k a (empty z) = inr (z, refl, refl)
  shown-inside n k a (refuses m l e) = inl l
  shown-inside n k a (leaves m l e i h) = inl l
  shown-inside n k a (differs m l e i h x y) = inl l

  pub walk_inside : (n k a : ℕ) → walk clash look n ≡ refused k a → (a < n) ⊎ ((n ≡ 0) × (k ≡ 1) × (a ≡ 0))
  walk_inside n k a e = shown-inside n k a (shows clash look n k a e)
