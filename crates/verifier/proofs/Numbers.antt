-- The numbers by which the verifier refuses.
-- Assumes nothing.
use Prim.Native.Nat.{ℕ, ◌≤◌}
use native.Mathlib.Omega.{arith}
use mathlib.Core.Path.{◌≡◌, refl}
use mathlib.Core.Logic.{inl, inr, ⊎_elim}
use mathlib.Core.Bool.{Bool, true, false}
use mathlib.Core.List.{List}
use lib.Dec.{ltb, eqb}
use lib.ListN.{length}
use borrow.Author.Tests.{ltb-false}
use Rattle.basis.specs.Pick.{pick}
use Rattle.paths.specs.Paths.{Shown, empty, refuses, leaves, differs}
use Rattle.paths.specs.Walk.{Walked, accepted, refused}
use Rattle.paths.proofs.Walks.{shows}
use Rattle.look.specs.Look.{look_of}
use Rattle.look.proofs.Numbers.{look-number}
use Rattle.meeting.specs.Clash.{two_depths}
use Rattle.verifier.specs.Verify.{names, nameless, Numbered, walk_of, Verified, on_walk, verify_of}

module _ (program : List ℕ) (cells : ℕ) (s : length program ≤ 16384) where
  shown-number : (n k a : ℕ) → Shown two_depths (look_of program cells) n k a → Numbered (names k a)
  shown-number n k a (empty z) = inl (omega arith, omega arith)
  shown-number n k a (refuses {d = d} m l e) = ⊎_elim (λ h. inl h) (λ h. inr (h.0, omega (arith, h.1))) (look-number program cells a d k s e)
  shown-number n k a (leaves m l e i h) = inl (omega arith, omega arith)
  shown-number n k a (differs m l e i h x y) = inr (omega arith, omega arith)

  -- the walk, by what shows its refusal
  pub walk-number : (k a : ℕ) → walk_of program cells ≡ refused k a → Numbered (names k a)
  walk-number k a e = shown-number (length program) k a (shows two_depths (look_of program cells) (length program) k a e)

-- the whole verdict
pub verify-number : (program : List ℕ) (cells : ℕ) (depths : List ℕ) → Numbered (verify_of program cells depths).0
unfolding verify_of
verify-number program cells depths = by (ltb 16384 (length program)) (ltb 1024 cells) (eqb (length depths) (length program)) refl
  where
    walked : length program ≤ 16384 → (w : Walked) → walk_of program cells ≡ w → Numbered (on_walk (length program) w).0
    walked s (accepted ms) e = tt
    walked s (refused k a) e = walk-number program cells s k a e

    by : (t u v : Bool) → ltb 16384 (length program) ≡ t
        → Numbered (pick {A = Verified} t (nameless 20, depths) (pick u (nameless 22, depths) (pick v (on_walk (length program) (walk_of program cells)) (nameless 23, depths)))).0
    by true u v e = inl refl
    by false true v e = inr (inl refl)
    by false false true e = walked (ltb-false 16384 (length program) e) (walk_of program cells) refl
    by false false false e = inr (inr refl)
