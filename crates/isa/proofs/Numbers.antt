-- The numbers by which the stack check refuses.
-- Assumes nothing.
use Prim.Native.Nat.{ℕ, ◌+◌, ◌-◌, ◌≤◌}
use native.Mathlib.Omega.{arith}
use mathlib.Core.Path.{◌≡◌, subst}
use mathlib.Core.Bool.{Bool, true, false}
use lib.Dec.{ltb}
use Rattle.basis.specs.Pick.{pick}
use Rattle.basis.specs.Answer.{Answer, given, refused}
use Rattle.isa.specs.Shape.{depth_after}

-- a refusal's number lies between these
abbrev pub Between : {A : Type 0} → ℕ → ℕ → Answer A → Type 0
Between low high (given a) = Unit {0}
Between low high (refused k) = (low ≤ k) × (k ≤ high)

pub between-or : {A : Type 0} (low high : ℕ) (t : Bool) (a b : Answer A) → Between low high a → Between low high b → Between low high (pick t a b)
between-or low high true a b x y = x
between-or low high false a b x y = y

pub stack-number : (cells depth taken pushed k : ℕ) → depth_after cells depth taken pushed ≡ refused k → (4 ≤ k) × (k ≤ 5)
unfolding depth_after
stack-number cells depth taken pushed k e =
    subst (Between 4 5) e
    (between-or 4 5 (ltb depth taken) _ _ (omega arith, omega arith)
    (between-or 4 5 (ltb cells (depth - taken + pushed)) _ _ (omega arith, omega arith) tt))
