-- Laws of tests and of answers.
-- Assumes nothing.
use Prim.Native.Nat.{ℕ}
use native.Mathlib.Omega.{arith}
use mathlib.Core.Path.{◌≡◌, refl}
use mathlib.Core.Logic.{◌⊎◌, inl, inr, ⊎_elim, ◌≢◌}
use mathlib.Core.Bool.{Bool, true, false}
use lib.Dec.{eqb}
use borrow.Author.Tests.{eqb-true, eqb-false}
use Rattle.basis.specs.Pick.{pick, both}
use Rattle.basis.specs.Answer.{Answer, given, refused}

pub both_left : (a b : Bool) → both a b ≡ true → a ≡ true
both_left true b h = refl
both_left false b h = h

pub both_right : (a b : Bool) → both a b ≡ true → b ≡ true
both_right true b h = h
both_right false b h = absurd (let z : ◌≡◌ {A = ℕ} 0 1 = cc in omega arith)

pub false-true : false ≡ true → ⊥
false-true e = let z : ◌≡◌ {A = ℕ} 0 1 = cc in omega arith

-- by cases on a test
pub test : (t : Bool) → (t ≡ true) ⊎ (t ≡ false)
test true = inl refl
test false = inr refl

pub pick-cases : {A : Type 0} (P : A → Type 0) (t : Bool) (x y : A) → (t ≡ true → P x) → (t ≡ false → P y) → P (pick t x y)
pick-cases P true x y f g = f refl
pick-cases P false x y f g = g refl

-- two numbers are the same or not
pub same? : (x y : ℕ) → (x ≡ y) ⊎ (x ≢ y)
same? x y = ⊎_elim (λ h. inl (eqb-true x y h)) (λ h. inr (eqb-false x y h)) (test (eqb x y))

-- a refusal gives nothing
pub refused-given : {A : Type 0} (n : ℕ) (a : A) → refused n ≡ given a → ⊥
refused-given n a e = let z : ◌≡◌ {A = ℕ} 0 1 = cc in omega arith

-- a refusal has one number
pub refused-one : {A : Type 0} (m n : ℕ) → ◌≡◌ {A = Answer A} (refused m) (refused n) → m ≡ n
refused-one m n e = cc

-- what is given is one thing
pub given-one : {A : Type 0} (a b : A) → given a ≡ given b → a ≡ b
given-one a b e = cc
