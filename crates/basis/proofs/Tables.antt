-- A test that is computed at every number below a bound, or between two bounds, holds at each.
-- Assumes nothing.
use mathlib.Core.Path.{◌≡◌, subst, sym}
use mathlib.Core.Bool.{Bool, true}
use Prim.Native.Nat.{ℕ, zero, suc, ◌+◌, ◌-◌, ◌<◌, ◌≤◌}
use native.Mathlib.Nat.{not-suc-le-zero}
use native.Mathlib.Omega.{arith}
use native.Mathlib.Decide.{dec_lt}
use Rattle.basis.specs.Pick.{both}
use Rattle.basis.proofs.Tests.{both_left, both_right}

-- the test f passes at every number below n
abbrev pub every : (ℕ → Bool) → ℕ → Bool
every f zero = true
every f (suc n) = both (f n) (every f n)

pub at : (f : ℕ → Bool) (n : ℕ) → every f n ≡ true → (k : ℕ) → k < n → f k ≡ true
at f zero t k h = absurd (not-suc-le-zero h)
at f (suc n) t k h = go (λ p. at f n (both_right (f n) (every f n) t) k p) (dec_lt k n)
  where
    go : (k < n → f k ≡ true) → Dec (k < n) → f k ≡ true
    go r (yes p) = r p
    go r (no p) = subst (λ (m : ℕ). f m ≡ true) (sym (let e : k ≡ n = omega arith in e)) (both_left (f n) (every f n) t)

-- the test f passes at each of the n numbers from lo
abbrev pub span : (ℕ → Bool) → ℕ → ℕ → Bool
span f lo n = every (λ k. f (lo + k)) n

pub inside : (f : ℕ → Bool) (lo n : ℕ) → span f lo n ≡ true → (k : ℕ) → lo ≤ k → k < lo + n → f k ≡ true
inside f lo n t k h l =
    let e : lo + (k - lo) ≡ k = omega arith in
    subst (λ (m : ℕ). f m ≡ true) e (at (λ j. f (lo + j)) n t (k - lo) (omega arith))
