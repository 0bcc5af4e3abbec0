-- Laws for the code that judges one program after the other.
-- Assumes nothing.
use Prim.Native.Nat.{ℕ, zero, suc, ◌+◌, ◌-◌, ◌<◌}
use native.Mathlib.Omega.{arith}
use mathlib.Core.Path.{◌≡◌, sym, subst}
use lib.Dec.{eqb}
use borrow.Author.Tests.{eq-eqb, ne_eqb}
use Rattle.basis.specs.Pick.{pick}
use Rattle.admission.specs.Admission.{Mach, length_at, judge_of, settle_of, settled}

settle-more : (k : ℕ) (m : Mach) → 0 < k → settle_of k m ≡ pick (eqb m.st.have (length_at m.contents m.st.judged)) (settle_of (k - 1) (judge_of m)) m
settle-more zero m h = absurd (omega arith)
settle-more (suc k) m h = let z : suc k - 1 ≡ k = omega arith in rw z

abbrev pub rest_of : Mach → Mach
rest_of m = settle_of (m.st.programs - m.st.judged) m

module _ (m want : Mach) (whole : rest_of m ≡ want) where
  module _ (some : m.st.judged < m.st.programs) (need : ℕ) (told : need ≡ length_at m.contents m.st.judged) where
    pub settle-stop : (m.st.have ≡ need → ⊥) → m ≡ want
    settle-stop n = rw (settle-more (m.st.programs - m.st.judged) m (omega arith), ← told, ne_eqb _ _ n) at whole

    pub settle-next : m.st.have ≡ need → (n : Mach) → n ≡ judge_of m → rest_of n ≡ want
    unfolding judge_of
    settle-next e n q =
        let z : m.st.programs - (m.st.judged + 1) ≡ m.st.programs - m.st.judged - 1 = omega arith in
        subst (λ (x : Mach). rest_of x ≡ want) (sym q) (rw z (rw (settle-more (m.st.programs - m.st.judged) m (omega arith), ← told, eq-eqb _ _ e) at whole))

pub judge-less : (m n : Mach) → n ≡ judge_of m → m.st.judged < m.st.programs → n.st.programs - n.st.judged < m.st.programs - m.st.judged
unfolding judge_of
judge-less m n e h = rw e (omega arith)

-- where there are no programs, none gets a verdict
pub settled-none : (m : Mach) → m.st.programs ≡ 0 → settled m ≡ m
unfolding settled
settled-none m h = let z : m.st.programs - m.st.judged ≡ 0 = omega arith in rw z
