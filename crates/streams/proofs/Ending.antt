-- After the close: numbers that are sound stay so, and every later call is 37.
-- Assumes nothing.
use Prim.Native.Nat.{ℕ, ◌≤◌}
use native.Mathlib.Omega.{arith}
use mathlib.Core.Path.{◌≡◌, refl, sym}
use mathlib.Core.Logic.{◌⊎◌, inl, inr, ⊎_elim}
use mathlib.Core.Bool.{Bool, true, false}
use mathlib.Core.List.{List}
use lib.Dec.{ltb, eqb}
use borrow.Author.Tests.{eqb-false, ne_eqb}
use Rattle.basis.specs.Pick.{pick}
use Rattle.basis.proofs.Tests.{pick-cases, test}
use Rattle.admission.specs.Numbers.{admits, withdraws, lost_of}
use Rattle.admission.specs.Admission.{Mach, admit_of, answered, closing_of, ended_of, close_of, ask_of}
use Rattle.admission.specs.Fit.{Sound, Fit}
use Rattle.admission.specs.declared.Admission.{Admission}
use Rattle.admission.specs.declared.Admitted.{Admitted}
use Rattle.admission.proofs.Tests.{sound-whole, fit-roomy}
use Rattle.intake.proofs.Chunks.{chunk-late}

-- the number that a close refuses by is one of a pack's
closing-packs : (st : Admission) → Sound st → (closing_of st ≡ 0 → ⊥) → (30 ≤ closing_of st) × (closing_of st ≤ 35)
unfolding closing_of
closing-packs st s = by (ltb 24576 st.counted) (ltb st.counted st.want) (eqb st.refusal 0) (eqb st.end st.counted) refl
  where
    by : (t u v w : Bool) → eqb st.refusal 0 ≡ v
        → (◌≡◌ {A = ℕ} (pick t 31 (pick u 30 (pick v (pick w 0 34) st.refusal))) 0 → ⊥)
        → (30 ≤ pick t 31 (pick u 30 (pick v (pick w 0 34) st.refusal))) × (pick t 31 (pick u 30 (pick v (pick w 0 34) st.refusal)) ≤ 35)
    by true u v w e n = (omega arith, omega arith)
    by false true v w e n = (omega arith, omega arith)
    by false false true true e n = absurd (n refl)
    by false false true false e n = (omega arith, omega arith)
    by false false false w e n = ⊎_elim (λ z. absurd (eqb-false _ _ e z)) (λ p. (p.1, p.2)) s.told

-- closed, and sound
pub record Shut (st : Admission) : Type 0 where
  pub sound : Sound st
  pub closed : st.closed ≡ 1

pub ended-shut : (st : Admission) → Sound st → Shut (ended_of st).admission
unfolding ended_of
ended-shut st s =
    pick-cases (λ (a : Admitted). Shut a.admission) (eqb (closing_of st) 0) (answered 0 (admits st)) (answered (closing_of st) (withdraws (closing_of st) st))
    (λ h. record {
      sound = record { counted = s.counted; least = s.least; want = s.want; programs = s.programs; judged = s.judged; have = s.have; closed = omega arith; early = s.early; told = inl refl };
      closed = refl;
    })
    (λ h. record {
      sound = record { counted = s.counted; least = s.least; want = s.want; programs = omega arith; judged = omega arith; have = s.have; closed = omega arith; early = λ u. refl; told = (let p = closing-packs st s (eqb-false _ _ h) in inr (refl, p.0, p.1)) };
      closed = refl;
    })

pub ended-packs : (st : Admission) → Sound st → ((ended_of st).refusal ≡ 0) ⊎ ((30 ≤ (ended_of st).refusal) × ((ended_of st).refusal ≤ 35))
unfolding ended_of
ended-packs st s =
    pick-cases (λ (a : Admitted). (a.refusal ≡ 0) ⊎ ((30 ≤ a.refusal) × (a.refusal ≤ 35))) (eqb (closing_of st) 0) (answered 0 (admits st)) (answered (closing_of st) (withdraws (closing_of st) st))
    (λ h. inl refl)
    (λ h. inr (closing-packs st s (eqb-false _ _ h)))

-- what was told is what is asked for afterwards, and a refused pack has no verdicts
pub ended-told : (st : Admission) → ((ended_of st).admission.refusal ≡ (ended_of st).refusal) × (((ended_of st).refusal ≡ 0 → ⊥) → (ended_of st).admission.judged ≡ 0)
unfolding ended_of
ended-told st =
    pick-cases (λ (a : Admitted). (a.admission.refusal ≡ a.refusal) × ((a.refusal ≡ 0 → ⊥) → a.admission.judged ≡ 0)) (eqb (closing_of st) 0) (answered 0 (admits st)) (answered (closing_of st) (withdraws (closing_of st) st))
    (λ h. (refl, λ n. absurd (n refl)))
    (λ h. (refl, λ n. refl))

-- what refused it is what is told as lost
closing-long : (st : Admission) → ltb 24576 st.counted ≡ true → closing_of st ≡ 31
unfolding closing_of
closing-long st e = rw e

ended-long : (st : Admission) → ltb 24576 st.counted ≡ true → lost_of (ended_of st).admission ≡ (ended_of st).refusal
unfolding ended_of lost_of
ended-long st e = rw (closing-long st e, e)

ended-short : (st : Admission) → ltb 24576 st.counted ≡ false → lost_of (ended_of st).admission ≡ (ended_of st).refusal
unfolding ended_of lost_of
ended-short st e =
    pick-cases (λ (a : Admitted). lost_of a.admission ≡ a.refusal) (eqb (closing_of st) 0) (answered 0 (admits st)) (answered (closing_of st) (withdraws (closing_of st) st))
    (λ h. rw e)
    (λ h. rw e)

pub ended-lost : (st : Admission) → lost_of (ended_of st).admission ≡ (ended_of st).refusal
ended-lost st = ⊎_elim (ended-long st) (ended-short st) (test (ltb 24576 st.counted))

module _ (st : Admission) (s : Shut st) where
  late : st.closed ≡ 0 → ⊥
  late e = let z = s.closed in omega arith

  pub shut-close : close_of st ≡ answered 37 st
  unfolding close_of
  shut-close = rw (sound-whole st s.sound, ne_eqb st.closed 0 late)

  pub shut-ask : ask_of st ≡ st.refusal
  unfolding ask_of
  shut-ask = rw (sound-whole st s.sound, ne_eqb st.closed 0 late)

pub shut-chunk : (c : List ℕ) (m : Mach) → Fit m → m.st.closed ≡ 1 → admit_of c m ≡ (37, m)
shut-chunk c m f h = sym (chunk-late c m (fit-roomy m f) (sound-whole m.st f.sound) (λ e. omega (arith, e, h)))
