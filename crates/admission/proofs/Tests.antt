-- What the test of an admission's numbers and memory finds nothing wrong with is sound and fit, and the other way round.
-- Assumes nothing.
use Prim.Native.Nat.{ℕ, ◌≤◌, ◌<◌}
use native.Mathlib.Omega.{arith}
use mathlib.Core.Path.{◌≡◌, refl, sym}
use mathlib.Core.Logic.{◌⊎◌, inl, inr, ⊎_elim}
use mathlib.Core.Bool.{Bool, true, false, not}
use mathlib.Core.List.{List}
use lib.Dec.{ltb, eqb}
use lib.ListN.{length}
use borrow.Author.Tests.{ltb-true, ltb-false, eqb-true, le-ltb, eq-eqb, ne_eqb}
use Rattle.basis.specs.Pick.{pick}
use Rattle.basis.proofs.Tests.{test, false-true, same?}
use Rattle.admission.specs.Numbers.{start_of, wild_of, torn_of, damaged_of}
use Rattle.admission.specs.Admission.{Mach, short_of}
use Rattle.admission.specs.Fit.{Sound, Fit}
use Rattle.admission.specs.declared.Admission.{Admission}

-- a choice that fell for its second
pub pick_second : (t u : Bool) → pick t true u ≡ false → (t ≡ false) × (u ≡ false)
pick_second true u h = absurd (false-true (sym h))
pick_second false u h = (refl, h)

module _ (st : Admission) where
  abbrev Agrees : Type 0
  Agrees = (st.counted < st.want → st.programs ≡ 0) × ((st.refusal ≡ 0) ⊎ ((st.programs ≡ 0) × (30 ≤ st.refusal) × (st.refusal ≤ 35)))

  agrees : torn_of st ≡ false → Agrees
  unfolding torn_of
  agrees h = by (eqb st.programs 0) (eqb st.refusal 0) (ltb st.refusal 30) (ltb 35 st.refusal) (ltb st.counted st.want) refl refl refl refl refl h
    where
      by : (p r l m e : Bool) → eqb st.programs 0 ≡ p → eqb st.refusal 0 ≡ r → ltb st.refusal 30 ≡ l → ltb 35 st.refusal ≡ m → ltb st.counted st.want ≡ e
          → pick p (pick r false (pick l true m)) (pick e true (not r)) ≡ false → Agrees
      by true true l m e p r x y z q = (λ u. eqb-true _ _ p, inl (eqb-true _ _ r))
      by true false true m e p r x y z q = absurd (false-true (sym q))
      by true false false true e p r x y z q = absurd (false-true (sym q))
      by true false false false e p r x y z q = (λ u. eqb-true _ _ p, inr (eqb-true _ _ p, ltb-false _ _ x, ltb-false _ _ y))
      by false r l m true p x y w z q = absurd (false-true (sym q))
      by false true l m false p r x y z q = (λ u. let v = ltb-false st.counted st.want z in absurd (omega arith), inl (eqb-true _ _ r))
      by false false l m false p r x y z q = absurd (false-true (sym q))

  pub whole-sound : damaged_of st ≡ false → Sound st
  unfolding damaged_of wild_of
  whole-sound h =
      let z = pick_second _ _ h in
      let a = pick_second _ _ z.0 in
      let b = pick_second _ _ a.1 in
      let c = pick_second _ _ b.1 in
      let d = pick_second _ _ c.1 in
      let e = pick_second _ _ d.1 in
      let f = pick_second _ _ e.1 in
      let g = agrees z.1 in
      record {
        counted = ltb-false _ _ a.0;
        least = ltb-false _ _ b.0;
        want = ltb-false _ _ c.0;
        programs = ltb-false _ _ d.0;
        judged = ltb-false _ _ e.0;
        have = ltb-false _ _ f.0;
        closed = ltb-false _ _ f.1;
        early = g.0;
        told = g.1;
      }

  module _ (s : Sound st) where
    sound-tame : wild_of st ≡ false
    unfolding wild_of
    sound-tame = rw (le-ltb _ _ s.counted, le-ltb _ _ s.least, le-ltb _ _ s.want, le-ltb _ _ s.programs, le-ltb _ _ s.judged, le-ltb _ _ s.have, le-ltb _ _ s.closed)

    sound-agrees : torn_of st ≡ false
    unfolding torn_of
    sound-agrees = ⊎_elim none some (same? st.programs 0)
      where
        none : st.programs ≡ 0
            → pick (eqb st.programs 0) (pick (eqb st.refusal 0) false (pick (ltb st.refusal 30) true (ltb 35 st.refusal))) (pick (ltb st.counted st.want) true (not (eqb st.refusal 0))) ≡ false
        none p =
            rw (eq-eqb st.programs 0 p)
            (⊎_elim
            (λ r. rw (eq-eqb st.refusal 0 r))
            (λ r. let n = r.1 in rw (ne_eqb st.refusal 0 (λ z. omega (arith, z)), le-ltb st.refusal 30 r.1, le-ltb 35 st.refusal r.2))
            s.told)

        some : (st.programs ≡ 0 → ⊥)
            → pick (eqb st.programs 0) (pick (eqb st.refusal 0) false (pick (ltb st.refusal 30) true (ltb 35 st.refusal))) (pick (ltb st.counted st.want) true (not (eqb st.refusal 0))) ≡ false
        some p =
            let l : st.want ≤ st.counted = ⊎_elim (λ t. absurd (p (s.early (ltb-true _ _ t)))) (λ t. ltb-false _ _ t) (test (ltb st.counted st.want)) in
            let r : st.refusal ≡ 0 = ⊎_elim (λ t. t) (λ t. absurd (p t.0)) s.told in
            rw (ne_eqb st.programs 0 p, le-ltb st.counted st.want l, eq-eqb st.refusal 0 r)

    pub sound-whole : damaged_of st ≡ false
    unfolding damaged_of
    sound-whole = rw (sound-tame, sound-agrees)

pub start-sound : Sound start_of
start-sound = record {
  counted = omega arith;
  least = omega arith;
  want = omega arith;
  programs = omega arith;
  judged = omega arith;
  have = omega arith;
  closed = omega arith;
  early = λ h. refl;
  told = inl refl;
}

-- enough memory
pub record Roomy (c b m v : List ℕ) : Type 0 where
  pub contents : 514 ≤ length c
  pub body : 16384 ≤ length b
  pub map : 16384 ≤ length m
  pub verdicts : 192 ≤ length v

pub enough-roomy : (c b m v : List ℕ) → short_of c b m v ≡ false → Roomy c b m v
unfolding short_of
enough-roomy c b m v h =
    let x = pick_second _ _ h in
    let y = pick_second _ _ x.1 in
    let z = pick_second _ _ y.1 in
    record { contents = ltb-false _ _ x.0; body = ltb-false _ _ y.0; map = ltb-false _ _ z.0; verdicts = ltb-false _ _ z.1 }

pub roomy-enough : (c b m v : List ℕ) → Roomy c b m v → short_of c b m v ≡ false
unfolding short_of
roomy-enough c b m v r = rw (le-ltb _ _ r.contents, le-ltb _ _ r.body, le-ltb _ _ r.map, le-ltb _ _ r.verdicts)

pub tests-fit : (m : Mach) → short_of m.contents m.body m.map m.verdicts ≡ false → damaged_of m.st ≡ false → Fit m
tests-fit m h d =
    let r = enough-roomy _ _ _ _ h in
    record { sound = whole-sound m.st d; contents = r.contents; body = r.body; map = r.map; verdicts = r.verdicts }

pub fit-roomy : (m : Mach) → Fit m → short_of m.contents m.body m.map m.verdicts ≡ false
fit-roomy m f = roomy-enough _ _ _ _ (record { contents = f.contents; body = f.body; map = f.map; verdicts = f.verdicts })
