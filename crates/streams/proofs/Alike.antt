-- What an admission does depends on its numbers, its contents and the bytes of the one body under way, and on nothing else that its memory holds.
-- Assumes nothing.
use Prim.Native.Nat.{ℕ, zero, suc, ◌+◌, ◌-◌, ◌*◌, ◌≤◌, ◌<◌}
use native.Mathlib.Omega.{arith}
use mathlib.Core.Path.{◌≡◌, refl, sym, ap, ◌∙◌, subst}
use mathlib.Core.Logic.{◌⊎◌, inl, inr, ⊎_elim}
use mathlib.Core.Bool.{Bool, true, false}
use mathlib.Core.List.{List, [], ◌∷◌, ◌++◌, append-nil}
use lib.Dec.{ltb, eqb}
use lib.ListN.{length, take, drop, set, length-set, length-take, take-append-drop}
use lib.Seq.{sets, length-take-le, take-take, take-length, take-suc-set, get_or-set_other}
use borrow.Author.Tests.{lt-ltb, le-ltb, ltb-true, ltb-false, eqb-true, eqb-false}
use Rattle.basis.specs.Pick.{pick}
use Rattle.basis.specs.Answer.{Answer, given, refused}
use Rattle.basis.specs.Number.{number_at}
use Rattle.basis.proofs.Tests.{test, pick-cases}
use Rattle.pack.specs.Contents.{first_of}
use Rattle.pack.specs.Read.{count_of, contents_of}
use Rattle.verifier.specs.Verify.{verify_of}
use Rattle.rulings.proofs.Prefix.{contents-prefix, contents-many, number-take, number-alike}
use Rattle.rulings.proofs.Entries.{judged-same}
use Rattle.admission.specs.Verdicts.{codes_of}
use Rattle.admission.specs.Numbers.{counts, wants, opens, refuses, judges}
use Rattle.admission.specs.Admission.{Mach, mach, counted_as, tag_at, cells_at, length_at, verified_of, judge_of, settle_of, settled, sized_of, on_bodies, opened_of, contents_byte, body_byte, byte_of, chunk_of}
use Rattle.admission.specs.Fit.{Fit}
use Rattle.admission.specs.declared.Admission.{Admission}
use Rattle.admission.proofs.Fits.{judge-fit, learnt-fit, grown-fit, byte-fit}
use Rattle.streams.specs.Told.{came_of, Alike, SameVerdicts}
use Rattle.streams.specs.Stands.{Part, cut, bad, good, Stands, over, some}
use Rattle.streams.proofs.Kept.{sized-learnt, all-learnt}
use Rattle.streams.proofs.Coming.{stands-byte}

-- one more of the same at the end of what is the same
set_more : (i x : ℕ) (v w : List ℕ) → i < length v → i < length w → take i v ≡ take i w → take (suc i) (set v i x) ≡ take (suc i) (set w i x)
set_more i x v w p q e = take-suc-set v i x p ∙ ap (λ (y : List ℕ). y ++ (x ∷ [])) e ∙ sym (take-suc-set w i x q)

told_more : (i a b c : ℕ) (v w : List ℕ) → 3 * i + 3 ≤ length v → 3 * i + 3 ≤ length w → SameVerdicts i v w → SameVerdicts (i + 1) (sets v (3 * i) (a ∷ b ∷ c ∷ [])) (sets w (3 * i) (a ∷ b ∷ c ∷ []))
told_more i a b c v w p q e =
    let z : 3 * (i + 1) ≡ suc (suc (suc (3 * i))) = omega arith in
    let v1 = set v (3 * i) a in
    let w1 = set w (3 * i) a in
    let v2 = set v1 (suc (3 * i)) b in
    let w2 = set w1 (suc (3 * i)) b in
    let one = set_more (3 * i) a v w (omega arith) (omega arith) e in
    let two = set_more (suc (3 * i)) b v1 w1 (rw length-set (omega arith)) (rw length-set (omega arith)) one in
    let three = set_more (suc (suc (3 * i))) c v2 w2 (rw length-set (rw length-set (omega arith))) (rw length-set (rw length-set (omega arith))) two in
    rw z three

-- a part of what is the same
take_less : (j k : ℕ) (v w : List ℕ) → j ≤ k → take k v ≡ take k w → take j v ≡ take j w
take_less j k v w h e = sym (take-take j k v h) ∙ ap (take j) e ∙ take-take j k w h

number-set : (w at : ℕ) (v : List ℕ) (i x : ℕ) → at + w ≤ i → number_at w (set v i x) at ≡ number_at w v at
number-set zero at v i x h = refl
number-set (suc w) at v i x h = rw (get_or-set_other v i at x 0 (λ e. omega (arith, e)), number-set w (at + 1) v i x (omega arith))

-- the contents say what their bytes say, whatever follows
contents-taken : (f : ℕ) (c : List ℕ) → 2 ≤ f → first_of (count_of c) ≤ f → f ≤ length c → contents_of c ≡ contents_of (take f c)
contents-taken f c h r l =
    let s = take f c in
    let t = drop f c in
    let size : length s ≡ f = length-take-le f c l in
    let two : 2 ≤ length s = omega arith in
    let n : count_of s ≡ count_of c = number-take f 2 c 0 (omega arith) in
    ap contents_of (sym (take-append-drop f c))
    ∙ ⊎_elim
    (λ m. let k = ltb-true 64 (count_of s) m in contents-many s t two k ∙ sym (contents-many s [] two k) ∙ ap contents_of (append-nil s))
    (λ m. let k = ltb-false 64 (count_of s) m in contents-prefix s t (record { head = two; count = k; room = omega arith }))
    (test (ltb 64 (count_of s)))

contents-alike : (f : ℕ) (c d : List ℕ) → 2 ≤ f → first_of (count_of c) ≤ f → f ≤ length c → f ≤ length d → count_of c ≡ count_of d → take f c ≡ take f d → contents_of c ≡ contents_of d
contents-alike f c d h r p q n e = contents-taken f c h r p ∙ ap contents_of e ∙ sym (contents-taken f d h (rw (← n) r) q)

-- what the contents teach
module _ (st : Admission) (c d : List ℕ) where
  sized-alike : (st.counted ≡ 2 → count_of c ≡ count_of d) → sized_of st c ≡ sized_of st d
  unfolding sized_of
  sized-alike e =
      ⊎_elim
      (λ t. ap (λ (n : ℕ). pick (eqb st.counted 2) (pick (ltb 64 n) (refuses 30 st) (wants (first_of n) st)) st) (e (eqb-true _ _ t)))
      (λ t. rw t)
      (test (eqb st.counted 2))

  bodies-alike : count_of c ≡ count_of d → (a : Answer ℕ) → on_bodies st c a ≡ on_bodies st d a
  bodies-alike e (given n) = ap (λ (k : ℕ). opens k n st) e
  bodies-alike e (refused n) = refl

  opened-alike : (st.counted ≡ st.want → st.refusal ≡ 0 → (count_of c ≡ count_of d) × (contents_of c ≡ contents_of d)) → opened_of st c ≡ opened_of st d
  unfolding opened_of
  opened-alike e =
      ⊎_elim
      (λ t. ⊎_elim
      (λ u. let p = e (eqb-true _ _ t) (eqb-true _ _ u) in
      ap (λ (y : Admission). pick (eqb st.counted st.want) (pick (eqb st.refusal 0) y st) st) (bodies-alike p.0 (contents_of c) ∙ ap (on_bodies st d) p.1))
      (λ u. let v : eqb st.refusal 0 ≡ false = u in rw (t, v))
      (test (eqb st.refusal 0)))
      (λ t. rw t)
      (test (eqb st.counted st.want))

-- the programs that are told are named in the contents that have come
abbrev Named : Admission → Type 0
Named st = 0 < st.programs → 2 + 8 * st.programs ≤ came_of st

-- how long the contents are is known from their count; so of an admission that stands for the bytes that have come
record Known (m : Mach) : Type 0 where
  sized : 2 ≤ m.st.counted → m.st.counted < m.st.want → m.st.want ≡ first_of (count_of m.contents)
  named : Named m.st

known-part : (s : List ℕ) (m : Mach) → (m.st.counted ≡ length s) ⊎ (514 ≤ m.st.counted) → m.st.want ≤ 514 → length s ≤ m.st.counted → Part s m → Known m
known-part s m c w l (cut k) = record {
  sized = λ two h. ⊎_elim
      (λ e. let z : 2 ≤ length s = omega arith in k.want ∙ rw (le-ltb (length s) 2 z) (ap first_of (sym (number-alike (length s) 2 m.contents s 0 (k.contents ∙ sym (take-length s)) z))))
      (λ e. absurd (omega arith))
      c;
  named = λ h. let z = k.programs in absurd (omega arith);
}
known-part s m c w l (bad b) = record {
  sized = λ two h. let z = b.want in absurd (omega arith);
  named = λ h. let z = b.programs in absurd (omega arith);
}
known-part s m c w l (good n r q) =
    let z = r.want in
    let p = r.programs in
    let o = r.room in
    record {
      sized = λ two h. absurd (omega arith);
      named = λ h. rw (le-ltb m.st.counted m.st.want (omega arith)) (omega arith);
    }

known : (s : List ℕ) (m : Mach) → Fit m → Stands s m → Known m
known s m f (over l c p) = known-part (take 24576 s) m (inr (omega arith)) f.sound.want (let z = length-take {A = ℕ} 24576 s in omega arith) p
known s m f (some l c p) = known-part s m (inl c) f.sound.want (omega arith) p

came-least : (st : Admission) → came_of st ≤ st.counted
came-least st = pick-cases (λ (k : ℕ). k ≤ st.counted) (ltb st.counted st.want) st.counted st.want (λ t. omega arith) (λ t. ltb-false _ _ t)

-- two admissions go on alike, and tell the same meanwhile
abbrev Goes : Mach → Mach → Mach → Mach → Type 0
Goes m n o p = Alike o p × (SameVerdicts m.st.judged m.verdicts n.verdicts → SameVerdicts o.st.judged o.verdicts p.verdicts)

module _ (m n : Mach) (f : Fit m) (g : Fit n) (w : Named m.st) (a : Alike m n) (h : m.st.judged < m.st.programs) where
  there : 10 + 8 * m.st.judged ≤ came_of m.st
  there = let z = w (omega arith) in omega arith

  verdict-alike : (verified_of m).0 ≡ (verified_of n).0
  verdict-alike =
      let k = m.st.have in
      let i = m.st.judged in
      let few = f.sound.programs in
      let lm : length (take k m.map) ≡ k = length-take-le k m.map (omega (arith, f.sound.have, f.map)) in
      let ln : length (take k n.map) ≡ k = length-take-le k n.map (omega (arith, f.sound.have, g.map)) in
      judged-same (take k m.body) (cells_at m.contents i) (take k m.map) (take k n.map) (lm ∙ sym ln)
      ∙ ap (λ (p : List ℕ). (verify_of p (cells_at m.contents i) (take k n.map)).0) a.body
      ∙ ap (λ (c : ℕ). (verify_of (take k n.body) c (take k n.map)).0) (number-alike (came_of m.st) 2 m.contents n.contents (4 + 8 * i) a.contents (let z = there in omega arith))
      ∙ ap (λ (s : Admission). (verify_of (take s.have n.body) (cells_at n.contents s.judged) (take s.have n.map)).0) a.st

  tag-alike : tag_at m.contents m.st.judged ≡ tag_at n.contents n.st.judged
  tag-alike =
      let few = f.sound.programs in
      number-alike (came_of m.st) 2 m.contents n.contents (2 + 8 * m.st.judged) a.contents (let z = there in omega arith)
      ∙ ap (λ (s : Admission). tag_at n.contents s.judged) a.st

  length-alike : eqb n.st.have (length_at n.contents n.st.judged) ≡ eqb m.st.have (length_at m.contents m.st.judged)
  length-alike =
      let few = f.sound.programs in
      ap (λ (s : Admission). eqb s.have (length_at n.contents s.judged)) (sym a.st)
      ∙ ap (eqb m.st.have) (sym (number-alike (came_of m.st) 2 m.contents n.contents (8 + 8 * m.st.judged) a.contents (let z = there in omega arith)))

  abbrev codes : Mach → List ℕ
  codes o = codes_of (tag_at o.contents o.st.judged) (verified_of o).0

  codes-alike : codes m ≡ codes n
  codes-alike = ap (λ (t : ℕ). codes_of t (verified_of m).0) tag-alike ∙ ap (codes_of (tag_at n.contents n.st.judged)) verdict-alike

  judge-goes : Goes m n (judge_of m) (judge_of n)
  unfolding judge_of
  judge-goes = (record { st = ap (λ (s : Admission). judges (s.judged + 1) 0 s) a.st; contents = a.contents; body = refl }, told)
    where
      told : SameVerdicts m.st.judged m.verdicts n.verdicts → SameVerdicts (m.st.judged + 1) (sets m.verdicts (3 * m.st.judged) (codes m)) (sets n.verdicts (3 * n.st.judged) (codes n))
      told t =
          let few = f.sound.programs in
          told_more m.st.judged _ _ _ m.verdicts n.verdicts (omega (arith, f.verdicts)) (omega (arith, g.verdicts)) t
          ∙ ap (λ (y : List ℕ). take (3 * (m.st.judged + 1)) (sets n.verdicts (3 * m.st.judged) y)) codes-alike
          ∙ ap (λ (s : Admission). take (3 * (m.st.judged + 1)) (sets n.verdicts (3 * s.judged) (codes n))) a.st

goes : (m n : Mach) → Alike m n → Goes m n m n
goes m n a = (a, λ t. t)

goes_after : (m n o p q r : Mach) → Goes m n o p → Goes o p q r → Goes m n q r
goes_after m n o p q r x y = (y.0, λ t. y.1 (x.1 t))

-- both take the same branch
pick_two : {A : Type 0} (P : A → A → Type 0) (t u : Bool) (x y z w : A) → u ≡ t → (t ≡ true → P x z) → (t ≡ false → P y w) → P (pick t x y) (pick u z w)
pick_two P t u x y z w e f g = subst (λ (v : Bool). P (pick t x y) (pick v z w)) (sym e) (by t f g)
  where
    by : (t : Bool) → (t ≡ true → P x z) → (t ≡ false → P y w) → P (pick t x y) (pick t z w)
    by true f g = f refl
    by false f g = g refl

few-alike : (m n : Mach) → Alike m n → m.st.judged < m.st.programs → n.st.judged < n.st.programs
few-alike m n a h = subst (λ (s : Admission). s.judged < s.programs) a.st h

settle_goes : (k : ℕ) (m n : Mach) → Fit m → Fit n → Named m.st → Alike m n → k ≡ m.st.programs - m.st.judged → Goes m n (settle_of k m) (settle_of k n)
unfolding judge_of
settle_goes zero m n f g w a h = goes m n a
settle_goes (suc k) m n f g w a h =
    let l : m.st.judged < m.st.programs = omega arith in
    let j = judge-goes m n f g w a l in
    pick_two (Goes m n) _ _ (settle_of k (judge_of m)) m (settle_of k (judge_of n)) n (length-alike m n f g w a l)
    (λ t. goes_after m n (judge_of m) (judge_of n) (settle_of k (judge_of m)) (settle_of k (judge_of n)) j
    (settle_goes k (judge_of m) (judge_of n) (judge-fit m f l) (judge-fit n g (few-alike m n a l)) w j.0 (omega arith)))
    (λ t. goes m n a)

settled-goes : (m n : Mach) → Fit m → Fit n → Named m.st → Alike m n → Goes m n (settled m) (settled n)
unfolding settled
settled-goes m n f g w a =
    subst (λ (s : Admission). Goes m n (settle_of (m.st.programs - m.st.judged) m) (settle_of (s.programs - s.judged) n)) a.st
    (settle_goes (m.st.programs - m.st.judged) m n f g w a refl)

-- a byte of the contents, and what it teaches
module _ (x : ℕ) (m : Mach) (f : Fit m) (w : Known m) (h : m.st.counted < m.st.want) where
  abbrev now : List ℕ
  now = set m.contents m.st.counted x

  abbrev one : Admission
  one = counts (m.st.counted + 1) m.st

  abbrev Told : Admission → Type 0
  Told st = st.counted ≡ st.want → st.refusal ≡ 0 → st.want ≡ first_of (count_of now)

  sized-told : Told (sized_of one now)
  unfolding sized_of
  sized-told =
      pick-cases Told (eqb (m.st.counted + 1) 2) (pick (ltb 64 (count_of now)) (refuses 30 one) (wants (first_of (count_of now)) one)) one
      (λ t. pick-cases Told (ltb 64 (count_of now)) (refuses 30 one) (wants (first_of (count_of now)) one) (λ u e r. let z : ◌≡◌ {A = ℕ} 30 0 = r in absurd (omega arith)) (λ u e r. refl))
      (λ t e r. let n = eqb-false (m.st.counted + 1) 2 t in let two : 2 ≤ m.st.counted = let l = f.sound.least in omega (arith, e, n) in
      w.sized two h ∙ ap first_of (sym (number-set 2 0 m.contents m.st.counted x two)))

  sized-programs : (sized_of one now).programs ≡ 0
  unfolding sized_of
  sized-programs =
      let z = f.sound.early h in
      pick-cases (λ (st : Admission). st.programs ≡ 0) (eqb (m.st.counted + 1) 2) (pick (ltb 64 (count_of now)) (refuses 30 one) (wants (first_of (count_of now)) one)) one
      (λ t. pick-cases (λ (st : Admission). st.programs ≡ 0) (ltb 64 (count_of now)) (refuses 30 one) (wants (first_of (count_of now)) one) (λ u. z) (λ u. z))
      (λ t. z)

  none_named : (st : Admission) → st.programs ≡ 0 → Named st
  none_named st e p = absurd (omega arith)

  bodies-named : (st : Admission) → st.programs ≡ 0 → st.counted ≡ st.want → st.want ≡ first_of (count_of now) → (a : Answer ℕ) → Named (on_bodies st now a)
  bodies-named st e q r (given k) = λ p. rw (le-ltb st.counted st.want (omega arith)) (omega arith)
  bodies-named st e q r (refused k) = none_named (refuses k st) e

  opened-named : (st : Admission) → st.programs ≡ 0 → Told st → Named (opened_of st now)
  unfolding opened_of
  opened-named st e q =
      pick-cases Named (eqb st.counted st.want) (pick (eqb st.refusal 0) (on_bodies st now (contents_of now)) st) st
      (λ t. pick-cases Named (eqb st.refusal 0) (on_bodies st now (contents_of now)) st
      (λ u. bodies-named st e (eqb-true _ _ t) (q (eqb-true _ _ t) (eqb-true _ _ u)) (contents_of now))
      (λ u. none_named st e))
      (λ t. none_named st e)

module _ (x : ℕ) (m n : Mach) (f : Fit m) (g : Fit n) (w : Known m) (a : Alike m n) where
  contents-goes : m.st.counted < m.st.want → m.st.counted < 24577 → Goes m n (contents_byte x m) (contents_byte x n)
  unfolding contents_byte
  contents-goes h l =
      let k = m.st.counted in
      let c = set m.contents k x in
      let d = set n.contents n.st.counted x in
      let st = counts (k + 1) m.st in
      let s = opened_of (sized_of st c) c in
      let s' = opened_of (sized_of (counts (n.st.counted + 1) n.st) d) d in
      let o = mach s c m.body m.map m.verdicts in
      let p = mach s' d n.body n.map n.verdicts in
      let small = f.sound.want in
      let z : k + 1 ≡ suc k = omega arith in
      let came : take k m.contents ≡ take k n.contents = rw (lt-ltb k m.st.want h) at a.contents in
      let more : take (k + 1) c ≡ take (k + 1) d =
      rw z (set_more k x m.contents n.contents (omega (arith, f.contents)) (omega (arith, g.contents)) came)
      ∙ ap (λ (y : Admission). take (k + 1) (set n.contents y.counted x)) a.st in
      let lc : 514 ≤ length c = rw length-set f.contents in
      let ld : 514 ≤ length d = rw length-set g.contents in
      let counted : (sized_of st c).counted ≡ k + 1 = (sized-learnt st c).counted in
      let told = sized-told x m f w h in
      let same : s ≡ s' =
      ap (λ (y : Admission). opened_of y c) (sized-alike st c d (λ e. number-alike (k + 1) 2 c d 0 more (omega (arith, e))))
      ∙ opened-alike (sized_of st d) c d
      (subst (λ (y : Admission). y.counted ≡ y.want → y.refusal ≡ 0 → (count_of c ≡ count_of d) × (contents_of c ≡ contents_of d)) (sized-alike st c d (λ e. number-alike (k + 1) 2 c d 0 more (omega (arith, e))))
      (λ e r. let q : first_of (count_of c) ≡ k + 1 = sym (told e r) ∙ sym e ∙ counted in
      let two : 2 ≤ k + 1 = omega arith in
      let i = number-alike (k + 1) 2 c d 0 more two in
      (i, contents-alike (k + 1) c d two (omega arith) (omega arith) (omega arith) i more)))
      ∙ ap (λ (y : Admission). opened_of (sized_of (counts (y.counted + 1) y) d) d) a.st in
      let kept = all-learnt st c in
      let body : take s.have m.body ≡ take s.have n.body = subst (λ (i : ℕ). take i m.body ≡ take i n.body) (sym kept.have) a.body in
      let alike : take (came_of s) c ≡ take (came_of s) d = take_less (came_of s) (k + 1) c d (omega (arith, came-least s, kept.counted)) more in
      goes_after m n o p (settled o) (settled p)
      (record { st = same; contents = alike; body = body }, λ t. subst (λ (i : ℕ). SameVerdicts i m.verdicts n.verdicts) (sym kept.judged) t)
      (settled-goes o p (learnt-fit x m f _ _ h l refl refl)
      (learnt-fit x n g _ _ (subst (λ (y : Admission). y.counted < y.want) a.st h) (subst (λ (y : Admission). y.counted < 24577) a.st l) refl refl)
      (opened-named x m f w h (sized_of st c) (sized-programs x m f w h) told)
      (record { st = same; contents = alike; body = body }))

  -- once the contents are whole, they stay as they are
  module _ (t : m.st.want ≤ m.st.counted) where
    whole : take m.st.want m.contents ≡ take m.st.want n.contents
    whole = rw (le-ltb m.st.counted m.st.want t) at a.contents

    still-whole : (k : ℕ) → m.st.want ≤ k → take (pick (ltb k m.st.want) k m.st.want) m.contents ≡ take (pick (ltb k m.st.want) k m.st.want) n.contents
    still-whole k h = rw (le-ltb k m.st.want h) whole

    still-named : (k : ℕ) → m.st.want ≤ k → 0 < m.st.programs → 2 + 8 * m.st.programs ≤ pick (ltb k m.st.want) k m.st.want
    still-named k h p = rw (le-ltb k m.st.want h) (rw (le-ltb m.st.counted m.st.want t) at (w.named p))

    body-goes : m.st.counted < 24577 → m.st.have < 16384 → Goes m n (body_byte x m) (body_byte x n)
    unfolding body_byte
    body-goes l h =
        let grown : Admission → Admission = λ y. judges y.judged (y.have + 1) (counts (y.counted + 1) y) in
        let o = mach (grown m.st) m.contents (set m.body m.st.have x) m.map m.verdicts in
        let p = mach (grown n.st) n.contents (set n.body n.st.have x) n.map n.verdicts in
        let z : m.st.have + 1 ≡ suc m.st.have = omega arith in
        let body : take (m.st.have + 1) (set m.body m.st.have x) ≡ take (m.st.have + 1) (set n.body n.st.have x) =
        subst (λ (k : ℕ). take k (set m.body m.st.have x) ≡ take k (set n.body m.st.have x)) (sym z)
        (set_more m.st.have x m.body n.body (omega (arith, f.body)) (omega (arith, g.body)) a.body)
        ∙ ap (λ (y : Admission). take (m.st.have + 1) (set n.body y.have x)) a.st in
        let both : Alike o p = record { st = ap grown a.st; contents = still-whole (m.st.counted + 1) (omega arith); body = body } in
        goes_after m n o p (settled o) (settled p)
        (both, λ u. u)
        (settled-goes o p (grown-fit x m f t l h)
        (grown-fit x n g (subst (λ (y : Admission). y.want ≤ y.counted) a.st t) (subst (λ (y : Admission). y.counted < 24577) a.st l) (subst (λ (y : Admission). y.have < 16384) a.st h))
        (still-named (m.st.counted + 1) (omega arith))
        both)

    only : (k l : ℕ) → k ≡ l → m.st.want ≤ k → Goes m n (counted_as k m) (counted_as l n)
    only k l e h = (record { st = ap (λ (s : Admission). counts k s) a.st ∙ ap (λ (i : ℕ). counts i n.st) e; contents = still-whole k h; body = a.body }, λ u. u)

-- a byte, by the four tests
abbrev by_tests : ℕ → Mach → Bool → Bool → Bool → Bool → Mach
by_tests x m t u v w = pick t (pick u (contents_byte x m) (pick v (pick w (body_byte x m) (counted_as (m.st.counted + 1) m)) (counted_as (m.st.counted + 1) m))) (counted_as 24577 m)

abbrev by_numbers : ℕ → Mach → Admission → Mach
by_numbers x m s = by_tests x m (ltb s.counted 24576) (ltb s.counted s.want) (ltb s.judged s.programs) (ltb s.have 16384)

byte-goes : (x : ℕ) (m n : Mach) → Fit m → Fit n → Known m → Alike m n → Goes m n (byte_of x m) (byte_of x n)
unfolding byte_of
byte-goes x m n f g k a =
    subst (λ (s : Admission). Goes m n (by_numbers x m m.st) (by_numbers x n s)) a.st
    (by (ltb m.st.counted 24576) (ltb m.st.counted m.st.want) (ltb m.st.judged m.st.programs) (ltb m.st.have 16384) refl refl refl)
  where
    more : m.st.want ≤ m.st.counted → Goes m n (counted_as (m.st.counted + 1) m) (counted_as (n.st.counted + 1) n)
    more h = only x m n f g k a h _ _ (ap (λ (s : Admission). s.counted + 1) a.st) (omega arith)

    by : (t u v w : Bool) → ltb m.st.counted 24576 ≡ t → ltb m.st.counted m.st.want ≡ u → ltb m.st.have 16384 ≡ w → Goes m n (by_tests x m t u v w) (by_tests x n t u v w)
    by true true v w p q e = let z = ltb-true m.st.counted 24576 p in contents-goes x m n f g k a (ltb-true _ _ q) (omega arith)
    by true false true true p q e = let z = ltb-true m.st.counted 24576 p in body-goes x m n f g k a (ltb-false _ _ q) (omega arith) (ltb-true _ _ e)
    by true false true false p q e = more (ltb-false _ _ q)
    by true false false w p q e = more (ltb-false _ _ q)
    by false u v w p q e = let z = ltb-false m.st.counted 24576 p in let y = f.sound.want in only x m n f g k a (omega arith) 24577 24577 refl (omega arith)

chunk-goes : (c s : List ℕ) (m n : Mach) → Fit m → Fit n → Stands s m → Alike m n → Goes m n (chunk_of c m) (chunk_of c n)
chunk-goes [] s m n f g p a = goes m n a
chunk-goes (x ∷ c) s m n f g p a =
    let b = byte-goes x m n f g (known s m f p) a in
    goes_after m n (byte_of x m) (byte_of x n) (chunk_of c (byte_of x m)) (chunk_of c (byte_of x n)) b
    (chunk-goes c (s ++ (x ∷ [])) (byte_of x m) (byte_of x n) (byte-fit x m f) (byte-fit x n g) (stands-byte s x m f p) b.0)

-- of an admission that stands for the bytes that have come: another that holds the same holds the same after any chunk ..
pub chunk-alike : (c s : List ℕ) (m n : Mach) → Fit m → Fit n → Stands s m → Alike m n → Alike (chunk_of c m) (chunk_of c n)
chunk-alike c s m n f g p a = (chunk-goes c s m n f g p a).0

-- .. and the verdicts that they tell meanwhile are the same
pub chunk-told : (c s : List ℕ) (m n : Mach) → Fit m → Fit n → Stands s m → Alike m n → SameVerdicts m.st.judged m.verdicts n.verdicts → SameVerdicts (chunk_of c m).st.judged (chunk_of c m).verdicts (chunk_of c n).verdicts
chunk-told c s m n f g p a = (chunk-goes c s m n f g p a).1
