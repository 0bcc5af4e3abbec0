-- Numbers and memory that are fit stay so, whatever byte comes.
-- Assumes nothing.
use Prim.Native.Nat.{ℕ, zero, suc, ◌+◌, ◌-◌, ◌≤◌, ◌<◌}
use native.Mathlib.Omega.{arith}
use mathlib.Core.Path.{◌≡◌, refl, sym, ◌∙◌}
use mathlib.Core.Logic.{inl, inr, ⊎_elim}
use mathlib.Core.Bool.{Bool, true, false}
use mathlib.Core.List.{List, [], ◌∷◌}
use lib.Dec.{ltb, eqb}
use lib.ListN.{length, take, set, length-set, length-map, length-replicate}
use lib.Seq.{length_front, length-sets}
use borrow.Author.Tests.{ltb-true, ltb-false, eqb-true, eqb-false}
use Rattle.basis.specs.Pick.{pick}
use Rattle.basis.specs.Answer.{Answer, given, refused}
use Rattle.basis.proofs.Tests.{pick-cases, test, refused-given, refused-one}
use Rattle.paths.specs.Walk.{Walked, accepted, refused as broken, cell_of}
use Rattle.paths.proofs.Walks.{final}
use Rattle.look.specs.Look.{look_of}
use Rattle.meeting.specs.Clash.{two_depths}
use Rattle.verifier.specs.Verify.{nameless, walk_of, on_walk, verify_of}
use Rattle.pack.specs.Contents.{first_of, refusal_of, end_of}
use Rattle.pack.specs.Read.{count_of, contents_of, entries_of}
use Rattle.pack.specs.declared.Entry.{Entry}
use Rattle.pack.proofs.Sounds.{ended-whole}
use Rattle.admission.specs.Numbers.{counts, wants, judges, refuses}
use Rattle.admission.specs.Admission.{Mach, mach, counted_as, length_at, verified_of, judge_of, settle_of, settled, sized_of, on_bodies, opened_of, contents_byte, body_byte, byte_of, chunk_of}
use Rattle.admission.specs.Fit.{Sound, Fit}
use Rattle.admission.specs.declared.Admission.{Admission}

-- the verifier keeps the length of the map
pub verified-length : (p : List ℕ) (cells : ℕ) (d : List ℕ) → length (verify_of p cells d).1 ≡ length d
unfolding verify_of
verified-length p cells d = by (ltb 16384 (length p)) (ltb 1024 cells) (eqb (length d) (length p)) refl
  where
    walked : (w : Walked) → walk_of p cells ≡ w → length d ≡ length p → length (on_walk (length p) w).1 ≡ length d
    walked (accepted ms) e q = length-map ms cell_of ∙ (final two_depths (look_of p cells) (length p) ms e).1 ∙ sym q
    walked (broken k a) e q = length-replicate (length p) 65535 ∙ sym q

    by : (t u v : Bool) → eqb (length d) (length p) ≡ v
        → length (pick t (nameless 20, d) (pick u (nameless 22, d) (pick v (on_walk (length p) (walk_of p cells)) (nameless 23, d)))).1 ≡ length d
    by true u v e = refl
    by false true v e = refl
    by false false true e = walked (walk_of p cells) refl (eqb-true _ _ e)
    by false false false e = refl

-- a refusal of contents is one of a pack's
abbrev Packs : ℕ → Type 0
Packs k = (30 ≤ k) × (k ≤ 35)

refusal-packs : (least at : ℕ) (e : Entry) → (refusal_of least at e ≡ 0 → ⊥) → Packs (refusal_of least at e)
unfolding refusal_of
refusal-packs least at e = by (ltb e.tag least) (ltb 1024 e.cells) (ltb 16384 e.length) (eqb e.offset at)
  where
    by : (t u v w : Bool) → (◌≡◌ {A = ℕ} (pick t 32 (pick u 35 (pick v 35 (pick w 0 33)))) 0 → ⊥) → Packs (pick t 32 (pick u 35 (pick v 35 (pick w 0 33))))
    by true u v w n = (omega arith, omega arith)
    by false true v w n = (omega arith, omega arith)
    by false false true w n = (omega arith, omega arith)
    by false false false true n = absurd (n refl)
    by false false false false n = (omega arith, omega arith)

end-packs : (least at : ℕ) (es : List Entry) (k : ℕ) → end_of least at es ≡ refused k → Packs k
end-packs least at [] k e = absurd (refused-given k at (sym e))
end-packs least at (x ∷ es) k e =
    ⊎_elim
    (λ t. end-packs (x.tag + 1) (at + x.length) es k (rw t at e))
    (λ t. let q : refusal_of least at x ≡ k = refused-one _ _ (rw t at e) in
    rw (← q) (refusal-packs least at x (eqb-false _ _ t)))
    (test (eqb (refusal_of least at x) 0))

pub contents-packs : (s : List ℕ) (k : ℕ) → contents_of s ≡ refused k → Packs k
unfolding contents_of
contents-packs s k e = by (ltb (length s) 2) (ltb 64 (count_of s)) (ltb (length s) (first_of (count_of s))) e
  where
    thirty : ◌≡◌ {A = Answer ℕ} (refused 30) (refused k) → Packs k
    thirty q = let z : 30 ≡ k = refused-one 30 k q in (omega arith, omega arith)

    by : (t u v : Bool) → pick t (refused 30) (pick u (refused 30) (pick v (refused 30) (end_of 0 (first_of (count_of s)) (entries_of s)))) ≡ refused k → Packs k
    by true u v q = thirty q
    by false true v q = thirty q
    by false false true q = thirty q
    by false false false q = end-packs 0 (first_of (count_of s)) (entries_of s) k q

-- the numbers
module _ (st : Admission) (s : Sound st) where
  -- a program more has its verdict
  judged-sound : st.judged < st.programs → Sound (judges (st.judged + 1) 0 st)
  judged-sound h = record {
    counted = s.counted;
    least = s.least;
    want = s.want;
    programs = s.programs;
    judged = omega arith;
    have = omega arith;
    closed = s.closed;
    early = s.early;
    told = s.told;
  }

  -- a byte that is only counted, once the contents are whole
  pub counted-sound : (k : ℕ) → k ≤ 24577 → (k < st.want → st.counted < st.want) → Sound (counts k st)
  counted-sound k h w = record {
    counted = h;
    least = s.least;
    want = s.want;
    programs = s.programs;
    judged = s.judged;
    have = s.have;
    closed = s.closed;
    early = λ l. s.early (w l);
    told = s.told;
  }

  pub gathered-sound : (k : ℕ) → k ≤ 16384 → Sound (judges st.judged k st)
  gathered-sound k h = record {
    counted = s.counted;
    least = s.least;
    want = s.want;
    programs = s.programs;
    judged = s.judged;
    have = h;
    closed = s.closed;
    early = s.early;
    told = s.told;
  }

  -- before the contents are whole there are no programs
  module _ (none : st.programs ≡ 0) where
    refused-sound : (k : ℕ) → Packs k → Sound (refuses k st)
    refused-sound k p = record {
      counted = s.counted;
      least = s.least;
      want = s.want;
      programs = s.programs;
      judged = s.judged;
      have = s.have;
      closed = s.closed;
      early = s.early;
      told = inr (none, p.0, p.1);
    }

    wanted-sound : (k : ℕ) → 2 ≤ k → k ≤ 514 → Sound (wants k st)
    wanted-sound k l h = record {
      counted = s.counted;
      least = l;
      want = h;
      programs = s.programs;
      judged = s.judged;
      have = s.have;
      closed = s.closed;
      early = λ u. none;
      told = s.told;
    }

    pub sized-sound : (c : List ℕ) → Sound (sized_of st c) × ((sized_of st c).programs ≡ 0)
    unfolding sized_of
    sized-sound c =
        pick-cases (λ (x : Admission). Sound x × (x.programs ≡ 0)) (eqb st.counted 2) (pick (ltb 64 (count_of c)) (refuses 30 st) (wants (first_of (count_of c)) st)) st
        (λ h. pick-cases (λ (x : Admission). Sound x × (x.programs ≡ 0)) (ltb 64 (count_of c)) (refuses 30 st) (wants (first_of (count_of c)) st)
        (λ g. (refused-sound 30 (omega arith, omega arith), none))
        (λ g. let z = ltb-false 64 (count_of c) g in (wanted-sound (first_of (count_of c)) (omega arith) (omega arith), none)))
        (λ h. (s, none))

    bodies-sound : (c : List ℕ) (a : Answer ℕ) → contents_of c ≡ a → st.counted ≡ st.want → st.refusal ≡ 0 → Sound (on_bodies st c a)
    bodies-sound c (given e) h w r = record {
      counted = s.counted;
      least = s.least;
      want = s.want;
      programs = (ended-whole c e h).count;
      judged = let j = s.judged in omega arith;
      have = s.have;
      closed = s.closed;
      early = λ u. absurd (omega arith);
      told = inl r;
    }
    bodies-sound c (refused n) h w r = refused-sound n (contents-packs c n h)

    pub opened-sound : (c : List ℕ) → Sound (opened_of st c)
    unfolding opened_of
    opened-sound c =
        pick-cases Sound (eqb st.counted st.want) (pick (eqb st.refusal 0) (on_bodies st c (contents_of c)) st) st
        (λ h. pick-cases Sound (eqb st.refusal 0) (on_bodies st c (contents_of c)) st (λ g. bodies-sound c (contents_of c) refl (eqb-true _ _ h) (eqb-true _ _ g)) (λ g. s))
        (λ h. s)

-- the numbers and the memory
pub judge-fit : (m : Mach) → Fit m → m.st.judged < m.st.programs → Fit (judge_of m)
unfolding judge_of
judge-fit m f h =
    record {
      sound = judged-sound m.st f.sound h;
      contents = f.contents;
      body = f.body;
      map = rw (length_front m.map (verified_of m).1 m.st.have (verified-length _ _ (take m.st.have m.map))) f.map;
      verdicts = rw length-sets f.verdicts;
    }

settle-fit : (k : ℕ) (m : Mach) → Fit m → k ≡ m.st.programs - m.st.judged → Fit (settle_of k m)
unfolding judge_of
settle-fit zero m f h = f
settle-fit (suc k) m f h =
    pick-cases Fit (eqb m.st.have (length_at m.contents m.st.judged)) (settle_of k (judge_of m)) m
    (λ t. settle-fit k (judge_of m) (judge-fit m f (omega arith)) (omega arith))
    (λ t. f)

pub settled-fit : (m : Mach) → Fit m → Fit (settled m)
unfolding settled
settled-fit m f = settle-fit (m.st.programs - m.st.judged) m f refl

module _ (x : ℕ) (m : Mach) (f : Fit m) where
  pub learnt-fit : (s t : Admission) → m.st.counted < m.st.want → m.st.counted < 24577
      → s ≡ sized_of (counts (m.st.counted + 1) m.st) (set m.contents m.st.counted x) → t ≡ opened_of s (set m.contents m.st.counted x)
      → Fit (mach t (set m.contents m.st.counted x) m.body m.map m.verdicts)
  learnt-fit s t h l p q =
      let c = set m.contents m.st.counted x in
      let none = f.sound.early h in
      let one = counted-sound m.st f.sound (m.st.counted + 1) (omega arith) (λ u. h) in
      let two = sized-sound (counts (m.st.counted + 1) m.st) one none c in
      let three = opened-sound (sized_of (counts (m.st.counted + 1) m.st) c) two.0 two.1 c in
      record {
        sound = rw (q, p) three;
        contents = rw length-set f.contents;
        body = f.body;
        map = f.map;
        verdicts = f.verdicts;
      }

  contents-fit : m.st.counted < m.st.want → m.st.counted < 24577 → Fit (contents_byte x m)
  unfolding contents_byte
  contents-fit h l = settled-fit _ (learnt-fit _ _ h l refl refl)

  module _ (told : m.st.want ≤ m.st.counted) (small : m.st.counted < 24577) where
    pub grown-fit : m.st.have < 16384 → Fit (mach (judges m.st.judged (m.st.have + 1) (counts (m.st.counted + 1) m.st)) m.contents (set m.body m.st.have x) m.map m.verdicts)
    grown-fit h =
        record {
          sound = gathered-sound _ (counted-sound m.st f.sound (m.st.counted + 1) (omega arith) (λ u. absurd (omega arith))) (m.st.have + 1) (omega arith);
          contents = f.contents;
          body = rw length-set f.body;
          map = f.map;
          verdicts = f.verdicts;
        }

    body-fit : m.st.have < 16384 → Fit (body_byte x m)
    unfolding body_byte
    body-fit h = settled-fit _ (grown-fit h)

  counted-fit : (k : ℕ) → k ≤ 24577 → (k < m.st.want → m.st.counted < m.st.want) → Fit (counted_as k m)
  counted-fit k h w = record { sound = counted-sound m.st f.sound k h w; contents = f.contents; body = f.body; map = f.map; verdicts = f.verdicts }

pub byte-fit : (x : ℕ) (m : Mach) → Fit m → Fit (byte_of x m)
unfolding byte_of
byte-fit x m f = by (ltb m.st.counted 24576) (ltb m.st.counted m.st.want) (ltb m.st.judged m.st.programs) (ltb m.st.have 16384) refl refl refl
  where
    only : m.st.counted < 24576 → m.st.want ≤ m.st.counted → Fit (counted_as (m.st.counted + 1) m)
    only h l = counted-fit x m f (m.st.counted + 1) (omega arith) (λ u. absurd (omega arith))

    by : (t u v w : Bool) → ltb m.st.counted 24576 ≡ t → ltb m.st.counted m.st.want ≡ u → ltb m.st.have 16384 ≡ w
        → Fit (pick t (pick u (contents_byte x m) (pick v (pick w (body_byte x m) (counted_as (m.st.counted + 1) m)) (counted_as (m.st.counted + 1) m))) (counted_as 24577 m))
    by true true v w p q e = let z = ltb-true m.st.counted 24576 p in contents-fit x m f (ltb-true _ _ q) (omega arith)
    by true false true true p q e = let z = ltb-true m.st.counted 24576 p in body-fit x m f (ltb-false _ _ q) (omega arith) (ltb-true _ _ e)
    by true false true false p q e = only (ltb-true _ _ p) (ltb-false _ _ q)
    by true false false w p q e = only (ltb-true _ _ p) (ltb-false _ _ q)
    by false u v w p q e = let z = f.sound.want in counted-fit x m f 24577 (omega arith) (λ l. absurd (omega arith))

pub chunk-fit : (xs : List ℕ) (m : Mach) → Fit m → Fit (chunk_of xs m)
chunk-fit [] m f = f
chunk-fit (x ∷ xs) m f = chunk-fit xs (byte_of x m) (byte-fit x m f)
