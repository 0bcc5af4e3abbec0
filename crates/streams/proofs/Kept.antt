-- What a byte leaves as it was, and how it is counted.
-- Assumes nothing.
use Prim.Native.Nat.{ℕ, zero, suc, ◌+◌, ◌-◌, ◌<◌}
use mathlib.Core.Path.{◌≡◌, refl, ◌∙◌}
use mathlib.Core.Bool.{Bool, true, false}
use mathlib.Core.List.{List, [], ◌∷◌}
use lib.ListN.{set}
use lib.Dec.{ltb, eqb}
use borrow.Author.Tests.{lt-ltb}
use Rattle.basis.specs.Pick.{pick}
use Rattle.basis.specs.Answer.{Answer, given, refused}
use Rattle.basis.proofs.Tests.{pick-cases}
use Rattle.pack.specs.Contents.{first_of}
use Rattle.pack.specs.Read.{count_of, contents_of}
use Rattle.admission.specs.Numbers.{counts, wants, refuses, judges}
use Rattle.admission.specs.Admission.{Mach, mach, counted_as, length_at, judge_of, settle_of, settled, sized_of, on_bodies, opened_of, contents_byte, body_byte, byte_of, chunk_of}
use Rattle.admission.specs.declared.Admission.{Admission}

-- as many bytes, and as open
pub record Same (a b : Admission) : Type 0 where
  pub counted : b.counted ≡ a.counted
  pub closed : b.closed ≡ a.closed

same : (a : Admission) → Same a a
same a = record { counted = refl; closed = refl }

after_same : (a b c : Admission) → Same a b → Same b c → Same a c
after_same a b c p q = record { counted = q.counted ∙ p.counted; closed = q.closed ∙ p.closed }

judge-same : (m : Mach) → Same m.st (judge_of m).st
unfolding judge_of
judge-same m = record { counted = refl; closed = refl }

settle-same : (k : ℕ) (m : Mach) → Same m.st (settle_of k m).st
settle-same zero m = same m.st
settle-same (suc k) m =
    pick-cases (λ (x : Mach). Same m.st x.st) (eqb m.st.have (length_at m.contents m.st.judged)) (settle_of k (judge_of m)) m
    (λ t. after_same m.st (judge_of m).st (settle_of k (judge_of m)).st (judge-same m) (settle-same k (judge_of m)))
    (λ t. same m.st)

settled_same : (m : Mach) → Same m.st (settled m).st
unfolding settled
settled_same m = settle-same (m.st.programs - m.st.judged) m

-- what the contents teach changes neither this, nor how many have their verdict, nor how many bytes of the next body have come
pub record Learnt (a b : Admission) : Type 0 where
  pub counted : b.counted ≡ a.counted
  pub closed : b.closed ≡ a.closed
  pub judged : b.judged ≡ a.judged
  pub have : b.have ≡ a.have

nothing-learnt : (a : Admission) → Learnt a a
nothing-learnt a = record { counted = refl; closed = refl; judged = refl; have = refl }

module _ (st : Admission) (c : List ℕ) where
  pub sized-learnt : Learnt st (sized_of st c)
  unfolding sized_of
  sized-learnt =
      pick-cases (Learnt st) (eqb st.counted 2) (pick (ltb 64 (count_of c)) (refuses 30 st) (wants (first_of (count_of c)) st)) st
      (λ t. pick-cases (Learnt st) (ltb 64 (count_of c)) (refuses 30 st) (wants (first_of (count_of c)) st)
      (λ u. record { counted = refl; closed = refl; judged = refl; have = refl })
      (λ u. record { counted = refl; closed = refl; judged = refl; have = refl }))
      (λ t. nothing-learnt st)

  bodies-learnt : (a : Answer ℕ) → Learnt st (on_bodies st c a)
  bodies-learnt (given e) = record { counted = refl; closed = refl; judged = refl; have = refl }
  bodies-learnt (refused n) = record { counted = refl; closed = refl; judged = refl; have = refl }

  opened-learnt : Learnt st (opened_of st c)
  unfolding opened_of
  opened-learnt =
      pick-cases (Learnt st) (eqb st.counted st.want) (pick (eqb st.refusal 0) (on_bodies st c (contents_of c)) st) st
      (λ t. pick-cases (Learnt st) (eqb st.refusal 0) (on_bodies st c (contents_of c)) st (λ u. bodies-learnt (contents_of c)) (λ u. nothing-learnt st))
      (λ t. nothing-learnt st)

pub all-learnt : (st : Admission) (c : List ℕ) → Learnt st (opened_of (sized_of st c) c)
all-learnt st c =
    let p = sized-learnt st c in
    let q = opened-learnt (sized_of st c) c in
    record { counted = q.counted ∙ p.counted; closed = q.closed ∙ p.closed; judged = q.judged ∙ p.judged; have = q.have ∙ p.have }

module _ (x : ℕ) (m : Mach) where
  abbrev one : Admission
  one = counts (m.st.counted + 1) m.st

  contents-same : Same one (contents_byte x m).st
  unfolding contents_byte
  contents-same =
      let c = set m.contents m.st.counted x in
      after_same one (opened_of (sized_of one c) c) _
      (let l = all-learnt one c in record { counted = l.counted; closed = l.closed })
      (settled_same (mach (opened_of (sized_of one c) c) c m.body m.map m.verdicts))

  body_same : Same one (body_byte x m).st
  unfolding body_byte
  body_same =
      let t = settled_same (mach (judges m.st.judged (m.st.have + 1) one) m.contents (set m.body m.st.have x) m.map m.verdicts) in
      record { counted = t.counted; closed = t.closed }

  -- a byte that a pack has room for
  pub byte-same : m.st.counted < 24576 → Same one (byte_of x m).st
  unfolding byte_of
  byte-same h = rw (lt-ltb _ _ h) (by (ltb m.st.counted m.st.want) (ltb m.st.judged m.st.programs) (ltb m.st.have 16384))
    where
      by : (u v w : Bool)
          → Same one (pick u (contents_byte x m) (pick v (pick w (body_byte x m) (counted_as (m.st.counted + 1) m)) (counted_as (m.st.counted + 1) m))).st
      by true v w = contents-same
      by false true true = body_same
      by false true false = same one
      by false false w = same one

  pub byte-live : (byte_of x m).st.closed ≡ m.st.closed
  unfolding byte_of
  byte-live = by (ltb m.st.counted 24576) (ltb m.st.counted m.st.want) (ltb m.st.judged m.st.programs) (ltb m.st.have 16384)
    where
      by : (t u v w : Bool)
          → (pick t (pick u (contents_byte x m) (pick v (pick w (body_byte x m) (counted_as (m.st.counted + 1) m)) (counted_as (m.st.counted + 1) m))) (counted_as 24577 m)).st.closed ≡ m.st.closed
      by true true v w = contents-same.closed
      by true false true true = body_same.closed
      by true false true false = refl
      by true false false w = refl
      by false u v w = refl

pub chunk-live : (c : List ℕ) (m : Mach) → (chunk_of c m).st.closed ≡ m.st.closed
chunk-live [] m = refl
chunk-live (x ∷ c) m = chunk-live c (byte_of x m) ∙ byte-live x m
