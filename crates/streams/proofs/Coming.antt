-- A byte takes an admission that stands for some bytes to one that stands for these and it.
-- Assumes nothing.
use Prim.Native.Nat.{ℕ, suc, ◌+◌, ◌-◌, ◌*◌, ◌≤◌, ◌<◌}
use native.Mathlib.Omega.{arith}
use mathlib.Core.Path.{◌≡◌, refl, sym, ap, ◌∙◌, subst}
use mathlib.Core.Logic.{⊎_elim}
use mathlib.Core.List.{List, [], ◌∷◌, ◌++◌, append-nil}
use lib.Dec.{ltb}
use lib.ListN.{length, take, drop, set, length-append, take-append-drop}
use lib.Seq.{take_all, take-length, drop-length, append_snoc, take-append-le, drop-append-le, take-suc-set}
use borrow.Author.Tests.{lt-ltb, le-ltb, eq-eqb, ne_eqb, ltb-true, ltb-false}
use Rattle.basis.specs.Answer.{Answer, given, refused}
use Rattle.basis.proofs.Tests.{same?, test}
use Rattle.pack.specs.Contents.{first_of}
use Rattle.pack.specs.Read.{count_of, contents_of}
use Rattle.pack.proofs.Sounds.{Whole, whole-walk}
use Rattle.admission.specs.Numbers.{start_of, counts, wants, refuses, opens, judges}
use Rattle.admission.specs.Fit.{Fit}
use Rattle.admission.specs.Admission.{Mach, mach, counted_as, settled, sized_of, on_bodies, opened_of, byte_of, chunk_of}
use Rattle.admission.specs.declared.Admission.{Admission}
use Rattle.admission.proofs.Fits.{contents-packs, learnt-fit, grown-fit, byte-fit}
use Rattle.arrival.proofs.Bytes.{byte-over, byte-contents, byte_past, byte-body}
use Rattle.streams.specs.Told.{entry_of}
use Rattle.streams.specs.Stands.{want_of, Done, Cut, Bad, Ready, Short, Part, cut, bad, good, Stands, over, some}
use Rattle.rulings.proofs.Prefix.{count-prefix, contents-prefix, contents-many, entry-prefix, entries-prefix, judged-prefix, number-alike}
use Rattle.settling.proofs.Settles.{settled-none}
use Rattle.streams.proofs.Judging.{next-is, settled-good}
use Rattle.streams.proofs.Kept.{byte-same}

-- a verdict that is there stays right
pub done-prefix : (s t cells : List ℕ) (j : ℕ) → 10 + 8 * j ≤ length s → Done s cells j → Done (s ++ t) cells j
done-prefix s t cells j l d =
    let e = entry-prefix s t (2 + 8 * j) (omega arith) in
    record {
      fits = rw (e, length-append s t) (omega (arith, d.fits));
      said = d.said ∙ rw (e, judged-prefix s t (entry_of s j) d.fits);
      coded = d.coded ∙ rw (e, judged-prefix s t (entry_of s j) d.fits);
    }

-- good contents: the bytes that came are more by one
module _ (s : List ℕ) (x n : ℕ) (m : Mach) (r : Ready s n m) where
  abbrev s' : List ℕ
  s' = s ++ (x ∷ [])

  whole_is : Whole s
  whole_is = let i = r.is in record { head = omega (arith, r.room); count = omega (arith, r.few); room = rw i r.room }

  grows : (k have : ℕ) (body : List ℕ) → (m.st.judged < n → r.at + have ≡ length s + 1) → (m.st.judged < n → take have body ≡ drop r.at s') → (m.st.judged < n → have ≤ (entry_of s m.st.judged).length) → (n ≤ m.st.judged → have ≡ 0)
      → Ready s' n (mach (judges m.st.judged have (counts k m.st)) m.contents body m.map m.verdicts)
  grows k have body p b w z =
      let l = length-append s (x ∷ []) in
      let g = r.room in
      let j = r.judged in
      record {
        is = count-prefix s (x ∷ []) (omega arith) ∙ r.is;
        few = r.few;
        room = omega arith;
        want = r.want;
        contents = r.contents ∙ sym (take-append-le (first_of n) s (x ∷ []) g);
        ends = contents-prefix s (x ∷ []) whole_is ∙ r.ends;
        programs = r.programs;
        judged = j;
        refusal = r.refusal;
        done = λ i h. done-prefix s (x ∷ []) m.verdicts i (omega arith) (r.done i h);
        least = r.least;
        at = r.at;
        rest = rw (entries-prefix s (x ∷ []) (2 + 8 * m.st.judged) (n - m.st.judged) (omega arith)) r.rest;
        reached = omega (arith, r.reached);
        place = λ h. p h ∙ sym l;
        body = b;
        within = λ h. rw (entry-prefix s (x ∷ []) (2 + 8 * m.st.judged) (omega arith)) (w h);
        idle = z;
      }

  module _ (f : Fit m) (c : m.st.counted ≡ length s) (small : length s < 24576) (h : Short s n m) where
    good_more : m.st.judged < n → Part s' (byte_of x m)
    good_more u =
        let p = r.place u in
        let q = h u in
        let t = (next-is s n m r u).passed.length in
        let b : m.st.have < 16384 = omega arith in
        let w = r.want in
        let k = r.programs in
        let e = r.body u in
        let body' = set m.body m.st.have x in
        let z : m.st.have + 1 ≡ suc m.st.have = omega arith in
        let grown : take (m.st.have + 1) body' ≡ drop r.at s' =
        rw z (take-suc-set m.body m.st.have x (omega (arith, f.body)) ∙ ap (λ (y : List ℕ). y ++ (x ∷ [])) e ∙ sym (drop-append-le r.at s (x ∷ []) r.reached)) in
        let m' = mach (judges m.st.judged (m.st.have + 1) (counts (m.st.counted + 1) m.st)) m.contents body' m.map m.verdicts in
        let y = grows (m.st.counted + 1) (m.st.have + 1) body' (λ v. omega arith) (λ v. grown) (λ v. omega arith) (λ v. absurd (omega arith)) in
        subst (Part s')
        (byte-body x m (omega arith) (omega (arith, r.room)) (omega arith) (settled m') b refl)
        (settled-good s' n m' (grown-fit x m f (let o = r.room in omega arith) (omega arith) b) y)

    good-past : n ≤ m.st.judged → Part s' (byte_of x m)
    good-past u =
        let w = r.want in
        let k = r.programs in
        let y = grows (m.st.counted + 1) m.st.have m.body (λ v. absurd (omega arith)) (λ v. absurd (omega arith)) (λ v. absurd (omega arith)) r.idle in
        subst (Part s')
        (byte_past x m (omega arith) (omega (arith, r.room)) (omega arith))
        (good n y (λ v. absurd (omega arith)))

    pub good-byte : Part s' (byte_of x m)
    good-byte = ⊎_elim (λ t. good_more (ltb-true _ _ t)) (λ t. good-past (ltb-false _ _ t)) (test (ltb m.st.judged n))

-- refused contents stay refused
pub bad-byte : (s : List ℕ) (x : ℕ) (m : Mach) → m.st.counted ≡ length s → length s < 24576 → Bad s m → Part (s ++ (x ∷ [])) (byte_of x m)
bad-byte s x m c small b =
    let l = length-append s (x ∷ []) in
    let w = b.want in
    let p = b.programs in
    subst (Part (s ++ (x ∷ [])))
    (byte_past x m (omega arith) (omega arith) (omega arith))
    (bad
    (record {
      nonzero = b.nonzero;
      want = omega arith;
      contents = b.contents ∙ sym (take-append-le m.st.want s (x ∷ []) w);
      programs = b.programs;
      judged = b.judged;
      have = b.have;
      always = λ t. rw append_snoc (b.always (x ∷ t));
    }))

-- the contents have grown by a byte, and their length is known as far as the bytes tell it
module _ (s c : List ℕ) (st : Admission) (b mm v : List ℕ) (counted : st.counted ≡ length s) (want : st.want ≡ want_of s) (upto : length s ≤ st.want)
    (few : 2 ≤ length s → count_of s ≤ 64) (alike : take (length s) c ≡ s) (programs : st.programs ≡ 0) (judged : st.judged ≡ 0) (have : st.have ≡ 0) (refusal : st.refusal ≡ 0)
    (fit : Fit (mach (opened_of st c) c b mm v)) where
  abbrev m₀ : Mach
  m₀ = mach st c b mm v

  still : length s < st.want → Part s (settled (mach (opened_of st c) c b mm v))
  unfolding opened_of
  still h =
      let e : opened_of st c ≡ st = rw (ne_eqb st.counted st.want (λ q. omega (arith, q))) in
      rw e
      (rw (settled-none m₀ programs)
      (cut (record { want = want; less = h; few = few; contents = alike; programs = programs; judged = judged; have = have; refusal = refusal })))

  module _ (h : length s ≡ st.want) where
    two : 2 ≤ length s
    two =
        ⊎_elim
        (λ t. let w = rw t at want in let z = ltb-true (length s) 2 t in absurd (omega arith))
        (λ t. ltb-false (length s) 2 t)
        (test (ltb (length s) 2))

    first : length s ≡ first_of (count_of s)
    first = h ∙ want ∙ rw (le-ltb (length s) 2 two)

    all : Whole s
    all = record { head = two; count = few two; room = let z = first in omega arith }

    split : c ≡ s ++ drop (length s) c
    split = sym (take-append-drop (length s) c) ∙ ap (λ (y : List ℕ). y ++ drop (length s) c) alike

    contents-is : contents_of c ≡ contents_of s
    contents-is = ap contents_of split ∙ contents-prefix s (drop (length s) c) all

    count-is : count_of c ≡ count_of s
    count-is = ap (λ (y : List ℕ). count_of y) split ∙ count-prefix s (drop (length s) c) two

    opened-is : opened_of st c ≡ on_bodies st c (contents_of s)
    unfolding opened_of
    opened-is = rw (eq-eqb st.counted st.want (counted ∙ h), eq-eqb st.refusal 0 refusal, contents-is)

    ready : (e : ℕ) → contents_of s ≡ given e → Ready s (count_of s) (mach (opens (count_of c) e st) c b mm v)
    ready e q =
        let z = first in
        let k : 2 + 8 * st.judged ≡ 2 = omega arith in
        let l : count_of s - st.judged ≡ count_of s = omega arith in
        record {
          is = refl;
          few = few two;
          room = omega arith;
          want = sym h ∙ first;
          contents = rw (← z) (alike ∙ sym (take-length s));
          ends = q;
          programs = count-is;
          judged = omega arith;
          refusal = refusal;
          done = λ j u. absurd (omega arith);
          least = 0;
          at = first_of (count_of s);
          rest = rw (k, l) (sym (whole-walk s all) ∙ q);
          reached = omega arith;
          place = λ u. omega arith;
          body = λ u. rw (have, ← z) (sym (drop-length s));
          within = λ u. omega arith;
          idle = λ u. have;
        }

    judge-contents : (a : Answer ℕ) → contents_of s ≡ a → Part s (settled (mach (on_bodies st c a) c b mm v))
    judge-contents (given e) q = settled-good s (count_of s) (mach (opens (count_of c) e st) c b mm v) (subst (λ (y : Admission). Fit (mach y c b mm v)) (opened-is ∙ ap (on_bodies st c) q) fit) (ready e q)
    judge-contents (refused k) q =
        rw (settled-none (mach (refuses k st) c b mm v) programs)
        (bad
        (record {
          nonzero = λ z. omega (arith, z, (contents-packs s k q).0);
          want = omega arith;
          contents = rw (← h) (alike ∙ sym (take-length s));
          programs = programs;
          judged = judged;
          have = have;
          always = λ t. contents-prefix s t all ∙ q;
        }))

    whole_part : Part s (settled (mach (opened_of st c) c b mm v))
    whole_part = rw opened-is (judge-contents (contents_of s) refl)

  pub opened-part : Part s (settled (mach (opened_of st c) c b mm v))
  opened-part = ⊎_elim (λ e. whole_part e) (λ e. still (omega (arith, e))) (same? (length s) st.want)

-- a byte of the contents
module _ (s : List ℕ) (x : ℕ) (m : Mach) (f : Fit m) (c : m.st.counted ≡ length s) (small : length s < 24576) (k : Cut s m) where
  abbrev t : List ℕ
  t = s ++ (x ∷ [])

  abbrev kept : List ℕ
  kept = set m.contents m.st.counted x

  abbrev one : Admission
  one = counts (m.st.counted + 1) m.st

  more : length t ≡ length s + 1
  more = length-append s (x ∷ [])

  alike : take (length t) kept ≡ t
  alike =
      let z : length t ≡ suc (length s) = let l = more in omega arith in
      let i : length s < length m.contents = let u = k.less in omega (arith, f.sound.want, f.contents) in
      rw (z, c) (take-suc-set m.contents (length s) x i ∙ ap (λ (y : List ℕ). y ++ (x ∷ [])) k.contents)

  stored : m.st.counted + 1 ≡ length t
  stored = let l = more in omega arith

  -- how the admission goes on, by what it now knows of the contents' length
  comes : (st : Admission) → st ≡ sized_of one kept → Part t (settled (mach (opened_of st kept) kept m.body m.map m.verdicts)) → Part t (byte_of x m)
  comes st e p =
      let u = k.less in
      subst (Part t) (byte-contents x m (omega arith) (settled (mach (opened_of st kept) kept m.body m.map m.verdicts)) st (opened_of st kept) (omega arith) e refl refl) p

  goes : (st : Admission) → st ≡ sized_of one kept → st.counted ≡ length t → st.want ≡ want_of t → length t ≤ st.want → (2 ≤ length t → count_of t ≤ 64)
      → st.programs ≡ 0 → st.judged ≡ 0 → st.have ≡ 0 → st.refusal ≡ 0 → Part t (byte_of x m)
  goes st e p q r u w y z n = comes st e (opened-part t kept st m.body m.map m.verdicts p q r u alike w y z n (learnt-fit x m f st (opened_of st kept) (let l = k.less in omega arith) (omega arith) e refl))

  module _ (second : length s ≡ 1) where
    at-two : 2 ≤ length t
    at-two = let l = more in omega arith

    counted_is : count_of kept ≡ count_of t
    counted_is = number-alike (length t) 2 kept t 0 (alike ∙ sym (take-length t)) (let z = at-two in omega arith)

    is-two : one.counted ≡ 2
    is-two = let l = more in omega arith

    want-two : m.st.want ≡ 2
    want-two = k.want ∙ rw (lt-ltb (length s) 2 (let z : length s < 2 = omega arith in z))

    many : 64 < count_of t → Part t (byte_of x m)
    unfolding sized_of opened_of
    many h =
        let e : refuses 30 one ≡ sized_of one kept = rw (eq-eqb (m.st.counted + 1) 2 is-two, counted_is, lt-ltb 64 (count_of t) h) in
        let o : opened_of (refuses 30 one) kept ≡ refuses 30 one = rw (eq-eqb (m.st.counted + 1) m.st.want (is-two ∙ sym want-two)) in
        let w = want-two in
        comes (refuses 30 one) e
        (rw o
        (rw (settled-none (mach (refuses 30 one) kept m.body m.map m.verdicts) k.programs)
        (bad
        (record {
          nonzero = λ z. let y : ◌≡◌ {A = ℕ} 30 0 = z in omega arith;
          want = let l = at-two in omega arith;
          contents = let z : m.st.want ≡ length t = w ∙ sym is-two ∙ stored in rw z (alike ∙ sym (take-length t));
          programs = k.programs;
          judged = k.judged;
          have = k.have;
          always = λ u. contents-many t u at-two h;
        }))))

    not-many : count_of t ≤ 64 → Part t (byte_of x m)
    unfolding sized_of
    not-many h =
        let e : wants (first_of (count_of kept)) one ≡ sized_of one kept = rw (eq-eqb (m.st.counted + 1) 2 is-two, counted_is, le-ltb 64 (count_of t) h) in
        goes (wants (first_of (count_of kept)) one) e stored (rw (counted_is, le-ltb (length t) 2 at-two)) (let l = more in omega arith) (λ u. h) k.programs k.judged k.have k.refusal

    pub second-byte : Part t (byte_of x m)
    second-byte = ⊎_elim (λ h. many (ltb-true _ _ h)) (λ h. not-many (ltb-false _ _ h)) (test (ltb 64 (count_of t)))

  module _ (other : length s ≡ 1 → ⊥) where
    same_size : one ≡ sized_of one kept
    unfolding sized_of
    same_size = rw (ne_eqb (m.st.counted + 1) 2 (λ e. other (let z : length s ≡ 1 = omega (arith, e) in z)))

    same-want : m.st.want ≡ want_of t
    same-want =
        ⊎_elim
        (λ h. let a = ltb-true (length s) 2 h in let l = more in let b : length t < 2 = let w : length s ≡ 0 = omega (arith, other) in omega arith in
        k.want ∙ rw (h, lt-ltb (length t) 2 b))
        (λ h. let a = ltb-false (length s) 2 h in let l = more in let b : 2 ≤ length t = omega arith in
        k.want ∙ rw (h, le-ltb (length t) 2 b, count-prefix s (x ∷ []) a))
        (test (ltb (length s) 2))

    pub other_byte : Part t (byte_of x m)
    other_byte =
        goes one same_size stored same-want (let l = more in let u = k.less in omega arith)
        (λ u. let l = more in let a : 2 ≤ length s = omega (arith, other) in rw (count-prefix s (x ∷ []) a) (k.few a))
        k.programs k.judged k.have k.refusal

  pub cut-byte : Part t (byte_of x m)
  cut-byte = ⊎_elim (λ e. second-byte e) (λ e. other_byte e) (same? (length s) 1)

-- a byte more
part-byte : (s : List ℕ) (x : ℕ) (m : Mach) → Fit m → m.st.counted ≡ length s → length s < 24576 → Part s m → Part (s ++ (x ∷ [])) (byte_of x m)
part-byte s x m f c l (cut k) = cut-byte s x m f c l k
part-byte s x m f c l (bad b) = bad-byte s x m c l b
part-byte s x m f c l (good n r h) = good-byte s x n m r f c l h

-- what is only counted leaves the rest as it was
part-counted : (s : List ℕ) (m : Mach) (k : ℕ) → Part s m → Part s (counted_as k m)
part-counted s m k (cut c) =
    cut (record { want = c.want; less = c.less; few = c.few; contents = c.contents; programs = c.programs; judged = c.judged; have = c.have; refusal = c.refusal })
part-counted s m k (bad b) = bad (record { nonzero = b.nonzero; want = b.want; contents = b.contents; programs = b.programs; judged = b.judged; have = b.have; always = b.always })
part-counted s m k (good n r h) =
    good n
    (record {
      is = r.is;
      few = r.few;
      room = r.room;
      want = r.want;
      contents = r.contents;
      ends = r.ends;
      programs = r.programs;
      judged = r.judged;
      refusal = r.refusal;
      done = r.done;
      least = r.least;
      at = r.at;
      rest = r.rest;
      reached = r.reached;
      place = r.place;
      body = r.body;
      within = r.within;
      idle = r.idle;
    })
    h

past-byte : (s : List ℕ) (x : ℕ) (m : Mach) → 24576 ≤ m.st.counted → 24576 ≤ length s → Part (take 24576 s) m → Stands (s ++ (x ∷ [])) (byte_of x m)
past-byte s x m c l p =
    let k = length-append s (x ∷ []) in
    let z : take 24576 (s ++ (x ∷ [])) ≡ take 24576 s = take-append-le 24576 s (x ∷ []) l in
    subst (Stands (s ++ (x ∷ []))) (byte-over x m c)
    (over (omega arith) refl (subst (λ (y : List ℕ). Part y (counted_as 24577 m)) (sym z) (part-counted (take 24576 s) m 24577 p)))

pub stands-byte : (s : List ℕ) (x : ℕ) (m : Mach) → Fit m → Stands s m → Stands (s ++ (x ∷ [])) (byte_of x m)
stands-byte s x m f (over l c p) = past-byte s x m (omega arith) (omega arith) p
stands-byte s x m f (some l c p) =
    ⊎_elim
    (λ h. let z = ltb-true (length s) 24576 h in let k = length-append s (x ∷ []) in
    some (omega arith) ((byte-same x m (omega arith)).counted ∙ (let y : m.st.counted + 1 ≡ length (s ++ (x ∷ [])) = omega arith in y)) (part-byte s x m f c z p))
    (λ h. let z = ltb-false (length s) 24576 h in past-byte s x m (omega arith) z (rw (take_all 24576 s l) p))
    (test (ltb (length s) 24576))

-- a chunk more
pub stands-chunk : (c s : List ℕ) (m : Mach) → Fit m → Stands s m → Stands (s ++ c) (chunk_of c m)
stands-chunk [] s m f p = rw append-nil p
stands-chunk (x ∷ c) s m f p = subst (λ (y : List ℕ). Stands y (chunk_of c (byte_of x m))) (append_snoc s x c) (stands-chunk c (s ++ (x ∷ [])) (byte_of x m) (byte-fit x m f) (stands-byte s x m f p))

-- nothing yet
pub stands-start : (m : Mach) → m.st ≡ start_of → Stands [] m
stands-start m e =
    some (omega arith) (ap (λ (y : Admission). y.counted) e)
    (cut
    (record {
      want = ap (λ (y : Admission). y.want) e;
      less = let z = ap (λ (y : Admission). y.want) e in omega arith;
      few = λ h. absurd (omega arith);
      contents = refl;
      programs = ap (λ (y : Admission). y.programs) e;
      judged = ap (λ (y : Admission). y.judged) e;
      have = ap (λ (y : Admission). y.have) e;
      refusal = ap (λ (y : Admission). y.refusal) e;
    }))
