-- Every program whose body is whole gets the verdict that it has in the whole pack.
-- Assumes nothing.
use Prim.Native.Nat.{ℕ, zero, suc, ◌+◌, ◌-◌, ◌*◌, ◌%◌, ◌≤◌, ◌<◌}
use native.Mathlib.Omega.{arith}
use mathlib.Core.Path.{◌≡◌, refl, sym, ap, ◌∙◌, subst}
use mathlib.Core.Logic.{⊎_elim}
use mathlib.Core.List.{List, [], ◌∷◌}
use lib.Dec.{eqb}
use lib.ListN.{length, get_or, take, drop, set, replicate, length-drop, length-replicate, length-set}
use lib.Seq.{drop-cons, length-sets, take_all, drop-length, length-take-le, sets, get_or-set_same, get_or-set_other}
use borrow.Author.Tests.{eqb-true, eqb-false, ne_eqb}
use Rattle.basis.specs.Number.{number_at}
use Rattle.basis.proofs.Tests.{pick-cases, same?}
use Rattle.pack.specs.Contents.{first_of, entry_at, entries_from}
use Rattle.pack.specs.Find.{body_of}
use Rattle.pack.specs.declared.Entry.{Entry}
use Rattle.pack.proofs.Walks.{from_more, Next, next}
use Rattle.verifier.specs.Verify.{Judged, good, names, nameless, verify_of}
use Rattle.rulings.specs.Rulings.{judged_of}
use Rattle.rulings.proofs.Entries.{judged-same, length-body, small-walked}
use Rattle.rulings.proofs.Numbers.{judged-low}
use Rattle.rulings.proofs.Prefix.{number-alike}
use Rattle.admission.specs.Verdicts.{number_of, place_of, codes_of}
use Rattle.admission.specs.Admission.{Mach, tag_at, cells_at, length_at, verified_of, judge_of, settle_of, settled}
use Rattle.admission.specs.Fit.{Fit}
use Rattle.admission.proofs.Fits.{judge-fit}
use Rattle.streams.specs.Told.{entry_of, judged_as, ruled_at, cells_of}
use Rattle.streams.specs.Stands.{Done, Ready, Part, good as whole-so-far}

-- two cells tell the answer of a program that the verifier walks
told_back : (s : List ℕ) (e : Entry) → length (body_of s e) ≤ 16384 → e.cells ≤ 1024 → (j : Judged) → judged_of s e ≡ j → judged_as (number_of j) (place_of j) ≡ j
told_back s e size few good h = refl
told_back s e size few (names k a) h =
    let l = judged-low s e k a h in
    let p : k % 65536 ≡ k = omega (arith, l.1) in
    let q : a % 65536 ≡ a = omega (arith, l.2) in
    rw (p, q, ne_eqb k 0 (λ z. omega (arith, z, l.0)))
told_back s e size few (nameless k) h = absurd (small-walked s e size few k h)

-- three cells in a row
three : (v : List ℕ) (i : ℕ) → i + 3 ≤ length v → take 3 (drop i v) ≡ get_or v i 0 ∷ get_or v (suc i) 0 ∷ get_or v (suc (suc i)) 0 ∷ []
three v i h = rw (drop-cons v i 0 (omega arith), drop-cons v (suc i) 0 (omega arith), drop-cons v (suc (suc i)) 0 (omega arith))

-- three cells are stored, and the others are kept
module _ (v : List ℕ) (i a b c : ℕ) where
  abbrev after : List ℕ
  after = sets v (3 * i) (a ∷ b ∷ c ∷ [])

  at_other : (k : ℕ) → (k ≡ 3 * i → ⊥) → (k ≡ suc (3 * i) → ⊥) → (k ≡ suc (suc (3 * i)) → ⊥) → get_or after k 0 ≡ get_or v k 0
  at_other k p q r =
      get_or-set_other (set (set v (3 * i) a) (suc (3 * i)) b) (suc (suc (3 * i))) k c 0 r
      ∙ get_or-set_other (set v (3 * i) a) (suc (3 * i)) k b 0 q
      ∙ get_or-set_other v (3 * i) k a 0 p

  said-other : (j : ℕ) → j < i → ruled_at after j ≡ ruled_at v j
  said-other j h =
      let x = at_other (3 * j) (λ e. omega (arith, e)) (λ e. omega (arith, e)) (λ e. omega (arith, e)) in
      let y = at_other (3 * j + 1) (λ e. omega (arith, e)) (λ e. omega (arith, e)) (λ e. omega (arith, e)) in
      let z = at_other (3 * j + 2) (λ e. omega (arith, e)) (λ e. omega (arith, e)) (λ e. omega (arith, e)) in
      rw (x, y, z)

  module _ (h : 3 * i + 3 ≤ length v) where
    first-is : get_or after (3 * i) 0 ≡ a
    first-is =
        get_or-set_other (set (set v (3 * i) a) (suc (3 * i)) b) (suc (suc (3 * i))) (3 * i) c 0 (λ e. omega (arith, e))
        ∙ get_or-set_other (set v (3 * i) a) (suc (3 * i)) (3 * i) b 0 (λ e. omega (arith, e))
        ∙ get_or-set_same v (3 * i) a 0 (omega arith)

    second_is : get_or after (suc (3 * i)) 0 ≡ b
    second_is =
        get_or-set_other (set (set v (3 * i) a) (suc (3 * i)) b) (suc (suc (3 * i))) (suc (3 * i)) c 0 (λ e. omega (arith, e))
        ∙ get_or-set_same (set v (3 * i) a) (suc (3 * i)) b 0 (rw length-set (omega arith))

    third-is : get_or after (suc (suc (3 * i))) 0 ≡ c
    third-is = get_or-set_same (set (set v (3 * i) a) (suc (3 * i)) b) (suc (suc (3 * i))) c 0 (rw length-set (rw length-set (omega arith)))

    said_here : ruled_at after i ≡ (a, judged_as b c)
    said_here =
        let one : 3 * i + 1 ≡ suc (3 * i) = omega arith in
        let two : 3 * i + 2 ≡ suc (suc (3 * i)) = omega arith in
        rw (one, two, first-is, second_is, third-is)

    coded-here : cells_of after i ≡ a ∷ b ∷ c ∷ []
    coded-here = three after (3 * i) (rw length-sets h) ∙ rw (first-is, second_is, third-is)

  coded-other : (j : ℕ) → j < i → 3 * j + 3 ≤ length v → cells_of after j ≡ cells_of v j
  coded-other j h l =
      let x = at_other (3 * j) (λ e. omega (arith, e)) (λ e. omega (arith, e)) (λ e. omega (arith, e)) in
      let y = at_other (suc (3 * j)) (λ e. omega (arith, e)) (λ e. omega (arith, e)) (λ e. omega (arith, e)) in
      let z = at_other (suc (suc (3 * j))) (λ e. omega (arith, e)) (λ e. omega (arith, e)) (λ e. omega (arith, e)) in
      three after (3 * j) (rw length-sets l) ∙ rw (x, y, z) (sym (three v (3 * j) l))

module _ (s : List ℕ) (n : ℕ) (m : Mach) (r : Ready s n m) (some : m.st.judged < n) where
  abbrev i : ℕ
  i = m.st.judged

  abbrev e : Entry
  e = entry_of s i

  -- the entry's numbers are in the contents that are kept
  pub tag_is : tag_at m.contents i ≡ e.tag
  unfolding entry_at
  tag_is = number-alike (first_of n) 2 m.contents s (2 + 8 * i) r.contents (omega arith)

  pub cells_is : cells_at m.contents i ≡ e.cells
  unfolding entry_at
  cells_is = number-alike (first_of n) 2 m.contents s (4 + 8 * i) r.contents (omega arith) ∙ ap (number_at 2 s) (let z : 4 + 8 * i ≡ 2 + 8 * i + 2 = omega arith in z)

  pub length-is : length_at m.contents i ≡ e.length
  unfolding entry_at
  length-is = number-alike (first_of n) 2 m.contents s (8 + 8 * i) r.contents (omega arith) ∙ ap (number_at 2 s) (let z : 8 + 8 * i ≡ 2 + 8 * i + 6 = omega arith in z)

  pub next-is : Next r.least r.at e (entries_from s (2 + 8 * i + 8) (n - i - 1)) m.st.end
  next-is = next r.least r.at e (entries_from s (2 + 8 * i + 8) (n - i - 1)) m.st.end (rw (from_more s (2 + 8 * i) (n - i) (omega arith)) at r.rest)

  module _ (f : Fit m) (whole : m.st.have ≡ length_at m.contents i) where
    full : m.st.have ≡ e.length
    full = whole ∙ length-is

    body_is : take m.st.have m.body ≡ body_of s e
    body_is =
        let o = next-is.passed.offset in
        let p = r.place some in
        let l = full in
        let d = length-drop r.at s in
        r.body some ∙ rw o (sym (take_all e.length (drop r.at s) (omega arith)))

    verdict-is : (verified_of m).0 ≡ judged_of s e
    unfolding judged_of
    verdict-is =
        let k = m.st.have in
        let b = body_is in
        let l = full in
        let c = next-is.passed.length in
        let lt : length (take k m.map) ≡ k = length-take-le k m.map (omega (arith, f.map)) in
        let lb : length (take k m.body) ≡ k = length-take-le k m.body (omega (arith, f.body)) in
        rw cells_is
        (judged-same (take k m.body) e.cells (take k m.map) (replicate (length (take k m.body)) 65535) (lt ∙ sym lb ∙ sym (length-replicate (length (take k m.body)) 65535))
        ∙ ap (λ (p : List ℕ). (verify_of p e.cells (replicate (length p) 65535)).0) b)

    done-is : Done s (sets m.verdicts (3 * i) (codes_of (tag_at m.contents i) (verified_of m).0)) i
    done-is =
        let o = next-is.passed.offset in
        let p = r.place some in
        let l = full in
        record {
          fits = omega arith;
          said = said_here m.verdicts i _ _ _ (omega (arith, f.verdicts, r.few)) ∙ rw (tag_is, verdict-is, told_back s e (omega (arith, length-body s e, next-is.passed.length)) next-is.passed.cells (judged_of s e) refl);
          coded = coded-here m.verdicts i _ _ _ (omega (arith, f.verdicts, r.few)) ∙ rw (tag_is, verdict-is);
        }

    pub ready-next : Ready s n (judge_of m)
    unfolding judge_of
    ready-next =
        let p = r.place some in
        let l = full in
        let q : r.at + e.length ≡ length s = omega arith in
        record {
          is = r.is;
          few = r.few;
          room = r.room;
          want = r.want;
          contents = r.contents;
          ends = r.ends;
          programs = r.programs;
          judged = omega arith;
          refusal = r.refusal;
          done = dones;
          least = e.tag + 1;
          at = r.at + e.length;
          rest =
              let y : 2 + 8 * (i + 1) ≡ 2 + 8 * i + 8 = omega arith in
              let z : n - (i + 1) ≡ n - i - 1 = omega arith in
              rw (y, z) next-is.rest;
          reached = omega arith;
          place = λ h. omega arith;
          body = λ h. rw q (sym (drop-length s));
          within = λ h. omega arith;
          idle = λ h. refl;
        }
      where
        old : (j : ℕ) → j < i → Done s (sets m.verdicts (3 * i) (codes_of (tag_at m.contents i) (verified_of m).0)) j
        old j h = let d = r.done j h in record { fits = d.fits; said = said-other m.verdicts i _ _ _ j h ∙ d.said; coded = coded-other m.verdicts i _ _ _ j h (let q = f.verdicts in let w = r.few in omega arith) ∙ d.coded }

        dones : (j : ℕ) → j < i + 1 → Done s (sets m.verdicts (3 * i) (codes_of (tag_at m.contents i) (verified_of m).0)) j
        dones j h =
            ⊎_elim
            (λ g. subst (Done s (sets m.verdicts (3 * i) (codes_of (tag_at m.contents i) (verified_of m).0))) (sym g) done-is)
            (λ g. old j (let z : j < i = omega (arith, g) in z))
            (same? j i)

-- all of them
pub settle-good : (s : List ℕ) (n k : ℕ) (m : Mach) → Fit m → Ready s n m → k ≡ n - m.st.judged → Part s (settle_of k m)
unfolding judge_of
settle-good s n zero m f r h = whole-so-far n r (λ l. absurd (omega arith))
settle-good s n (suc k) m f r h =
    let l : m.st.judged < n = omega arith in
    pick-cases (Part s) (eqb m.st.have (length_at m.contents m.st.judged)) (settle_of k (judge_of m)) m
    (λ t. settle-good s n k (judge_of m) (judge-fit m f (let p = r.programs in omega arith)) (ready-next s n m r l f (eqb-true _ _ t)) (omega arith))
    (λ t. whole-so-far n r (λ u. let x = eqb-false _ _ t in let y = length-is s n m r l in let w = r.within l in let z : m.st.have ≡ (entry_of s m.st.judged).length → ⊥ = (λ q. x (q ∙ sym y)) in omega arith))

pub settled-good : (s : List ℕ) (n : ℕ) (m : Mach) → Fit m → Ready s n m → Part s (settled m)
unfolding settled
settled-good s n m f r = settle-good s n (m.st.programs - m.st.judged) m f r (let p = r.programs in omega arith)
