-- Every entry that a pack gives, by its index or by its tag, lies inside the pack; and there are at most 64.
-- Assumes nothing.
use Prim.Native.Nat.{ℕ, zero, suc, ◌+◌, ◌≤◌}
use native.Mathlib.Omega.{arith}
use mathlib.Core.Path.{◌≡◌, refl, sym, ap, ◌∙◌, subst}
use mathlib.Core.Bool.{Bool, true, false}
use mathlib.Core.List.{List, [], ◌∷◌}
use mathlib.Core.Option.{some, none-ne-some, some-injective}
use lib.Dec.{eqb}
use lib.ListN.{length, get_elem?}
use Rattle.basis.specs.Pick.{pick}
use Rattle.basis.specs.Answer.{Answer, given, refused, seen}
use Rattle.basis.proofs.Tests.{refused-given, given-one}
use Rattle.pack.specs.Contents.{first_of, end_of}
use Rattle.pack.specs.Read.{count_of, entries_of, read_of}
use Rattle.pack.specs.Find.{sought_in, find_of}
use Rattle.pack.specs.declared.Entry.{Entry}
use Rattle.pack.proofs.Walks.{next, end_ge}
use Rattle.pack.proofs.Sounds.{read-sound, sound-read, length-entries}
use Rattle.rules.specs.Rules.{Inside}
use Rattle.rules.proofs.Back.{length-body}

-- an entry of a walk that ends where the pack does
ended-inside : (s : List ℕ) (least at : ℕ) (es : List Entry) (i : ℕ) (e : Entry) → end_of least at es ≡ given (length s) → get_elem? es i ≡ some e → Inside s e
ended-inside s least at [] i e h g = absurd (none-ne-some e g)
ended-inside s least at (x ∷ es) zero e h g =
    let n = next least at x es (length s) h in
    let o = n.passed.offset in
    let l = end_ge (x.tag + 1) (at + x.length) es (length s) n.rest in
    subst (Inside s) (some-injective x e g) (record { ends = omega arith; whole = length-body s x (omega arith) })
ended-inside s least at (x ∷ es) (suc i) e h g = ended-inside s (x.tag + 1) (at + x.length) es i e (next least at x es (length s) h).rest g

-- The entry at an index of a pack that is read.
pub read-inside : (s : List ℕ) (es : List Entry) (i : ℕ) (e : Entry) → read_of s ≡ given es → get_elem? es i ≡ some e → Inside s e
unfolding entries_of
read-inside s es i e r g =
    let k = read-sound s es r in
    let same : entries_of s ≡ es = given-one (entries_of s) es (sym (sound-read s k) ∙ r) in
    ended-inside s 0 (first_of (count_of s)) (entries_of s) i e k.ends (rw same g)

-- the same as asking for an index answers
pub listed-inside : (s : List ℕ) (i : ℕ) (e : Entry) → seen (λ es. get_elem? es i) (read_of s) ≡ given (some e) → Inside s e
listed-inside s i e h = by (read_of s) refl
  where
    by : (a : Answer (List Entry)) → read_of s ≡ a → Inside s e
    by (refused n) q = absurd (refused-given n (some e) (rw q at h))
    by (given es) q = read-inside s es i e q (given-one (get_elem? es i) (some e) (rw q at h))

-- what is found for a tag has an index
sought-there : (tag : ℕ) (es : List Entry) (e : Entry) → sought_in tag es ≡ given e → (i : ℕ) × (get_elem? es i ≡ some e)
sought-there tag [] e h = absurd (refused-given 36 e h)
sought-there tag (x ∷ es) e h = by (λ g. sought-there tag es e g) (eqb x.tag tag) h
  where
    by : (sought_in tag es ≡ given e → (i : ℕ) × (get_elem? es i ≡ some e)) → (t : Bool) → pick t (given x) (sought_in tag es) ≡ given e → (i : ℕ) × (get_elem? (x ∷ es) i ≡ some e)
    by again true g = (0, ap some (given-one x e g))
    by again false g = let r = again g in (suc r.0, r.1)

-- The entry that is found for a tag.
pub found_inside : (s : List ℕ) (tag : ℕ) (e : Entry) → find_of s tag ≡ given e → Inside s e
unfolding find_of
found_inside s tag e h = by (read_of s) refl
  where
    by : (a : Answer (List Entry)) → read_of s ≡ a → Inside s e
    by (refused n) q = absurd (refused-given n e (rw q at h))
    by (given es) q = let r = sought-there tag es e (rw q at h) in read-inside s es r.0 e q r.1

-- The count of the entries.
pub count_most : (s : List ℕ) (n : ℕ) → seen length (read_of s) ≡ given n → n ≤ 64
count_most s n h = by (read_of s) refl
  where
    by : (a : Answer (List Entry)) → read_of s ≡ a → n ≤ 64
    by (refused k) q = absurd (refused-given k n (rw q at h))
    by (given es) q =
        let g = read-sound s es q in
        let same : entries_of s ≡ es = given-one (entries_of s) es (sym (sound-read s g) ∙ q) in
        let l : length (entries_of s) ≡ n = rw same (given-one (length es) n (rw q at h)) in
        omega (arith, l, length-entries s, g.whole.count)
