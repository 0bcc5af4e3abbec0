-- The tags of a pack rise, so halving comes to the entry with a tag: on a pack that its check takes, halving answers as looking at each entry does.
-- Assumes nothing.
use Prim.Native.Nat.{ℕ, zero, suc, ◌+◌, ◌*◌, ◌≤◌, ◌<◌}
use native.Mathlib.Omega.{arith}
use native.Mathlib.Nat.{add-zero}
use mathlib.Core.Path.{◌≡◌, refl, sym, ◌∙◌}
use mathlib.Core.Logic.{◌≢◌, ⊎_elim}
use mathlib.Core.List.{List}
use lib.ListN.{length}
use borrow.Author.Tests.{le-ltb, eq-eqb, ne_eqb}
use Rattle.basis.specs.Answer.{given, refused}
use Rattle.basis.proofs.Tests.{same?}
use Rattle.halving.proofs.Finds.{Rising, number_in, reaches}
use Rattle.pack.specs.Contents.{first_of, entry_at, entries_from, end_of}
use Rattle.pack.specs.Read.{count_of, entries_of, read_of}
use Rattle.pack.specs.Find.{sought_in, find_of}
use Rattle.pack.specs.Lookup.{kept_of, halved_of, lookup_of}
use Rattle.pack.specs.declared.Entry.{Entry}
use Rattle.pack.proofs.Walks.{next, end_ge}
use Rattle.pack.proofs.Sounds.{whole-held, read-sound, sound-read}

-- what a walk that comes to an end shows of each entry
pub record There (least end : ℕ) (e : Entry) : Type 0 where
  pub tag : least ≤ e.tag
  pub cells : e.cells ≤ 1024
  pub length : e.length ≤ 16384
  pub inside : e.offset + e.length ≤ end

pub there : (s : List ℕ) (least off at end n : ℕ) → end_of least off (entries_from s at n) ≡ given end → (i : ℕ) → i < n → There least end (entry_at s (at + 8 * i))
there s least off at end zero h i l = absurd (omega arith)
there s least off at end (suc n) h zero l =
    let x = next least off (entry_at s at) (entries_from s (at + 8) n) end h in
    let p = x.passed in
    let g = end_ge ((entry_at s at).tag + 1) (off + (entry_at s at).length) (entries_from s (at + 8) n) end x.rest in
    let o = p.offset in
    rw add-zero record { tag = p.tag; cells = p.cells; length = p.length; inside = omega arith }
there s least off at end (suc n) h (suc i) l =
    let x = next least off (entry_at s at) (entries_from s (at + 8) n) end h in
    let y = there s ((entry_at s at).tag + 1) (off + (entry_at s at).length) (at + 8) end n x.rest i (omega arith) in
    let p = x.passed.tag in
    let q = y.tag in
    let z : at + 8 + 8 * i ≡ at + 8 * suc i = omega arith in
    rw (← z) record { tag = omega arith; cells = y.cells; length = y.length; inside = y.inside }

pub rises : (s : List ℕ) (least off at end n : ℕ) → end_of least off (entries_from s at n) ≡ given end → (i j : ℕ) → i < j → j < n → (entry_at s (at + 8 * i)).tag < (entry_at s (at + 8 * j)).tag
rises s least off at end zero h i j k l = absurd (omega arith)
rises s least off at end (suc n) h i zero k l = absurd (omega arith)
rises s least off at end (suc n) h zero (suc j) k l =
    let x = next least off (entry_at s at) (entries_from s (at + 8) n) end h in
    let y = (there s ((entry_at s at).tag + 1) (off + (entry_at s at).length) (at + 8) end n x.rest j (omega arith)).tag in
    let z : at + 8 + 8 * j ≡ at + 8 * suc j = omega arith in
    rw (add-zero, ← z) (omega arith)
rises s least off at end (suc n) h (suc i) (suc j) k l =
    let x = next least off (entry_at s at) (entries_from s (at + 8) n) end h in
    let y : at + 8 + 8 * i ≡ at + 8 * suc i = omega arith in
    let z : at + 8 + 8 * j ≡ at + 8 * suc j = omega arith in
    rw (← y, ← z) (rises s ((entry_at s at).tag + 1) (off + (entry_at s at).length) (at + 8) end n x.rest i j (omega arith) (omega arith))

-- looking at each entry: where the first with the tag is known, and where there is none
pub sought-there : (s : List ℕ) (tag at n i : ℕ) → i < n → (entry_at s (at + 8 * i)).tag ≡ tag → ((j : ℕ) → j < i → (entry_at s (at + 8 * j)).tag ≢ tag) → sought_in tag (entries_from s at n) ≡ given (entry_at s (at + 8 * i))
sought-there s tag at zero i l e none = absurd (omega arith)
sought-there s tag at (suc n) zero l e none = let f : (entry_at s at).tag ≡ tag = rw add-zero at e in rw (eq-eqb _ _ f, add-zero)
sought-there s tag at (suc n) (suc i) l e none =
    let f : (entry_at s at).tag ≢ tag = rw add-zero at (none 0 (omega arith)) in
    let z : at + 8 + 8 * i ≡ at + 8 * suc i = omega arith in
    rw (ne_eqb _ _ f, ← z)
    (sought-there s tag (at + 8) n i (omega arith) (rw z e) (λ j h. let y : at + 8 + 8 * j ≡ at + 8 * suc j = omega arith in rw y (none (suc j) (omega arith))))

pub sought-nowhere : (s : List ℕ) (tag at n : ℕ) → ((j : ℕ) → j < n → (entry_at s (at + 8 * j)).tag ≢ tag) → sought_in tag (entries_from s at n) ≡ refused 36
sought-nowhere s tag at zero none = refl
sought-nowhere s tag at (suc n) none =
    let f : (entry_at s at).tag ≢ tag = rw add-zero at (none 0 (omega arith)) in
    rw (ne_eqb _ _ f)
    (sought-nowhere s tag (at + 8) n (λ j h. let y : at + 8 + 8 * j ≡ at + 8 * suc j = omega arith in rw y (none (suc j) (omega arith))))

-- the tag of an entry is the number that it begins with
tag_in : (s : List ℕ) (i : ℕ) → (entry_at s (2 + 8 * i)).tag ≡ number_in 2 8 s i
unfolding entry_at
tag_in s i = refl

kept_there : (s : List ℕ) (tag least : ℕ) (e : Entry) → There least (length s) e → e.tag ≡ tag → kept_of s tag e ≡ given e
unfolding kept_of
kept_there s tag least e t h = rw (eq-eqb _ _ h, le-ltb _ _ t.cells, le-ltb _ _ t.length, le-ltb _ _ t.inside)

kept-not : (s : List ℕ) (tag : ℕ) (e : Entry) → e.tag ≢ tag → kept_of s tag e ≡ refused 36
unfolding kept_of
kept-not s tag e h = rw (ne_eqb _ _ h)

-- "The same tag gives the same part of the pack, or 36"
pub halved-sought : (s : List ℕ) (n tag : ℕ) → n ≤ 64 → end_of 0 (first_of n) (entries_from s 2 n) ≡ given (length s) → halved_of s n tag ≡ sought_in tag (entries_from s 2 n)
unfolding halved_of
halved-sought s zero tag few ends = refl
halved-sought s (suc m) tag few ends =
    let n = suc m in
    let r = reaches 2 8 s tag n (omega arith) few in
    let i = r.index in
    let rise : Rising (number_in 2 8 s) n = λ a b h k. rw (← tag_in s a, ← tag_in s b) (rises s 0 (first_of n) 2 (length s) n ends a b h k) in
    let t = there s 0 (first_of n) 2 (length s) n ends i r.inside in
    rw (ne_eqb n 0 (λ z. absurd (omega arith)), r.place)
    (⊎_elim
    (λ (e : (entry_at s (2 + 8 * i)).tag ≡ tag).
    kept_there s tag 0 (entry_at s (2 + 8 * i)) t e
    ∙ sym (sought-there s tag 2 n i r.inside e (λ j h z. let q = r.only rise j (let k = r.inside in omega arith) (sym (tag_in s j) ∙ z) in omega arith)))
    (λ (e : (entry_at s (2 + 8 * i)).tag ≢ tag).
    kept-not s tag (entry_at s (2 + 8 * i)) e
    ∙ sym (sought-nowhere s tag 2 n (λ j h z. let q : i ≡ j = r.only rise j h (sym (tag_in s j) ∙ z) in e (rw q z))))
    (same? (entry_at s (2 + 8 * i)).tag tag))

-- a lookup in a pack that is read is what find gives
pub lookup-find : (s : List ℕ) (es : List Entry) (tag : ℕ) → read_of s ≡ given es → lookup_of s tag ≡ find_of s tag
unfolding lookup_of find_of entries_of
lookup-find s es tag h =
    let g = read-sound s es h in
    let w = g.whole in
    rw (le-ltb 24576 (length s) g.small, whole-held s w, sound-read s g) (halved-sought s (count_of s) tag w.count g.ends)
