-- What the check's answers show of a pack: the bounds within which its entries are read.
-- Assumes nothing.
use Prim.Native.Nat.{ℕ, ◌+◌, ◌*◌, ◌≤◌, ◌<◌}
use native.Mathlib.Omega.{arith}
use mathlib.Core.Path.{◌≡◌, refl, sym, ap, ◌∙◌}
use mathlib.Core.Logic.{◌⊎◌, inl, inr, ⊎_elim}
use mathlib.Core.Bool.{Bool, true, false}
use mathlib.Core.List.{List}
use lib.Dec.{ltb, eqb}
use lib.ListN.{length}
use borrow.Author.Tests.{le-ltb, eq-eqb, ltb-false, eqb-true}
use Rattle.std.specs.Prelude.{slice_get, Some}
use Rattle.basis.specs.Answer.{Answer, given, refused, seen}
use Rattle.basis.proofs.Tests.{refused-given, refused-one, given-one}
use Rattle.pack.specs.Contents.{first_of, entry_at, entries_from, end_of}
use Rattle.pack.specs.Read.{count_of, entries_of, held_of, contents_of, read_of}
use Rattle.pack.specs.declared.Entry.{Entry}
use Rattle.pack.proofs.Walks.{length_from, from-there}

-- the contents are whole
pub record Whole (s : List ℕ) : Type 0 where
  pub head : 2 ≤ length s
  pub count : count_of s ≤ 64
  pub room : first_of (count_of s) ≤ length s

pub whole-walk : (s : List ℕ) → Whole s → contents_of s ≡ end_of 0 (first_of (count_of s)) (entries_from s 2 (count_of s))
unfolding contents_of entries_of
whole-walk s w = rw (le-ltb _ _ w.head, le-ltb _ _ w.count, le-ltb _ _ w.room)

-- the count of entries that are inside the bytes, and what it shows
pub whole-held : (s : List ℕ) → Whole s → held_of s ≡ given (count_of s)
unfolding held_of
whole-held s w = rw (le-ltb (length s) 2 w.head, le-ltb 64 (count_of s) w.count, le-ltb (length s) (first_of (count_of s)) w.room)

-- they are all inside, or the contents are refused by 30
held-cases : (s : List ℕ) → (Whole s × (held_of s ≡ given (count_of s))) ⊎ ((held_of s ≡ refused 30) × (contents_of s ≡ refused 30))
unfolding held_of contents_of
held-cases s = go (ltb (length s) 2) (ltb 64 (count_of s)) (ltb (length s) (first_of (count_of s))) refl refl refl
  where
    go : (t u v : Bool) → ltb (length s) 2 ≡ t → ltb 64 (count_of s) ≡ u → ltb (length s) (first_of (count_of s)) ≡ v
        → (Whole s × (held_of s ≡ given (count_of s))) ⊎ ((held_of s ≡ refused 30) × (contents_of s ≡ refused 30))
    go true u v p q r = inr (rw p, rw p)
    go false true v p q r = inr (rw (p, q), rw (p, q))
    go false false true p q r = inr (rw (p, q, r), rw (p, q, r))
    go false false false p q r = inl (record { head = ltb-false _ _ p; count = ltb-false _ _ q; room = ltb-false _ _ r }, rw (p, q, r))

pub held_whole : (s : List ℕ) (n : ℕ) → held_of s ≡ given n → Whole s × (count_of s ≡ n)
held_whole s n h =
    ⊎_elim
    (λ (c : Whole s × (held_of s ≡ given (count_of s))). (c.0, given-one _ _ (sym c.1 ∙ h)))
    (λ (c : (held_of s ≡ refused 30) × (contents_of s ≡ refused 30)). absurd (refused-given 30 n (sym c.0 ∙ h)))
    (held-cases s)

pub held-cut-thirty : (s : List ℕ) (k : ℕ) → held_of s ≡ refused k → (k ≡ 30) × (refused k ≡ contents_of s)
held-cut-thirty s k h =
    ⊎_elim
    (λ (c : Whole s × (held_of s ≡ given (count_of s))). absurd (refused-given k _ (sym h ∙ c.1)))
    (λ (c : (held_of s ≡ refused 30) × (contents_of s ≡ refused 30)). let z : k ≡ 30 = refused-one k 30 (sym h ∙ c.0) in (z, ap refused z ∙ sym c.1))
    (held-cases s)

pub held-thirty : (s : List ℕ) (k : ℕ) → held_of s ≡ refused k → k ≡ 30
held-thirty s k h = (held-cut-thirty s k h).0

pub contents_cut : (s : List ℕ) (k : ℕ) → held_of s ≡ refused k → refused k ≡ contents_of s
contents_cut s k h = (held-cut-thirty s k h).1

pub held-bounds : (s : List ℕ) (n : ℕ) → held_of s ≡ given n → (n ≤ 64) × (first_of n ≤ length s)
held-bounds s n h = let w = held_whole s n h in (rw (← w.1) w.0.count, rw (← w.1) w.0.room)

pub ended-whole : (s : List ℕ) (end : ℕ) → contents_of s ≡ given end → Whole s
ended-whole s end h = go (held_of s) refl
  where
    go : (a : Answer ℕ) → held_of s ≡ a → Whole s
    go (given n) p = (held_whole s n p).0
    go (refused k) p = absurd (refused-given k end (contents_cut s k p ∙ h))

-- a pack that is read
pub record Sound (s : List ℕ) : Type 0 where
  pub small : length s ≤ 24576
  pub whole : Whole s
  pub ends : end_of 0 (first_of (count_of s)) (entries_from s 2 (count_of s)) ≡ given (length s)

pub read-sound : (s : List ℕ) (es : List Entry) → read_of s ≡ given es → Sound s
unfolding read_of
read-sound s es h = go (ltb 24576 (length s)) (contents_of s) refl refl
  where
    last : (end : ℕ) (t : Bool) → ltb 24576 (length s) ≡ false → contents_of s ≡ given end → eqb end (length s) ≡ t → Sound s
    last end true p q r =
        let w = ended-whole s end q in
        record { small = ltb-false _ _ p; whole = w; ends = sym (whole-walk s w) ∙ q ∙ ap given (eqb-true _ _ r) }
    last end false p q r = absurd (refused-given 34 es (rw (p, q, r) at h))

    go : (t : Bool) (c : Answer ℕ) → ltb 24576 (length s) ≡ t → contents_of s ≡ c → Sound s
    go true c p q = absurd (refused-given 31 es (rw p at h))
    go false (refused n) p q = absurd (refused-given n es (rw (p, q) at h))
    go false (given end) p q = last end (eqb end (length s)) p q refl

pub sound-read : (s : List ℕ) → Sound s → read_of s ≡ given (entries_of s)
unfolding read_of
sound-read s g = rw (le-ltb _ _ g.small, whole-walk s g.whole, g.ends, eq-eqb (length s) (length s) refl)

pub length-entries : (s : List ℕ) → length (entries_of s) ≡ count_of s
unfolding entries_of
length-entries s = length_from s 2 (count_of s)

-- what a count that was given shows
pub record Counted (s : List ℕ) (n : ℕ) : Type 0 where
  pub read : read_of s ≡ given (entries_from s 2 n)
  pub few : n ≤ 64
  pub room : first_of n ≤ length s
  pub ends : end_of 0 (first_of n) (entries_from s 2 n) ≡ given (length s)

pub counted : (s : List ℕ) (n : ℕ) → seen length (read_of s) ≡ given n → Counted s n
unfolding entries_of
counted s n h = go (read_of s) refl
  where
    go : (a : Answer (List Entry)) → read_of s ≡ a → Counted s n
    go (refused k) p = absurd (refused-given k n (rw p at h))
    go (given es) p =
        let g = read-sound s es p in
        let w = g.whole in
        let q : count_of s ≡ n = sym (length-entries s) ∙ given-one _ _ (rw (sound-read s g) at h) in
        record { read = rw (← q) (sound-read s g); few = omega (arith, w.count); room = rw (← q) w.room; ends = rw (← q) g.ends }

-- the entry at an index below the count
pub entry-there : (s : List ℕ) (n i : ℕ) → Counted s n → i < n → seen (λ es. slice_get es i) (read_of s) ≡ given (Some (entry_at s (2 + 8 * i)))
entry-there s n i k h = rw (k.read, from-there s 2 n i h)

-- a refusal is seen as it is
pub refused-seen : {A B : Type 0} (f : A → B) (a : Answer A) (n : ℕ) → seen f a ≡ refused n → a ≡ refused n
refused-seen f (given x) n h = absurd (refused-given n (f x) (sym h))
refused-seen f (refused k) n h = ap refused (refused-one k n h)
