-- A pack is refused by exactly the numbers of 01: a refusal has its reason, a reason its refusal, and a pack with nothing wrong is read.
-- Assumes nothing.
use Prim.Native.Nat.{ℕ, zero, suc, ◌+◌, ◌-◌, ◌*◌, ◌≤◌, ◌<◌}
use native.Mathlib.Omega.{arith}
use native.Mathlib.Decide.{dec_lt}
use mathlib.Core.Path.{◌≡◌, refl, sym, subst, ◌∙◌}
use mathlib.Core.Logic.{◌⊎◌, inl, inr, ⊎_elim}
use mathlib.Core.Bool.{Bool, true, false}
use mathlib.Core.List.{List, ◌∷◌}
use lib.Dec.{ltb, eqb}
use lib.ListN.{length}
use borrow.Author.Tests.{lt-ltb, le-ltb, eq-eqb, ne_eqb, ltb-true, ltb-false, eqb-true, eqb-false}
use Rattle.basis.specs.Answer.{Answer, given, refused}
use Rattle.basis.proofs.Tests.{refused-given}
use Rattle.pack.specs.Contents.{first_of, entries_from, refusal_of, end_of}
use Rattle.pack.specs.Read.{count_of, entries_of, contents_of, read_of}
use Rattle.pack.specs.declared.Entry.{Entry}
use Rattle.pack.proofs.Walks.{from_more, passes}
use Rattle.pack.proofs.Sounds.{whole-walk}
use Rattle.rules.specs.Refusals.{entry_in, least_in, due_in, Good, Wrong, not_above, cells_over, length_over, wrong_offset, Whole, GoodBefore, Why, too_long, count_cut, too_many, contents_cut, bad_entry, not_at_end, Right}

-- what refuses an entry that is wrong, and one that is not
wrong-refused : (s : List ℕ) (i n : ℕ) → Wrong s i n → refusal_of (least_in s i) (due_in s i) (entry_in s i) ≡ n
unfolding refusal_of
wrong-refused s i n (not_above t) = rw (lt-ltb _ _ t)
wrong-refused s i n (cells_over t c) = rw (le-ltb _ _ t, lt-ltb _ _ c)
wrong-refused s i n (length_over t l) = by (ltb 1024 (entry_in s i).cells) refl
  where
    by : (b : Bool) → ltb 1024 (entry_in s i).cells ≡ b → refusal_of (least_in s i) (due_in s i) (entry_in s i) ≡ 35
    by true c = rw (le-ltb _ _ t, c)
    by false c = rw (le-ltb _ _ t, c, lt-ltb _ _ l)
wrong-refused s i n (wrong_offset t c l o) = rw (le-ltb _ _ t, le-ltb _ _ c, le-ltb _ _ l, ne_eqb _ _ o)

good-passes : (s : List ℕ) (i : ℕ) → Good s i → refusal_of (least_in s i) (due_in s i) (entry_in s i) ≡ 0
good-passes s i g = passes (least_in s i) (due_in s i) (entry_in s i) (record { tag = g.tag; cells = g.cells; length = g.length; offset = g.offset })

wrong-some : (s : List ℕ) (i n : ℕ) → Wrong s i n → n ≡ 0 → ⊥
wrong-some s i n (not_above t) z = omega arith
wrong-some s i n (cells_over t c) z = omega arith
wrong-some s i n (length_over t l) z = omega arith
wrong-some s i n (wrong_offset t c l o) z = omega arith

judge : (s : List ℕ) (i : ℕ) → Good s i ⊎ ((n : ℕ) × Wrong s i n)
judge s i = by (ltb e.tag (least_in s i)) (ltb 1024 e.cells) (ltb 16384 e.length) (eqb e.offset (due_in s i)) refl refl refl refl
  where
    e : Entry
    e = entry_in s i

    by : (t u v w : Bool) → ltb e.tag (least_in s i) ≡ t → ltb 1024 e.cells ≡ u → ltb 16384 e.length ≡ v → eqb e.offset (due_in s i) ≡ w
        → Good s i ⊎ ((n : ℕ) × Wrong s i n)
    by true u v w p q r o = inr (32, not_above (ltb-true _ _ p))
    by false true v w p q r o = inr (35, cells_over (ltb-false _ _ p) (ltb-true _ _ q))
    by false false true w p q r o = inr (35, length_over (ltb-false _ _ p) (ltb-true _ _ r))
    by false false false false p q r o = inr (33, wrong_offset (ltb-false _ _ p) (ltb-false _ _ q) (ltb-false _ _ r) (eqb-false _ _ o))
    by false false false true p q r o = inl (record { tag = ltb-false _ _ p; cells = ltb-false _ _ q; length = ltb-false _ _ r; offset = eqb-true _ _ o })

-- the walk over the entries from an index on
abbrev rest_in : List ℕ → ℕ → Answer ℕ
rest_in s i = end_of (least_in s i) (due_in s i) (entries_from s (2 + 8 * i) (count_of s - i))

from_in : (s : List ℕ) (i : ℕ) → i < count_of s
    → entries_from s (2 + 8 * i) (count_of s - i) ≡ entry_in s i ∷ entries_from s (2 + 8 * suc i) (count_of s - suc i)
from_in s i h =
    let a : 2 + 8 * i + 8 ≡ 2 + 8 * suc i = omega arith in
    let b : count_of s - i - 1 ≡ count_of s - suc i = omega arith in
    from_more s (2 + 8 * i) (count_of s - i) (omega arith) ∙ rw (a, b)

good-on : (s : List ℕ) (i : ℕ) → i < count_of s → Good s i → rest_in s i ≡ rest_in s (suc i)
good-on s i h g = rw (from_in s i h, good-passes s i g)

wrong-ends : (s : List ℕ) (i n : ℕ) → i < count_of s → Wrong s i n → rest_in s i ≡ refused n
wrong-ends s i n h w = rw (from_in s i h, wrong-refused s i n w, ne_eqb n 0 (wrong-some s i n w))

good-to : (s : List ℕ) (i : ℕ) → i ≤ count_of s → GoodBefore s i → rest_in s 0 ≡ rest_in s i
good-to s zero h g = refl
good-to s (suc i) h g = good-to s i (omega arith) (λ j l. g j (omega arith)) ∙ good-on s i (omega arith) (g i (omega arith))

all-good : (s : List ℕ) → GoodBefore s (count_of s) → rest_in s 0 ≡ given (due_in s (count_of s))
all-good s g = let z : count_of s - count_of s ≡ 0 = omega arith in good-to s (count_of s) (omega arith) g ∙ rw z

good_more : (s : List ℕ) (i : ℕ) → GoodBefore s i → Good s i → GoodBefore s (suc i)
good_more s i g here j l = by (dec_lt j i)
  where
    by : Dec (j < i) → Good s j
    by (yes p) = g j p
    by (no p) = subst (λ (k : ℕ). Good s k) (let e : i ≡ j = omega arith in e) here

-- the entries are good, or one of them is the first that is wrong
FirstWrong : List ℕ → Type 0
FirstWrong s = (i : ℕ) × (n : ℕ) × (i < count_of s) × GoodBefore s i × Wrong s i n

good-or-wrong : (s : List ℕ) (k : ℕ) → k ≤ count_of s → GoodBefore s k ⊎ FirstWrong s
unfolding FirstWrong
good-or-wrong s zero h = inl (λ j l. absurd (omega arith))
good-or-wrong s (suc k) h = ⊎_elim (λ g. by g (judge s k)) (λ w. inr w) (good-or-wrong s k (omega arith))
  where
    by : GoodBefore s k → Good s k ⊎ ((n : ℕ) × Wrong s k n) → GoodBefore s (suc k) ⊎ FirstWrong s
    by g (inl here) = inl (good_more s k g here)
    by g (inr w) = inr (k, w.0, omega arith, g, w.1)

whole_from : (s : List ℕ) → Whole s → contents_of s ≡ rest_in s 0
whole_from s w =
    let z : count_of s - 0 ≡ count_of s = omega arith in
    whole-walk s (record { head = w.head; count = w.count; room = w.room }) ∙ rw z

-- A pack with nothing wrong is read;
pub right-read : (s : List ℕ) → Right s → read_of s ≡ given (entries_of s)
unfolding read_of
right-read s r = let w = r.whole in rw (le-ltb _ _ w.size, whole_from s w, all-good s r.good, eq-eqb _ _ r.ends)

-- a reason has its refusal;
pub why-refusal : (s : List ℕ) (n : ℕ) → Why s n → read_of s ≡ refused n
unfolding read_of contents_of
why-refusal s n (too_long h) = rw (lt-ltb _ _ h)
why-refusal s n (count_cut h) = rw (le-ltb 24576 (length s) (omega arith), lt-ltb _ _ h)
why-refusal s n (too_many l h c) = rw (le-ltb _ _ l, le-ltb _ _ h, lt-ltb _ _ c)
why-refusal s n (contents_cut h c r) = rw (le-ltb 24576 (length s) (omega arith), le-ltb _ _ h, le-ltb _ _ c, lt-ltb _ _ r)
why-refusal s n (bad_entry {i = i} w l g b) = rw (le-ltb _ _ w.size, whole_from s w, good-to s i (omega arith) g, wrong-ends s i n l b)
why-refusal s n (not_at_end w g e) = rw (le-ltb _ _ w.size, whole_from s w, all-good s g, ne_eqb _ _ e)

-- and nothing lies between.
pub right-or-why : (s : List ℕ) → Right s ⊎ ((n : ℕ) × Why s n)
unfolding FirstWrong
right-or-why s = by (ltb 24576 (length s)) (ltb (length s) 2) (ltb 64 (count_of s)) (ltb (length s) (first_of (count_of s))) refl refl refl refl
  where
    last : Whole s → GoodBefore s (count_of s) → (t : Bool) → eqb (due_in s (count_of s)) (length s) ≡ t → Right s ⊎ ((n : ℕ) × Why s n)
    last w g true p = inl (record { whole = w; good = g; ends = eqb-true _ _ p })
    last w g false p = inr (34, not_at_end w g (eqb-false _ _ p))

    entries : Whole s → GoodBefore s (count_of s) ⊎ FirstWrong s → Right s ⊎ ((n : ℕ) × Why s n)
    entries w (inl g) = last w g (eqb (due_in s (count_of s)) (length s)) refl
    entries w (inr f) = inr (f.1, bad_entry {i = f.0} w f.2 f.3 f.4)

    by : (t u v x : Bool) → ltb 24576 (length s) ≡ t → ltb (length s) 2 ≡ u → ltb 64 (count_of s) ≡ v → ltb (length s) (first_of (count_of s)) ≡ x → Right s ⊎ ((n : ℕ) × Why s n)
    by true u v x p q r o = inr (31, too_long (ltb-true _ _ p))
    by false true v x p q r o = inr (30, count_cut (ltb-true _ _ q))
    by false false true x p q r o = inr (30, too_many (ltb-false _ _ p) (ltb-false _ _ q) (ltb-true _ _ r))
    by false false false true p q r o = inr (30, contents_cut (ltb-false _ _ q) (ltb-false _ _ r) (ltb-true _ _ o))
    by false false false false p q r o =
        let w : Whole s = record { size = ltb-false _ _ p; head = ltb-false _ _ q; count = ltb-false _ _ r; room = ltb-false _ _ o } in
        entries w (good-or-wrong s (count_of s) (omega arith))

-- A refusal has its reason.
pub refusal-why : (s : List ℕ) (n : ℕ) → read_of s ≡ refused n → Why s n
refusal-why s n h = ⊎_elim right wrong (right-or-why s)
  where
    right : Right s → Why s n
    right r = absurd (refused-given n (entries_of s) (sym h ∙ right-read s r))

    wrong : (k : ℕ) × Why s k → Why s n
    wrong w = let e : ◌≡◌ {A = Answer (List Entry)} (refused w.0) (refused n) = sym (why-refusal s w.0 w.1) ∙ h in let z : w.0 ≡ n = cc in subst (λ (k : ℕ). Why s k) z w.1
