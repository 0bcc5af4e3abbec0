-- Laws of the walk over the entries of a pack: one entry further, as a loop has it, and what an entry that passes shows.
-- Assumes nothing.
use Prim.Native.Nat.{ℕ, zero, suc, ◌+◌, ◌-◌, ◌*◌, ◌≤◌, ◌<◌}
use native.Mathlib.Omega.{arith}
use native.Mathlib.Nat.{add-zero}
use mathlib.Core.Path.{◌≡◌, refl, sym, ap, ◌∙◌}
use mathlib.Core.Bool.{Bool, true, false}
use mathlib.Core.Logic.{◌≢◌}
use mathlib.Core.List.{List, [], ◌∷◌}
use lib.Dec.{ltb, eqb}
use lib.ListN.{length, get_elem?}
use mathlib.Core.Option.{some}
use Rattle.std.specs.Prelude.{slice_get, Some, None}
use borrow.Author.Tests.{le-ltb, eq-eqb, ne_eqb, ltb-false, eqb-true}
use Rattle.basis.specs.Answer.{Answer, given, refused}
use Rattle.basis.specs.Refusal.{number_of}
use Rattle.basis.specs.declared.refusal.Refusal.{Refusal}
use Rattle.basis.proofs.Tests.{refused-given}
use Rattle.pack.specs.Contents.{entry_at, entries_from, refusal_of, end_of}
use Rattle.pack.specs.declared.Entry.{Entry}

-- the first of the entries and the others
pub from_more : (s : List ℕ) (at left : ℕ) → 0 < left → entries_from s at left ≡ entry_at s at ∷ entries_from s (at + 8) (left - 1)
from_more s at zero h = absurd (omega arith)
from_more s at (suc n) h = let z : suc n - 1 ≡ n = omega arith in rw z

pub length_from : (s : List ℕ) (at n : ℕ) → length (entries_from s at n) ≡ n
length_from s at zero = refl
length_from s at (suc n) = ap suc (length_from s (at + 8) n)

-- the entry at an index
pub from-there : (s : List ℕ) (at n i : ℕ) → i < n → slice_get (entries_from s at n) i ≡ Some (entry_at s (at + 8 * i))
from-there s at zero i h = absurd (omega arith)
from-there s at (suc n) zero h = rw add-zero
from-there s at (suc n) (suc i) h =
    let z : at + 8 + 8 * i ≡ at + 8 * suc i = omega arith in
    from-there s (at + 8) n i (omega arith) ∙ rw z

pub from_past : (s : List ℕ) (at n i : ℕ) → n ≤ i → slice_get (entries_from s at n) i ≡ None
from_past s at zero i h = refl
from_past s at (suc n) zero h = absurd (omega arith)
from_past s at (suc n) (suc i) h = from_past s (at + 8) n i (omega arith)

-- the entry that the language finds at an index is the one that the logic does
pub listed : (es : List Entry) (i : ℕ) (e : Entry) → slice_get es i ≡ Some e → get_elem? es i ≡ some e
listed [] i e h = cc
listed (x ∷ es) zero e h = cc
listed (x ∷ es) (suc i) e h = listed es i e h

-- no refusal has the number 0
pub named : (why : Refusal) → number_of why ≢ 0
named why h = grind arith

-- the walk at the entry with an index, where what the whole walk answers is known
module _ (s : List ℕ) (n index least end : ℕ) (e : Entry) (want : Answer ℕ)
    (some : index < n) (same : e ≡ entry_at s (2 + 8 * index)) (whole : end_of least end (entries_from s (2 + 8 * index) (n - index)) ≡ want) where
  first : entries_from s (2 + 8 * index) (n - index) ≡ e ∷ entries_from s (2 + 8 * (index + 1)) (n - (index + 1))
  first =
      let a : n - index - 1 ≡ n - (index + 1) = omega arith in
      let b : 2 + 8 * index + 8 ≡ 2 + 8 * (index + 1) = omega arith in
      rw (from_more s (2 + 8 * index) (n - index) (omega arith), same, a, b)

  pub end_refused : (why : Refusal) → number_of why ≡ refusal_of least end e → refused (number_of why) ≡ want
  end_refused why told = let z : refusal_of least end e ≢ 0 = λ z. named why (told ∙ z) in rw (first, ne_eqb (refusal_of least end e) 0 z, ← told) at whole

  pub end-next : 0 ≡ refusal_of least end e → end_of (e.tag + 1) (end + e.length) (entries_from s (2 + 8 * (index + 1)) (n - (index + 1))) ≡ want
  end-next told = rw (first, eq-eqb (refusal_of least end e) 0 (sym told)) at whole

-- what an entry that nothing refuses shows
pub record Passed (least at : ℕ) (e : Entry) : Type 0 where
  pub tag : least ≤ e.tag
  pub cells : e.cells ≤ 1024
  pub length : e.length ≤ 16384
  pub offset : e.offset ≡ at

pub passed : (least at : ℕ) (e : Entry) → refusal_of least at e ≡ 0 → Passed least at e
unfolding refusal_of
passed least at e h = go (ltb e.tag least) (ltb 1024 e.cells) (ltb 16384 e.length) (eqb e.offset at) refl refl refl refl
  where
    go : (t u v x : Bool) → ltb e.tag least ≡ t → ltb 1024 e.cells ≡ u → ltb 16384 e.length ≡ v → eqb e.offset at ≡ x → Passed least at e
    go true u v x p q r y = absurd (let z : ◌≡◌ {A = ℕ} 32 0 = rw p at h in omega arith)
    go false true v x p q r y = absurd (let z : ◌≡◌ {A = ℕ} 35 0 = rw (p, q) at h in omega arith)
    go false false true x p q r y = absurd (let z : ◌≡◌ {A = ℕ} 35 0 = rw (p, q, r) at h in omega arith)
    go false false false false p q r y = absurd (let z : ◌≡◌ {A = ℕ} 33 0 = rw (p, q, r, y) at h in omega arith)
    go false false false true p q r y = record { tag = ltb-false _ _ p; cells = ltb-false _ _ q; length = ltb-false _ _ r; offset = eqb-true _ _ y }

pub passes : (least at : ℕ) (e : Entry) → Passed least at e → refusal_of least at e ≡ 0
unfolding refusal_of
passes least at e p = rw (le-ltb _ _ p.tag, le-ltb _ _ p.cells, le-ltb _ _ p.length, eq-eqb _ _ p.offset)

-- what a walk that comes to an end shows of its first entry
pub record Next (least at : ℕ) (e : Entry) (es : List Entry) (end : ℕ) : Type 0 where
  pub passed : Passed least at e
  pub rest : end_of (e.tag + 1) (at + e.length) es ≡ given end

pub next : (least at : ℕ) (e : Entry) (es : List Entry) (end : ℕ) → end_of least at (e ∷ es) ≡ given end → Next least at e es end
next least at e es end h = go (eqb (refusal_of least at e) 0) refl
  where
    go : (t : Bool) → eqb (refusal_of least at e) 0 ≡ t → Next least at e es end
    go true p = record { passed = passed least at e (eqb-true _ _ p); rest = rw p at h }
    go false p = absurd (refused-given (refusal_of least at e) end (rw p at h))

pub end_ge : (least at : ℕ) (es : List Entry) (end : ℕ) → end_of least at es ≡ given end → at ≤ end
end_ge least at [] end h = let z : at ≡ end = cc in omega arith
end_ge least at (e ∷ es) end h = let n = next least at e es end h in let r = end_ge (e.tag + 1) (at + e.length) es end n.rest in omega arith
