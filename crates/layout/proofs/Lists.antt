-- Laws of the entries made from lists: one entry further, as a loop has it, and the sum of the lengths.
-- Assumes nothing.
use Prim.Native.Nat.{ℕ, suc, ◌+◌, ◌≤◌, ◌<◌}
use native.Mathlib.Omega.{arith}
use native.Mathlib.Numerals.{add-one}
use mathlib.Core.Path.{◌≡◌, refl, sym, ap, ◌∙◌}
use mathlib.Core.Bool.{true}
use mathlib.Core.Logic.{◌≢◌}
use mathlib.Core.List.{List, [], ◌∷◌}
use lib.Dec.{leb, eqb}
use lib.ListN.{length, get_or, drop}
use lib.Seq.{drop-cons}
use borrow.Author.Tests.{le-leb, eq-eqb, ne_eqb, leb-true, eqb-true}
use Rattle.basis.specs.Pick.{both}
use Rattle.basis.specs.Answer.{Answer, given, refused}
use Rattle.basis.proofs.Tests.{both_left, both_right}
use Rattle.basis.specs.Refusal.{number_of}
use Rattle.basis.specs.declared.refusal.Refusal.{Refusal}
use Rattle.pack.specs.Contents.{refusal_of, end_of}
use Rattle.pack.specs.declared.Entry.{Entry}
use Rattle.pack.proofs.Walks.{named, next}
use Rattle.layout.specs.Layout.{entry_of, laid, sum_of, alike}

-- lists that can be the entries of a pack
pub record Alike (tags cells lengths : List ℕ) : Type 0 where
  pub count : length tags ≤ 64
  pub cells-like : length cells ≡ length tags
  pub lengths-like : length lengths ≡ length tags

pub alike-shown : (tags cells lengths : List ℕ) → alike tags cells lengths ≡ true → Alike tags cells lengths
alike-shown tags cells lengths h =
    let a = leb (length tags) 64 in
    let b = eqb (length cells) (length tags) in
    let c = eqb (length lengths) (length tags) in
    let k = both_right a (both b c) h in
    record {
      count = leb-true _ _ (both_left a (both b c) h);
      cells-like = eqb-true _ _ (both_left b c k);
      lengths-like = eqb-true _ _ (both_right b c k);
    }

pub alike-back : (tags cells lengths : List ℕ) → Alike tags cells lengths → alike tags cells lengths ≡ true
alike-back tags cells lengths g = rw (le-leb _ _ g.count, eq-eqb _ _ g.cells-like, eq-eqb _ _ g.lengths-like)

pub length-laid : (at : ℕ) (tags cells lengths : List ℕ) → length cells ≡ length tags → length lengths ≡ length tags → length (laid at tags cells lengths) ≡ length tags
length-laid at [] cells lengths p q = refl
length-laid at (t ∷ tags) [] lengths p q = absurd (omega arith)
length-laid at (t ∷ tags) (c ∷ cells) [] p q = absurd (omega arith)
length-laid at (t ∷ tags) (c ∷ cells) (l ∷ lengths) p q = ap suc (length-laid (at + l) tags cells lengths (omega arith) (omega arith))

-- the lengths make the place where the bodies end
pub end-sum : (least at : ℕ) (tags cells lengths : List ℕ) (end : ℕ) → length cells ≡ length tags → length lengths ≡ length tags
    → end_of least at (laid at tags cells lengths) ≡ given end → end ≡ at + sum_of lengths
end-sum least at [] cells [] end p q h = let z : at ≡ end = cc in omega arith
end-sum least at [] cells (l ∷ lengths) end p q h = absurd (omega arith)
end-sum least at (t ∷ tags) [] lengths end p q h = absurd (omega arith)
end-sum least at (t ∷ tags) (c ∷ cells) [] end p q h = absurd (omega arith)
end-sum least at (t ∷ tags) (c ∷ cells) (l ∷ lengths) end p q h =
    let n = next least at (entry_of t c at l) (laid (at + l) tags cells lengths) end h in
    let r = end-sum (t + 1) (at + l) tags cells lengths end (omega arith) (omega arith) n.rest in
    omega arith

-- an entry whose offset is right is refused as one that is right at 0
pub refusal-laid : (least t c at l : ℕ) → refusal_of least at (entry_of t c at l) ≡ refusal_of least 0 (entry_of t c 0 l)
unfolding refusal_of
refusal-laid least t c at l = rw (eq-eqb at at refl)

module _ (tags cells lengths : List ℕ) (g : Alike tags cells lengths) (i : ℕ) (some : i < length tags) where
  pub laid_next : (at : ℕ) → laid at (drop i tags) (drop i cells) (drop i lengths)
      ≡ entry_of (get_or tags i 0) (get_or cells i 0) at (get_or lengths i 0) ∷ laid (at + get_or lengths i 0) (drop (i + 1) tags) (drop (i + 1) cells) (drop (i + 1) lengths)
  laid_next at =
      let p : i < length cells = omega (arith, g.cells-like) in
      let q : i < length lengths = omega (arith, g.lengths-like) in
      rw (drop-cons tags i 0 some, drop-cons cells i 0 p, drop-cons lengths i 0 q, add-one i)

  pub sum-next : sum_of (drop i lengths) ≡ get_or lengths i 0 + sum_of (drop (i + 1) lengths)
  sum-next = let q : i < length lengths = omega (arith, g.lengths-like) in rw (drop-cons lengths i 0 q, add-one i)

  -- the entry is judged as one at 0, and what the whole walk answers is known
  module _ (least end : ℕ) (e : Entry) (want : Answer ℕ) (same : e ≡ entry_of (get_or tags i 0) (get_or cells i 0) 0 (get_or lengths i 0))
      (whole : end_of least end (laid end (drop i tags) (drop i cells) (drop i lengths)) ≡ want) where
    here : refusal_of least end (entry_of (get_or tags i 0) (get_or cells i 0) end (get_or lengths i 0)) ≡ refusal_of least 0 e
    here = refusal-laid least (get_or tags i 0) (get_or cells i 0) end (get_or lengths i 0) ∙ rw same

    pub lists-refused : (why : Refusal) → number_of why ≡ refusal_of least 0 e → refused (number_of why) ≡ want
    lists-refused why told =
        let z : refusal_of least 0 e ≢ 0 = λ z. named why (told ∙ z) in
        rw (laid_next end, here, ne_eqb (refusal_of least 0 e) 0 z, ← told) at whole

    pub lists-next : 0 ≡ refusal_of least 0 e
        → end_of (e.tag + 1) (end + e.length) (laid (end + e.length) (drop (i + 1) tags) (drop (i + 1) cells) (drop (i + 1) lengths)) ≡ want
    lists-next told =
        let x = rw (laid_next end, here, eq-eqb (refusal_of least 0 e) 0 (sym told)) at whole in
        rw same x
