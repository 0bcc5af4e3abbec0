-- Every number by which a pack is refused is below 100, so that its two digits in the report are all of it.
-- Assumes nothing.
use Prim.Native.Nat.{ℕ, ◌+◌, ◌<◌}
use native.Mathlib.Omega.{arith}
use mathlib.Core.Path.{◌≡◌, refl, sym}
use mathlib.Core.Bool.{Bool, true, false}
use mathlib.Core.List.{List, [], ◌∷◌}
use lib.Dec.{ltb, eqb}
use lib.ListN.{length}
use Rattle.basis.specs.Pick.{pick}
use Rattle.basis.specs.Answer.{Answer, given, refused}
use Rattle.basis.proofs.Tests.{refused-given}
use Rattle.pack.specs.Contents.{first_of, refusal_of, end_of}
use Rattle.pack.specs.Read.{count_of, entries_of, closed_of, contents_of, read_of}
use Rattle.pack.specs.declared.Entry.{Entry}

-- a refusal's number is below 100
pub record Low {A : Type 0} (a : Answer A) : Type 0 where
  pub below : (n : ℕ) → a ≡ refused n → n < 100

low-given : {A : Type 0} (x : A) → Low (given x)
low-given x = record { below = λ n e. absurd (refused-given n x (sym e)) }

low-refused : {A : Type 0} (k : ℕ) → k < 100 → Low {A = A} (refused k)
low-refused k h = record { below = λ n e. let z : k ≡ n = cc in omega arith }

low-pick : {A : Type 0} (t : Bool) (x y : Answer A) → Low x → Low y → Low (pick t x y)
low-pick true x y p q = p
low-pick false x y p q = q

-- packs
refusal-low : (least at : ℕ) (e : Entry) → refusal_of least at e < 100
unfolding refusal_of
refusal-low least at e = by (ltb e.tag least) (ltb 1024 e.cells) (ltb 16384 e.length) (eqb e.offset at)
  where
    by : (t u v w : Bool) → pick t 32 (pick u 35 (pick v 35 (pick w 0 33))) < 100
    by true u v w = omega arith
    by false true v w = omega arith
    by false false true w = omega arith
    by false false false true = omega arith
    by false false false false = omega arith

end_low : (least at : ℕ) (es : List Entry) → Low (end_of least at es)
end_low least at [] = low-given at
end_low least at (e ∷ es) = low-pick (eqb (refusal_of least at e) 0) _ _ (end_low (e.tag + 1) (at + e.length) es) (low-refused (refusal_of least at e) (refusal-low least at e))

closed-low : (s : List ℕ) (a : Answer ℕ) → Low a → Low (closed_of s a)
closed-low s (given end) p = low-pick (eqb end (length s)) _ _ (low-given (entries_of s)) (low-refused 34 (omega arith))
closed-low s (refused n) p = low-refused n (p.below n refl)

pub read_low : (s : List ℕ) → Low (read_of s)
unfolding read_of contents_of
read_low s =
    low-pick (ltb 24576 (length s)) _ _ (low-refused 31 (omega arith))
    (closed-low s (contents_of s)
    (low-pick (ltb (length s) 2) _ _ (low-refused 30 (omega arith))
    (low-pick (ltb 64 (count_of s)) _ _ (low-refused 30 (omega arith))
    (low-pick (ltb (length s) (first_of (count_of s))) _ _ (low-refused 30 (omega arith))
    (end_low 0 (first_of (count_of s)) (entries_of s))))))
