-- The numbers of a verdict are those of one verdict.
-- Assumes nothing.
use Prim.Native.Nat.{ℕ}
use native.Mathlib.Omega.{arith}
use mathlib.Core.Path.{◌≡◌, refl, ap}
use mathlib.Core.Logic.{inl, inr}
use mathlib.Core.List.{List}
use Rattle.verifier.specs.Verify.{Judged, good, names, nameless, Numbered, verify_of}
use Rattle.verifier.proofs.Numbers.{verify-number}
use Rattle.answers.specs.declared.KhxVerdict.{KhxVerdict}
use Rattle.answers.specs.Verdicts.{verdict_in}
use Rattle.tells.specs.Told.{ToldVerdict}

numbered-told : (v : Judged) → Numbered v → ToldVerdict v
numbered-told good h = tt
numbered-told (names k a) (inl h) = (h.0, omega (arith, h.1))
numbered-told (names k a) (inr h) = (omega (arith, h.0), h.1)
numbered-told (nameless k) (inl h) = omega arith
numbered-told (nameless k) (inr (inl h)) = omega arith
numbered-told (nameless k) (inr (inr h)) = omega arith

-- a verdict's number says whether it names an instruction
pub verify-told : (p : List ℕ) (cells : ℕ) (depths : List ℕ) → ToldVerdict (verify_of p cells depths).0
verify-told p cells depths = numbered-told (verify_of p cells depths).0 (verify-number p cells depths)

-- the numbers of a verdict are those of one verdict
pub verdict-in-one : (a b : Judged) → ToldVerdict a → ToldVerdict b → verdict_in a ≡ verdict_in b → a ≡ b
verdict-in-one good good x y e = refl
verdict-in-one good (names k a) x y e = let z : 0 ≡ k = ap (λ (v : KhxVerdict). v.refusal) e in absurd (omega (arith, y.0))
verdict-in-one good (nameless k) x y e = let z : 0 ≡ k = ap (λ (v : KhxVerdict). v.refusal) e in absurd (omega arith)
verdict-in-one (names k a) good x y e = let z : k ≡ 0 = ap (λ (v : KhxVerdict). v.refusal) e in absurd (omega (arith, x.0))
verdict-in-one (names k a) (names l b) x y e = ap (λ (v : KhxVerdict). names v.refusal v.at) e
verdict-in-one (names k a) (nameless l) x y e = let z : k ≡ l = ap (λ (v : KhxVerdict). v.refusal) e in absurd (omega (arith, x.1))
verdict-in-one (nameless k) good x y e = let z : k ≡ 0 = ap (λ (v : KhxVerdict). v.refusal) e in absurd (omega arith)
verdict-in-one (nameless k) (names l b) x y e = let z : k ≡ l = ap (λ (v : KhxVerdict). v.refusal) e in absurd (omega (arith, y.1))
verdict-in-one (nameless k) (nameless l) x y e = ap (λ (v : KhxVerdict). nameless v.refusal) e
