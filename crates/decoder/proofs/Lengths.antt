-- What was read has a length, one byte at least and no more than there are, and counts at most four values.
-- Assumes nothing.
use Prim.Native.Nat.{ℕ, ◌+◌, ◌≤◌}
use native.Mathlib.Omega.{arith}
use mathlib.Core.Path.{◌≡◌, refl, ap, subst}
use mathlib.Core.Bool.{Bool, true, false}
use mathlib.Core.List.{List}
use lib.ListN.{length, get_or, drop, length-drop}
use lib.Dec.{ltb, leb, eqb}
use borrow.Author.Tests.{ltb-false, leb-false, eqb-false}
use Rattle.basis.specs.Answer.{given}
use Rattle.basis.proofs.Tests.{refused-given, given-one}
use Rattle.forms.specs.Form.{form_of, code_of, length_of, limit_in}
use Rattle.forms.specs.declared.Form.{Form}
use Rattle.forms.proofs.Widths.{count-le}
use Rattle.decoder.specs.Decode.{Reading, number_in, instruction_in, head_of, decode_of}

pub head-length : (s : List ℕ) (r : Reading) → head_of s ≡ given r → (1 ≤ r.1) × (r.1 ≤ length s) × (r.0.count ≤ 4)
unfolding head_of
head-length s r e = go (eqb (length_of b) 0) (ltb (length s) (length_of b)) (ltb (number_in f s) (limit_in f)) refl refl refl
  where
    b : ℕ
    b = get_or s 0 0

    f : Form
    f = form_of (code_of b)

    go : (t u v : Bool) → eqb (length_of b) 0 ≡ t → ltb (length s) (length_of b) ≡ u → ltb (number_in f s) (limit_in f) ≡ v → (1 ≤ r.1) × (r.1 ≤ length s) × (r.0.count ≤ 4)
    go true u v x y z = absurd (refused-given 2 r (rw x at e))
    go false true v x y z = absurd (refused-given 3 r (rw (x, y) at e))
    go false false true x y z =
        let q : ◌≡◌ {A = Reading} (instruction_in f s, length_of b) r = given-one _ _ (rw (x, y, z) at e) in
        let k : length_of b ≡ r.1 = ap (λ (a : Reading). a.1) q in
        (omega (arith, eqb-false (length_of b) 0 x), omega (arith, ltb-false (length s) (length_of b) y), subst (λ (a : Reading). a.0.count ≤ 4) q (count-le f b))
    go false false false x y z = absurd (refused-given 2 r (rw (x, y, z) at e))

pub read_length : (p : List ℕ) (at : ℕ) (r : Reading) → decode_of p at ≡ given r → (1 ≤ r.1) × (at + r.1 ≤ length p) × (length p ≤ 16384) × (r.0.count ≤ 4)
unfolding decode_of
read_length p at r e = go (ltb 16384 (length p)) (leb (length p) at) refl refl
  where
    go : (t u : Bool) → ltb 16384 (length p) ≡ t → leb (length p) at ≡ u → (1 ≤ r.1) × (at + r.1 ≤ length p) × (length p ≤ 16384) × (r.0.count ≤ 4)
    go true u x y = absurd (refused-given 20 r (rw x at e))
    go false true x y = absurd (refused-given 1 r (rw (x, y) at e))
    go false false x y =
        let h = head-length (drop at p) r (rw (x, y) at e) in
        let l = leb-false (length p) at y in
        let d = length-drop at p in
        (h.0, omega (arith, h.1), ltb-false 16384 (length p) x, h.2)
