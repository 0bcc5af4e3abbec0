-- No instruction is longer than 9 bytes, and one is as long.
-- Assumes nothing.
use Prim.Native.Nat.{ℕ, ◌+◌, ◌^◌, ◌≤◌}
use native.Mathlib.Omega.{arith}
use mathlib.Core.Path.{◌≡◌, refl, ap}
use mathlib.Core.Bool.{Bool, true, false}
use mathlib.Core.List.{List, [], ◌∷◌}
use lib.Count.{ones, ones-le}
use lib.Dec.{ltb, leb, eqb}
use lib.ListN.{length, get_or, drop}
use borrow.Author.Tests.{eqb-true}
use Rattle.basis.specs.Pick.{pick, both}
use Rattle.basis.specs.Answer.{given, refused}
use Rattle.basis.specs.Room.{fitted}
use Rattle.basis.proofs.Tests.{refused-given, given-one}
use Rattle.forms.specs.Form.{form_of, code_of, width_in, limit_in, count_in, flags_in, length_of, value_width}
use Rattle.forms.specs.declared.Form.{Form}
use Rattle.forms.specs.declared.Form.TheVariants.{Plain, Byte, Shift, Word, Short, Values, Illegal}
use Rattle.forms.proofs.Widths.{count-le, flags-lt}
use Rattle.decoder.specs.Decode.{Reading, number_in, instruction_in, head_of, decode_of}
use Rattle.isa.specs.declared.Instruction.{Instruction}
use Rattle.encoder.specs.Encode.{count_good, values_good, well_formed, bytes_in, encoded_of, encode_of}
use Rattle.encoder.proofs.Wells.{count-good-le, well, well-flags, length-well}
use Rattle.sizes.proofs.Rooms.{Writes, early, late}

-- what stands after the first byte, by the form: a number, or values with at most four flags
after-most : (f : Form) (count set : ℕ) → count_good f count ≡ true → set ≤ 4 → width_in f + count + set ≤ 8
after-most Plain n k h l = omega (arith, eqb-true n 0 h)
after-most Byte n k h l = omega (arith, eqb-true n 0 h)
after-most Shift n k h l = omega (arith, eqb-true n 0 h)
after-most Word n k h l = omega (arith, eqb-true n 0 h)
after-most Short n k h l = omega (arith, eqb-true n 0 h)
after-most Values n k h l = omega (arith, count-good-le Values n h)
after-most Illegal n k h l = omega (arith, eqb-true n 0 h)

encoded-most : (i : Instruction) → well_formed i ≡ true → length (encoded_of i) ≤ 9
encoded-most i h =
    let w = well i h in
    omega (arith, length-well i w, after-most (form_of i.code) i.count (ones i.flags) w.count (ones-le 4 i.flags (well-flags i w)))

pub encode-writes : (i : Instruction) → Writes 9 (λ room. encode_of i room)
unfolding encode_of
encode-writes i = by (well_formed i) refl
  where
    by : (t : Bool) → well_formed i ≡ t → Writes 9 (λ room. pick (well_formed i) (fitted room (encoded_of i)) (refused 26))
    by true e = late (encoded_of i) (encoded-most i e) (λ room. rw e)
    by false e = early 26 (λ z. omega arith) (λ room. rw e)

-- four values of two bytes each
abbrev pub longest : Instruction
longest = record { code = 0xC0; number = 0; count = 4; flags = 15; v0 = 1; v1 = 2; v2 = 3; v3 = 4 }

pub longest-written : encode_of longest 9 ≡ given (0xFF ∷ 1 ∷ 0 ∷ 2 ∷ 0 ∷ 3 ∷ 0 ∷ 4 ∷ 0 ∷ [])
unfolding encode_of well_formed values_good bytes_in form_of value_width
longest-written = refl

-- the length of what is read
first-most : (f : Form) (b : ℕ) → width_in f + count_in f b + ones (flags_in f b) ≤ 8
first-most f b = by f b (ones-le 4 (flags_in f b) (flags-lt f b))
  where
    by : (f : Form) (b : ℕ) → ones (flags_in f b) ≤ 4 → width_in f + count_in f b + ones (flags_in f b) ≤ 8
    by Plain b h = omega arith
    by Byte b h = omega arith
    by Shift b h = omega arith
    by Word b h = omega arith
    by Short b h = omega arith
    by Values b h = omega (arith, count-le Values b)
    by Illegal b h = omega arith

length_most : (b : ℕ) → length_of b ≤ 9
unfolding length_of
length_most b = by (ltb 0 (limit_in f)) (ltb (flags_in f b) (2 ^ count_in f b))
  where
    f : Form
    f = form_of (code_of b)

    by : (t u : Bool) → pick (both t u) (1 + width_in f + count_in f b + ones (flags_in f b)) 0 ≤ 9
    by true true = omega (arith, first-most f b)
    by true false = omega arith
    by false u = omega arith

head-most : (s : List ℕ) (r : Reading) → head_of s ≡ given r → r.1 ≤ 9
unfolding head_of
head-most s r e = go (eqb (length_of b) 0) (ltb (length s) (length_of b)) (ltb (number_in f s) (limit_in f)) e
  where
    b : ℕ
    b = get_or s 0 0

    f : Form
    f = form_of (code_of b)

    go : (t u v : Bool) → pick t (refused 2) (pick u (refused 3) (pick v (given (instruction_in f s, length_of b)) (refused 2))) ≡ given r → r.1 ≤ 9
    go true u v x = absurd (refused-given 2 r x)
    go false true v x = absurd (refused-given 3 r x)
    go false false true x = let k : length_of b ≡ r.1 = ap (λ (a : Reading). a.1) (given-one _ _ x) in omega (arith, length_most b)
    go false false false x = absurd (refused-given 2 r x)

pub read-most : (p : List ℕ) (at : ℕ) (r : Reading) → decode_of p at ≡ given r → r.1 ≤ 9
unfolding decode_of
read-most p at r e = go (ltb 16384 (length p)) (leb (length p) at) e
  where
    go : (t u : Bool) → pick t (refused 20) (pick u (refused 1) (head_of (drop at p))) ≡ given r → r.1 ≤ 9
    go true u x = absurd (refused-given 20 r x)
    go false true x = absurd (refused-given 1 r x)
    go false false x = head-most (drop at p) r x
