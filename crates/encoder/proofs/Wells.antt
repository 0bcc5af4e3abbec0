-- Laws of well-formed instructions: what the test shows, and the length of their bytes.
-- Assumes nothing.
use Prim.Native.Nat.{ℕ, ◌+◌, ◌^◌, ◌≤◌, ◌<◌}
use native.Mathlib.Omega.{arith}
use mathlib.Core.Path.{◌≡◌, sym}
use mathlib.Core.Bool.{true}
use mathlib.Core.List.{List, ◌∷◌, ◌++◌}
use lib.Count.{ones}
use lib.ListN.{length, set, length-append, length-set}
use lib.Seq.{sets}
use lib.Dec.{ltb, leb}
use borrow.Author.Tests.{lt-ltb, ltb-true, leb-true, eqb-true}
use Rattle.basis.specs.Pick.{both}
use Rattle.basis.specs.Number.{bytes_of}
use Rattle.basis.proofs.Tests.{both_left, both_right}
use Rattle.basis.proofs.Numbers.{length-bytes}
use Rattle.basis.proofs.Stores.{sets-bytes}
use Rattle.forms.specs.Form.{form_of, width_in, limit_in, width0, width1, width2, width3}
use Rattle.forms.specs.declared.Form.{Form}
use Rattle.forms.specs.declared.Form.TheVariants.{Plain, Byte, Shift, Word, Short, Values, Illegal}
use Rattle.forms.proofs.Widths.{width-le, widths-sum, flags-below}
use Rattle.isa.specs.declared.Instruction.{Instruction}
use Rattle.encoder.specs.Encode.{count_good, values_good, well_formed, first_in, value_bytes, bytes_in, encoded_of}

pub count-good-le : (f : Form) (n : ℕ) → count_good f n ≡ true → n ≤ 4
count-good-le Plain n h = omega (arith, eqb-true n 0 h)
count-good-le Byte n h = omega (arith, eqb-true n 0 h)
count-good-le Shift n h = omega (arith, eqb-true n 0 h)
count-good-le Word n h = omega (arith, eqb-true n 0 h)
count-good-le Short n h = omega (arith, eqb-true n 0 h)
count-good-le Values n h = leb-true n 4 (both_right (leb 1 n) (leb n 4) h)
count-good-le Illegal n h = omega (arith, eqb-true n 0 h)

pub record WellFormed (i : Instruction) : Type 0 where
  pub number : i.number < limit_in (form_of i.code)
  pub count : count_good (form_of i.code) i.count ≡ true
  pub flags : i.flags < 2 ^ i.count
  pub v0 : i.v0 < 256 ^ width0 i.count i.flags
  pub v1 : i.v1 < 256 ^ width1 i.count i.flags
  pub v2 : i.v2 < 256 ^ width2 i.count i.flags
  pub v3 : i.v3 < 256 ^ width3 i.count i.flags

pub well : (i : Instruction) → well_formed i ≡ true → WellFormed i
unfolding well_formed values_good
well i h =
    let t = ltb i.number (limit_in (form_of i.code)) in
    let u = count_good (form_of i.code) i.count in
    let w = ltb i.flags (2 ^ i.count) in
    let t0 = ltb i.v0 (256 ^ width0 i.count i.flags) in
    let t1 = ltb i.v1 (256 ^ width1 i.count i.flags) in
    let t2 = ltb i.v2 (256 ^ width2 i.count i.flags) in
    let t3 = ltb i.v3 (256 ^ width3 i.count i.flags) in
    let h1 = both_right t (both u (both w (both t0 (both t1 (both t2 t3))))) h in
    let h2 = both_right u (both w (both t0 (both t1 (both t2 t3)))) h1 in
    let h3 = both_right w (both t0 (both t1 (both t2 t3))) h2 in
    let h4 = both_right t0 (both t1 (both t2 t3)) h3 in
    let h5 = both_right t1 (both t2 t3) h4 in
    record {
      number = ltb-true _ _ (both_left t (both u (both w (both t0 (both t1 (both t2 t3))))) h);
      count = both_left u (both w (both t0 (both t1 (both t2 t3)))) h1;
      flags = ltb-true _ _ (both_left w (both t0 (both t1 (both t2 t3))) h2);
      v0 = ltb-true _ _ (both_left t0 (both t1 (both t2 t3)) h3);
      v1 = ltb-true _ _ (both_left t1 (both t2 t3) h4);
      v2 = ltb-true _ _ (both_left t2 t3 h5);
      v3 = ltb-true _ _ (both_right t2 t3 h5);
    }

pub count-pos : (n : ℕ) → count_good Values n ≡ true → 1 ≤ n
count-pos n h = leb-true 1 n (both_left (leb 1 n) (leb n 4) h)

-- what a well-formed instruction's count and flags are
pub well-count : (i : Instruction) → WellFormed i → i.count ≤ 4
well-count i w = count-good-le (form_of i.code) i.count w.count

pub well-flags : (i : Instruction) → WellFormed i → i.flags < 16
well-flags i w = flags-below i.count i.flags (well-count i w) w.flags

pub length-encoded : (i : Instruction) → length (encoded_of i) ≡ 1 + width_in (form_of i.code) + width0 i.count i.flags + width1 i.count i.flags + width2 i.count i.flags + width3 i.count i.flags
unfolding bytes_in
length-encoded i = simp (length-append, length-bytes) (omega arith)

pub length-well : (i : Instruction) → WellFormed i → length (encoded_of i) ≡ 1 + width_in (form_of i.code) + i.count + ones i.flags
length-well i w = omega (arith, length-encoded i, widths-sum i.count i.flags (well-count i w) w.flags)

pub put_two : (l x₁ x₂ ys : List ℕ) (a w v : ℕ) → x₁ ≡ sets (set l 0 a) 1 (bytes_of w v) → x₂ ≡ sets x₁ (1 + w) ys → x₂ ≡ sets l 0 (a ∷ (bytes_of w v ++ ys))
put_two l x₁ x₂ ys a w v p q = rw (q, p) (sym (sets-bytes (set l 0 a) ys 1 w v))

-- the width, the first byte and the parts of the room as locals hold them
module _ (i : Instruction) (w : ℕ) (f : Form) (ew : w ≡ width_in f) (ef : f ≡ form_of i.code) where
  pub own-width : w ≡ width_in (form_of i.code)
  own-width = rw (← ef) ew

  pub room-number : (l : List ℕ) (a : ℕ) → length (encoded_of i) ≤ length l → (w ≤ 2) × (1 + w ≤ length (set l 0 a))
  room-number l a h =
      let e = own-width in
      let k = width-le (form_of i.code) in
      let n = length-encoded i in
      (omega arith, rw length-set (omega arith))

  pub room-values : (l x : List ℕ) (a : ℕ) → length (encoded_of i) ≤ length l → length x ≡ length (set l 0 a)
      → 1 + w + width0 i.count i.flags + width1 i.count i.flags + width2 i.count i.flags + width3 i.count i.flags ≤ length x
  room-values l x a h k =
      let e = own-width in
      let n = length-encoded i in
      let m : length x ≡ length l = rw length-set at k in
      omega arith

  pub put-encoded : (l x₁ x₂ : List ℕ) (a : ℕ) → a ≡ first_in (form_of i.code) i → x₁ ≡ sets (set l 0 a) 1 (bytes_of w i.number) → x₂ ≡ sets x₁ (1 + w) (value_bytes i) → x₂ ≡ sets l 0 (encoded_of i)
  unfolding bytes_in
  put-encoded l x₁ x₂ a ea e₁ e₂ = rw (← own-width, ← ea) (put_two l x₁ x₂ (value_bytes i) a w i.number e₁ e₂)

pub room-first : (i : Instruction) (n : ℕ) → length (encoded_of i) ≤ n → 0 < n
room-first i n h = omega (arith, length-encoded i)

pub well-back : (i : Instruction) → WellFormed i → well_formed i ≡ true
unfolding well_formed values_good
well-back i w =
    rw (lt-ltb _ _ w.number, w.count, lt-ltb _ _ w.flags, lt-ltb _ _ w.v0, lt-ltb _ _ w.v1, lt-ltb _ _ w.v2, lt-ltb _ _ w.v3)
