-- What was read is well-formed, and its bytes are those that it was read from.
-- Assumes nothing.
use Prim.Native.Nat.{ℕ, suc, ◌+◌, ◌%◌, ◌≤◌, ◌<◌}
use native.Mathlib.Omega.{arith}
use mathlib.Core.Path.{◌≡◌, refl, sym, ap, ◌∙◌}
use mathlib.Core.Bool.{Bool, true, false}
use mathlib.Core.List.{List}
use lib.Dec.{ltb, eqb}
use lib.ListN.{length, get_or, take, drop}
use lib.Seq.{take-add, drop-drop}
use borrow.Author.Tests.{le-leb, ltb-true, ltb-false, eqb-true, eqb-false}
use Rattle.basis.specs.Answer.{given}
use Rattle.basis.specs.Number.{bytes_of, Bytes}
use Rattle.basis.proofs.Tests.{refused-given, given-one}
use Rattle.basis.proofs.Tables.{every, at}
use Rattle.basis.proofs.Numbers.{number_lt, bytes_back}
use Rattle.basis.proofs.Stores.{head-take}
use Rattle.forms.specs.Form.{form_of, code_of, width_in, limit_in, count_in, flags_in, length_of, width0, width1, width2, width3}
use Rattle.forms.specs.declared.Form.{Form}
use Rattle.forms.specs.declared.Form.TheVariants.{Plain, Byte, Shift, Word, Short, Values, Illegal}
use Rattle.forms.proofs.Widths.{count-le, widths-sum, legal, Legal}
use Rattle.decoder.specs.Decode.{Reading, number_in, with_values, instruction_in, head_of}
use Rattle.isa.specs.declared.Instruction.{Instruction}
use Rattle.encoder.specs.Encode.{count_good, well_formed, first_in, value_bytes, bytes_in, encoded_of}
use Rattle.encoder.proofs.Wells.{well-back}

same_first : (b : ℕ) → Instruction
same_first b = record {
  code = code_of b;
  number = b % 64;
  count = count_in (form_of (code_of b)) b;
  flags = flags_in (form_of (code_of b)) b;
  v0 = 0;
  v1 = 0;
  v2 = 0;
  v3 = 0;
}

test-first : ℕ → Bool
unfolding same_first
test-first b = eqb (first_in (form_of (code_of b)) (same_first b)) b

all_first : every test-first 256 ≡ true
unfolding test-first form_of code_of
all_first = refl

first_back : (b : ℕ) → b < 256 → first_in (form_of (code_of b)) (same_first b) ≡ b
unfolding test-first
first_back b h = eqb-true _ _ (at test-first 256 all_first b h)

-- the first byte of an instruction that was read
read_first : (f : Form) (b : ℕ) (s : List ℕ) → get_or s 0 0 ≡ b → form_of (code_of b) ≡ f → first_in f (instruction_in f s) ≡ first_in f (same_first b)
unfolding same_first
read_first Plain b s e g = rw e
read_first Byte b s e g = rw e
read_first Shift b s e g = rw e
read_first Word b s e g = rw e
read_first Short b s e g = rw e
read_first Values b s e g = rw (e, g)
read_first Illegal b s e g = rw e

-- four numbers that were read one after the other have the bytes that they were read from
values-back : (code number count flags : ℕ) (s : List ℕ) (at : ℕ) → Bytes s → at + width0 count flags + width1 count flags + width2 count flags + width3 count flags ≤ length s
    → value_bytes (with_values code number count flags s at) ≡ take (width0 count flags + (width1 count flags + (width2 count flags + width3 count flags))) (drop at s)
values-back code number count flags s at h l =
    let w0 = width0 count flags in
    let w1 = width1 count flags in
    let w2 = width2 count flags in
    let w3 = width3 count flags in
    rw (bytes_back w0 s at h (omega arith), bytes_back w1 s (at + w0) h (omega arith), bytes_back w2 s (at + w0 + w1) h (omega arith), bytes_back w3 s (at + w0 + w1 + w2) h (omega arith))
    (sym (take-add w0 (w1 + (w2 + w3)) (drop at s)
    ∙ rw (drop-drop, take-add w1 (w2 + w3) (drop (at + w0) s), drop-drop w1 (at + w0) s, take-add w2 w3 (drop (at + w0 + w1) s), drop-drop w2 (at + w0 + w1) s)))

-- the number of an instruction that was read has the bytes that it was read from
number-back : (f : Form) (s : List ℕ) → Bytes s → 1 + width_in f ≤ length s → bytes_of (width_in f) (number_in f s) ≡ take (width_in f) (drop 1 s)
number-back Plain s h l = refl
number-back Byte s h l = bytes_back 1 s 1 h l
number-back Shift s h l = bytes_back 1 s 1 h l
number-back Word s h l = bytes_back 2 s 1 h l
number-back Short s h l = refl
number-back Values s h l = refl
number-back Illegal s h l = refl

-- what a decoder's answer shows
pub record Shown (s : List ℕ) (i : Instruction) (n : ℕ) : Type 0 where
  pub legal : length_of (get_or s 0 0) ≡ 0 → ⊥
  pub room : length_of (get_or s 0 0) ≤ length s
  pub number : number_in (form_of (code_of (get_or s 0 0))) s < limit_in (form_of (code_of (get_or s 0 0)))
  pub same : i ≡ instruction_in (form_of (code_of (get_or s 0 0))) s
  pub long : n ≡ length_of (get_or s 0 0)

shown : (s : List ℕ) (i : Instruction) (n : ℕ) → head_of s ≡ given (i, n) → Shown s i n
unfolding head_of
shown s i n e = go (eqb (length_of b) 0) (ltb (length s) (length_of b)) (ltb (number_in (form_of (code_of b)) s) (limit_in (form_of (code_of b)))) refl refl refl
  where
    b : ℕ
    b = get_or s 0 0

    go : (t u w : Bool) → eqb (length_of b) 0 ≡ t → ltb (length s) (length_of b) ≡ u → ltb (number_in (form_of (code_of b)) s) (limit_in (form_of (code_of b))) ≡ w → Shown s i n
    go true u w p q r = absurd (refused-given 2 (i, n) (rw p at e))
    go false true w p q r = absurd (refused-given 3 (i, n) (rw (p, q) at e))
    go false false false p q r = absurd (refused-given 2 (i, n) (rw (p, q, r) at e))
    go false false true p q r =
        let d = given-one _ (i, n) (rw (p, q, r) at e) in
        record {
          legal = eqb-false _ _ p;
          room = ltb-false _ _ q;
          number = ltb-true _ _ r;
          same = sym (ap (λ (x : Reading). x.0) d);
          long = sym (ap (λ (x : Reading). x.1) d);
        }

count-good-in : (f : Form) (b : ℕ) → count_good f (count_in f b) ≡ true
count-good-in Plain b = refl
count-good-in Byte b = refl
count-good-in Shift b = refl
count-good-in Word b = refl
count-good-in Short b = refl
count-good-in Values b = rw (le-leb 1 (b % 4 + 1) (omega arith), le-leb (b % 4 + 1) 4 (omega arith))
count-good-in Illegal b = refl

-- an instruction that was read is well-formed
read-well : (s : List ℕ) → Bytes s → Legal (form_of (code_of (get_or s 0 0))) (get_or s 0 0)
    → number_in (form_of (code_of (get_or s 0 0))) s < limit_in (form_of (code_of (get_or s 0 0)))
    → well_formed (instruction_in (form_of (code_of (get_or s 0 0))) s) ≡ true
read-well s h l m =
    let b = get_or s 0 0 in
    let f = form_of (code_of b) in
    let i = instruction_in f s in
    well-back i (record {
      number = m;
      count = count-good-in f b;
      flags = l.flags;
      v0 = number_lt _ s _ h;
      v1 = number_lt _ s _ h;
      v2 = number_lt _ s _ h;
      v3 = number_lt _ s _ h;
    })

-- and its bytes are those that it was read from
read-bytes : (s : List ℕ) → Bytes s → Legal (form_of (code_of (get_or s 0 0))) (get_or s 0 0) → length_of (get_or s 0 0) ≤ length s
    → encoded_of (instruction_in (form_of (code_of (get_or s 0 0))) s) ≡ take (length_of (get_or s 0 0)) s
unfolding bytes_in length_of
read-bytes s h l r =
    let b = get_or s 0 0 in
    let f = form_of (code_of b) in
    let c = count_in f b in
    let g = flags_in f b in
    let w = width0 c g + (width1 c g + (width2 c g + width3 c g)) in
    let m = widths-sum c g (count-le f b) l.flags in
    let n : length_of b ≡ suc (width_in f + w) = omega (arith, l.long) in
    let e : first_in f (instruction_in f s) ≡ b = read_first f b s refl refl ∙ first_back b (h 0) in
    rw (e, number-back f s h (omega arith), values-back (code_of b) (number_in f s) c g s (1 + width_in f) h (omega arith), n)
    (rw (← drop-drop (width_in f) 1 s, ← take-add) (head-take s (width_in f + w) (omega arith)))

-- What is read at the head of a list of bytes is well-formed, and written again gives the same bytes.
pub head-back : (s : List ℕ) (i : Instruction) (n : ℕ) → Bytes s → head_of s ≡ given (i, n) → (well_formed i ≡ true) × (encoded_of i ≡ take n s) × (n ≤ length s)
unfolding length_of
head-back s i n h e =
    let d = shown s i n e in
    let l = legal (form_of (code_of (get_or s 0 0))) (get_or s 0 0) d.legal in
    rw (d.same, d.long) (read-well s h l d.number, read-bytes s h l d.room, d.room)
