-- What is written is read again as the same instruction.
-- Assumes nothing.
use Prim.Native.Nat.{ℕ, ◌+◌, ◌-◌, ◌*◌, ◌%◌, ◌^◌, ◌≤◌, ◌<◌}
use native.Mathlib.Omega.{arith}
use mathlib.Core.Path.{◌≡◌, refl, sym, ap, ap₂, ◌∙◌}
use mathlib.Core.Bool.{Bool, true, false}
use mathlib.Core.List.{List, [], ◌∷◌, ◌++◌, append_assoc}
use lib.Dec.{ltb, eqb}
use lib.ListN.{length, get_or, length-append}
use borrow.Author.Tests.{lt-ltb, le-ltb, lt-leb, ne_eqb, ltb-true, ltb-false, eqb-true, eqb-false}
use Rattle.basis.specs.Answer.{given}
use Rattle.basis.specs.Number.{number_at, bytes_of}
use Rattle.basis.proofs.Tests.{false-true}
use Rattle.basis.proofs.Tables.{every, at}
use Rattle.basis.proofs.Numbers.{length-bytes, read_back, read_at}
use Rattle.forms.specs.Form.{form_of, code_of, width_in, limit_in, count_in, flags_in, length_of, width0, width1, width2, width3}
use Rattle.forms.specs.declared.Form.{Form}
use Rattle.forms.specs.declared.Form.TheVariants.{Plain, Byte, Shift, Word, Short, Values, Illegal}
use Rattle.decoder.specs.Decode.{number_in, instruction_in, head_of}
use Rattle.isa.specs.declared.Instruction.{Instruction}
use Rattle.encoder.specs.Encode.{count_good, well_formed, first_in, value_bytes, bytes_in, encoded_of}
use Rattle.encoder.proofs.Wells.{well, WellFormed, well-count, well-flags, count-pos, length-encoded, length-well}

-- a form whose first byte is its code
abbrev is_low : Form → Bool
is_low Plain = true
is_low Byte = true
is_low Shift = true
is_low Word = true
is_low Short = false
is_low Values = false
is_low Illegal = true

test_low : ℕ → Bool
test_low c = is_low (form_of c)

all-low : every test_low 128 ≡ true
unfolding test_low form_of
all-low = refl

low-code : (c : ℕ) → c < 128 → is_low (form_of c) ≡ true
unfolding test_low
low-code c h = at test_low 128 all-low c h

low_first : (f : Form) (i : Instruction) → is_low f ≡ true → first_in f i ≡ i.code
low_first Plain i l = refl
low_first Byte i l = refl
low_first Shift i l = refl
low_first Word i l = refl
low_first Short i l = absurd (false-true l)
low_first Values i l = absurd (false-true l)
low_first Illegal i l = refl

low_count : (f : Form) (b n : ℕ) → is_low f ≡ true → count_good f n ≡ true → (count_in f b ≡ n) × (flags_in f b ≡ 0) × (n ≡ 0)
low_count Plain b n l g = let e = eqb-true n 0 g in (sym e, refl, e)
low_count Byte b n l g = let e = eqb-true n 0 g in (sym e, refl, e)
low_count Shift b n l g = let e = eqb-true n 0 g in (sym e, refl, e)
low_count Word b n l g = let e = eqb-true n 0 g in (sym e, refl, e)
low_count Short b n l g = absurd (false-true l)
low_count Values b n l g = absurd (false-true l)
low_count Illegal b n l g = let e = eqb-true n 0 g in (sym e, refl, e)

low-short : (f : Form) → is_low f ≡ true → f ≡ Short → ⊥
low-short f l e = false-true (rw e at l)

pub record First (i : Instruction) (b : ℕ) : Type 0 where
  pub code : code_of b ≡ i.code
  pub count : count_in (form_of i.code) b ≡ i.count
  pub flags : flags_in (form_of i.code) b ≡ i.flags
  pub short : form_of i.code ≡ Short → b % 64 ≡ i.number

first-low : (i : Instruction) → WellFormed i → i.code < 128 → First i (first_in (form_of i.code) i)
unfolding code_of
first-low i w h =
    let f = form_of i.code in
    let l = low-code i.code h in
    let c = low_count f (first_in f i) i.count l w.count in
    let g : i.flags < 2 ^ 0 = rw c.2 at w.flags in
    record {
      code = rw (low_first f i l, lt-ltb _ _ h);
      count = c.0;
      flags = c.1 ∙ omega arith;
      short = λ e. absurd (low-short f l e);
    }

short-form : form_of 0x80 ≡ Short
unfolding form_of
short-form = refl

values-form : form_of 0xC0 ≡ Values
unfolding form_of
values-form = refl

first_short : (i : Instruction) → WellFormed i → i.code ≡ 0x80 → First i (first_in (form_of i.code) i)
unfolding code_of
first_short i w h =
    let e : form_of i.code ≡ Short = ap form_of h ∙ short-form in
    let n : i.number < 64 = rw e at w.number in
    let c : i.count ≡ 0 = eqb-true _ _ (rw e at w.count) in
    let g : i.flags < 2 ^ 0 = rw c at w.flags in
    record {
      code = rw (e, le-ltb (0x80 + i.number) 0x80 (omega arith), lt-ltb (0x80 + i.number) 0xC0 (omega arith)) (sym h);
      count = rw e (sym c);
      flags = rw e (omega arith);
      short = λ _. rw e (omega arith);
    }

first-values : (i : Instruction) → WellFormed i → i.code ≡ 0xC0 → First i (first_in (form_of i.code) i)
unfolding code_of
first-values i w h =
    let e : form_of i.code ≡ Values = ap form_of h ∙ values-form in
    let p = count-pos i.count (rw e at w.count) in
    let c = well-count i w in
    let g = well-flags i w in
    let b = 0xC0 + i.flags * 4 + (i.count - 1) in
    record {
      code = rw (e, le-ltb b 0x80 (omega arith), le-ltb b 0xC0 (omega arith)) (sym h);
      count = rw e (omega arith);
      flags = rw e (omega arith);
      short = λ k. absurd (let z : ◌≡◌ {A = ℕ} 0 1 = cc in omega arith);
    }

illegal-code : (c : ℕ) → 128 ≤ c → (c ≡ 0x80 → ⊥) → (c ≡ 0xC0 → ⊥) → form_of c ≡ Illegal
unfolding form_of
illegal-code c h p q = rw (
  lt-leb c 0x24 (omega arith),
  lt-leb c 0x30 (omega arith),
  lt-leb c 0x32 (omega arith),
  lt-leb c 0x40 (omega arith),
  lt-leb c 0x5A (omega arith),
  ne_eqb c 0x80 p,
  ne_eqb c 0xC0 q,
)

first-forth : (i : Instruction) → WellFormed i → First i (first_in (form_of i.code) i)
first-forth i w = go (ltb i.code 128) (eqb i.code 0x80) (eqb i.code 0xC0) refl refl refl
  where
    go : (t u v : Bool) → ltb i.code 128 ≡ t → eqb i.code 0x80 ≡ u → eqb i.code 0xC0 ≡ v → First i (first_in (form_of i.code) i)
    go true u v p q r = first-low i w (ltb-true _ _ p)
    go false true v p q r = first_short i w (eqb-true _ _ q)
    go false false true p q r = first-values i w (eqb-true _ _ r)
    go false false false p q r =
        let e = illegal-code i.code (ltb-false _ _ p) (eqb-false _ _ q) (eqb-false _ _ r) in
        let n : i.number < 0 = rw e at w.number in
        absurd (omega arith)

number-forth : (f : Form) (b n : ℕ) (t : List ℕ) → n < limit_in f → (f ≡ Short → b % 64 ≡ n) → number_in f (b ∷ (bytes_of (width_in f) n ++ t)) ≡ n
number-forth Plain b n t h k = omega arith
number-forth Byte b n t h k = read_back 1 n (b ∷ []) t h
number-forth Shift b n t h k = read_back 1 n (b ∷ []) t (omega arith)
number-forth Word b n t h k = read_back 2 n (b ∷ []) t h
number-forth Short b n t h k = k refl
number-forth Values b n t h k = omega arith
number-forth Illegal b n t h k = omega arith

-- four numbers that stand one after the other, behind a first byte and a number of wn bytes
module _ (b wn n w₀ w₁ w₂ w₃ v₀ v₁ v₂ v₃ : ℕ) (q : List ℕ) where
  laid : List ℕ
  laid = b ∷ ((bytes_of wn n ++ (bytes_of w₀ v₀ ++ (bytes_of w₁ v₁ ++ (bytes_of w₂ v₂ ++ bytes_of w₃ v₃)))) ++ q)

  laid-0 : v₀ < 256 ^ w₀ → number_at w₀ laid (1 + wn) ≡ v₀
  unfolding laid
  laid-0 h =
      read_at w₀ v₀ (b ∷ bytes_of wn n) ((bytes_of w₁ v₁ ++ (bytes_of w₂ v₂ ++ bytes_of w₃ v₃)) ++ q) laid (1 + wn)
      (simp append_assoc) (simp length-bytes (omega arith)) h

  laid-1 : v₁ < 256 ^ w₁ → number_at w₁ laid (1 + wn + w₀) ≡ v₁
  unfolding laid
  laid-1 h =
      read_at w₁ v₁ (b ∷ (bytes_of wn n ++ bytes_of w₀ v₀)) ((bytes_of w₂ v₂ ++ bytes_of w₃ v₃) ++ q) laid (1 + wn + w₀)
      (simp append_assoc) (simp (length-append, length-bytes) (omega arith)) h

  laid-2 : v₂ < 256 ^ w₂ → number_at w₂ laid (1 + wn + w₀ + w₁) ≡ v₂
  unfolding laid
  laid-2 h =
      read_at w₂ v₂ (b ∷ (bytes_of wn n ++ (bytes_of w₀ v₀ ++ bytes_of w₁ v₁))) (bytes_of w₃ v₃ ++ q) laid (1 + wn + w₀ + w₁)
      (simp append_assoc) (simp (length-append, length-bytes) (omega arith)) h

  laid-3 : v₃ < 256 ^ w₃ → number_at w₃ laid (1 + wn + w₀ + w₁ + w₂) ≡ v₃
  unfolding laid
  laid-3 h =
      read_at w₃ v₃ (b ∷ (bytes_of wn n ++ (bytes_of w₀ v₀ ++ (bytes_of w₁ v₁ ++ bytes_of w₂ v₂)))) q laid (1 + wn + w₀ + w₁ + w₂)
      (simp append_assoc) (simp (length-append, length-bytes) (omega arith)) h

module _ (i : Instruction) (q : List ℕ) (w : WellFormed i) where
  length-forth : length_of (get_or (encoded_of i ++ q) 0 0) ≡ length (encoded_of i)
  unfolding bytes_in length_of
  length-forth =
      let f = first-forth i w in
      rw (f.code, f.count, f.flags, lt-ltb 0 (limit_in (form_of i.code)) (omega (arith, w.number)), lt-ltb _ _ w.flags) (sym (length-well i w))

  number_same : number_in (form_of i.code) (encoded_of i ++ q) ≡ i.number
  unfolding bytes_in
  number_same =
      let f = form_of i.code in
      let b = first_in f i in
      rw append_assoc (number-forth f b i.number (value_bytes i ++ q) w.number (first-forth i w).short)

  instruction-same : instruction_in (form_of i.code) (encoded_of i ++ q) ≡ i
  unfolding bytes_in laid
  instruction-same =
      let f = first-forth i w in
      let g = form_of i.code in
      let b = first_in g i in
      let n = number_same in
      let c = i.count in
      let k = i.flags in
      let e0 = laid-0 b (width_in g) i.number (width0 c k) (width1 c k) (width2 c k) (width3 c k) i.v0 i.v1 i.v2 i.v3 q w.v0 in
      let e1 = laid-1 b (width_in g) i.number (width0 c k) (width1 c k) (width2 c k) (width3 c k) i.v0 i.v1 i.v2 i.v3 q w.v1 in
      let e2 = laid-2 b (width_in g) i.number (width0 c k) (width1 c k) (width2 c k) (width3 c k) i.v0 i.v1 i.v2 i.v3 q w.v2 in
      let e3 = laid-3 b (width_in g) i.number (width0 c k) (width1 c k) (width2 c k) (width3 c k) i.v0 i.v1 i.v2 i.v3 q w.v3 in
      rw (f.code, f.count, f.flags, n, e0, e1, e2, e3)

  form-same : form_of (code_of (get_or (encoded_of i ++ q) 0 0)) ≡ form_of i.code
  unfolding bytes_in
  form-same = ap form_of (first-forth i w).code

head-made : (s : List ℕ) (f : Form) → form_of (code_of (get_or s 0 0)) ≡ f → (length_of (get_or s 0 0) ≡ 0 → ⊥) → length_of (get_or s 0 0) ≤ length s → number_in f s < limit_in f
    → head_of s ≡ given (instruction_in f s, length_of (get_or s 0 0))
unfolding head_of
head-made s f e k l m = rw (e, ne_eqb _ _ k, le-ltb _ _ l, lt-ltb _ _ m)

-- What is written is read again, and is the same instruction.
pub head-forth : (i : Instruction) (q : List ℕ) → well_formed i ≡ true → head_of (encoded_of i ++ q) ≡ given (i, length (encoded_of i))
head-forth i q h =
    let w = well i h in
    let s = encoded_of i ++ q in
    let f = form_of i.code in
    let l = length-forth i q w in
    let p = length-encoded i in
    let r : length s ≡ length (encoded_of i) + length q = length-append (encoded_of i) q in
    let m : number_in f s < limit_in f = rw (number_same i q w) w.number in
    head-made s f (form-same i q w) (omega arith) (omega arith) m ∙ ap₂ (λ (j : Instruction) (n : ℕ). given (j, n)) (instruction-same i q w) l
