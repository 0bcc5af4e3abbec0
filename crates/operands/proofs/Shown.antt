-- Laws of operands: their lengths, and how they are put.
-- Assumes nothing.
use Prim.Native.Nat.{ℕ, zero, suc, ◌+◌, ◌/◌, ◌≤◌, ◌<◌}
use native.Mathlib.Omega.{arith}
use native.Mathlib.Numerals.{add-one}
use mathlib.Core.Path.{◌≡◌, refl, sym, ap, ◌∙◌}
use mathlib.Core.List.{List, [], ◌∷◌, ◌++◌, append_assoc, append-nil}
use lib.ListN.{length, get_or, take, length-append}
use lib.Seq.{take_all}
use Rattle.forms.specs.Form.{form_of, width0, width1, width2, width3}
use Rattle.forms.specs.declared.Form.{Form}
use Rattle.forms.specs.declared.Form.TheVariants.{Plain, Byte, Shift, Word, Short, Values, Illegal}
use Rattle.forms.proofs.Widths.{value-width-le}
use Rattle.isa.specs.declared.Instruction.{Instruction}
use Rattle.text.specs.Text.{bytes, hex_of}
use Rattle.text.proofs.Puts.{length-hex}
use Rattle.operands.specs.Operands.{operand_of, shown_in, sized_of, operands_of}

-- an operand that is there
pub operand-long : (w v : ℕ) → 1 ≤ w → operand_of w v ≡ bytes " $" ++ hex_of w v
operand-long zero v h = absurd (omega arith)
operand-long (suc w) v h = refl

pub length-operand : (w v : ℕ) → length (operand_of w v) ≡ length (operand_of w 0)
length-operand zero v = refl
length-operand (suc w) v = ap (λ (n : ℕ). suc (suc n)) (length-hex (suc w) v ∙ sym (length-hex (suc w) 0))

pub shown-le : (f : Form) → shown_in f ≤ 2
shown-le Plain = omega arith
shown-le Byte = omega arith
shown-le Shift = omega arith
shown-le Word = omega arith
shown-le Short = omega arith
shown-le Values = omega arith
shown-le Illegal = omega arith

-- the operands together
pub length-operands : (i : Instruction) → length (operands_of i) ≡
    length (operand_of (shown_in (form_of i.code)) i.number) + (length (operand_of (width0 i.count i.flags) i.v0)
    + (length (operand_of (width1 i.count i.flags) i.v1) + (length (operand_of (width2 i.count i.flags) i.v2) + length (operand_of (width3 i.count i.flags) i.v3))))
unfolding operands_of
length-operands i = simp length-append

-- they are as long whatever the values
length-alike : (i j : Instruction) → i.code ≡ j.code → i.count ≡ j.count → i.flags ≡ j.flags → length (operands_of i) ≡ length (operands_of j)
length-alike i j c n f =
    rw (length-operands i, length-operands j, c, n, f) (omega (
      arith,
      length-operand (shown_in (form_of j.code)) i.number,
      length-operand (shown_in (form_of j.code)) j.number,
      length-operand (width0 j.count j.flags) i.v0,
      length-operand (width0 j.count j.flags) j.v0,
      length-operand (width1 j.count j.flags) i.v1,
      length-operand (width1 j.count j.flags) j.v1,
      length-operand (width2 j.count j.flags) i.v2,
      length-operand (width2 j.count j.flags) j.v2,
      length-operand (width3 j.count j.flags) i.v3,
      length-operand (width3 j.count j.flags) j.v3,
    ))

-- the operands of a list, one after the other
abbrev pub all_of : List (ℕ × ℕ) → List ℕ
all_of [] = []
all_of (x ∷ xs) = operand_of x.0 x.1 ++ all_of xs

pub all-operands : (i : Instruction) → all_of (sized_of i) ≡ operands_of i
unfolding operands_of
all-operands i = simp append-nil

-- at most two bytes of each are shown
width-le : (i : Instruction) (k : ℕ) → (get_or (sized_of i) k (0, 0)).0 ≤ 2
width-le i zero = shown-le (form_of i.code)
width-le i (suc zero) = value-width-le 0 i.count i.flags
width-le i (suc (suc zero)) = value-width-le 1 i.count (i.flags / 2)
width-le i (suc (suc (suc zero))) = value-width-le 2 i.count (i.flags / 4)
width-le i (suc (suc (suc (suc zero)))) = value-width-le 3 i.count (i.flags / 8)
width-le i (suc (suc (suc (suc (suc k))))) = omega arith

-- one operand more
more : (xs : List (ℕ × ℕ)) (k : ℕ) → k < length xs → all_of (take (suc k) xs) ≡ all_of (take k xs) ++ operand_of (get_or xs k (0, 0)).0 (get_or xs k (0, 0)).1
more [] k h = absurd (omega arith)
more (x ∷ xs) zero h = append-nil _
more (x ∷ xs) (suc k) h = rw (more xs k (omega arith), append_assoc) refl

-- the first ones are no longer than all
within : (xs : List (ℕ × ℕ)) (k : ℕ) → length (all_of (take k xs)) ≤ length (all_of xs)
within [] zero = omega arith
within [] (suc k) = omega arith
within (x ∷ xs) zero = omega arith
within (x ∷ xs) (suc k) = simp length-append (omega (arith, within xs k))

-- the operands of an instruction as a local holds them, of which k were met
module _ (i : Instruction) (xs : List (ℕ × ℕ)) (k : ℕ) (e : xs ≡ sized_of i) where
  pub sized-le : (get_or xs k (0, 0)).0 ≤ 2
  sized-le = rw e (width-le i k)

  pub all-more : k < 5 → all_of (take (k + 1) xs) ≡ all_of (take k xs) ++ operand_of (get_or xs k (0, 0)).0 (get_or xs k (0, 0)).1
  all-more h = rw add-one (more xs k (omega (arith, ap length e)))

  -- also in the place of an instruction with other values
  pub all-within :
      (j : Instruction) → i.code ≡ j.code → i.count ≡ j.count → i.flags ≡ j.flags → k < 5
      → length (all_of (take k xs)) + length (operand_of (get_or xs k (0, 0)).0 0) ≤ length (operands_of j)
  all-within j c n f h = omega (
    arith,
    simp length-append at (ap length (all-more h)),
    length-operand (get_or xs k (0, 0)).0 (get_or xs k (0, 0)).1,
    within xs (k + 1),
    ap length (ap all_of e ∙ all-operands i),
    length-alike i j c n f,
  )

  pub all-done : 5 ≤ k → all_of (take k xs) ≡ operands_of i
  all-done h = rw (take_all k xs (omega (arith, ap length e)), e) (all-operands i)

-- an operand's length, for the search
pub ruleset lengths = (operand-long, length-hex)
