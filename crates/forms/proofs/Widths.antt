-- Laws of the forms: bounds of widths, counts and flags, and the widths of the values together.
-- Assumes nothing.
use Prim.Native.Nat.{ℕ, zero, suc, ◌+◌, ◌/◌, ◌%◌, ◌^◌, ◌≤◌, ◌<◌}
use native.Mathlib.Omega.{arith}
use mathlib.Core.Path.{◌≡◌, refl}
use mathlib.Core.Bool.{Bool, true, false}
use lib.Count.{ones, ones_step}
use lib.Dec.{ltb}
use borrow.Author.Tests.{ltb-true}
use Rattle.basis.specs.Pick.{pick}
use Rattle.forms.specs.declared.Form.{Form}
use Rattle.forms.specs.declared.Form.TheVariants.{Plain, Byte, Shift, Word, Short, Values, Illegal}
use Rattle.forms.specs.Form.{width_in, limit_in, count_in, flags_in, length_in, value_width, width0, width1, width2, width3}

pub count-le : (f : Form) (b : ℕ) → count_in f b ≤ 4
count-le Plain b = omega arith
count-le Byte b = omega arith
count-le Shift b = omega arith
count-le Word b = omega arith
count-le Short b = omega arith
count-le Values b = omega arith
count-le Illegal b = omega arith

pub flags-lt : (f : Form) (b : ℕ) → flags_in f b < 16
flags-lt Plain b = omega arith
flags-lt Byte b = omega arith
flags-lt Shift b = omega arith
flags-lt Word b = omega arith
flags-lt Short b = omega arith
flags-lt Values b = omega arith
flags-lt Illegal b = omega arith

pub width-le : (f : Form) → width_in f ≤ 2
width-le Plain = omega arith
width-le Byte = omega arith
width-le Shift = omega arith
width-le Word = omega arith
width-le Short = omega arith
width-le Values = omega arith
width-le Illegal = omega arith

-- widths of values
pub value-width-le : (k count flags : ℕ) → value_width k count flags ≤ 2
unfolding value_width
value-width-le k count flags = go (ltb k count)
  where
    go : (t : Bool) → pick t (1 + flags % 2) 0 ≤ 2
    go true = omega arith
    go false = omega arith

ones-zero : ones 0 ≡ 0
unfolding ones
ones-zero = refl

-- the last of four digits, and the digit before it
pub half-four : (f : ℕ) → f / 2 / 2 ≡ f / 4
half-four f = omega arith

pub half-eight : (f : ℕ) → f / 4 / 2 ≡ f / 8
half-eight f = omega arith

half-last : (f : ℕ) → f < 16 → f / 8 / 2 ≡ 0
half-last f h = omega arith

four : (o₀ o₁ o₂ o₃ a b c d : ℕ) → o₀ ≡ a + o₁ → o₁ ≡ b + o₂ → o₂ ≡ c + o₃ → o₃ ≡ d + 0 → o₀ ≡ a + b + c + d
four o₀ o₁ o₂ o₃ a b c d p q r s = omega arith

pub ones-four : (f : ℕ) → f < 16 → ones f ≡ f % 2 + f / 2 % 2 + f / 4 % 2 + f / 8 % 2
ones-four f h =
    four (ones f) (ones (f / 2)) (ones (f / 4)) (ones (f / 8)) (f % 2) (f / 2 % 2) (f / 4 % 2) (f / 8 % 2)
    (ones_step f)
    (rw (half-four f) at (ones_step (f / 2)))
    (rw (half-eight f) at (ones_step (f / 4)))
    (rw (half-last f h, ones-zero) at (ones_step (f / 8)))

-- sums of digits, over variables alone: `omega` stops where it has to take the divisions apart all at once
module _ (o a b c d : ℕ) (e : o ≡ a + b + c + d) where
  sum-zero : a ≡ 0 → b ≡ 0 → c ≡ 0 → d ≡ 0 → 0 + 0 + 0 + 0 ≡ 0 + o
  sum-zero p q r s = omega arith

  sum_one : b ≡ 0 → c ≡ 0 → d ≡ 0 → 1 + a + 0 + 0 + 0 ≡ 1 + o
  sum_one q r s = omega arith

  sum-two : c ≡ 0 → d ≡ 0 → 1 + a + (1 + b) + 0 + 0 ≡ 2 + o
  sum-two r s = omega arith

  sum-three : d ≡ 0 → 1 + a + (1 + b) + (1 + c) + 0 ≡ 3 + o
  sum-three s = omega arith

  sum-four : 1 + a + (1 + b) + (1 + c) + (1 + d) ≡ 4 + o
  sum-four = omega arith

-- the widths of the values make their count and the number of set flags
pub widths-sum : (count flags : ℕ) → count ≤ 4 → flags < 2 ^ count →
    width0 count flags + width1 count flags + width2 count flags + width3 count flags ≡ count + ones flags
unfolding value_width
widths-sum zero f c h = sum-zero (ones f) (f % 2) (f / 2 % 2) (f / 4 % 2) (f / 8 % 2) (ones-four f (omega arith)) (omega arith) (omega arith) (omega arith) (omega arith)
widths-sum (suc zero) f c h = sum_one (ones f) (f % 2) (f / 2 % 2) (f / 4 % 2) (f / 8 % 2) (ones-four f (omega arith)) (omega arith) (omega arith) (omega arith)
widths-sum (suc (suc zero)) f c h = sum-two (ones f) (f % 2) (f / 2 % 2) (f / 4 % 2) (f / 8 % 2) (ones-four f (omega arith)) (omega arith) (omega arith)
widths-sum (suc (suc (suc zero))) f c h = sum-three (ones f) (f % 2) (f / 2 % 2) (f / 4 % 2) (f / 8 % 2) (ones-four f (omega arith)) (omega arith)
widths-sum (suc (suc (suc (suc zero)))) f c h = sum-four (ones f) (f % 2) (f / 2 % 2) (f / 4 % 2) (f / 8 % 2) (ones-four f (omega arith))
widths-sum (suc (suc (suc (suc (suc n))))) f c h = absurd (omega arith)

-- a legal first byte
pub record Legal (f : Form) (b : ℕ) : Type 0 where
  pub long : length_in f b ≡ 1 + width_in f + count_in f b + ones (flags_in f b)
  pub flags : flags_in f b < 2 ^ count_in f b
  pub limit : 0 < limit_in f

pub legal : (f : Form) (b : ℕ) → (length_in f b ≡ 0 → ⊥) → Legal f b
legal f b h = go (ltb 0 (limit_in f)) (ltb (flags_in f b) (2 ^ count_in f b)) refl refl
  where
    go : (t u : Bool) → ltb 0 (limit_in f) ≡ t → ltb (flags_in f b) (2 ^ count_in f b) ≡ u → Legal f b
    go true true p q = record { long = rw (p, q); flags = ltb-true _ _ q; limit = ltb-true _ _ p }
    go true false p q = absurd (h (rw (p, q)))
    go false u p q = absurd (h (rw p))

pub flags-below : (n f : ℕ) → n ≤ 4 → f < 2 ^ n → f < 16
flags-below zero f c h = omega arith
flags-below (suc zero) f c h = omega arith
flags-below (suc (suc zero)) f c h = omega arith
flags-below (suc (suc (suc zero))) f c h = omega arith
flags-below (suc (suc (suc (suc zero)))) f c h = omega arith
flags-below (suc (suc (suc (suc (suc n))))) f c h = absurd (omega arith)

-- every value has at most two bytes, for the search
pub ruleset narrow = (value-width-le)
