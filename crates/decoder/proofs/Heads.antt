-- Laws of what an instruction begins with, told of its parts as locals hold them.
-- Assumes nothing.
use Prim.Native.Nat.{ℕ, ◌+◌, ◌≤◌, ◌<◌}
use native.Mathlib.Omega.{arith}
use mathlib.Core.Path.{◌≡◌, ap, ◌∙◌}
use mathlib.Core.List.{List}
use lib.ListN.{length, get_or}
use lib.Count.{ones}
use borrow.Author.Tests.{lt-ltb, le-ltb, eq-eqb, ne_eqb}
use Rattle.basis.specs.Answer.{given, refused}
use Rattle.forms.specs.Form.{form_of, code_of, width_in, limit_in, count_in, flags_in, length_of, width0, width1, width2, width3}
use Rattle.forms.specs.declared.Form.{Form}
use Rattle.forms.proofs.Widths.{count-le, widths-sum, Legal, legal}
use Rattle.decoder.specs.Decode.{number_in, with_values, head_of}
use Rattle.isa.specs.declared.Instruction.{Instruction}

-- the length, the code and the form of the first byte
module _ (s : List ℕ) (n code : ℕ) (f : Form) (en : n ≡ length_of (get_or s 0 0)) (ec : code ≡ code_of (get_or s 0 0)) (ef : f ≡ form_of code) (some : n ≡ 0 → ⊥) where
  lawful : Legal f (get_or s 0 0)
  unfolding length_of
  lawful = rw (ef, ec) (legal (form_of (code_of (get_or s 0 0))) (get_or s 0 0) (λ q. some (en ∙ q)))

  long : n ≡ 1 + width_in f + count_in f (get_or s 0 0) + ones (flags_in f (get_or s 0 0))
  unfolding length_of
  long = rw (ef, ec) (en ∙ (rw (ef, ec) at lawful).long)

  pub head-number : n ≤ length s → 1 + width_in f ≤ length s
  head-number l = omega (arith, long)

  pub head-values : (w count flags : ℕ) → n ≤ length s → w ≡ width_in f → count ≡ count_in f (get_or s 0 0) → flags ≡ flags_in f (get_or s 0 0)
      → 1 + w + width0 count flags + width1 count flags + width2 count flags + width3 count flags ≤ length s
  head-values w count flags l ew ek eg = rw (ew, ek, eg) (omega (arith, long, widths-sum (count_in f (get_or s 0 0)) (flags_in f (get_or s 0 0)) (count-le f (get_or s 0 0)) lawful.flags))

  pub head-cut : length s < n → refused 3 ≡ head_of s
  unfolding head_of
  head-cut h = rw (← en, ne_eqb n 0 some, lt-ltb (length s) n h)

  pub head-over : (number limit : ℕ) → n ≤ length s → number ≡ number_in f s → limit ≡ limit_in f → limit ≤ number → refused 2 ≡ head_of s
  unfolding head_of
  head-over number limit l ex el h = rw (← en, ← ec, ← ef, ne_eqb n 0 some, le-ltb (length s) n l, ← ex, ← el, le-ltb number limit h)

  pub head_read : (number limit w count flags : ℕ) (i : Instruction) → n ≤ length s → number ≡ number_in f s → limit ≡ limit_in f → number < limit
      → w ≡ width_in f → count ≡ count_in f (get_or s 0 0) → flags ≡ flags_in f (get_or s 0 0) → i ≡ with_values code number count flags s (1 + w) → given (i, n) ≡ head_of s
  unfolding head_of
  head_read number limit w count flags i l ex el h ew ek eg ei =
      rw (← en, ← ec, ← ef, ne_eqb n 0 some, le-ltb (length s) n l, ← ex, ← el, lt-ltb number limit h, ← ew, ← ek, ← eg)
      (ap (λ (j : Instruction). given (j, n)) ei)

pub head-none : (s : List ℕ) → length_of (get_or s 0 0) ≡ 0 → refused 2 ≡ head_of s
unfolding head_of
head-none s z = rw (eq-eqb (length_of (get_or s 0 0)) 0 z)
