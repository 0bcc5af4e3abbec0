-- Why the decoder refuses: each number of 01 with what makes it the first to apply.
use Rattle.std.specs.Prelude.{◌≡◌, ℕ, ◌+◌, ◌≤◌, ◌<◌, List, length, get_or}
use Rattle.forms.specs.Form.{form_of, code_of, length_of}
use Rattle.forms.specs.declared.Form.TheVariants.{Shift}

-- an address inside an admissible program, and the byte there
pub record Inside (program : List ℕ) (at b : ℕ) : Type 0 where
  pub size : length program ≤ 16384
  pub inside : at < length program
  pub byte : get_or program at 0 ≡ b

pub data Why (program : List ℕ) (at : ℕ) : ℕ → Type 0 where
  over_size : 16384 < length program → Why program at 20
  past_end : length program ≤ 16384 → length program ≤ at → Why program at 1
  illegal_first : {b : ℕ} → Inside program at b → length_of b ≡ 0 → Why program at 2
  cut : {b : ℕ} → Inside program at b → 0 < length_of b → length program < at + length_of b → Why program at 3
  illegal_shift : {b : ℕ} → Inside program at b → form_of (code_of b) ≡ Shift → at + 2 ≤ length program → 16 ≤ get_or program (at + 1) 0 → Why program at 2
