-- One instruction told by its first byte: the number that its form has in the code, and then its operation.
use Rattle.basis.specs.Answer.{Answer, given, refused}
use Rattle.std.specs.Prelude.{ℕ, ◌+◌, ◌%◌, ◌≤◌, ◌<◌, ◌≡◌, List, length, get_or, drop, ltb}
use Rattle.basis.specs.Pick.{pick}
use Rattle.basis.specs.Number.{number_at}
use Rattle.forms.specs.Form.{form_of, code_of}
use Rattle.forms.specs.declared.Form.{Form}
use Rattle.forms.specs.declared.Form.TheVariants.{Plain, Byte, Shift, Word, Short, Values, Illegal}
use Rattle.isa.specs.Op.{Op, op_in}
use Rattle.decoder.specs.Decode.{head_of}
use Rattle.effects.specs.Act.{became, Done, do_of, on_reading}

-- the number in so many bytes after the first byte, which stands at address, "low byte first": 3
abbrev pub number_after : ℕ → List ℕ → ℕ → Answer ℕ
number_after width program address = pick (ltb (length program) (address + 1 + width)) (refused 3) (given (number_at width program (address + 1)))

-- the instruction stands at address
module _ (program : List ℕ) (address depth : ℕ) (mem cells : List ℕ) where
  abbrev pub on_number : ℕ → (ℕ → Op) → Answer ℕ → Done
  on_number width o (refused n) = became (refused n) mem cells
  on_number width o (given x) = do_of program (address + 1 + width) (o x) depth mem cells

  -- an operation with the number of so many bytes after the first
  unfoldable pub numbered_of : ℕ → (ℕ → Op) → Done
  numbered_of width o = on_number width o (number_after width program address)

  abbrev pub on_shift : (ℕ → Op) → Answer ℕ → Done
  on_shift o (refused n) = became (refused n) mem cells
  on_shift o (given x) = pick (ltb x 16) (do_of program (address + 1 + 1) (o x) depth mem cells) (became (refused 2) mem cells)

  -- the same for a shift, "second byte 0 to 15": 3, then 2
  unfoldable pub shift_of : (ℕ → Op) → Done
  shift_of o = on_shift o (number_after 1 program address)

  -- by the form of the first byte b; "80 to BF push the low six bits", and C0 to FF are left to the decoder
  abbrev pub formed_of : Form → ℕ → (ℕ → Op) → Done
  formed_of Plain b o = do_of program (address + 1) (o 0) depth mem cells
  formed_of Byte b o = numbered_of 1 o
  formed_of Shift b o = shift_of o
  formed_of Word b o = numbered_of 2 o
  formed_of Short b o = do_of program (address + 1) (o (b % 64)) depth mem cells
  formed_of Values b o = on_reading program address depth mem cells (head_of (drop address program))
  formed_of Illegal b o = became (refused 2) mem cells

  -- by the first byte
  unfoldable pub first_of : ℕ → Done
  first_of b = formed_of (form_of (code_of b)) b (λ x. op_in (code_of b) x)

-- where an instruction can stand: inside a program of an allowed size, with a depth inside the cells
pub record Placed (program : List ℕ) (address depth : ℕ) (cells : List ℕ) : Type 0 where
  pub size : length program ≤ 16384
  pub inside : address < length program
  pub deep : depth ≤ length cells

-- the same, the byte there being b, which is no lower than low
pub record Begun (program : List ℕ) (address depth : ℕ) (cells : List ℕ) (b low : ℕ) : Type 0 where
  pub placed : Placed program address depth cells
  pub byte : get_or program address 0 ≡ b
  pub above : low ≤ b
