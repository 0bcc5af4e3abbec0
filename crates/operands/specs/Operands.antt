-- What a line of the listing shows of an instruction's operands.
use Rattle.std.specs.Prelude.{ℕ, zero, suc, List, [], ◌∷◌, ◌++◌}
use Rattle.forms.specs.Form.{form_of, width0, width1, width2, width3}
use Rattle.forms.specs.declared.Form.{Form}
use Rattle.forms.specs.declared.Form.TheVariants.{Plain, Byte, Shift, Word, Short, Values, Illegal}
use Rattle.isa.specs.declared.Instruction.{Instruction}
use Rattle.text.specs.Text.{bytes, hex_of}

-- "each operand as blank, `$`, two or four digits by its width in the code"; one of no bytes is not there
abbrev pub operand_of : ℕ → ℕ → List ℕ
operand_of zero v = []
operand_of (suc w) v = bytes " $" ++ hex_of (suc w) v

-- how many bytes of the number are shown: those that it has in the code, and the six bits of a short push as one
abbrev pub shown_in : Form → ℕ
shown_in Plain = 0
shown_in Byte = 1
shown_in Shift = 1
shown_in Word = 2
shown_in Short = 1
shown_in Values = 0
shown_in Illegal = 0

-- the operands of an instruction, each with the bytes of it that are shown
abbrev pub sized_of : Instruction → List (ℕ × ℕ)
sized_of i =
    (shown_in (form_of i.code), i.number)
    ∷ (width0 i.count i.flags, i.v0)
    ∷ (width1 i.count i.flags, i.v1)
    ∷ (width2 i.count i.flags, i.v2)
    ∷ (width3 i.count i.flags, i.v3)
    ∷ []

-- the operands of an instruction: its number, and its values
unfoldable pub operands_of : Instruction → List ℕ
operands_of i =
    operand_of (shown_in (form_of i.code)) i.number
    ++ (operand_of (width0 i.count i.flags) i.v0
    ++ (operand_of (width1 i.count i.flags) i.v1
    ++ (operand_of (width2 i.count i.flags) i.v2
    ++ operand_of (width3 i.count i.flags) i.v3)))
