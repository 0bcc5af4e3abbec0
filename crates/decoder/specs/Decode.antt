-- What the decoder answers.
use Rattle.std.specs.Prelude.{ℕ, ◌+◌, ◌%◌, List, length, get_or, drop, leb, ltb, eqb}
use Rattle.basis.specs.Pick.{pick}
use Rattle.basis.specs.Answer.{Answer, given, refused}
use Rattle.basis.specs.Number.{number_at}
use Rattle.forms.specs.Form.{form_of, code_of, width_in, limit_in, count_in, flags_in, length_of, width0, width1, width2, width3}
use Rattle.forms.specs.declared.Form.{Form}
use Rattle.forms.specs.declared.Form.TheVariants.{Plain, Byte, Shift, Word, Short, Values, Illegal}
use Rattle.isa.specs.declared.Instruction.{Instruction}

-- the number of the instruction that s begins with: a short push has it in the first byte, the others after it
abbrev pub number_in : Form → List ℕ → ℕ
number_in Plain s = 0
number_in Byte s = number_at 1 s 1
number_in Shift s = number_at 1 s 1
number_in Word s = number_at 2 s 1
number_in Short s = get_or s 0 0 % 64
number_in Values s = 0
number_in Illegal s = 0

-- an instruction with these parts, its values beginning at a place of s; an absent value is 0
abbrev pub with_values : ℕ → ℕ → ℕ → ℕ → List ℕ → ℕ → Instruction
with_values code number count flags s at = record {
  code = code;
  number = number;
  count = count;
  flags = flags;
  v0 = number_at (width0 count flags) s at;
  v1 = number_at (width1 count flags) s (at + width0 count flags);
  v2 = number_at (width2 count flags) s (at + width0 count flags + width1 count flags);
  v3 = number_at (width3 count flags) s (at + width0 count flags + width1 count flags + width2 count flags);
}

-- the instruction that s begins with, by the form of its first byte; the values stand after the number
abbrev pub instruction_in : Form → List ℕ → Instruction
instruction_in f s =
    let b = get_or s 0 0 in
    with_values (code_of b) (number_in f s) (count_in f b) (flags_in f b) s (1 + width_in f)

-- an instruction and its length
abbrev pub Reading : Type 0
Reading = Instruction × ℕ

-- what s, which is not empty, begins with: "2 on the first byte, 3, 2 on the second byte"
unfoldable pub head_of : List ℕ → Answer Reading
head_of s =
    let b = get_or s 0 0 in
    let f = form_of (code_of b) in
    pick (eqb (length_of b) 0) (refused 2)
    (pick (ltb (length s) (length_of b)) (refused 3)
    (pick (ltb (number_in f s) (limit_in f)) (given (instruction_in f s, length_of b))
    (refused 2)))

-- what the decoder answers at an address of a program: "20, 1, then 2 and 3"
unfoldable pub decode_of : List ℕ → ℕ → Answer Reading
decode_of program at =
    pick (ltb 16384 (length program)) (refused 20)
    (pick (leb (length program) at) (refused 1)
    (head_of (drop at program)))
