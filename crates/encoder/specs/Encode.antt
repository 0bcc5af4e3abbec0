-- Which instructions can be written, their bytes, and what the encoder answers.
use Rattle.std.specs.Prelude.{ℕ, ◌+◌, ◌*◌, ◌-◌, ◌^◌, Bool, List, ◌∷◌, ◌++◌, leb, ltb, eqb}
use Rattle.basis.specs.Pick.{pick, both}
use Rattle.basis.specs.Answer.{Answer, refused}
use Rattle.basis.specs.Number.{bytes_of}
use Rattle.basis.specs.Room.{fitted}
use Rattle.forms.specs.Form.{form_of, width_in, limit_in, width0, width1, width2, width3}
use Rattle.forms.specs.declared.Form.{Form}
use Rattle.forms.specs.declared.Form.TheVariants.{Plain, Byte, Shift, Word, Short, Values, Illegal}
use Rattle.isa.specs.declared.Instruction.{Instruction}

-- "push count not 1 to 4", "a .. count .. that the form lacks not 0"
abbrev pub count_good : Form → ℕ → Bool
count_good Plain n = eqb n 0
count_good Byte n = eqb n 0
count_good Shift n = eqb n 0
count_good Word n = eqb n 0
count_good Short n = eqb n 0
count_good Values n = both (leb 1 n) (leb n 4)
count_good Illegal n = eqb n 0

-- each value fits its field; one that is absent has no field and is 0
unfoldable pub values_good : Instruction → Bool
values_good i =
    both (ltb i.v0 (256 ^ width0 i.count i.flags))
    (both (ltb i.v1 (256 ^ width1 i.count i.flags))
    (both (ltb i.v2 (256 ^ width2 i.count i.flags))
    (ltb i.v3 (256 ^ width3 i.count i.flags))))

-- none of 26 applies: "illegal code, number too large for its field, push count not 1 to 4, a number, count, value or
-- flag that the form lacks not 0"; an illegal code admits no number
unfoldable pub well_formed : Instruction → Bool
well_formed i =
    both (ltb i.number (limit_in (form_of i.code)))
    (both (count_good (form_of i.code) i.count)
    (both (ltb i.flags (2 ^ i.count))
    (values_good i)))

-- the first byte: the code, or with the six bits, or with count and flags in it
abbrev pub first_in : Form → Instruction → ℕ
first_in Plain i = i.code
first_in Byte i = i.code
first_in Shift i = i.code
first_in Word i = i.code
first_in Short i = 0x80 + i.number
first_in Values i = 0xC0 + i.flags * 4 + (i.count - 1)
first_in Illegal i = i.code

-- the bytes of the values, the first value first
abbrev pub value_bytes : Instruction → List ℕ
value_bytes i =
    bytes_of (width0 i.count i.flags) i.v0
    ++ (bytes_of (width1 i.count i.flags) i.v1
    ++ (bytes_of (width2 i.count i.flags) i.v2
    ++ bytes_of (width3 i.count i.flags) i.v3))

-- the bytes of an instruction of a form
unfoldable pub bytes_in : Form → Instruction → List ℕ
bytes_in f i = first_in f i ∷ (bytes_of (width_in f) i.number ++ value_bytes i)

abbrev pub encoded_of : Instruction → List ℕ
encoded_of i = bytes_in (form_of i.code) i

-- what the encoder writes into a room of n bytes: "26, 25"
unfoldable pub encode_of : Instruction → ℕ → Answer (List ℕ)
encode_of i n = pick (well_formed i) (fitted n (encoded_of i)) (refused 26)
