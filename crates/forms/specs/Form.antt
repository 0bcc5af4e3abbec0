-- The forms of instructions: what the first byte says of the bytes that follow it.
use Rattle.std.specs.Prelude.{ℕ, ◌+◌, ◌/◌, ◌%◌, ◌^◌, leb, ltb, eqb}
use Rattle.std.specs.Int.Count.{ones}
use Rattle.basis.specs.Pick.{pick, both}
use Rattle.forms.specs.declared.Form.{Form}
use Rattle.forms.specs.declared.Form.TheVariants.{Plain, Byte, Shift, Word, Short, Values, Illegal}

-- 00 to 24 have no number, 25 to 30 and 33 to 40 one byte, 31 and 32 a shift byte, 41 to 5A two bytes;
-- "80 to BF are code 80 with the six bits as its number, and C0 to FF are code C0 with count, flags and values";
-- "5B to 7F are illegal", and so are "other codes from 80 up"
unfoldable pub form_of : ℕ → Form
form_of code =
    pick (leb code 0x24) Plain
    (pick (leb code 0x30) Byte
    (pick (leb code 0x32) Shift
    (pick (leb code 0x40) Byte
    (pick (leb code 0x5A) Word
    (pick (eqb code 0x80) Short
    (pick (eqb code 0xC0) Values
    Illegal))))))

-- the code of a first byte
unfoldable pub code_of : ℕ → ℕ
code_of b = pick (ltb b 0x80) b (pick (ltb b 0xC0) 0x80 0xC0)

-- how many bytes after the first hold the number
abbrev pub width_in : Form → ℕ
width_in Plain = 0
width_in Byte = 1
width_in Shift = 1
width_in Word = 2
width_in Short = 0
width_in Values = 0
width_in Illegal = 0

-- the number is below this: a form that lacks one has 0, "second byte 0 to 15", "the low six bits"; an illegal form admits none
abbrev pub limit_in : Form → ℕ
limit_in Plain = 1
limit_in Byte = 256
limit_in Shift = 16
limit_in Word = 65536
limit_in Short = 64
limit_in Values = 1
limit_in Illegal = 0

-- "bits 0-1 hold the count less one"
abbrev pub count_in : Form → ℕ → ℕ
count_in Plain b = 0
count_in Byte b = 0
count_in Shift b = 0
count_in Word b = 0
count_in Short b = 0
count_in Values b = b % 4 + 1
count_in Illegal b = 0

-- "bits 2, 3, 4, 5 say, for the first to the fourth value, 0 = one byte, 1 = two"
abbrev pub flags_in : Form → ℕ → ℕ
flags_in Plain b = 0
flags_in Byte b = 0
flags_in Shift b = 0
flags_in Word b = 0
flags_in Short b = 0
flags_in Values b = b / 4 % 16
flags_in Illegal b = 0

-- "The length is one, plus the count, plus the number of set flags", and the number's bytes;
-- 0 where the first byte is illegal: "Flags of absent values must be 0"
abbrev pub length_in : Form → ℕ → ℕ
length_in f b =
    pick (both (ltb 0 (limit_in f)) (ltb (flags_in f b) (2 ^ count_in f b)))
    (1 + width_in f + count_in f b + ones (flags_in f b))
    0

-- the length of an instruction, by its first byte
unfoldable pub length_of : ℕ → ℕ
length_of b = length_in (form_of (code_of b)) b

-- how many bytes value k of a push of count values has; flags begin with the flag of value k
unfoldable pub value_width : ℕ → ℕ → ℕ → ℕ
value_width k count flags = pick (ltb k count) (1 + flags % 2) 0

-- the widths of the first to the fourth value
abbrev pub width0 : ℕ → ℕ → ℕ
width0 count flags = value_width 0 count flags

abbrev pub width1 : ℕ → ℕ → ℕ
width1 count flags = value_width 1 count (flags / 2)

abbrev pub width2 : ℕ → ℕ → ℕ
width2 count flags = value_width 2 count (flags / 4)

abbrev pub width3 : ℕ → ℕ → ℕ
width3 count flags = value_width 3 count (flags / 8)
