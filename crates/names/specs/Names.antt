-- The names of source document 004, by code.
use Rattle.std.specs.Prelude.{ℕ, List, [], ◌∷◌, get_or, ltb}
use Prim.Native.String.{String}
use Rattle.basis.specs.Pick.{pick}
use Rattle.text.specs.Text.{bytes}

-- the codes 00 to 5A, then 80 and C0; "06 is `jump`"
abbrev pub names : List String
names =
    -- 00 to 04
    "halt" ∷ "discard" ∷ "dcopy" ∷ "pcopy" ∷ "swap"
    -- 05 to 0A
    ∷ "call" ∷ "jump" ∷ "jump-if" ∷ "jump-if-not" ∷ "syscall" ∷ "extcall"
    -- 0B to 10, 11 to 16, 17 and 18, 19 to 1C
    ∷ "eq" ∷ "ne" ∷ "le" ∷ "gt" ∷ "lt" ∷ "ge"
    ∷ "and" ∷ "or" ∷ "xor" ∷ "add" ∷ "sub" ∷ "mul"
    ∷ "shl" ∷ "shr"
    ∷ "inc" ∷ "dec" ∷ "not" ∷ "neg"
    -- 1D to 20, 21 to 24
    ∷ "ld-u8" ∷ "ld-u16" ∷ "ld-u8--offs" ∷ "ld-u16-offs"
    ∷ "st-u8" ∷ "st-u16" ∷ "st-u8--offs" ∷ "st-u16-offs"
    -- 25 to 2A, 2B to 30, 31 and 32
    ∷ "eq--imm8" ∷ "ne--imm8" ∷ "le--imm8" ∷ "gt--imm8" ∷ "lt--imm8" ∷ "ge--imm8"
    ∷ "and-imm8" ∷ "or--imm8" ∷ "xor-imm8" ∷ "add-imm8" ∷ "sub-imm8" ∷ "mul-imm8"
    ∷ "shl-imm4" ∷ "shr-imm4"
    -- 33 to 36, 37 to 3A, 3B to 40
    ∷ "ld-u8--imm8" ∷ "ld-u16-imm8" ∷ "ld-u8--offs-imm8" ∷ "ld-u16-offs-imm8"
    ∷ "st-u8--imm8" ∷ "st-u16-imm8" ∷ "st-u8--offs-imm8" ∷ "st-u16-offs-imm8"
    ∷ "call-imm8" ∷ "jump-imm8" ∷ "jump-imm8-if" ∷ "jump-imm8-if-not" ∷ "syscall-imm8" ∷ "extcall-imm8"
    -- 41 to 46, 47 to 4C
    ∷ "eq--imm16" ∷ "ne--imm16" ∷ "le--imm16" ∷ "gt--imm16" ∷ "lt--imm16" ∷ "ge--imm16"
    ∷ "and-imm16" ∷ "or--imm16" ∷ "xor-imm16" ∷ "add-imm16" ∷ "sub-imm16" ∷ "mul-imm16"
    -- 4D to 50, 51 to 54, 55 to 5A
    ∷ "ld-u8--imm16" ∷ "ld-u16-imm16" ∷ "ld-u8--offs-imm16" ∷ "ld-u16-offs-imm16"
    ∷ "st-u8--imm16" ∷ "st-u16-imm16" ∷ "st-u8--offs-imm16" ∷ "st-u16-offs-imm16"
    ∷ "call-imm16" ∷ "jump-imm16" ∷ "jump-imm16-if" ∷ "jump-imm16-if-not" ∷ "syscall-imm16" ∷ "extcall-imm16"
    -- 80, C0
    ∷ "push-u8" ∷ "push-values" ∷ []

-- where the name of a code stands in the list
unfoldable pub place_of : ℕ → ℕ
place_of code = pick (ltb code 0x5B) code (pick (ltb code 0xC0) 0x5B 0x5C)

-- the name of a code
unfoldable pub name_of : ℕ → List ℕ
name_of code = bytes (get_or names (place_of code) "")
