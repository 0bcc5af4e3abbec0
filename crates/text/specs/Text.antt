-- Texts as bytes, and numbers as upper-case hex digits.
use Rattle.std.specs.Prelude.{ℕ, zero, suc, ◌+◌, ◌/◌, ◌%◌, List, [], ◌∷◌, ◌++◌, ltb}
use Prim.Native.Char.{code}
use Prim.Native.String.{String, [] as nothing, ◌∷◌ as ◌then◌}
use Rattle.basis.specs.Pick.{pick}

-- the bytes of a text
abbrev pub bytes : String → List ℕ
bytes nothing = []
bytes (c then s) = code c ∷ bytes s

-- the digit of a number below 16: 0 to 9 from 30, A to F from 41
unfoldable pub digit_of : ℕ → ℕ
digit_of n = pick (ltb n 10) (0x30 + n) (0x37 + n)

-- the digits of a number of w bytes, two to each byte, the highest first
abbrev pub hex_of : ℕ → ℕ → List ℕ
hex_of zero v = []
hex_of (suc w) v = hex_of w (v / 256) ++ (digit_of (v / 16 % 16) ∷ digit_of (v % 16) ∷ [])
