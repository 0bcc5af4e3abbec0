-- The value operations: "Values are 16 bits, arithmetic is modulo 65,536".
use Rattle.std.specs.Prelude.{ℕ, ◌+◌, ◌-◌, ◌*◌, ◌/◌, ◌%◌, ◌^◌, Bool, not, leb, ltb, eqb}
use Rattle.std.specs.Int.Bits.{bit_and, bit_or, bit_xor}
use Rattle.basis.specs.Pick.{pick}
use Rattle.alu.specs.declared.Pair.{Pair}
use Rattle.alu.specs.declared.Pair.TheVariants.{Eq, Ne, Le, Gt, Lt, Ge, And, Or, Xor, Add, Sub, Mul, Shl, Shr}
use Rattle.alu.specs.declared.Single.{Single}
use Rattle.alu.specs.declared.Single.TheVariants.{Inc, Dec, Not, Neg}

-- "1 or 0"
abbrev pub flag : Bool → ℕ
flag t = pick t 1 0

-- "shl, shr of a by b: 0 where b is 16 or more"
abbrev pub shl_of : ℕ → ℕ → ℕ
shl_of a b = pick (ltb b 16) ((a * 2 ^ b) % 65536) 0

abbrev pub shr_of : ℕ → ℕ → ℕ
shr_of a b = pick (ltb b 16) (a / 2 ^ b) 0

-- "unsigned, a against b"
abbrev pub pair_of : Pair → ℕ → ℕ → ℕ
pair_of Eq a b = flag (eqb a b)
pair_of Ne a b = flag (not (eqb a b))
pair_of Le a b = flag (leb a b)
pair_of Gt a b = flag (ltb b a)
pair_of Lt a b = flag (ltb a b)
pair_of Ge a b = flag (leb b a)
pair_of And a b = bit_and a b
pair_of Or a b = bit_or a b
pair_of Xor a b = bit_xor a b
pair_of Add a b = (a + b) % 65536
pair_of Sub a b = (65536 + a - b) % 65536
pair_of Mul a b = (a * b) % 65536
pair_of Shl a b = shl_of a b
pair_of Shr a b = shr_of a b

-- "not flips all sixteen bits"
abbrev pub single_of : Single → ℕ → ℕ
single_of Inc a = (a + 1) % 65536
single_of Dec a = (65536 + a - 1) % 65536
single_of Not a = 65535 - a
single_of Neg a = (65536 - a) % 65536
