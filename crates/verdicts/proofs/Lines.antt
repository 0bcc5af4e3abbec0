-- Laws of the lines of a report: their lengths, and how they are put.
-- Assumes nothing.
use Prim.Native.Nat.{ℕ, ◌+◌, ◌/◌, ◌%◌, ◌≤◌, ◌<◌}
use native.Mathlib.Omega.{arith}
use mathlib.Core.Path.{◌≡◌, refl}
use mathlib.Core.Bool.{Bool, true, false}
use mathlib.Core.List.{[], ◌∷◌}
use lib.Dec.{ltb}
use lib.ListN.{length, length-append}
use borrow.Author.Tests.{lt-ltb, le-ltb}
use Rattle.text.specs.Text.{digit_of, hex_of}
use Rattle.text.specs.Pen.{Puts}
use Rattle.text.specs.declared.pen.Pen.{Pen}
use Rattle.text.proofs.Puts.{puts-append}
use Rattle.verifier.specs.Verify.{Judged, good, names, nameless}
use Rattle.verdicts.specs.Line.{decimal_of, refused_of, said_of, line_of, pack_line_of}

-- a digit below 10
digit-small : (n : ℕ) → n < 10 → digit_of n ≡ 0x30 + n
unfolding digit_of
digit-small n h = rw (lt-ltb n 10 h)

-- a number of one digit, and of two
pub put_low : (n : ℕ) {p q : Pen} → n < 10 → Puts ((0x30 + n % 10) ∷ []) p q → Puts (decimal_of n) p q
unfolding decimal_of
put_low n h put = let z : n % 10 ≡ n = omega arith in rw (lt-ltb n 10 h, digit-small n h) (rw z at put)

pub put-high : (n : ℕ) {p q r : Pen} → 10 ≤ n → Puts ((0x30 + n / 10 % 10) ∷ []) p q → Puts ((0x30 + n % 10) ∷ []) q r → Puts (decimal_of n) p r
unfolding decimal_of
put-high n h tens ones =
    let a = digit-small (n / 10 % 10) (omega arith) in
    let b = digit-small (n % 10) (omega arith) in
    rw (le-ltb n 10 h, a, b) (puts-append tens ones)

pub length-decimal : (n : ℕ) → length (decimal_of n) ≤ 2
unfolding decimal_of
length-decimal n = by (ltb n 10) refl
  where
    by : (t : Bool) → ltb n 10 ≡ t → length (decimal_of n) ≤ 2
    by true e = rw e (omega arith)
    by false e = rw e (omega arith)

-- " refused N"
pub length-refused : (n : ℕ) → length (refused_of n) ≤ 11
unfolding refused_of
length-refused n = rw length-append (omega (arith, length-decimal n))

-- the four digits of a number are those of its two low bytes
pub hex-low : (a : ℕ) → hex_of 2 (a % 65536) ≡ hex_of 2 a
hex-low a =
    let h : a % 65536 / 256 / 16 % 16 ≡ a / 256 / 16 % 16 = omega arith in
    let i : a % 65536 / 256 % 16 ≡ a / 256 % 16 = omega arith in
    let j : a % 65536 / 16 % 16 ≡ a / 16 % 16 = omega arith in
    let k : a % 65536 % 16 ≡ a % 16 = omega arith in
    rw (h, i, j, k)

-- what is said, by the verdict
pub length-said : (j : Judged) → length (said_of j) ≤ 19
unfolding said_of
length-said good = omega arith
length-said (names n a) = rw length-append (omega (arith, length-refused n))
length-said (nameless n) = omega (arith, length-refused n)

-- a line
pub length-line : (tag : ℕ) (j : Judged) → length (line_of tag j) ≤ 24
unfolding line_of
length-line tag j = simp length-append (omega (arith, length-said j))

pub length-pack-line : (n : ℕ) → length (pack_line_of n) ≤ 16
unfolding pack_line_of
length-pack-line n = simp length-append (omega (arith, length-refused n))
