-- Laws of lines: their lengths.
-- Assumes nothing.
use Prim.Native.Nat.{ℕ, ◌+◌}
use native.Mathlib.Omega.{arith}
use mathlib.Core.Path.{◌≡◌, refl}
use lib.ListN.{length, length-append}
use Rattle.basis.specs.Answer.{Answer, given, refused}
use Rattle.decoder.specs.Decode.{Reading}
use Rattle.text.proofs.Puts.{puts-append, puts-room}
use Rattle.lines.specs.Line.{said_of, line_of}

-- what a line says
pub length-said : (d : Answer Reading) (b : ℕ) → length (said_of d b) ≡ length (said_of d 0)
unfolding said_of
length-said (given r) b = refl
length-said (refused n) b = refl

-- a line
pub length-line : (at : ℕ) (d : Answer Reading) (b : ℕ) → length (line_of at d b) ≡ 6 + length (said_of d b)
unfolding line_of
length-line at d b = simp length-append (omega arith)

pub length-any : (at : ℕ) (d : Answer Reading) (b : ℕ) → length (line_of at d b) ≡ length (line_of 0 d 0)
length-any at d b = omega (arith, length-line at d b, length-line 0 d 0, length-said d b)

-- lengths of lines and what follows of pens, for the search
pub ruleset written = (length-said, length-line, length-append, puts-append, puts-room)
