-- What a line of the listing says. Its operands stand in operands/specs/Operands.
use Rattle.std.specs.Prelude.{ℕ, List, ◌++◌}
use Rattle.basis.specs.Answer.{Answer, given, refused}
use Rattle.decoder.specs.Decode.{Reading}
use Rattle.text.specs.Text.{bytes, hex_of}
use Rattle.names.specs.Names.{name_of}
pub use Rattle.operands.specs.Operands.{operand_of, shown_in}
unfoldable pub use Rattle.operands.specs.Operands.{operands_of}

-- what a line says: the name and the operands of the instruction; "Where 2 or 3 stands, `byte $XX`" of the byte b there
unfoldable pub said_of : Answer Reading → ℕ → List ℕ
said_of (given r) b = name_of r.0.code ++ operands_of r.0
said_of (refused n) b = bytes "byte" ++ operand_of 1 b

-- how many bytes a line is about: the instruction's, or where 2 or 3 stands "one byte further"
abbrev pub step_of : Answer Reading → ℕ
step_of (given r) = r.1
step_of (refused n) = 1

-- "four upper-case hex digits, blank, name .., each operand .., line feed"
unfoldable pub line_of : ℕ → Answer Reading → ℕ → List ℕ
line_of at d b = hex_of 2 at ++ (bytes " " ++ (said_of d b ++ bytes "\n"))
