-- What a line of the report says.
use Rattle.std.specs.Prelude.{ℕ, ◌/◌, ◌%◌, List, [], ◌∷◌, ◌++◌, ltb}
use Rattle.basis.specs.Pick.{pick}
use Rattle.text.specs.Text.{bytes, digit_of, hex_of}
use Rattle.verifier.specs.Verify.{Judged, good, names, nameless}

-- "N decimal": the digits of a number below 100, as every number of 01's table is
unfoldable pub decimal_of : ℕ → List ℕ
decimal_of n = pick (ltb n 10) (digit_of n ∷ []) (digit_of (n / 10 % 10) ∷ digit_of (n % 10) ∷ [])

-- "refused N"
unfoldable pub refused_of : ℕ → List ℕ
refused_of n = bytes " refused " ++ decimal_of n

-- what is said of a program: "accepted" or "refused N at AAAA"; a refusal that names no address comes before the walk
unfoldable pub said_of : Judged → List ℕ
said_of good = bytes " accepted"
said_of (names n a) = refused_of n ++ (bytes " at " ++ hex_of 2 a)
said_of (nameless n) = refused_of n

-- the line of an entry: its tag, what is said of its program, and "a line feed after each"
unfoldable pub line_of : ℕ → Judged → List ℕ
line_of tag judged = hex_of 2 tag ++ (said_of judged ++ bytes "\n")

-- the only line of a refused pack: "pack refused N"
unfoldable pub pack_line_of : ℕ → List ℕ
pack_line_of n = bytes "pack" ++ (refused_of n ++ bytes "\n")
