-- The names as the code holds them: a row of 18 bytes for each, with the name's length, the name, and blanks.
use Rattle.std.specs.Prelude.{ℕ, ◌-◌, List, [], ◌∷◌, ◌++◌, length, replicate}
use Prim.Native.String.{String}
use Rattle.text.specs.Text.{bytes}
use Rattle.names.specs.Names.{names}

abbrev pub row : String → List ℕ
row s = length (bytes s) ∷ (bytes s ++ replicate (17 - length (bytes s)) 0x20)

abbrev pub rows : List String → List ℕ
rows [] = []
rows (s ∷ ss) = row s ++ rows ss

unfoldable pub name_rows : List ℕ
name_rows = rows names
