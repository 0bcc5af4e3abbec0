-- The bytes of a pack: "All fields u16, low byte first. Contents first: count n, then n entries of tag, cells, offset, length. Bodies follow".
use Rattle.std.specs.Prelude.{ℕ, List, [], ◌∷◌, ◌++◌, length}
use Rattle.basis.specs.Number.{bytes_of}
use Rattle.pack.specs.declared.Entry.{Entry}

unfoldable pub entry_bytes : Entry → List ℕ
entry_bytes e = bytes_of 2 e.tag ++ (bytes_of 2 e.cells ++ (bytes_of 2 e.offset ++ bytes_of 2 e.length))

abbrev pub entries_bytes : List Entry → List ℕ
entries_bytes [] = []
entries_bytes (e ∷ es) = entry_bytes e ++ entries_bytes es

-- the pack with these entries, and with these bodies end to end
unfoldable pub pack_of : List Entry → List ℕ → List ℕ
pack_of es bodies = bytes_of 2 (length es) ++ (entries_bytes es ++ bodies)
