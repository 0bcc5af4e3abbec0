-- What the report of a pack says, and what writing it into a room answers and leaves in the depth map.
use Rattle.std.specs.Prelude.{ℕ, List, [], ◌∷◌, ◌++◌, length, take, drop, ltb}
use Rattle.basis.specs.Pick.{pick}
use Rattle.basis.specs.Answer.{Answer, given, refused}
use Rattle.basis.specs.Room.{fitted}
use Rattle.pack.specs.Read.{read_of}
use Rattle.pack.specs.Find.{body_of}
use Rattle.pack.specs.declared.Entry.{Entry}
use Rattle.rulings.specs.Rulings.{verified_in, Ruling, rulings_of}
use Rattle.verdicts.specs.Line.{line_of, pack_line_of}

-- "`TTTT accepted` or `TTTT refused N at AAAA` for each entry"
abbrev pub lines_of : List Ruling → List ℕ
lines_of [] = []
lines_of (r ∷ rs) = line_of r.0 r.1 ++ lines_of rs

-- "or only `pack refused N`"
abbrev pub report_in : Answer (List Ruling) → List ℕ
report_in (given rs) = lines_of rs
report_in (refused n) = pack_line_of n

unfoldable pub report_of : List ℕ → List ℕ
report_of pack = report_in (rulings_of pack)

-- the map after an entry: its first cells, as many as the program has bytes, are lent to the verifier
unfoldable pub laid_over : List ℕ → Entry → List ℕ → List ℕ
laid_over pack e map =
    (verified_in pack e (take (length (body_of pack e)) map)).1 ++ drop (length (body_of pack e)) map

-- after one entry and the next
abbrev pub all_laid : List ℕ → List Entry → List ℕ → List ℕ
all_laid pack [] map = map
all_laid pack (e ∷ es) map = all_laid pack es (laid_over pack e map)

-- a refused pack's entries are not verified
abbrev pub map_in : List ℕ → Answer (List Entry) → List ℕ → List ℕ
map_in pack (given es) map = all_laid pack es map
map_in pack (refused n) map = map

-- what is written into a room of so many bytes with a map of so many cells: 23 where these are not enough for every program, then 25
unfoldable pub write_of : List ℕ → ℕ → ℕ → Answer (List ℕ)
write_of pack cells n = pick (ltb cells 16384) (refused 23) (fitted n (report_of pack))

-- the map at the end: untouched by 23; 25 is found only after all entries
unfoldable pub map_of : List ℕ → List ℕ → List ℕ
map_of pack map = pick (ltb (length map) 16384) map (map_in pack (read_of pack) map)
