-- The entries of a pack made from lists of tags, cells and lengths.
use Rattle.std.specs.Prelude.{ℕ, ◌+◌, Bool, List, [], ◌∷◌, length, leb, eqb}
use Rattle.basis.specs.Pick.{both}
use Rattle.pack.specs.Contents.{first_of}
use Rattle.pack.specs.declared.Entry.{Entry}

abbrev pub entry_of : ℕ → ℕ → ℕ → ℕ → Entry
entry_of tag cells offset length = record { tag = tag; cells = cells; offset = offset; length = length }

-- the entries with these tags, cells and lengths whose bodies stand end to end from a place
abbrev pub laid : ℕ → List ℕ → List ℕ → List ℕ → List Entry
laid at [] cells lengths = []
laid at (t ∷ tags) [] lengths = []
laid at (t ∷ tags) (c ∷ cells) [] = []
laid at (t ∷ tags) (c ∷ cells) (l ∷ lengths) = entry_of t c at l ∷ laid (at + l) tags cells lengths

-- in a pack: "the first offset is 2 + 8n"
abbrev pub laid_of : List ℕ → List ℕ → List ℕ → List Entry
laid_of tags cells lengths = laid (first_of (length tags)) tags cells lengths

-- a sum of lengths, a whole number
abbrev pub sum_of : List ℕ → ℕ
sum_of [] = 0
sum_of (l ∷ lengths) = l + sum_of lengths

-- the lists can be the entries of a pack: neither "n over 64" nor "lists of unlike length"
abbrev pub alike : List ℕ → List ℕ → List ℕ → Bool
alike tags cells lengths = both (leb (length tags) 64) (both (eqb (length cells) (length tags)) (eqb (length lengths) (length tags)))
