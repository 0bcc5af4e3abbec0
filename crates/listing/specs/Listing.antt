-- What the listing of a program is, and what listing it into a room answers.
use Rattle.std.specs.Prelude.{ℕ, zero, suc, ◌-◌, List, [], ◌∷◌, ◌++◌, length, ltb}
use Rattle.basis.specs.Pick.{pick}
use Rattle.basis.specs.Answer.{Answer, refused}
use Rattle.basis.specs.Room.{fitted}
use Rattle.decoder.specs.Decode.{head_of}
use Rattle.lines.specs.Line.{step_of, line_of}

-- the lines of the bytes from an address on, of which the first `past` belong to the line before
unfoldable pub lines_of : ℕ → ℕ → List ℕ → List ℕ
lines_of past at [] = []
lines_of zero at (b ∷ s) = line_of at (head_of (b ∷ s)) b ++ lines_of (step_of (head_of (b ∷ s)) - 1) (suc at) s
lines_of (suc past) at (b ∷ s) = lines_of past (suc at) s

-- "From address 0, one line each"
abbrev pub listing_of : List ℕ → List ℕ
listing_of program = lines_of 0 0 program

-- what is written into a room of n bytes: "Checks: 20, 25"
unfoldable pub list_of : List ℕ → ℕ → Answer (List ℕ)
list_of program n = pick (ltb 16384 (length program)) (refused 20) (fitted n (listing_of program))
