-- What a walk along a program gives, and what it has left.
use Rattle.std.specs.Prelude.{ℕ, ◌-◌, ◌≡◌, List, [], ◌++◌, length, drop, Option, MatchOption}
use Rattle.std.specs.Iterator.{Count, at_most}
use Rattle.basis.specs.Refusal.{answer_of}
use Rattle.lines.specs.Line.{line_of}
use Rattle.listing.specs.Listing.{lines_of}
use Rattle.listing.specs.declared.walk.Place.{Place}
use Rattle.listing.specs.declared.walk.Walk.{Walk}

-- the line of a place
abbrev pub text_of : Place → List ℕ
text_of x = line_of x.address (answer_of x.answer) x.byte

-- the lines that are left to a walk
abbrev pub left : Walk → List ℕ
left w = lines_of 0 w.at (drop w.at w.program.now)

-- each line is about one byte at least
abbrev pub bytes_left : Walk → Count
bytes_left w = at_most (length w.program.now - w.at)

-- the line of what a walk gives is the first of those that were left; where it gives nothing, none was
abbrev pub YieldsLine : Walk → Option Place → Walk → Type 0
YieldsLine s r t = MatchOption r (left s ≡ []) (λ x. left s ≡ text_of x ++ left t)
