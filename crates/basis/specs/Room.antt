-- What a lent room holds after bytes were written into it.
use Rattle.std.specs.Prelude.{ℕ, List, ◌++◌, length, drop, ltb}
use Rattle.basis.specs.Pick.{pick}
use Rattle.basis.specs.Answer.{Answer, given, refused}

-- these bytes into a room of n bytes: "25 output longer than the room lent"
abbrev pub fitted : ℕ → List ℕ → Answer (List ℕ)
fitted n bytes = pick (ltb n (length bytes)) (refused 25) (given bytes)

-- "bytes past those written are untouched"; on a refusal "the room is untouched"
abbrev pub room_after : Answer (List ℕ) → List ℕ → List ℕ
room_after (given bytes) room = bytes ++ drop (length bytes) room
room_after (refused n) room = room
