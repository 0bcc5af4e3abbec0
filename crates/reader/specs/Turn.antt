-- What a reader gives, and where it then stands.
use Rattle.std.specs.Prelude.{ℕ, ◌+◌, List, Result}
use Rattle.basis.specs.Answer.{Answer, given, refused}
use Rattle.basis.specs.Refusal.{answer_of}
use Rattle.basis.specs.declared.refusal.Refusal.{Refusal}
use Rattle.decoder.specs.Decode.{Reading, decode_of}

-- past the instruction that was read; "on a refusal it doesn't move"
abbrev pub after_of : Answer Reading → ℕ → ℕ
after_of (given r) at = at + r.1
after_of (refused n) at = at

-- "answering as the decoder does": the answer at an address of a program, and the address after it
abbrev pub turn_of : List ℕ → ℕ → Answer Reading × ℕ
turn_of program at = (decode_of program at, after_of (decode_of program at) at)

-- the code's answer and the address where the reader then stands, as 01 gives them
abbrev pub turn_answer : Result Reading Refusal → ℕ → Answer Reading × ℕ
turn_answer d at = (answer_of d, at)
