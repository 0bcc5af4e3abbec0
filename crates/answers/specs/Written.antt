-- What was written into a room, as numbers.
use Rattle.std.specs.Prelude.{ℕ}
use Rattle.basis.specs.Answer.{Answer, given, refused}
use Rattle.answers.specs.declared.KhxWritten.{KhxWritten}

-- the length; or the refusal's number, and no length
abbrev pub written_in : Answer ℕ → KhxWritten
written_in (given n) = record { refusal = 0; length = n }
written_in (refused k) = record { refusal = k; length = 0 }
