-- The values of a push as they stand in the code.
use Rattle.std.specs.Prelude.{ℕ, zero, suc, ◌+◌, ◌/◌, ◌%◌, List, [], ◌∷◌}
use Rattle.basis.specs.Number.{number_at}
use Rattle.isa.specs.Op.{values_of}
use Rattle.decoder.specs.Decode.{with_values}

-- the first to the last of count values with these flags, which begin at a place of s
abbrev pub values_at : ℕ → ℕ → List ℕ → ℕ → List ℕ
values_at count flags s at = values_of (with_values 0xC0 0 count flags s at)

-- the same one after the other, for any count: the lowest flag is that of the first
abbrev pub values_from : ℕ → ℕ → List ℕ → ℕ → List ℕ
values_from zero flags s at = []
values_from (suc count) flags s at = number_at (1 + flags % 2) s at ∷ values_from count (flags / 2) s (at + (1 + flags % 2))

-- how many bytes they have
abbrev pub bytes_in : ℕ → ℕ → ℕ
bytes_in zero flags = 0
bytes_in (suc count) flags = 1 + flags % 2 + bytes_in count (flags / 2)
