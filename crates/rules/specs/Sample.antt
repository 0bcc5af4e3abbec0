-- 01's sample pack, "01 00 07 00 02 00 0A 00 04 00 85 83 15 00": one rule with tag 7, 2 cells and the program of M1.
use Rattle.std.specs.Prelude.{ℕ, List, [], ◌∷◌}
use Rattle.rules.specs.Rules.{Rule}

abbrev pub sample : List ℕ
sample = 0x01 ∷ 0x00 ∷ 0x07 ∷ 0x00 ∷ 0x02 ∷ 0x00 ∷ 0x0A ∷ 0x00 ∷ 0x04 ∷ 0x00 ∷ 0x85 ∷ 0x83 ∷ 0x15 ∷ 0x00 ∷ []

abbrev pub sample_rules : List Rule
sample_rules = record { tag = 7; cells = 2; body = 0x85 ∷ 0x83 ∷ 0x15 ∷ 0x00 ∷ [] } ∷ []
