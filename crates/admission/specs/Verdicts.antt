-- A verdict in three cells: its tag, and the verifier's answer as numbers.
use Rattle.std.specs.Prelude.{ℕ, ◌%◌, List, [], ◌∷◌}
use Rattle.verifier.specs.Verify.{Judged, good, names, nameless}

-- the refusal's number, 0 where the program is accepted
abbrev pub number_of : Judged → ℕ
number_of good = 0
number_of (names n a) = n % 65536
number_of (nameless n) = n % 65536

-- the address that a refusal names, 0 where there is none
abbrev pub place_of : Judged → ℕ
place_of good = 0
place_of (names n a) = a % 65536
place_of (nameless n) = 0

abbrev pub codes_of : ℕ → Judged → List ℕ
codes_of tag j = tag ∷ number_of j ∷ place_of j ∷ []
