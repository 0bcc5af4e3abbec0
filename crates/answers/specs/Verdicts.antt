-- What the verifier says, as numbers.
use Rattle.std.specs.Prelude.{ℕ, List}
use Rattle.verifier.specs.Verify.{Judged, good, names, nameless, Verified}
use Rattle.answers.specs.declared.KhxVerdict.{KhxVerdict}

-- a refusal of 0 is accepted; an address only where the refusal names one
abbrev pub verdict_in : Judged → KhxVerdict
verdict_in good = record { refusal = 0; at = 0 }
verdict_in (names k a) = record { refusal = k; at = a }
verdict_in (nameless k) = record { refusal = k; at = 0 }

-- with the depth map
abbrev pub verified_in : Verified → KhxVerdict × List ℕ
verified_in v = (verdict_in v.0, v.1)
