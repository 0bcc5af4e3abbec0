-- What makes the numbers of an answer tell it from every other: a refusal has a number that is not 0.
use Rattle.std.specs.Prelude.{◌<◌, ◌≤◌, ◌≡◌}
use Rattle.basis.specs.Answer.{Answer, given, refused}
use Rattle.machine.specs.Run.{Outcome}
use Rattle.machine.specs.Run as run
use Rattle.verifier.specs.Verify.{Judged, good, names, nameless}

abbrev pub Told : {A : Type 0} → Answer A → Type 0
Told (given a) = Unit {0}
Told (refused k) = k ≡ 0 → ⊥

-- the same of what a run came to
abbrev pub ToldRun : Outcome → Type 0
ToldRun (run.came m k) = Unit {0}
ToldRun (run.refused n m) = n ≡ 0 → ⊥

-- of a verdict: the walk refuses by 1 to 10, and what names no instruction is refused by a number above
abbrev pub ToldVerdict : Judged → Type 0
ToldVerdict good = Unit {0}
ToldVerdict (names k a) = (0 < k) × (k ≤ 10)
ToldVerdict (nameless k) = 10 < k
