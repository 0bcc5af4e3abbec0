-- Rows worked again by the definitions: where that gives the rows as they stand, they hold.
-- Assumes nothing.
use mathlib.Core.Path.{◌≡◌}
use mathlib.Core.List.{List, [], ◌∷◌, map}
use lib.ListN.{length, replicate}
use Rattle.decoder.specs.Decode.{decode_of}
use Rattle.machine.specs.Machine.{machine, fresh}
use Rattle.machine.specs.Run.{outcome_of}
use Rattle.verifier.specs.Verify.{verify_of}
use Rattle.guarantee.specs.Marked.{Example, decodes, runs, verifies, Holds, AllHold}

abbrev pub again : Example → Example
again (decodes program answer) = decodes program (decode_of program 0)
again (runs program mem cells outcome) = runs program mem cells (outcome_of 1000 program (machine fresh mem cells))
again (verifies program cells verified) = verifies program cells (verify_of program cells (replicate (length program) 0))

pub holds-again : (e : Example) → again e ≡ e → Holds e
holds-again (decodes program answer) same = cc
holds-again (runs program mem cells outcome) same = cc
holds-again (verifies program cells verified) same = cc

pub all-again : (es : List Example) → map again es ≡ es → AllHold es
all-again [] same = tt
all-again (e ∷ es) same = (holds-again e cc, all-again es cc)
