-- What a whole pack is answered: its own refusal, or for each of its programs, in their order, what the verifier says.
use Rattle.std.specs.Prelude.{ℕ, List, map, length, replicate}
use Rattle.basis.specs.Answer.{Answer, seen}
use Rattle.pack.specs.Read.{read_of}
use Rattle.pack.specs.Find.{body_of}
use Rattle.pack.specs.declared.Entry.{Entry}
use Rattle.verifier.specs.Verify.{Judged, Verified, verify_of}

-- the verifier's answer for an entry's program and cells, and the map that it leaves
abbrev pub verified_in : List ℕ → Entry → List ℕ → Verified
verified_in pack e depths = verify_of (body_of pack e) e.cells depths

-- its answer over a map as long as the program, "all .. map cells at 65,535"
unfoldable pub judged_of : List ℕ → Entry → Judged
judged_of pack e = (verified_in pack e (replicate (length (body_of pack e)) 65535)).0

-- "each program's verdict": the tag, and what the verifier says
abbrev pub Ruling : Type 0
Ruling = ℕ × Judged

abbrev pub ruling_of : List ℕ → Entry → Ruling
ruling_of pack e = (e.tag, judged_of pack e)

-- "each program's verdict and the pack's own answer": a refused pack has no verdicts
unfoldable pub rulings_of : List ℕ → Answer (List Ruling)
rulings_of pack = seen (map (ruling_of pack)) (read_of pack)
