-- What an instruction leads to at a depth: decode, stack check and way, as in a step.
use Rattle.std.specs.Prelude.{ℕ, ◌+◌, Bool, true, false, List, [], ◌∷◌, eqb, Result, Ok, Err}
use Rattle.basis.specs.Pick.{pick}
use Rattle.basis.specs.Answer.{Answer, given, refused}
use Rattle.basis.specs.Refusal.{number_of}
use Rattle.basis.specs.declared.refusal.Refusal.{Refusal}
use Rattle.isa.specs.Op.{Op, op_of}
use Rattle.isa.specs.Shape.{taken_of, pushed_of, way_of, depth_after}
use Rattle.decoder.specs.Decode.{Reading, decode_of}
use Rattle.isa.specs.declared.Way.{Way}
use Rattle.isa.specs.declared.Way.TheVariants.{Stop, Next, Jump, Branch, Call, Taken, System, Extension}
use Rattle.paths.specs.Paths.{Hop, hop, Outcome, bad, leads}
use Rattle.look.specs.declared.Look.{Look}
use Rattle.look.specs.declared.Look.TheVariants.{Nowhere, One, Two}

-- 4 and 5 behind it, at the depth e: "to the next instruction, to its target, or to both; halt and function 0 lead
-- nowhere"; 8 for any other function
abbrev pub along : ℕ → ℕ → Way → Outcome
along next e Stop = leads []
along next e Next = leads (hop next e ∷ [])
along next e (Jump x) = leads (hop x e ∷ [])
along next e (Branch t x) = leads (hop next e ∷ hop x e ∷ [])
along next e (Call x) = bad 9
along next e (Taken r) = bad 9
along next e (System x) = pick (eqb x 0) (leads []) (bad 8)
along next e (Extension x) = bad 8

abbrev pub on_depth : ℕ → Way → Answer ℕ → Outcome
on_depth next w (refused k) = bad k
on_depth next w (given e) = along next e w

-- "9 verifier: codes 05 to 0A, 3B, 55"
abbrev pub is_nine : Way → Bool
is_nine Stop = false
is_nine Next = false
is_nine (Jump x) = false
is_nine (Branch t x) = false
is_nine (Call x) = true
is_nine (Taken r) = true
is_nine (System x) = false
is_nine (Extension x) = false

-- "then 9, 4, 5, 8"
abbrev pub on_way : ℕ → Way → Answer ℕ → Outcome
on_way next w depth = pick (is_nine w) (bad 9) (on_depth next w depth)

-- an operation whose next instruction is at next, met at depth d
abbrev pub look_at : ℕ → ℕ → ℕ → Op → Outcome
look_at cells next d o = on_way next (way_of o) (depth_after cells d (taken_of o) (pushed_of o))

abbrev pub on_reading : ℕ → ℕ → ℕ → Answer Reading → Outcome
on_reading cells a d (refused k) = bad k
on_reading cells a d (given r) = look_at cells (a + r.1) d (op_of r.0)

-- an address of a program, met at depth d, with so many cells
unfoldable pub look_of : List ℕ → ℕ → ℕ → ℕ → Outcome
look_of program cells a d = on_reading cells a d (decode_of program a)

-- the code's successors, next instruction first
abbrev pub hops_in : Look → List Hop
hops_in Nowhere = []
hops_in (One b e) = hop b e ∷ []
hops_in (Two b x e) = hop b e ∷ hop x e ∷ []

-- the code's answer as an outcome, by the numbers of its errors
abbrev pub outcome_by : {E : Type 0} → (E → ℕ) → Result Look E → Outcome
outcome_by number (Ok l) = leads (hops_in l)
outcome_by number (Err why) = bad (number why)

abbrev pub outcome_in : Result Look Refusal → Outcome
outcome_in r = outcome_by number_of r
