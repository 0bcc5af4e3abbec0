-- The walk that finds the depths of a program's addresses, or what is wrong with it, for any rule `look` that says what an address
-- leads to at a depth. A depth may stand for more (a label): `clash` numbers the refusal where an address is met at two.
use Rattle.std.specs.Prelude.{ℕ, zero, suc, Bool, true, false, List, [], ◌∷◌, ltb, eqb, length, get_or, set, replicate}
use Rattle.basis.specs.Pick.{pick}
use Rattle.paths.specs.Paths.{Hop, hop, Outcome, bad, leads}

-- how the walk stands with an address: not met, met at a depth and "not yet examined", or examined
pub data Mark : Type 0 where
  unmet : Mark
  due : ℕ → Mark
  examined : ℕ → Mark

-- what the walk answers: the marks of all addresses, or a refusal's number and "the instruction examined"
pub data Walked : Type 0 where
  accepted : List Mark → Walked
  refused : ℕ → ℕ → Walked

-- what meeting successors gives: the new marks, or a refusal's number
pub data Meeting : Type 0 where
  kept : List Mark → Meeting
  broke : ℕ → Meeting

-- what one examination gives: the walk's answer, or the marks to go on with
pub data Turn : Type 0 where
  done : Walked → Turn
  more : List Mark → Turn

-- an address met before, at depth d, is met at depth e
abbrev pub again : (ℕ → ℕ → ℕ) → List Mark → ℕ → ℕ → Meeting
again clash ms d e = pick (eqb d e) (kept ms) (broke (clash d e))

-- the address b, marked so, is met at depth e
abbrev pub meet_at : (ℕ → ℕ → ℕ) → List Mark → ℕ → ℕ → Mark → Meeting
meet_at clash ms b e unmet = kept (set ms b (due e))
meet_at clash ms b e (due d) = again clash ms d e
meet_at clash ms b e (examined d) = again clash ms d e

-- "1 if at or past the end, 10 if already met at another depth"
unfoldable pub meet : (ℕ → ℕ → ℕ) → List Mark → ℕ → ℕ → Meeting
meet clash ms b e = pick (ltb b (length ms)) (meet_at clash ms b e (get_or ms b unmet)) (broke 1)

abbrev pub on_meeting : Meeting → (List Mark → Meeting) → Meeting
on_meeting (kept ms) f = f ms
on_meeting (broke k) f = broke k

-- "then its successors, next instruction first"
unfoldable pub meets : (ℕ → ℕ → ℕ) → List Mark → List Hop → Meeting
meets clash ms [] = kept ms
meets clash ms (hop b e ∷ hs) = on_meeting (meet clash ms b e) (λ later. meets clash later hs)

abbrev pub is_due : Mark → Bool
is_due unmet = false
is_due (due d) = true
is_due (examined d) = false

-- "the lowest address met and not yet examined"; the length where there is none
unfoldable pub lowest : List Mark → ℕ
lowest [] = 0
lowest (m ∷ ms) = pick (is_due m) 0 (suc (lowest ms))

-- "A refusal names the instruction examined"
abbrev pub turned : ℕ → Meeting → Turn
turned a (kept ms) = more ms
turned a (broke k) = done (refused k a)

-- the address a, due at depth d, is examined and leads to this
abbrev pub examine : (ℕ → ℕ → ℕ) → List Mark → ℕ → ℕ → Outcome → Turn
examine clash ms a d (bad k) = done (refused k a)
examine clash ms a d (leads hs) = turned a (meets clash (set ms a (examined d)) hs)

-- as the walk begins, address 0 of n + 1 is met at depth 0
abbrev pub begun : ℕ → List Mark
begun n = due 0 ∷ replicate n unmet

abbrev pub go_on : Turn → (List Mark → Walked) → Walked
go_on (done w) f = w
go_on (more ms) f = f ms

module _ (clash : ℕ → ℕ → ℕ) (look : ℕ → ℕ → Outcome) where
  -- the address a, marked so, is examined if it is due; where none is, the program is accepted
  abbrev pub turn_at : List Mark → ℕ → Mark → Turn
  turn_at ms a unmet = done (accepted ms)
  turn_at ms a (due d) = examine clash ms a d (look a d)
  turn_at ms a (examined d) = done (accepted ms)

  unfoldable pub turn : List Mark → Turn
  turn ms = turn_at ms (lowest ms) (get_or ms (lowest ms) unmet)

  -- so many turns
  unfoldable pub turns : ℕ → List Mark → Walked
  turns zero ms = accepted ms
  turns (suc f) ms = go_on (turn ms) (λ later. turns f later)

  -- the walk of a program of so many bytes; "An empty program is 1 at 0". Each turn but the last examines an address anew
  unfoldable pub walk : ℕ → Walked
  walk zero = refused 1 0
  walk (suc n) = turns (suc (suc n)) (begun n)

-- the cell of the depth map: "the depth of its address if a path meets it, else 65,535"
abbrev pub cell_of : Mark → ℕ
cell_of unmet = 65535
cell_of (due d) = d
cell_of (examined d) = d
