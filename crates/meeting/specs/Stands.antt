-- How the code holds the walk's marks: the map has the depths, a set the addresses that are due, all but one, which stands beside it.
use Rattle.std.specs.Prelude.{ℕ, ◌<◌, ◌≤◌, ◌≡◌, List, length, get_or, set, Option, Some, None, Result, Ok, Err}
use Rattle.paths.specs.Paths.{Hop, Outcome}
use Rattle.paths.specs.Walk.{Mark, unmet, due, examined, Turn, done, more, refused, kept, broke, meet, meets, examine, cell_of}
use Rattle.paths.specs.Walk.{Meeting as Met}
use Rattle.basis.specs.Refusal.{number_of}
use Rattle.basis.specs.declared.refusal.Refusal.{Refusal}
use Rattle.pending.specs.Sets.{member, Beside}
use Rattle.meeting.specs.Clash.{two_depths}
use Rattle.meeting.specs.declared.Meeting.{Meeting}
use Rattle.meeting.specs.declared.Meeting.TheVariants.{New, Known}

-- a depth at most 1,024 is no 65,535
abbrev pub Small : Mark → Type 0
Small unmet = Unit {0}
Small (due d) = d ≤ 1024
Small (examined d) = d ≤ 1024

-- the map holds the marks' depths
pub record Maps (depths : List ℕ) (marks : List Mark) : Type 0 where
  pub len : length depths ≡ length marks
  pub cells : (a : ℕ) → a < length marks → get_or depths a 0 ≡ cell_of (get_or marks a unmet)
  pub small : (a : ℕ) → Small (get_or marks a unmet)

-- 1 where the mark is due
abbrev pub due_in : Mark → ℕ
due_in unmet = 0
due_in (due d) = 1
due_in (examined d) = 0

-- and the set, with the one beside it, the addresses that are due
pub record Stands (depths words : List ℕ) (beside : Option ℕ) (marks : List Mark) : Type 0 where
  pub maps : Maps depths marks
  pub size : length marks ≤ 16384
  pub out : Beside words beside
  pub dues : (a : ℕ) → a < 16384 → member words beside a ≡ due_in (get_or marks a unmet)

-- what meeting the address b at depth e gave
abbrev pub Meets : List Mark → ℕ → ℕ → Result Meeting Refusal → List ℕ → Type 0
Meets marks b e (Ok New) after = (b < length marks) × (get_or marks b unmet ≡ unmet) × Maps after (set marks b (due e))
Meets marks b e (Ok Known) after = (meet two_depths marks b e ≡ kept marks) × Maps after marks
Meets marks b e (Err why) after = meet two_depths marks b e ≡ broke (number_of why)

-- whatever marks the map holds
abbrev pub MeetsAny : List ℕ → ℕ → ℕ → Result Meeting Refusal → List ℕ → Type 0
MeetsAny before b e r after = (marks : List Mark) → Maps before marks → Meets marks b e r after

-- an address met for the first time is one of the map's n
abbrev pub InsideNew : ℕ → ℕ → Result Meeting Refusal → Type 0
InsideNew n b (Ok New) = b < n
InsideNew n b (Ok Known) = Unit {0}
InsideNew n b (Err why) = Unit {0}

-- what meeting successors gave: the code goes on, with an address beside the set or none, or stops
abbrev pub Went : Met → Result (Option ℕ) Refusal → List ℕ → List ℕ → Type 0
Went m (Ok beside) depths words = (later : List Mark) × (m ≡ kept later) × Stands depths words beside later
Went m (Err why) depths words = m ≡ broke (number_of why)

-- the successors hs were met with nothing beside the set, whatever marks the map and the set hold
abbrev pub WentAny : List ℕ → List ℕ → List Hop → Result (Option ℕ) Refusal → List ℕ → List ℕ → Type 0
WentAny before words hs r after later = (marks : List Mark) → Stands before words None marks → Went (meets two_depths marks hs) r after later

-- what examining the address a gave
abbrev pub Turned : ℕ → Turn → Result (Option ℕ) Refusal → List ℕ → List ℕ → Type 0
Turned a t (Ok beside) depths words = (later : List Mark) × (t ≡ more later) × Stands depths words beside later
Turned a t (Err why) depths words = t ≡ done (refused (number_of why) a)

-- the address a, beside the set and met at depth d, was examined, whatever marks the map and the set hold
abbrev pub TurnedAny : (ℕ → ℕ → Outcome) → ℕ → ℕ → List ℕ → List ℕ → Result (Option ℕ) Refusal → List ℕ → List ℕ → Type 0
TurnedAny look a d before words r after later =
    (marks : List Mark) → Stands before words (Some a) marks → Turned a (examine two_depths marks a d (look a d)) r after later
