-- A pack that comes in chunks, by the calls of the C face over memory that a host lends: khx_admit_start, khx_admit_chunk for each chunk, khx_admit_close.
use Rattle.std.specs.Prelude.{ℕ, ◌≤◌, ◌<◌, ◌≡◌, List, [], ◌∷◌, ◌++◌, length, drop, replicate, eqb}
use Rattle.basis.specs.Pick.{pick}
use Rattle.basis.specs.Answer.{Answer, given, refused}
use Rattle.rulings.specs.Rulings.{Ruling, rulings_of}
use Rattle.streams.specs.Told.{ruled_from, joined}
use Rattle.report.specs.Report.{report_in, report_of}
use Rattle.admission.specs.Numbers.{start_of, lost_of}
use Rattle.admission.specs.Admission.{Mach, mach, admit_of, close_of, ask_of}
use Rattle.admission.specs.declared.Admission.{Admission}
use Rattle.answers.specs.Admissions.{admission_of, kept_in, untold, start_in, close_in, ask_in, Lent, lent, chunk_in}
use Rattle.answers.specs.declared.KhxAdmitted.{KhxAdmitted}

-- the memory after khx_admit_start, after a chunk, and after chunks one after the other, each over what the one before left
abbrev pub started : List ℕ → List ℕ → List ℕ → List ℕ → List ℕ → Lent
started xs c b m v = lent (start_in xs).0 (start_in xs).1 c b m v

abbrev pub called : List ℕ → Lent → Lent
called chunk l = chunk_in chunk l.numbers l.contents l.body l.map l.verdicts

abbrev pub called_all : List (List ℕ) → Lent → Lent
called_all [] l = l
called_all (c ∷ cs) l = called_all cs (called c l)

-- what a host reads off khx_admit_close: the refusal, or as many verdicts as it tells, from their cells
unfoldable pub heard_of : Lent → Answer (List Ruling)
heard_of l =
    pick (eqb (close_in l.numbers).0.refusal 0)
    (given (ruled_from l.verdicts 0 (close_in l.numbers).0.verdicts))
    (refused (close_in l.numbers).0.refusal)

-- memory of the sizes in the header, whatever it holds
pub record Enough (xs c b m v : List ℕ) : Type 0 where
  pub numbers : 8 ≤ length xs
  pub contents : 514 ≤ length c
  pub body : 16384 ≤ length b
  pub map : 16384 ≤ length m
  pub verdicts : 192 ≤ length v

-- Wherever it was cut, the calls tell what the whole pack answers.
unfoldable pub CallsAsWhole : Type 0
CallsAsWhole = (cs : List (List ℕ)) (xs c b m v : List ℕ) → Enough xs c b m v → heard_of (called_all cs (started xs c b m v)) ≡ rulings_of (joined cs)

-- And that is what khx_report says of the whole pack, line by line.
unfoldable pub CallsAsReport : Type 0
CallsAsReport = (cs : List (List ℕ)) (xs c b m v : List ℕ) → Enough xs c b m v → report_in (heard_of (called_all cs (started xs c b m v))) ≡ report_of (joined cs)

-- The eight numbers hold an admission whole: what a call left is what the next one begins with, and nothing behind them changes.
unfoldable pub NumbersHold : Type 0
NumbersHold = (st : Admission) (xs : List ℕ) → (admission_of (kept_in st xs) ≡ st) × (drop 8 (kept_in st xs) ≡ drop 8 xs)

-- the admission and its memory, in what is lent
abbrev pub mach_in : Lent → Mach
mach_in l = mach (admission_of l.numbers) l.contents l.body l.map l.verdicts

-- Where eight numbers are lent, a call does to them and to the memory what is defined of an admission, and answers its refusal: so all that is promised of
-- an admission (guarantee/specs/Downloads) holds of the calls.
pub record Calls (l : Lent) : Type 0 where
  pub start : ((start_in l.numbers).0.refusal ≡ 0) × (admission_of (start_in l.numbers).1 ≡ start_of)
  pub chunk : (c : List ℕ) → ((called c l).answer.refusal ≡ (admit_of c (mach_in l)).0) × (mach_in (called c l) ≡ (admit_of c (mach_in l)).1)
  pub close : ((close_in l.numbers).0.refusal ≡ (close_of (mach_in l).st).refusal) × (admission_of (close_in l.numbers).1 ≡ (close_of (mach_in l).st).admission)
  pub ask : (ask_in l.numbers).refusal ≡ ask_of (mach_in l).st

unfoldable pub CallsAdmit : Type 0
CallsAdmit = (l : Lent) → 8 ≤ length l.numbers → Calls l

-- Where fewer are lent, every call is 90, and changes nothing.
pub record Few (xs : List ℕ) : Type 0 where
  pub start : start_in xs ≡ (untold 90, xs)
  pub chunk : (chunk c b m v : List ℕ) → chunk_in chunk xs c b m v ≡ lent (untold 90) xs c b m v
  pub close : close_in xs ≡ (untold 90, xs)
  pub ask : ask_in xs ≡ untold 90

unfoldable pub FewAreRefused : Type 0
FewAreRefused = (xs : List ℕ) → length xs < 8 → Few xs

-- What an answer tells beside its refusal: the admission as the call leaves it, "`closed` is 1 after the close and 0 before it", how many programs have their
-- verdict, and what refuses the pack whatever follows; by 90 and 91 nothing.
pub record Tells (r : KhxAdmitted) (st : Admission) : Type 0 where
  pub closed : r.refusal < 90 → r.closed ≡ st.closed
  pub verdicts : r.refusal < 90 → r.verdicts ≡ st.judged
  pub lost : r.refusal < 90 → r.lost ≡ lost_of st
  pub alone : 90 ≤ r.refusal → r ≡ untold r.refusal

unfoldable pub TellsItself : Type 0
TellsItself =
    ((xs : List ℕ) → Tells (start_in xs).0 (admission_of (start_in xs).1) × Tells (close_in xs).0 (admission_of (close_in xs).1) × Tells (ask_in xs) (admission_of xs))
    × ((chunk xs c b m v : List ℕ) → Tells (chunk_in chunk xs c b m v).answer (admission_of (chunk_in chunk xs c b m v).numbers))

-- the memory after khx_admit_close
abbrev pub shut_in : Lent → Lent
shut_in l = lent (close_in l.numbers).0 (close_in l.numbers).1 l.contents l.body l.map l.verdicts

-- Before the close no answer is told; at it "a refused pack has no verdicts"; and after it "37 a chunk or a second close", while to ask tells the first close's
-- answer, field by field.
pub record Shuts (l : Lent) : Type 0 where
  pub before : ((ask_in l.numbers).refusal ≡ 0) × ((ask_in l.numbers).closed ≡ 0)
  pub closed : (shut_in l).answer.closed ≡ 1
  pub none : ((shut_in l).answer.refusal ≡ 0 → ⊥) → (shut_in l).answer.verdicts ≡ 0
  pub chunk : (c : List ℕ) → (called c (shut_in l)).answer.refusal ≡ 37
  pub close : (close_in (shut_in l).numbers).0.refusal ≡ 37
  pub ask : ask_in (shut_in l).numbers ≡ (shut_in l).answer

unfoldable pub CloseShuts : Type 0
CloseShuts = (cs : List (List ℕ)) (xs c b m v : List ℕ) → Enough xs c b m v → Shuts (called_all cs (started xs c b m v))

-- Memory of zeros, as much as is asked for, was not begun: it is refused by 91 by every call but the start.
unfoldable pub ZerosAreRefused : Type 0
ZerosAreRefused =
    (xs c b m v chunk : List ℕ) → Enough (replicate 8 0 ++ xs) c b m v
    → (ask_in (replicate 8 0 ++ xs) ≡ untold 91) × ((close_in (replicate 8 0 ++ xs)).0 ≡ untold 91) × ((chunk_in chunk (replicate 8 0 ++ xs) c b m v).answer ≡ untold 91)

-- Whatever memory is lent, no answer tells more than 64 verdicts.
unfoldable pub VerdictsFit : Type 0
VerdictsFit =
    ((xs : List ℕ) → ((start_in xs).0.verdicts ≤ 64) × ((close_in xs).0.verdicts ≤ 64) × ((ask_in xs).verdicts ≤ 64))
    × ((chunk xs c b m v : List ℕ) → (chunk_in chunk xs c b m v).answer.verdicts ≤ 64)

-- Whatever memory is lent, a chunk that is refused changes none of it, and a close that is refused by 37, 90 or 91 no number.
unfoldable pub RefusedChangesNothing : Type 0
RefusedChangesNothing =
    ((chunk xs c b m v : List ℕ) → ((chunk_in chunk xs c b m v).answer.refusal ≡ 0 → ⊥) → chunk_in chunk xs c b m v ≡ lent (chunk_in chunk xs c b m v).answer xs c b m v)
    × ((xs : List ℕ) → 37 ≤ (close_in xs).0.refusal → (close_in xs).1 ≡ xs)
