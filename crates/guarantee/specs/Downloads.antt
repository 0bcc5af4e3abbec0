-- Request No. 1, sentence by sentence: "Readers on slow lines want a verdict the moment the last byte comes, without holding the pack. Admit a pack in
-- chunks of any length, zero too, keeping only the contents and one body at a time. At the close, each program's verdict and the pack's own answer
-- equal those of the whole pack, wherever it was cut. Verdicts before the close are provisional, 31 still comes first, and a refused pack has no
-- verdicts. Refusals: 37 a chunk or a second close after the close, which changes nothing."
--
-- `m` is an admission with its lent memory, `Begun` says that it was begun and has enough of it, whatever it holds; `admit_all cs m` is it after the
-- chunks `cs`, and `joined cs` are all their bytes. What a whole pack answers is `rulings_of`: the refusal of its check, or for each program the tag and what
-- the verifier says.
use Rattle.std.specs.Prelude.{ℕ, ◌≤◌, ◌<◌, ◌≡◌, ◌⊎◌, true, false, List, map, ◌++◌, length, take}
use Rattle.std.proofs.Math.Option.{some}
use Rattle.std.proofs.Math.ListN.{get_elem?}
use Rattle.basis.specs.Answer.{given, refused}
use Rattle.pack.specs.Contents.{first_of}
use Rattle.pack.specs.Read.{count_of, contents_of, read_of}
use Rattle.pack.specs.declared.Entry.{Entry}
use Rattle.rulings.specs.Rulings.{judged_of, ruling_of, rulings_of}
use Rattle.admission.specs.Verdicts.{codes_of}
use Rattle.admission.specs.Numbers.{damaged_of, lost_of}
use Rattle.admission.specs.Admission.{Mach, mach, short_of, chunk_of, admit_of, answered, close_of, ask_of}
use Rattle.admission.specs.declared.Admission.{Admission}
use Rattle.streams.specs.Told.{entry_of, cells_of, ruled_at, closed_of, Begun, Within, Holds, Alike, SameVerdicts, Whole, admit_all, joined}

-- "Admit a pack in chunks of any length, zero too": before the close every chunk is taken, whatever came before it.
unfoldable pub TakesAnyChunk : Type 0
TakesAnyChunk = (cs : List (List ℕ)) (c : List ℕ) (m : Mach) → Begun m → (admit_of c (admit_all cs m)).0 ≡ 0

-- "keeping only the contents and one body at a time": beside the numbers a chunk, of whatever admission, writes nothing but 514 bytes of contents, 16,384 of
-- a body, as many cells of a map and the 192 of the verdicts, however long the pack is.
unfoldable pub KeepsOnlyThese : Type 0
KeepsOnlyThese = (c : List ℕ) (m : Mach) → Within m (admit_of c m).1

-- Of the pack it holds there the contents and the one body that is under way, each as far as it has come; that body's last byte has not.
unfoldable pub HoldsOneBody : Type 0
HoldsOneBody = (cs : List (List ℕ)) (m : Mach) → Begun m → Holds (take 24576 (joined cs)) (admit_all cs m)

-- And it keeps nothing else: what it does from now on depends on its numbers and on what has come of the contents and of the one body under way. Whatever else the
-- memory of another admission holds, if it holds these it answers any chunk alike, holds the same after it, and tells the same verdicts if it told the same.
unfoldable pub KeepsNothingElse : Type 0
KeepsNothingElse =
    (cs : List (List ℕ)) (c : List ℕ) (m n : Mach) → Begun m → short_of n.contents n.body n.map n.verdicts ≡ false → Alike (admit_all cs m) n
    → ((admit_of c (admit_all cs m)).0 ≡ (admit_of c n).0) × Alike (admit_of c (admit_all cs m)).1 (admit_of c n).1
    × (SameVerdicts (admit_all cs m).st.judged (admit_all cs m).verdicts n.verdicts
    → SameVerdicts (admit_of c (admit_all cs m)).1.st.judged (admit_of c (admit_all cs m)).1.verdicts (admit_of c n).1.verdicts)

-- "At the close, each program's verdict and the pack's own answer equal those of the whole pack, wherever it was cut."
unfoldable pub ClosesAsWhole : Type 0
ClosesAsWhole = (cs : List (List ℕ)) (m : Mach) → Begun m → closed_of (admit_all cs m) ≡ rulings_of (joined cs)

-- "wherever it was cut", before the close too: the numbers and all memory are as one chunk of all the bytes leaves them.
unfoldable pub CutAnywhere : Type 0
CutAnywhere = (cs : List (List ℕ)) (m : Mach) → Begun m → admit_all cs m ≡ (admit_of (joined cs) m).1

-- "want a verdict the moment the last byte comes": before the close a program has its verdict exactly from when it is whole, one of no bytes too; bytes past
-- those that a pack can have make none.
unfoldable pub JudgesAtLastByte : Type 0
JudgesAtLastByte =
    (cs : List (List ℕ)) (m : Mach) → Begun m
    → (j : ℕ) → (j < (admit_all cs m).st.judged → Whole (take 24576 (joined cs)) j) × (Whole (take 24576 (joined cs)) j → j < (admit_all cs m).st.judged)

-- and it is right whatever becomes of the pack: its three cells are the tag and what the verifier says of the program in the bytes that have come.
unfoldable pub TellsRight : Type 0
TellsRight =
    (cs : List (List ℕ)) (m : Mach) → Begun m → (j : ℕ) → j < (admit_all cs m).st.judged
    → cells_of (admit_all cs m).verdicts j ≡ codes_of (entry_of (joined cs) j).tag (judged_of (joined cs) (entry_of (joined cs) j))

-- "Verdicts before the close are provisional": whatever bytes follow, where the pack is then admitted, each verdict that was there is its program's final one,
-- in the same place.
unfoldable pub ProvisionalIsFinal : Type 0
ProvisionalIsFinal =
    (cs : List (List ℕ)) (rest : List ℕ) (es : List Entry) (m : Mach) → Begun m → read_of (joined cs ++ rest) ≡ given es
    → (j : ℕ) → j < (admit_all cs m).st.judged → get_elem? (map (ruling_of (joined cs ++ rest)) es) j ≡ some (ruled_at (admit_all cs m).verdicts j)

-- "31 still comes first": whatever else is wrong with it.
unfoldable pub LongComesFirst : Type 0
LongComesFirst = (cs : List (List ℕ)) (m : Mach) → Begun m → 24576 < length (joined cs) → (close_of (admit_all cs m).st).refusal ≡ 31

-- "and a refused pack has no verdicts": the close refuses by the pack's own number, and counts none.
unfoldable pub RefusedHasNone : Type 0
RefusedHasNone =
    (cs : List (List ℕ)) (m : Mach) (k : ℕ) → Begun m → read_of (joined cs) ≡ refused k
    → ((close_of (admit_all cs m).st).refusal ≡ k) × ((close_of (admit_all cs m).st).admission.judged ≡ 0)

-- the admission as a close leaves it: no memory but its numbers changes
abbrev pub shut : Mach → Mach
shut m = mach (close_of m.st).admission m.contents m.body m.map m.verdicts

-- "37 a chunk or a second close after the close, which changes nothing": and the answer of the first close is told again.
pub record Late (m : Mach) : Type 0 where
  pub closed : (shut m).st.closed ≡ 1
  pub chunk : (c : List ℕ) → admit_of c (shut m) ≡ (37, shut m)
  pub close : close_of (shut m).st ≡ answered 37 (shut m).st
  pub ask : ask_of (shut m).st ≡ (close_of m.st).refusal
  pub lost : lost_of (shut m).st ≡ (close_of m.st).refusal

unfoldable pub LateIsRefused : Type 0
LateIsRefused = (cs : List (List ℕ)) (m : Mach) → Begun m → Late (admit_all cs m)

-- Before the close the answer so far is none.
unfoldable pub AsksOpen : Type 0
AsksOpen = (cs : List (List ℕ)) (m : Mach) → Begun m → ask_of (admit_all cs m).st ≡ 0

-- Where it is told that a pack is lost, it is refused whatever follows: by this number, or by 31 where more follows than a pack has.
unfoldable pub LostIsRefused : Type 0
LostIsRefused =
    (cs : List (List ℕ)) (rest : List ℕ) (m : Mach) (k : ℕ) → Begun m → lost_of (admit_all cs m).st ≡ k → (k ≡ 0 → ⊥)
    → (read_of (joined cs ++ rest) ≡ refused k) ⊎ (read_of (joined cs ++ rest) ≡ refused 31)

-- And it is told as soon as it is known: 31 from the first byte too many on, and the refusal of the contents from when they are whole, or their count is over 64.
unfoldable pub LostIsTold : Type 0
LostIsTold =
    (cs : List (List ℕ)) (m : Mach) → Begun m
    → (24576 < length (joined cs) → lost_of (admit_all cs m).st ≡ 31)
    × ((k : ℕ) → length (joined cs) ≤ 24576 → 2 ≤ length (joined cs) → (count_of (joined cs) ≤ 64 → first_of (count_of (joined cs)) ≤ length (joined cs))
    → contents_of (joined cs) ≡ refused k → lost_of (admit_all cs m).st ≡ k)

-- What holds of an admission that a call did not refuse by 90 or 91, whatever was handed in: at most 64 programs have their verdict, and the next call does not
-- refuse its numbers either. (Numbers that were written over can pass for an admission's: 91 keeps the memory, it does not find every damage.)
pub record Bounded (st : Admission) : Type 0 where
  pub whole : damaged_of st ≡ false
  pub few : st.judged ≤ 64

-- what a chunk answers of any numbers and any memory: 90, 91 or 37, each for its cause and with nothing changed, or it is taken
pub data Chunk (c : List ℕ) (m : Mach) : Type 0 where
  short : short_of m.contents m.body m.map m.verdicts ≡ true → admit_of c m ≡ (90, m) → Chunk c m
  damaged : short_of m.contents m.body m.map m.verdicts ≡ false → damaged_of m.st ≡ true → admit_of c m ≡ (91, m) → Chunk c m
  late : short_of m.contents m.body m.map m.verdicts ≡ false → damaged_of m.st ≡ false → m.st.closed ≡ 1 → admit_of c m ≡ (37, m) → Bounded m.st → Chunk c m
  taken : short_of m.contents m.body m.map m.verdicts ≡ false → damaged_of m.st ≡ false → m.st.closed ≡ 0 → admit_of c m ≡ (0, chunk_of c m)
      → (chunk_of c m).st.closed ≡ 0 → Bounded (chunk_of c m).st → Chunk c m

-- and a close: 91 or 37 with nothing changed, or it closes, by one of the numbers of a pack, or by none
pub data Close (st : Admission) : Type 0 where
  broken : damaged_of st ≡ true → close_of st ≡ answered 91 st → Close st
  again : damaged_of st ≡ false → st.closed ≡ 1 → close_of st ≡ answered 37 st → Bounded st → Close st
  ended : damaged_of st ≡ false → st.closed ≡ 0 → ((close_of st).refusal ≡ 0) ⊎ ((30 ≤ (close_of st).refusal) × ((close_of st).refusal ≤ 35))
      → (close_of st).admission.closed ≡ 1 → Bounded (close_of st).admission → Close st

-- and what is asked: 91, or none before the close and one of a pack's numbers, or none, after it
pub data Ask (st : Admission) : Type 0 where
  torn : damaged_of st ≡ true → ask_of st ≡ 91 → Ask st
  still : damaged_of st ≡ false → st.closed ≡ 0 → ask_of st ≡ 0 → Bounded st → Ask st
  told : damaged_of st ≡ false → st.closed ≡ 1 → ask_of st ≡ st.refusal → (st.refusal ≡ 0) ⊎ ((30 ≤ st.refusal) × (st.refusal ≤ 35)) → Bounded st → Ask st

-- Any numbers and any memory get an answer, a damaged admission's too.
unfoldable pub AnswersAny : Type 0
AnswersAny = ((c : List ℕ) (m : Mach) → Chunk c m) × ((st : Admission) → Close st) × ((st : Admission) → Ask st)
