-- What an admission tells of a pack that comes in chunks: the verdicts in the lent cells, and the answer of the close.
use Rattle.std.specs.Prelude.{ℕ, zero, suc, ◌+◌, ◌*◌, ◌≤◌, ◌<◌, ◌≡◌, List, [], ◌∷◌, ◌++◌, length, get_or, take, drop, ltb, eqb}
use Rattle.basis.specs.Pick.{pick}
use Rattle.basis.specs.Answer.{Answer, given, refused}
use Rattle.pack.specs.Contents.{entry_at}
use Rattle.pack.specs.Read.{count_of, contents_of}
use Rattle.pack.specs.declared.Entry.{Entry}
use Rattle.verifier.specs.Verify.{Judged, good, names}
use Rattle.rulings.specs.Rulings.{Ruling}
use Rattle.admission.specs.Numbers.{start_of}
use Rattle.admission.specs.Admission.{Mach, admit_of, close_of}
use Rattle.admission.specs.declared.Admission.{Admission}
use Rattle.admission.specs.declared.Admitted.{Admitted}

-- the entry at an index
abbrev pub entry_of : List ℕ → ℕ → Entry
entry_of s i = entry_at s (2 + 8 * i)

-- the verifier's answer as two cells have it: the number 0 accepts
abbrev pub judged_as : ℕ → ℕ → Judged
judged_as number place = pick (eqb number 0) good (names number place)

-- the three cells of the verdict at an index
abbrev pub cells_of : List ℕ → ℕ → List ℕ
cells_of cells i = take 3 (drop (3 * i) cells)

-- the verdict that they tell, and so many from an index on
abbrev pub ruled_at : List ℕ → ℕ → Ruling
ruled_at cells i = (get_or cells (3 * i) 0, judged_as (get_or cells (3 * i + 1) 0) (get_or cells (3 * i + 2) 0))

abbrev pub ruled_from : List ℕ → ℕ → ℕ → List Ruling
ruled_from cells i zero = []
ruled_from cells i (suc k) = ruled_at cells i ∷ ruled_from cells (i + 1) k

-- what a close tells: a refusal, or as many verdicts as it counts
unfoldable pub told_by : Admitted → List ℕ → Answer (List Ruling)
told_by r cells = pick (eqb r.refusal 0) (given (ruled_from cells 0 r.admission.judged)) (refused r.refusal)

abbrev pub closed_of : Mach → Answer (List Ruling)
closed_of m = told_by (close_of m.st) m.verdicts

-- an admission that was begun, with enough memory, whatever it holds: 514 bytes of contents, 16,384 of a body, as many cells of a map, and three for
-- each of 64 verdicts. Nothing of it grows with the pack.
pub record Begun (m : Mach) : Type 0 where
  pub start : m.st ≡ start_of
  pub contents : 514 ≤ length m.contents
  pub body : 16384 ≤ length m.body
  pub map : 16384 ≤ length m.map
  pub verdicts : 192 ≤ length m.verdicts

-- no length changes, and nothing past a size is touched
abbrev pub Same : ℕ → List ℕ → List ℕ → Type 0
Same size before after = (length after ≡ length before) × (drop size after ≡ drop size before)

-- "keeping only the contents and one body at a time": beside the numbers that is all that is written over
pub record Within (before after : Mach) : Type 0 where
  pub contents : Same 514 before.contents after.contents
  pub body : Same 16384 before.body after.body
  pub map : Same 16384 before.map after.map
  pub verdicts : Same 192 before.verdicts after.verdicts

-- the program at an index is whole: the contents are good, and its last byte is in
pub record Whole (s : List ℕ) (j : ℕ) : Type 0 where
  pub end : ℕ
  pub good : contents_of s ≡ given end
  pub few : j < count_of s
  pub fits : (entry_of s j).offset + (entry_of s j).length ≤ length s

-- chunks one after the other, and all their bytes
abbrev pub admit_all : List (List ℕ) → Mach → Mach
admit_all [] m = m
admit_all (c ∷ cs) m = admit_all cs (admit_of c m).1

abbrev pub joined : List (List ℕ) → List ℕ
joined [] = []
joined (c ∷ cs) = c ++ joined cs

-- "keeping only the contents and one body at a time": what is held of the bytes s. Of the contents what has come of them; of the body under way, the one
-- behind those that have their verdict, what has come of it, and its last byte has not; of no body where none is under way.
pub record Holds (s : List ℕ) (m : Mach) : Type 0 where
  pub contents : take (length (take m.st.want s)) m.contents ≡ take m.st.want s
  pub body : m.st.judged < m.st.programs → take m.st.have m.body ≡ drop (entry_of s m.st.judged).offset s
  pub short : m.st.judged < m.st.programs → m.st.have < (entry_of s m.st.judged).length
  pub none : m.st.programs ≤ m.st.judged → m.st.have ≡ 0

-- how many bytes of the contents have come
abbrev pub came_of : Admission → ℕ
came_of st = pick (ltb st.counted st.want) st.counted st.want

-- two admissions that hold the same: the numbers, what has come of the contents, and the bytes of the one body under way
pub record Alike (m n : Mach) : Type 0 where
  pub st : m.st ≡ n.st
  pub contents : take (came_of m.st) m.contents ≡ take (came_of m.st) n.contents
  pub body : take m.st.have m.body ≡ take m.st.have n.body

-- the cells of the first k verdicts are the same
abbrev pub SameVerdicts : ℕ → List ℕ → List ℕ → Type 0
SameVerdicts k v w = take (3 * k) v ≡ take (3 * k) w
