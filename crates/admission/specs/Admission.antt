-- The admission of a pack: what each byte of it does to the numbers and to the lent memory, and what a chunk and the close answer.
use Rattle.std.specs.Prelude.{ℕ, zero, suc, ◌+◌, ◌-◌, ◌*◌, Bool, true, List, [], ◌∷◌, ◌++◌, length, take, drop, set, ltb, eqb}
use Rattle.std.proofs.lemmas.List.Edits.{sets}
use Rattle.basis.specs.Pick.{pick}
use Rattle.basis.specs.Answer.{Answer, given, refused}
use Rattle.basis.specs.Number.{number_at}
use Rattle.pack.specs.Contents.{first_of}
use Rattle.pack.specs.Read.{count_of, contents_of}
use Rattle.verifier.specs.Verify.{Verified, verify_of}
use Rattle.admission.specs.Verdicts.{codes_of}
use Rattle.admission.specs.Numbers.{counts, wants, opens, judges, refuses, admits, withdraws, damaged_of}
use Rattle.admission.specs.declared.Admission.{Admission}
use Rattle.admission.specs.declared.Admitted.{Admitted}

-- the numbers and the memory: "keeping only the contents and one body at a time", the verifier's map, and the verdicts
pub record Mach : Type 0 where
  pub st : Admission
  pub contents : List ℕ
  pub body : List ℕ
  pub map : List ℕ
  pub verdicts : List ℕ

abbrev pub mach : Admission → List ℕ → List ℕ → List ℕ → List ℕ → Mach
mach st c b m v = record { st = st; contents = c; body = b; map = m; verdicts = v }

-- of the entry at an index of the contents: its tag, cells and length
abbrev pub tag_at : List ℕ → ℕ → ℕ
tag_at c i = number_at 2 c (2 + 8 * i)

abbrev pub cells_at : List ℕ → ℕ → ℕ
cells_at c i = number_at 2 c (4 + 8 * i)

abbrev pub length_at : List ℕ → ℕ → ℕ
length_at c i = number_at 2 c (8 + 8 * i)

-- The program whose body is whole gets its verdict: the verifier's answer, over as many cells of the map as it has bytes.
abbrev pub verified_of : Mach → Verified
verified_of m = verify_of (take m.st.have m.body) (cells_at m.contents m.st.judged) (take m.st.have m.map)

unfoldable pub judge_of : Mach → Mach
judge_of m =
    mach (judges (m.st.judged + 1) 0 m.st) m.contents m.body
    ((verified_of m).1 ++ drop m.st.have m.map)
    (sets m.verdicts (3 * m.st.judged) (codes_of (tag_at m.contents m.st.judged) (verified_of m).0))

-- Every program whose body is whole gets it, the one under way and those of no bytes behind it; k of them at most are left.
abbrev pub settle_of : ℕ → Mach → Mach
settle_of zero m = m
settle_of (suc k) m = pick (eqb m.st.have (length_at m.contents m.st.judged)) (settle_of k (judge_of m)) m

unfoldable pub settled : Mach → Mach
settled m = settle_of (m.st.programs - m.st.judged) m

-- after the second byte it is known how long the contents are: "n over 64" is 30
unfoldable pub sized_of : Admission → List ℕ → Admission
sized_of st c = pick (eqb st.counted 2) (pick (ltb 64 (count_of c)) (refuses 30 st) (wants (first_of (count_of c)) st)) st

-- after their last byte, what they say
abbrev pub on_bodies : Admission → List ℕ → Answer ℕ → Admission
on_bodies st c (given e) = opens (count_of c) e st
on_bodies st c (refused n) = refuses n st

unfoldable pub opened_of : Admission → List ℕ → Admission
opened_of st c = pick (eqb st.counted st.want) (pick (eqb st.refusal 0) (on_bodies st c (contents_of c)) st) st

-- a byte of the contents
unfoldable pub contents_byte : ℕ → Mach → Mach
contents_byte b m =
    let c = set m.contents m.st.counted b in
    settled (mach (opened_of (sized_of (counts (m.st.counted + 1) m.st) c) c) c m.body m.map m.verdicts)

-- a byte of a body
unfoldable pub body_byte : ℕ → Mach → Mach
body_byte b m = settled (mach (judges m.st.judged (m.st.have + 1) (counts (m.st.counted + 1) m.st)) m.contents (set m.body m.st.have b) m.map m.verdicts)

-- a byte that is only counted
abbrev pub counted_as : ℕ → Mach → Mach
counted_as k m = mach (counts k m.st) m.contents m.body m.map m.verdicts

-- One byte: past the 24,576 of a pack it is counted as one too many, and no further; else it belongs to the contents, to the next body, or to neither. (No
-- admission that was begun has 16,384 bytes of a body that is not whole; numbers that were written over may say so, and then the byte is only counted.)
unfoldable pub byte_of : ℕ → Mach → Mach
byte_of b m =
    pick (ltb m.st.counted 24576)
    (pick (ltb m.st.counted m.st.want) (contents_byte b m)
    (pick (ltb m.st.judged m.st.programs)
    (pick (ltb m.st.have 16384) (body_byte b m) (counted_as (m.st.counted + 1) m))
    (counted_as (m.st.counted + 1) m)))
    (counted_as 24577 m)

-- "chunks of any length, zero too"
abbrev pub chunk_of : List ℕ → Mach → Mach
chunk_of [] m = m
chunk_of (b ∷ bs) m = chunk_of bs (byte_of b m)

-- the memory is shorter than 514 bytes of contents, 16,384 of a body, as many cells of a map, and three for each of 64 verdicts
unfoldable pub short_of : List ℕ → List ℕ → List ℕ → List ℕ → Bool
short_of c b m v =
    pick (ltb (length c) 514) true
    (pick (ltb (length b) 16384) true
    (pick (ltb (length m) 16384) true
    (ltb (length v) 192)))

-- an answer's number, 0 where nothing is refused, and the numbers and the memory after it
abbrev pub Outcome : Type 0
Outcome = ℕ × Mach

-- A chunk: 90 for short memory, 91 for numbers that no admission has, and "37 a chunk .. after the close, which changes nothing".
unfoldable pub admit_of : List ℕ → Mach → Outcome
admit_of chunk m =
    pick (short_of m.contents m.body m.map m.verdicts) (90, m)
    (pick (damaged_of m.st) (91, m)
    (pick (eqb m.st.closed 0) (0, chunk_of chunk m)
    (37, m)))

-- the pack's own refusal, 0 for none: "31 still comes first"; contents that are cut are 30; theirs; "last 34"
unfoldable pub closing_of : Admission → ℕ
closing_of st =
    pick (ltb 24576 st.counted) 31
    (pick (ltb st.counted st.want) 30
    (pick (eqb st.refusal 0)
    (pick (eqb st.end st.counted) 0 34)
    st.refusal))

-- an answer's number, and the numbers after it
abbrev pub answered : ℕ → Admission → Admitted
answered n st = record { refusal = n; admission = st }

-- "a refused pack has no verdicts"
unfoldable pub ended_of : Admission → Admitted
ended_of st = pick (eqb (closing_of st) 0) (answered 0 (admits st)) (answered (closing_of st) (withdraws (closing_of st) st))

-- The close: 91, and "37 .. a second close after the close, which changes nothing".
unfoldable pub close_of : Admission → Admitted
close_of st =
    pick (damaged_of st) (answered 91 st)
    (pick (eqb st.closed 0) (ended_of st)
    (answered 37 st))

-- The answer so far: none before the close, and after it the first close's.
unfoldable pub ask_of : Admission → ℕ
ask_of st = pick (damaged_of st) 91 (pick (eqb st.closed 0) 0 st.refusal)

-- the code's answer to a chunk, with the memory after it
abbrev pub admitted_as : Admitted → List ℕ → List ℕ → List ℕ → List ℕ → Outcome
admitted_as r c b m v = (r.refusal, mach r.admission c b m v)
