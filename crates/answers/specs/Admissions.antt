-- An admission in lent memory: its eight numbers, and what each call answers and leaves.
use Rattle.std.specs.Prelude.{ℕ, List, [], ◌∷◌, ◌++◌, length, get_or, drop, ltb}
use Rattle.basis.specs.Pick.{pick}
use Rattle.admission.specs.Numbers.{start_of, lost_of}
use Rattle.admission.specs.Admission.{mach, Outcome, admit_of, close_of, ask_of}
use Rattle.admission.specs.declared.Admission.{Admission}
use Rattle.admission.specs.declared.Admitted.{Admitted}
use Rattle.answers.specs.declared.KhxAdmitted.{KhxAdmitted}

-- the numbers in their order, and an admission from them
abbrev pub numbers_of : Admission → List ℕ
numbers_of st = st.counted ∷ st.want ∷ st.programs ∷ st.end ∷ st.judged ∷ st.have ∷ st.refusal ∷ st.closed ∷ []

abbrev pub admission_of : List ℕ → Admission
admission_of xs =
    record { counted = get_or xs 0 0; want = get_or xs 1 0; programs = get_or xs 2 0; end = get_or xs 3 0; judged = get_or xs 4 0; have = get_or xs 5 0; refusal = get_or xs 6 0; closed = get_or xs 7 0 }

-- they are written over, and what is lent behind them is untouched
abbrev pub kept_in : Admission → List ℕ → List ℕ
kept_in st xs = numbers_of st ++ drop 8 xs

-- by 90 and 91 nothing else is told
abbrev pub untold : ℕ → KhxAdmitted
untold n = record { refusal = n; closed = 0; verdicts = 0; lost = 0 }

unfoldable pub told_in : ℕ → Admission → KhxAdmitted
told_in n st = pick (ltb n 90) (record { refusal = n; closed = st.closed; verdicts = st.judged; lost = lost_of st }) (untold n)

-- fewer than eight numbers are 90, and untouched
unfoldable pub start_in : List ℕ → KhxAdmitted × List ℕ
start_in xs = pick (ltb (length xs) 8) (untold 90, xs) (told_in 0 start_of, kept_in start_of xs)

abbrev pub admitted_in : Admitted → List ℕ → KhxAdmitted × List ℕ
admitted_in r xs = (told_in r.refusal r.admission, kept_in r.admission xs)

unfoldable pub close_in : List ℕ → KhxAdmitted × List ℕ
close_in xs = pick (ltb (length xs) 8) (untold 90, xs) (admitted_in (close_of (admission_of xs)) xs)

unfoldable pub ask_in : List ℕ → KhxAdmitted
ask_in xs = pick (ltb (length xs) 8) (untold 90) (told_in (ask_of (admission_of xs)) (admission_of xs))

-- an answer, and all memory after it
pub record Lent : Type 0 where
  pub answer : KhxAdmitted
  pub numbers : List ℕ
  pub contents : List ℕ
  pub body : List ℕ
  pub map : List ℕ
  pub verdicts : List ℕ

abbrev pub lent : KhxAdmitted → List ℕ → List ℕ → List ℕ → List ℕ → List ℕ → Lent
lent r xs c b m v = record { answer = r; numbers = xs; contents = c; body = b; map = m; verdicts = v }

abbrev pub left_in : Outcome → List ℕ → Lent
left_in o xs = lent (told_in o.0 o.1.st) (kept_in o.1.st xs) o.1.contents o.1.body o.1.map o.1.verdicts

unfoldable pub chunk_in : List ℕ → List ℕ → List ℕ → List ℕ → List ℕ → List ℕ → Lent
chunk_in chunk xs c b m v =
    pick (ltb (length xs) 8) (lent (untold 90) xs c b m v)
    (left_in (admit_of chunk (mach (admission_of xs) c b m v)) xs)
