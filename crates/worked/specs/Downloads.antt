-- Packs that come byte by byte: "At the close, each program's verdict and the pack's own answer equal those of the whole pack", and what is told before it.
-- The memory is as short as the longest of these packs allows, and holds nines.
use Rattle.std.specs.Prelude.{ℕ, ◌≡◌, List, [], ◌∷◌, take, replicate}
use Rattle.basis.specs.Answer.{Answer, given, refused}
use Rattle.verifier.specs.Verify.{good, names}
use Rattle.rulings.specs.Rulings.{Ruling, rulings_of}
use Rattle.admission.specs.Numbers.{start_of, lost_of}
use Rattle.admission.specs.Admission.{Mach, mach, chunk_of, close_of, ask_of}
use Rattle.streams.specs.Told.{closed_of}
use Rattle.worked.specs.Packs.{laid, one, two}

-- these bytes come
abbrev pub after : List ℕ → Mach
after bytes = chunk_of bytes (mach start_of (replicate 18 9) (replicate 4 9) (replicate 4 9) (replicate 6 9))

-- and are the pack: what the close tells, and what the whole pack answers
abbrev pub Tells : List ℕ → Answer (List Ruling) → Type 0
Tells bytes answer = (closed_of (after bytes) ≡ answer) × (rulings_of bytes ≡ answer)

abbrev pub Closed : Type 0
Closed =
    -- 01's sample, and its program at one cell: "M3 at 1 cell: 5 at 1"
    Tells (one (laid 7 2 10 4) (0x85 ∷ 0x83 ∷ 0x15 ∷ 0x00 ∷ [])) (given ((7, good) ∷ []))
    × Tells (one (laid 7 1 10 4) (0x85 ∷ 0x83 ∷ 0x15 ∷ 0x00 ∷ [])) (given ((7, names 5 1) ∷ []))
    -- a program of no bytes: "An empty program is 1 at 0"; alone, before another and behind it
    × Tells (one (laid 7 2 10 0) []) (given ((7, names 1 0) ∷ []))
    × Tells (two (laid 7 2 18 0) (laid 8 0 18 1) (0x00 ∷ [])) (given ((7, names 1 0) ∷ (8, good) ∷ []))
    × Tells (two (laid 7 0 18 1) (laid 9 2 19 0) (0x00 ∷ [])) (given ((7, good) ∷ (9, names 1 0) ∷ []))
    -- a second body begins where the first ended
    × Tells (two (laid 7 0 18 1) (laid 9 1 19 2) (0x7C ∷ 0x80 ∷ 0x00 ∷ [])) (given ((7, names 2 0) ∷ (9, good) ∷ []))
    -- no programs
    × Tells (0 ∷ 0 ∷ []) (given [])
    -- "30 contents cut, or n over 64; then for each entry 32 .., 35 .., 33 ..; last 34"
    × Tells [] (refused 30)
    × Tells (1 ∷ []) (refused 30)
    × Tells (1 ∷ 0 ∷ 7 ∷ 0 ∷ 2 ∷ 0 ∷ 10 ∷ 0 ∷ 0 ∷ []) (refused 30)
    × Tells (65 ∷ 0 ∷ []) (refused 30)
    × Tells (two (laid 7 0 18 0) (laid 7 0 18 0) []) (refused 32)
    × Tells (one (laid 7 1025 10 0) []) (refused 35)
    × Tells (one (laid 7 0 11 0) []) (refused 33)
    × Tells (one (laid 7 2 10 4) (0x85 ∷ 0x83 ∷ 0x15 ∷ [])) (refused 34)
    × Tells (one (laid 7 0 10 1) (0x00 ∷ 0x00 ∷ [])) (refused 34)
    × Tells (0 ∷ 0 ∷ 9 ∷ []) (refused 34)

-- the cells of the verdicts: for each program "its tag, then `refusal` and `at`"
abbrev pub Cells : Type 0
Cells =
    (take 3 (after (one (laid 7 2 10 4) (0x85 ∷ 0x83 ∷ 0x15 ∷ 0x00 ∷ []))).verdicts ≡ 7 ∷ 0 ∷ 0 ∷ [])
    × (take 3 (after (one (laid 7 1 10 4) (0x85 ∷ 0x83 ∷ 0x15 ∷ 0x00 ∷ []))).verdicts ≡ 7 ∷ 5 ∷ 1 ∷ [])
    × ((after (two (laid 7 0 18 1) (laid 9 1 19 2) (0x7C ∷ 0x80 ∷ 0x00 ∷ []))).verdicts ≡ 7 ∷ 2 ∷ 0 ∷ 9 ∷ 0 ∷ 0 ∷ [])
    × ((after (two (laid 7 1 18 2) (laid 9 1 20 2) (0x80 ∷ 0x00 ∷ 0x81 ∷ 0x81 ∷ []))).verdicts ≡ 7 ∷ 0 ∷ 0 ∷ 9 ∷ 5 ∷ 1 ∷ [])

-- how many programs have their verdict after these bytes, and what refuses the pack whatever follows
abbrev pub So : List ℕ → ℕ → ℕ → Type 0
So bytes judged lost = ((after bytes).st.judged ≡ judged) × (lost_of (after bytes).st ≡ lost)

abbrev pub Open : Type 0
Open =
    So (one (laid 7 2 10 4) (0x85 ∷ 0x83 ∷ 0x15 ∷ [])) 0 0
    × So (one (laid 7 2 10 4) (0x85 ∷ 0x83 ∷ 0x15 ∷ 0x00 ∷ [])) 1 0
    × So (one (laid 7 2 10 0) []) 1 0
    × So (two (laid 7 0 18 1) (laid 9 2 19 0) []) 0 0
    × So (two (laid 7 0 18 1) (laid 9 2 19 0) (0x00 ∷ [])) 2 0
    -- a byte too many is 34 at the close, and no sooner
    × So (one (laid 7 0 10 1) (0x00 ∷ 0x00 ∷ [])) 1 0
    × So (65 ∷ []) 0 0
    × So (65 ∷ 0 ∷ []) 0 30
    × So (one (laid 7 1025 10 0) []) 0 35
    -- "a refused pack has no verdicts", and its answer stays
    × ((close_of (after (one (laid 7 0 10 1) (0x00 ∷ 0x00 ∷ []))).st).admission.judged ≡ 0)
    × (ask_of (close_of (after (one (laid 7 0 10 1) (0x00 ∷ 0x00 ∷ []))).st).admission ≡ 34)
    -- "37 .. a second close after the close"
    × ((close_of (close_of (after (0 ∷ 0 ∷ [])).st).admission).refusal ≡ 37)
