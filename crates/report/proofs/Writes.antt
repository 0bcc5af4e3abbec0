-- What writing a report answers and leaves, by the check that is the first to apply.
-- Assumes nothing.
use Prim.Native.Nat.{ℕ, ◌≤◌}
use native.Mathlib.Omega.{arith}
use mathlib.Core.Path.{◌≡◌, refl, sym, ap, ◌∙◌}
use mathlib.Core.Bool.{Bool, true, false}
use mathlib.Core.List.{List, ◌++◌}
use lib.Dec.{ltb}
use lib.ListN.{length, take, drop}
use lib.Seq.{sets, take-append_seam}
use borrow.Author.Tests.{le-ltb, ltb-false}
use Rattle.basis.specs.Answer.{given, refused, seen}
use Rattle.basis.specs.Pick.{pick}
use Rattle.basis.proofs.Tests.{refused-given, given-one}
use Rattle.basis.proofs.Stores.{sets-start}
use Rattle.text.specs.Put.{Put}
use Rattle.report.specs.Report.{report_of, write_of}

-- a report that has place in the room
pub fits : (pack map : List ℕ) (n : ℕ) → 16384 ≤ length map → length (report_of pack) ≤ n → write_of pack (length map) n ≡ given (report_of pack)
unfolding write_of
fits pack map n h l = rw (le-ltb (length map) 16384 h, le-ltb n (length (report_of pack)) l)

-- what a pen put at the start of some lines, copied to the start of a room
pub copied : (report blank lines part room after : List ℕ) (n : ℕ) → Put report blank 0 lines n → length report ≤ length blank → length report ≤ length room
    → part ≡ take n lines → after ≡ sets room 0 part → after ≡ report ++ drop (length report) room
copied report blank lines part room after n p h l e q =
    let z : n ≡ length report = omega (arith, p.next) in
    let t : take n lines ≡ report = ap (take n) (p.room ∙ sets-start report blank h) ∙ rw z (take-append_seam report (drop (length report) blank)) in
    q ∙ rw (e, t) (sets-start report room l)

-- what is written is no longer than the room
pub written-fits : (pack : List ℕ) (cells n m : ℕ) → given m ≡ seen length (write_of pack cells n) → m ≤ n
unfolding write_of
written-fits pack cells n m h = by (ltb cells 16384) (ltb n (length (report_of pack))) refl refl h
  where
    by : (t u : Bool) → ltb cells 16384 ≡ t → ltb n (length (report_of pack)) ≡ u
        → given m ≡ seen length (pick t (refused 23) (pick u (refused 25) (given (report_of pack)))) → m ≤ n
    by true u p q r = absurd (refused-given 23 m (sym r))
    by false true p q r = absurd (refused-given 25 m (sym r))
    by false false p q r = omega (arith, given-one m (length (report_of pack)) r, ltb-false n (length (report_of pack)) q)
