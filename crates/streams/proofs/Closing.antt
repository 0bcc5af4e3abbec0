-- The close of an admission that stands for some bytes answers what these bytes answer as a whole pack.
-- Assumes nothing.
use Prim.Native.Nat.{ℕ, zero, suc, ◌+◌, ◌-◌, ◌*◌, ◌≤◌, ◌<◌}
use native.Mathlib.Omega.{arith}
use mathlib.Core.Path.{◌≡◌, refl, sym, ap, ◌∙◌}
use mathlib.Core.Logic.{⊎_elim}
use mathlib.Core.Bool.{Bool, true, false}
use mathlib.Core.List.{List, [], map, append-nil}
use lib.Dec.{ltb, eqb}
use lib.ListN.{length}
use borrow.Author.Tests.{lt-ltb, le-ltb, eq-eqb, ne_eqb, ltb-true, ltb-false}
use Rattle.basis.specs.Pick.{pick}
use Rattle.basis.specs.Answer.{given, refused}
use Rattle.basis.proofs.Tests.{same?, test, refused-given, refused-one}
use Rattle.pack.specs.Contents.{first_of, entries_from, end_of}
use Rattle.pack.specs.Read.{count_of, entries_of, contents_of, read_of}
use Rattle.pack.proofs.Walks.{end_ge}
use Rattle.rulings.specs.Rulings.{ruling_of, rulings_of}
use Rattle.rulings.proofs.Answers.{rulings-refused, rulings-given}
use Rattle.admission.specs.Numbers.{admits, withdraws, damaged_of}
use Rattle.admission.specs.Admission.{Mach, answered, closing_of, ended_of, close_of}
use Rattle.admission.specs.declared.Admission.{Admission}
use Rattle.admission.specs.declared.Admitted.{Admitted}
use Rattle.streams.specs.Told.{entry_of, ruled_from, told_by, closed_of}
use Rattle.streams.specs.Stands.{Cut, Bad, Done, Ready, Short, Part, cut, bad, good, Stands, over, some}
use Rattle.streams.proofs.Judging.{next-is}

-- what is told as refused was refused by that number
pub told-number : (r : Admitted) (cells : List ℕ) (k : ℕ) → told_by r cells ≡ refused k → r.refusal ≡ k
unfolding told_by
told-number r cells k e =
    ⊎_elim
    (λ t. absurd (refused-given k (ruled_from cells 0 r.admission.judged) (sym (rw t at e))))
    (λ t. refused-one r.refusal k (rw t at e))
    (test (eqb r.refusal 0))

pub told-nonzero : (r : Admitted) (cells : List ℕ) (k : ℕ) → told_by r cells ≡ refused k → r.refusal ≡ 0 → ⊥
unfolding told_by
told-nonzero r cells k e z = refused-given k (ruled_from cells 0 r.admission.judged) (sym (rw (eq-eqb r.refusal 0 z) at e))

-- what a close tells, by the refusal of the numbers
module _ (st : Admission) (whole : damaged_of st ≡ false) (live : st.closed ≡ 0) where
  pub close-is : close_of st ≡ ended_of st
  unfolding close_of
  close-is = rw (whole, eq-eqb st.closed 0 live)

  pub close-refused : (k : ℕ) → closing_of st ≡ k → (k ≡ 0 → ⊥) → close_of st ≡ answered k (withdraws k st)
  unfolding ended_of
  close-refused k e n = close-is ∙ rw (e, ne_eqb k 0 n)

  pub close-given : closing_of st ≡ 0 → close_of st ≡ answered 0 (admits st)
  unfolding ended_of
  close-given e = close-is ∙ rw e

  told-refused : (cells : List ℕ) (k : ℕ) → closing_of st ≡ k → (k ≡ 0 → ⊥) → told_by (close_of st) cells ≡ refused k
  unfolding told_by
  told-refused cells k e n = rw (close-refused k e n, ne_eqb k 0 n)

  told-given : (cells : List ℕ) → closing_of st ≡ 0 → told_by (close_of st) cells ≡ given (ruled_from cells 0 st.judged)
  unfolding told_by
  told-given cells e = rw (close-given e)

pub read-long : (s : List ℕ) → 24576 < length s → read_of s ≡ refused 31
unfolding read_of
read-long s h = rw (lt-ltb _ _ h)

pub read-refused : (s : List ℕ) (k : ℕ) → length s ≤ 24576 → contents_of s ≡ refused k → read_of s ≡ refused k
unfolding read_of
read-refused s k h e = rw (le-ltb _ _ h, e)

read-unlike : (s : List ℕ) (end : ℕ) → length s ≤ 24576 → contents_of s ≡ given end → (end ≡ length s → ⊥) → read_of s ≡ refused 34
unfolding read_of
read-unlike s end h e n = rw (le-ltb _ _ h, e, ne_eqb _ _ n)

read-good : (s : List ℕ) (end : ℕ) → length s ≤ 24576 → contents_of s ≡ given end → end ≡ length s → read_of s ≡ given (entries_of s)
unfolding read_of
read-good s end h e n = rw (le-ltb _ _ h, e, eq-eqb _ _ n)

pub cut-refused : (s : List ℕ) (m : Mach) → Cut s m → contents_of s ≡ refused 30
unfolding contents_of
cut-refused s m k = by (ltb (length s) 2) refl
  where
    by : (t : Bool) → ltb (length s) 2 ≡ t
        → pick (ltb (length s) 2) (refused 30) (pick (ltb 64 (count_of s)) (refused 30) (pick (ltb (length s) (first_of (count_of s))) (refused 30) (end_of 0 (first_of (count_of s)) (entries_of s)))) ≡ refused 30
    by true h = rw h
    by false h =
        let w : m.st.want ≡ first_of (count_of s) = k.want ∙ rw h in
        let l : length s < first_of (count_of s) = let u = k.less in omega arith in
        rw (h, le-ltb 64 (count_of s) (k.few (ltb-false _ _ h)), lt-ltb _ _ l)

-- the verdicts in the cells
said_all : (s cells : List ℕ) (j k : ℕ) → ((i : ℕ) → i < j + k → Done s cells i) → ruled_from cells j k ≡ map (ruling_of s) (entries_from s (2 + 8 * j) k)
said_all s cells j zero d = refl
said_all s cells j (suc k) d =
    let z : 2 + 8 * j + 8 ≡ 2 + 8 * (j + 1) = omega arith in
    rw ((d j (omega arith)).said, said_all s cells (j + 1) k (λ i h. d i (omega arith)), z)

module _ (s : List ℕ) (m : Mach) (whole : damaged_of m.st ≡ false) (live : m.st.closed ≡ 0) (small : length s ≤ 24576) (c : m.st.counted ≡ length s) where
  close-cut : Cut s m → closed_of m ≡ rulings_of s
  unfolding closing_of
  close-cut k =
      let u = k.less in
      told-refused m.st whole live m.verdicts 30 (rw (le-ltb 24576 m.st.counted (omega arith), lt-ltb m.st.counted m.st.want (omega arith))) (λ e. omega (arith, e))
      ∙ sym (rulings-refused s 30 (read-refused s 30 small (cut-refused s m k)))

  close-bad : Bad s m → closed_of m ≡ rulings_of s
  unfolding closing_of
  close-bad b =
      let w = b.want in
      let e : contents_of s ≡ refused m.st.refusal = rw append-nil at (b.always []) in
      told-refused m.st whole live m.verdicts m.st.refusal
      (rw (le-ltb 24576 m.st.counted (omega arith), le-ltb m.st.counted m.st.want (omega arith), ne_eqb m.st.refusal 0 b.nonzero))
      b.nonzero
      ∙ sym (rulings-refused s m.st.refusal (read-refused s m.st.refusal small e))

  module _ (n : ℕ) (r : Ready s n m) (h : Short s n m) where
    close-unlike : (m.st.end ≡ length s → ⊥) → closed_of m ≡ rulings_of s
    unfolding closing_of
    close-unlike u =
        let w = r.want in
        let o = r.room in
        told-refused m.st whole live m.verdicts 34
        (rw (le-ltb 24576 m.st.counted (omega arith), le-ltb m.st.counted m.st.want (omega arith), eq-eqb m.st.refusal 0 r.refusal, ne_eqb m.st.end m.st.counted (λ e. u (e ∙ c))))
        (λ e. omega (arith, e))
        ∙ sym (rulings-refused s 34 (read-unlike s m.st.end small r.ends u))

    all-judged : m.st.end ≡ length s → m.st.judged ≡ n
    all-judged e =
        ⊎_elim
        (λ t. let l = ltb-true m.st.judged n t in
        let x = next-is s n m r l in
        let y = entry_of s m.st.judged in
        let g : r.at + y.length ≤ m.st.end = end_ge (y.tag + 1) (r.at + y.length) (entries_from s (2 + 8 * m.st.judged + 8) (n - m.st.judged - 1)) m.st.end x.rest in
        let p = r.place l in
        let q = h l in
        absurd (omega arith))
        (λ t. let l = ltb-false m.st.judged n t in let j = r.judged in omega arith)
        (test (ltb m.st.judged n))

    close-like : m.st.end ≡ length s → closed_of m ≡ rulings_of s
    unfolding closing_of entries_of
    close-like u =
        let w = r.want in
        let o = r.room in
        let j = all-judged u in
        let i = r.is in
        told-given m.st whole live m.verdicts
        (rw (le-ltb 24576 m.st.counted (omega arith), le-ltb m.st.counted m.st.want (omega arith), eq-eqb m.st.refusal 0 r.refusal, eq-eqb m.st.end m.st.counted (u ∙ sym c)))
        ∙ ap given (ap (ruled_from m.verdicts 0) j ∙ said_all s m.verdicts 0 n (λ y l. r.done y (omega arith)) ∙ ap (λ (y : ℕ). map (ruling_of s) (entries_from s 2 y)) (sym i))
        ∙ sym (rulings-given s (entries_of s) (read-good s m.st.end small r.ends u))

    close-good : closed_of m ≡ rulings_of s
    close-good = ⊎_elim close-like close-unlike (same? m.st.end (length s))

  close-part : Part s m → closed_of m ≡ rulings_of s
  close-part (cut k) = close-cut k
  close-part (bad b) = close-bad b
  close-part (good n r h) = close-good n r h

pub stands-close : (s : List ℕ) (m : Mach) → damaged_of m.st ≡ false → m.st.closed ≡ 0 → Stands s m → closed_of m ≡ rulings_of s
unfolding closing_of
stands-close s m whole live (over l c p) =
    told-refused m.st whole live m.verdicts 31 (rw (lt-ltb 24576 m.st.counted (omega arith))) (λ e. omega (arith, e))
    ∙ sym (rulings-refused s 31 (read-long s l))
stands-close s m whole live (some l c p) = close-part s m whole live l c p
