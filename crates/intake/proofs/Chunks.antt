-- A chunk in parts, and bytes that are only counted in one go.
-- Assumes nothing.
use Prim.Native.Nat.{ℕ, suc, ◌+◌, ◌≤◌, ◌<◌}
use native.Mathlib.Omega.{arith}
use mathlib.Core.Path.{◌≡◌, refl, sym, ap, ◌∙◌}
use mathlib.Core.Logic.{⊎_elim}
use mathlib.Core.Bool.{Bool, true, false}
use mathlib.Core.List.{List, [], ◌∷◌, ◌++◌}
use lib.ListN.{length, take, drop, take-append-drop}
use lib.Seq.{take-length}
use lib.Dec.{ltb}
use borrow.Author.Tests.{lt-ltb, le-ltb, eq-eqb, ne_eqb, ltb-true, ltb-false, leb-true}
use Rattle.basis.specs.Pick.{pick}
use Rattle.basis.proofs.Tests.{test, false-true}
use Rattle.admission.specs.Numbers.{counts, damaged_of}
use Rattle.admission.specs.Admission.{Mach, mach, counted_as, byte_of, chunk_of, short_of, admit_of}
use Rattle.admission.specs.declared.Admission.{Admission}
use Rattle.arrival.proofs.Bytes.{byte-over, byte_past}
use Rattle.intake.specs.Idle.{capped_at, idle_of}

-- a chunk in two parts
pub chunk-append : (xs ys : List ℕ) (m : Mach) → chunk_of (xs ++ ys) m ≡ chunk_of ys (chunk_of xs m)
chunk-append [] ys m = refl
chunk-append (x ∷ xs) ys m = chunk-append xs ys (byte_of x m)

pub chunk-more : (xs : List ℕ) (k : ℕ) (m n want : Mach) → n ≡ chunk_of (take k xs) m → chunk_of xs m ≡ want → chunk_of (drop k xs) n ≡ want
chunk-more xs k m n want e p =
    rw e (sym (chunk-append (take k xs) (drop k xs) m) ∙ ap (λ (y : List ℕ). chunk_of y m) (take-append-drop k xs) ∙ p)

-- bytes that are only counted
record Idle (st : Admission) : Type 0 where
  told : st.want ≤ st.counted
  none : st.programs ≤ st.judged

idle-is : (st : Admission) → idle_of st ≡ true → Idle st
unfolding idle_of
idle-is st h =
    ⊎_elim
    (λ t. absurd (false-true (rw t at h)))
    (λ t. record { told = ltb-false _ _ t; none = leb-true _ _ (rw t at h) })
    (test (ltb st.counted st.want))

over-stays : (xs : List ℕ) (m : Mach) → m.st.counted ≡ 24577 → chunk_of xs m ≡ m
over-stays [] m h = refl
over-stays (x ∷ xs) m h =
    let e : byte_of x m ≡ m = sym (byte-over x m (omega arith)) ∙ ap (λ (k : ℕ). counted_as k m) (sym h) in
    rw e (over-stays xs m h)

idle-over : (x : ℕ) (xs : List ℕ) (m : Mach) → 24576 ≤ m.st.counted → chunk_of (x ∷ xs) m ≡ counted_as (capped_at (m.st.counted + suc (length xs))) m
idle-over x xs m l =
    let b : byte_of x m ≡ counted_as 24577 m = sym (byte-over x m l) in
    let g : 24576 < m.st.counted + suc (length xs) = omega arith in
    ap (chunk_of xs) b ∙ over-stays xs (counted_as 24577 m) refl ∙ ap (λ (t : Bool). counted_as (pick t 24577 (m.st.counted + suc (length xs))) m) (sym (lt-ltb 24576 (m.st.counted + suc (length xs)) g))

idle-run : (x : ℕ) (xs : List ℕ) (m : Mach) → Idle m.st → chunk_of (x ∷ xs) m ≡ counted_as (capped_at (m.st.counted + suc (length xs))) m
idle-run x [] m i =
    ⊎_elim
    (λ t. let l = ltb-true m.st.counted 24576 t in
    let g : m.st.counted + 1 ≤ 24576 = omega arith in
    sym (byte_past x m l i.told i.none) ∙ ap (λ (b : Bool). counted_as (pick b 24577 (m.st.counted + 1)) m) (sym (le-ltb 24576 (m.st.counted + 1) g)))
    (λ t. idle-over x [] m (ltb-false m.st.counted 24576 t))
    (test (ltb m.st.counted 24576))
idle-run x (y ∷ ys) m i =
    ⊎_elim
    (λ t. let l = ltb-true m.st.counted 24576 t in
    let n = counted_as (m.st.counted + 1) m in
    let b : byte_of x m ≡ n = sym (byte_past x m l i.told i.none) in
    let w = i.told in
    let e : m.st.counted + 1 + suc (length ys) ≡ m.st.counted + suc (suc (length ys)) = omega arith in
    ap (chunk_of (y ∷ ys)) b ∙ idle-run y ys n (record { told = omega arith; none = i.none }) ∙ ap (λ (k : ℕ). counted_as (capped_at k) m) e)
    (λ t. idle-over x (y ∷ ys) m (ltb-false m.st.counted 24576 t))
    (test (ltb m.st.counted 24576))

pub idle-chunk : (xs : List ℕ) (m : Mach) → 0 < length xs → idle_of m.st ≡ true → chunk_of xs m ≡ counted_as (capped_at (m.st.counted + length xs)) m
idle-chunk [] m h i = absurd (omega arith)
idle-chunk (x ∷ xs) m h i = idle-run x xs m (idle-is m.st i)

-- what some of the bytes that are left do
module _ (rest : List ℕ) (m : Mach) where
  pub some-idle : (st : Admission) → 0 < length rest → idle_of m.st ≡ true → st ≡ counts (capped_at (m.st.counted + length rest)) m.st
      → mach st m.contents m.body m.map m.verdicts ≡ chunk_of (take (length rest) rest) m
  some-idle st h i e = rw (take-length rest) (ap (λ (y : Admission). mach y m.contents m.body m.map m.verdicts) e ∙ sym (idle-chunk rest m h i))

-- a chunk, by the check that is the first to apply
module _ (chunk : List ℕ) (m : Mach) where
  pub chunk-short : short_of m.contents m.body m.map m.verdicts ≡ true → (90, m) ≡ admit_of chunk m
  unfolding admit_of
  chunk-short h = rw h

  module _ (roomy : short_of m.contents m.body m.map m.verdicts ≡ false) where
    pub chunk-damaged : damaged_of m.st ≡ true → (91, m) ≡ admit_of chunk m
    unfolding admit_of
    chunk-damaged h = rw (roomy, h)

    module _ (sound : damaged_of m.st ≡ false) where
      pub chunk-late : (m.st.closed ≡ 0 → ⊥) → (37, m) ≡ admit_of chunk m
      unfolding admit_of
      chunk-late h = rw (roomy, sound, ne_eqb m.st.closed 0 h)

      pub chunk-taken : m.st.closed ≡ 0 → (n : Mach) → n ≡ chunk_of chunk m → (0, n) ≡ admit_of chunk m
      unfolding admit_of
      chunk-taken h n e = rw (roomy, sound, eq-eqb m.st.closed 0 h, e)
