-- Bytes that end nothing, stored in one go.
-- Assumes nothing.
use Prim.Native.Nat.{ℕ, suc, ◌+◌, ◌≤◌, ◌<◌}
use native.Mathlib.Omega.{arith}
use mathlib.Core.Path.{◌≡◌, refl, sym, ap, ◌∙◌}
use mathlib.Core.List.{List, [], ◌∷◌}
use lib.ListN.{length, set}
use lib.Seq.{sets}
use borrow.Author.Tests.{ne_eqb}
use Rattle.admission.specs.Numbers.{counts, judges}
use Rattle.admission.specs.Admission.{Mach, mach, length_at, settled, sized_of, opened_of, byte_of, chunk_of}
use Rattle.admission.specs.declared.Admission.{Admission}
use Rattle.settling.proofs.Settles.{settle-stop, settled-none}
use mathlib.Core.Logic.{⊎_elim}
use Rattle.arrival.specs.Plain.{Waits, Grows, Plain}
use Rattle.arrival.proofs.Bytes.{byte-contents, byte-body}

-- bytes of the contents
abbrev waited : ℕ → List ℕ → Mach → Mach
waited k contents m = mach (counts (m.st.counted + k) m.st) contents m.body m.map m.verdicts

-- the contents are no longer than their room, and tell no programs yet
pub record Early (m : Mach) : Type 0 where
  pub want : m.st.want ≤ 514
  pub none : m.st.programs ≡ 0

waited-byte : (x : ℕ) (m : Mach) → Early m → Waits 1 m.st → byte_of x m ≡ waited 1 (set m.contents m.st.counted x) m
unfolding sized_of opened_of
waited-byte x m f w =
    let one = counts (m.st.counted + 1) m.st in
    let c = set m.contents m.st.counted x in
    let a = f.want in
    let b = w.sized in
    let d = w.short in
    let s : one ≡ sized_of one c = rw (ne_eqb (m.st.counted + 1) 2 (λ e. omega (arith, e))) in
    let t : one ≡ opened_of one c = rw (ne_eqb (m.st.counted + 1) m.st.want (λ e. omega (arith, e))) in
    sym (byte-contents x m (omega arith) (mach one c m.body m.map m.verdicts) one one (omega arith) s t (sym (settled-none (mach one c m.body m.map m.verdicts) f.none)))

pub waited-chunk : (xs : List ℕ) (m : Mach) → Early m → Waits (length xs) m.st → chunk_of xs m ≡ waited (length xs) (sets m.contents m.st.counted xs) m
waited-chunk [] m f w =
    let q : m.st.counted ≡ m.st.counted + 0 = omega arith in
    ap (λ (h : ℕ). mach (counts h m.st) m.contents m.body m.map m.verdicts) q
waited-chunk (x ∷ xs) m f w =
    let a = w.sized in
    let b = w.short in
    let c = set m.contents m.st.counted x in
    let n = waited 1 c m in
    let e : byte_of x m ≡ n = waited-byte x m f (record { sized = a; short = omega arith }) in
    let q : m.st.counted + 1 + length xs ≡ m.st.counted + suc (length xs) = omega arith in
    let z : m.st.counted + 1 ≡ suc m.st.counted = omega arith in
    ap (chunk_of xs) e
    ∙ waited-chunk xs n (record { want = f.want; none = f.none }) (record { sized = omega arith; short = omega arith })
    ∙ ap (λ (h : ℕ). mach (counts h m.st) (sets c (m.st.counted + 1) xs) m.body m.map m.verdicts) q
    ∙ ap (λ (h : ℕ). mach (counts (m.st.counted + suc (length xs)) m.st) (sets c h xs) m.body m.map m.verdicts) z

-- bytes that make a body longer
abbrev longer : ℕ → List ℕ → Mach → Mach
longer k body m = mach (judges m.st.judged (m.st.have + k) (counts (m.st.counted + k) m.st)) m.contents body m.map m.verdicts

longer-byte : (x : ℕ) (m : Mach) → Grows 1 m.st m.contents → byte_of x m ≡ longer 1 (set m.body m.st.have x) m
unfolding settled
longer-byte x m g =
    let n = longer 1 (set m.body m.st.have x) m in
    let a = g.small in
    let b = g.room in
    let s = g.short in
    let e : n ≡ settled n = settle-stop n (settled n) refl g.some (length_at m.contents m.st.judged) refl (λ q. omega (arith, q)) in
    sym (byte-body x m (omega arith) g.told g.some n (omega arith) e)

pub longer-chunk : (xs : List ℕ) (m : Mach) → Grows (length xs) m.st m.contents → chunk_of xs m ≡ longer (length xs) (sets m.body m.st.have xs) m
longer-chunk [] m g =
    let p : m.st.have ≡ m.st.have + 0 = omega arith in
    let q : m.st.counted ≡ m.st.counted + 0 = omega arith in
    ap (λ (h : ℕ). mach (judges m.st.judged h m.st) m.contents m.body m.map m.verdicts) p
    ∙ ap (λ (h : ℕ). mach (judges m.st.judged (m.st.have + 0) (counts h m.st)) m.contents m.body m.map m.verdicts) q
longer-chunk (x ∷ xs) m g =
    let a = g.small in
    let b = g.room in
    let s = g.short in
    let t = g.told in
    let n = longer 1 (set m.body m.st.have x) m in
    let e : byte_of x m ≡ n = longer-byte x m (record { told = t; some = g.some; short = omega arith; room = omega arith; small = omega arith }) in
    let p : m.st.have + 1 + length xs ≡ m.st.have + suc (length xs) = omega arith in
    let q : m.st.counted + 1 + length xs ≡ m.st.counted + suc (length xs) = omega arith in
    let z : m.st.have + 1 ≡ suc m.st.have = omega arith in
    ap (chunk_of xs) e
    ∙ longer-chunk xs n (record { told = omega arith; some = g.some; short = omega arith; room = omega arith; small = omega arith })
    ∙ ap (λ (h : ℕ). mach (judges m.st.judged h (counts (m.st.counted + 1 + length xs) m.st)) m.contents (sets (set m.body m.st.have x) (m.st.have + 1) xs) m.map m.verdicts) p
    ∙ ap (λ (h : ℕ). mach (judges m.st.judged (m.st.have + suc (length xs)) (counts h m.st)) m.contents (sets (set m.body m.st.have x) (m.st.have + 1) xs) m.map m.verdicts) q
    ∙ ap (λ (h : ℕ). mach (judges m.st.judged (m.st.have + suc (length xs)) (counts (m.st.counted + suc (length xs)) m.st)) m.contents (sets (set m.body m.st.have x) h xs) m.map m.verdicts) z

-- what was stored, and where
module _ (m : Mach) (part : List ℕ) where
  pub stored-contents : Early m → Waits (length part) m.st → (st : Admission) (c : List ℕ) → st ≡ counts (m.st.counted + length part) m.st → c ≡ sets m.contents m.st.counted part
      → mach st c m.body m.map m.verdicts ≡ chunk_of part m
  stored-contents f w st c e p = rw (e, p) (sym (waited-chunk part m f w))

  pub stored-body : Grows (length part) m.st m.contents → (st : Admission) (b : List ℕ) → st ≡ judges m.st.judged (m.st.have + length part) (counts (m.st.counted + length part) m.st)
      → b ≡ sets m.body m.st.have part → mach st m.contents b m.map m.verdicts ≡ chunk_of part m
  stored-body g st b e p = rw (e, p) (sym (longer-chunk part m g))

-- which of the two it is
pub of-contents : (k : ℕ) (st : Admission) (c : List ℕ) → Plain k st c → st.counted < st.want → Waits k st
of-contents k st c p h = ⊎_elim (λ w. w) (λ g. let t = g.told in absurd (omega arith)) p

pub of-body : (k : ℕ) (st : Admission) (c : List ℕ) → Plain k st c → st.want ≤ st.counted → Grows k st c
of-body k st c p h = ⊎_elim (λ w. let t = w.short in absurd (omega arith)) (λ g. g) p
