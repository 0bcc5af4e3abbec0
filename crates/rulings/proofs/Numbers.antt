-- The numbers and the addresses of what the verifier says of a pack's programs.
-- Assumes nothing.
use Prim.Native.Nat.{ℕ, ◌<◌, ◌≤◌}
use native.Mathlib.Omega.{arith}
use mathlib.Core.Path.{◌≡◌, refl}
use mathlib.Core.Logic.{⊎_elim}
use mathlib.Core.Bool.{Bool, true, false}
use mathlib.Core.List.{List}
use lib.Dec.{ltb, eqb}
use lib.ListN.{length, replicate}
use borrow.Author.Tests.{ltb-false}
use Rattle.basis.specs.Pick.{pick}
use Rattle.paths.specs.Paths.{Outcome}
use Rattle.paths.specs.Walk.{Walked, accepted, refused as broken, walk}
use Rattle.paths.proofs.Inside.{walk_inside}
use Rattle.look.specs.Look.{look_of}
use Rattle.meeting.specs.Clash.{two_depths}
use Rattle.verifier.specs.Verify.{names, nameless, walk_of, on_walk, verify_of}
use Rattle.verifier.proofs.Numbers.{walk-number}
use Rattle.pack.specs.Find.{body_of}
use Rattle.pack.specs.declared.Entry.{Entry}
use Rattle.rulings.specs.Rulings.{judged_of}

-- an address that the walk names is no further than the program's end
walk-near : (clash : ℕ → ℕ → ℕ) (look : ℕ → ℕ → Outcome) (n k a : ℕ) → walk clash look n ≡ broken k a → a ≤ n
walk-near clash look n k a e = ⊎_elim (λ l. omega arith) (λ z. omega (arith, z.2)) (walk_inside clash look n k a e)

walk-low : (program : List ℕ) (cells k a : ℕ) → length program ≤ 16384 → walk_of program cells ≡ broken k a → (0 < k) × (k < 100)
walk-low program cells k a s e =
    ⊎_elim (λ h. (omega (arith, h.0), omega (arith, h.1))) (λ h. (omega (arith, h.0), omega (arith, h.1))) (walk-number program cells s k a e)

-- the number, which is not 0, and the address of an entry's verdict
pub judged-low : (pack : List ℕ) (e : Entry) (k a : ℕ) → judged_of pack e ≡ names k a → (0 < k) × (k < 100) × (a ≤ length (body_of pack e))
unfolding judged_of verify_of
judged-low pack e k a h = by (ltb 16384 (length program)) (ltb 1024 e.cells) (eqb (length depths) (length program)) refl h
  where
    program : List ℕ
    program = body_of pack e

    depths : List ℕ
    depths = replicate (length program) 65535

    walked : length program ≤ 16384 → (w : Walked) → walk_of program e.cells ≡ w → (on_walk (length program) w).0 ≡ names k a → (0 < k) × (k < 100) × (a ≤ length program)
    walked s (accepted ms) p q = absurd (let z : ◌≡◌ {A = ℕ} 0 1 = cc in omega arith)
    walked s (broken j b) p q =
        let y : j ≡ k = cc in
        let z : b ≡ a = cc in
        let l = walk-low program e.cells j b s p in
        let m = walk-near two_depths (look_of program e.cells) (length program) j b p in
        (omega (arith, l.0), omega (arith, l.1), omega arith)

    by : (t u v : Bool) → ltb 16384 (length program) ≡ t
        → (pick t (nameless 20, depths) (pick u (nameless 22, depths) (pick v (on_walk (length program) (walk_of program e.cells)) (nameless 23, depths)))).0 ≡ names k a
        → (0 < k) × (k < 100) × (a ≤ length program)
    by true u v l q = absurd (let z : ◌≡◌ {A = ℕ} 0 1 = cc in omega arith)
    by false true v l q = absurd (let z : ◌≡◌ {A = ℕ} 0 1 = cc in omega arith)
    by false false true l q = walked (ltb-false 16384 (length program) l) (walk_of program e.cells) refl q
    by false false false l q = absurd (let z : ◌≡◌ {A = ℕ} 0 1 = cc in omega arith)
