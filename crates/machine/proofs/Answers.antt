-- The public run refuses by exactly the numbers of 01, and the code's answer stands for one answer of 01.
-- Assumes nothing.
use Prim.Native.Nat.{ℕ}
use native.Mathlib.Omega.{arith}
use mathlib.Core.Path.{◌≡◌, refl, ap, ap₂}
use mathlib.Core.Logic.{◌⊎◌, inl, inr}
use mathlib.Core.Bool.{Bool, true, false}
use mathlib.Core.List.{List}
use lib.ListN.{length}
use lib.Dec.{ltb}
use borrow.Author.Tests.{lt-ltb, le-ltb, ltb-true, ltb-false}
use Rattle.std.specs.Prelude.{Result, Ok, Err}
use Rattle.basis.specs.Refusal.{number_of}
use Rattle.basis.specs.declared.refusal.Refusal.{Refusal}
use Rattle.basis.proofs.Refusals.{number-one}
use Rattle.machine.specs.declared.State.{State}
use Rattle.machine.specs.declared.Ran.{Ran}
use Rattle.machine.specs.declared.Unrun.{Unrun}
use Rattle.machine.specs.Machine.{Machine, machine}
use Rattle.machine.specs.Run.{refused, run_of, outcome_of, ran_outcome}
use Rattle.machine.specs.Refusals.{Over, program_over, data_over, cells_over, too_deep, Allowed}

-- a refusal is by the first number that applies, and nothing has changed
pub over-refused : (budget : ℕ) (program : List ℕ) (m : Machine) (n : ℕ) → Over program m n → outcome_of budget program m ≡ refused n m
unfolding outcome_of
over-refused budget program m n (program_over a) = rw (lt-ltb _ _ a)
over-refused budget program m n (data_over a b) = rw (le-ltb _ _ a, lt-ltb _ _ b)
over-refused budget program m n (cells_over a b c) = rw (le-ltb _ _ a, le-ltb _ _ b, lt-ltb _ _ c)
over-refused budget program m n (too_deep a b c d) = rw (le-ltb _ _ a, le-ltb _ _ b, le-ltb _ _ c, lt-ltb _ _ d)

-- a run that no number refuses takes its steps
pub allowed-runs : (budget : ℕ) (program : List ℕ) (m : Machine) → Allowed program m → outcome_of budget program m ≡ run_of budget program m 0
unfolding outcome_of
allowed-runs budget program m a = rw (le-ltb _ _ a.program_size, le-ltb _ _ a.data_size, le-ltb _ _ a.cells_size, le-ltb _ _ a.deep)

-- every run is refused by some number or allowed
pub over-or-allowed : (program : List ℕ) (m : Machine) → ((n : ℕ) × Over program m n) ⊎ Allowed program m
over-or-allowed program m = by (ltb 16384 (length program)) (ltb 65535 (length m.mem)) (ltb 1024 (length m.cells)) (ltb (length m.cells) m.state.depth) refl refl refl refl
  where
    by : (s t u v : Bool) → ltb 16384 (length program) ≡ s → ltb 65535 (length m.mem) ≡ t → ltb 1024 (length m.cells) ≡ u → ltb (length m.cells) m.state.depth ≡ v
        → ((n : ℕ) × Over program m n) ⊎ Allowed program m
    by true t u v a b c d = inl (20, program_over (ltb-true _ _ a))
    by false true u v a b c d = inl (21, data_over (ltb-false _ _ a) (ltb-true _ _ b))
    by false false true v a b c d = inl (22, cells_over (ltb-false _ _ a) (ltb-false _ _ b) (ltb-true _ _ c))
    by false false false true a b c d = inl (24, too_deep (ltb-false _ _ a) (ltb-false _ _ b) (ltb-false _ _ c) (ltb-true _ _ d))
    by false false false false a b c d = inr (record { program_size = ltb-false _ _ a; data_size = ltb-false _ _ b; cells_size = ltb-false _ _ c; deep = ltb-false _ _ d })

machine-one : (s s' : State) (d d' c c' : List ℕ) → machine s d c ≡ machine s' d' c' → (s ≡ s') × (d ≡ d') × (c ≡ c')
machine-one s s' d d' c c' e = (ap (λ (m : Machine). m.state) e, ap (λ (m : Machine). m.mem) e, ap (λ (m : Machine). m.cells) e)

-- the answer, the data and the cells are one
pub ran-one : (a b : Result Ran Unrun) (d d' c c' : List ℕ) → ran_outcome a d c ≡ ran_outcome b d' c' → (a ≡ b) × (d ≡ d') × (c ≡ c')
ran-one (Ok r) (Ok r') d d' c c' e =
    let m : machine r.state d c ≡ machine r'.state d' c' = cc in
    let n : r.steps ≡ r'.steps = cc in
    let q = machine-one r.state r'.state d d' c c' m in
    (ap₂ (λ (s : State) (k : ℕ). Ok (record { state = s; steps = k })) q.0 n, q.1, q.2)
ran-one (Ok r) (Err u) d d' c c' e = absurd (let z : ◌≡◌ {A = ℕ} 0 1 = cc in omega arith)
ran-one (Err u) (Ok r) d d' c c' e = absurd (let z : ◌≡◌ {A = ℕ} 0 1 = cc in omega arith)
ran-one (Err u) (Err u') d d' c c' e =
    let m : machine u.state d c ≡ machine u'.state d' c' = cc in
    let i : number_of u.refusal ≡ number_of u'.refusal = cc in
    let q = machine-one u.state u'.state d d' c c' m in
    (ap₂ (λ (w : Refusal) (s : State). Err (record { refusal = w; state = s })) (number-one u.refusal u'.refusal i) q.0, q.1, q.2)
