-- States go in and come back: every state has numbers, all 0 is the fresh state, and the numbers of a run's outcome are one outcome's.
-- Assumes nothing.
use Prim.Native.Nat.{ℕ, zero, suc, ◌+◌}
use native.Mathlib.Omega.{arith}
use mathlib.Core.Path.{◌≡◌, refl, sym, ap, ◌∙◌}
use mathlib.Core.Bool.{Bool, true, false}
use mathlib.Core.List.{List}
use lib.ListN.{length}
use lib.Dec.{ltb, eqb}
use Rattle.basis.specs.Pick.{pick}
use Rattle.machine.specs.Machine.{Machine, machine, fresh, step_of}
use Rattle.machine.specs.Run.{Outcome, came, refused, is_running, is_faulted, run_of, outcome_of}
use Rattle.machine.specs.declared.State.{State}
use Rattle.machine.specs.declared.Status.{Status}
use Rattle.machine.specs.declared.Status.TheVariants.{Running, Halted, Faulted}
use Rattle.answers.specs.declared.KhxState.{KhxState}
use Rattle.answers.specs.declared.KhxRan.{KhxRan}
use Rattle.answers.specs.Runs.{status_of, state_of, state_with, state_in, ran_in}
use Rattle.tells.specs.Told.{ToldRun}

status-back : (address depth : ℕ) (s : Status) → state_of (state_with address depth s) ≡ record { address = address; depth = depth; status = s }
unfolding status_of
status-back address depth Running = refl
status-back address depth Halted = refl
status-back address depth (Faulted n) = refl

-- what is handed back, handed in again, is the same state
pub state-back : (s : State) → state_of (state_in s) ≡ s
state-back s = status-back s.address s.depth s.status

-- what is handed in comes back so where nothing alters it: a status that is neither running nor halted as faulted, with its fault
pub handed-back : (s : KhxState) → state_in (state_of s) ≡ pick (eqb s.status 0) (state_with s.address s.depth Running)
    (pick (eqb s.status 1) (state_with s.address s.depth Halted) (state_with s.address s.depth (Faulted s.fault)))
unfolding status_of
handed-back s = by (eqb s.status 0) (eqb s.status 1)
  where
    by : (t u : Bool) → state_with s.address s.depth (pick t Running (pick u Halted (Faulted s.fault)))
        ≡ pick t (state_with s.address s.depth Running) (pick u (state_with s.address s.depth Halted) (state_with s.address s.depth (Faulted s.fault)))
    by true u = refl
    by false true = refl
    by false false = refl

-- a host's state of zeros is the fresh one
pub zeros-fresh : state_of (record { address = 0; depth = 0; status = 0; fault = 0 }) ≡ fresh
unfolding status_of
zeros-fresh = refl

pick-told : (t : Bool) (a b : Outcome) → ToldRun a → ToldRun b → ToldRun (pick t a b)
pick-told true a b x y = x
pick-told false a b x y = y

run-told : (n : ℕ) (p : List ℕ) (m : Machine) (k : ℕ) → ToldRun (run_of n p m k)
unfolding run_of
run-told zero p m k = tt
run-told (suc n) p m k = pick-told (is_running m.state.status) _ _ (pick-told (is_faulted (step_of p m).state.status) _ _ tt (run-told n p (step_of p m) (k + 1))) tt

-- a run that is refused has a number
pub outcome-told : (budget : ℕ) (p : List ℕ) (m : Machine) → ToldRun (outcome_of budget p m)
unfolding outcome_of
outcome-told budget p m =
    pick-told (ltb 16384 (length p)) _ _ (λ e. omega arith)
    (pick-told (ltb 65535 (length m.mem)) _ _ (λ e. omega arith)
    (pick-told (ltb 1024 (length m.cells)) _ _ (λ e. omega arith)
    (pick-told (ltb (length m.cells) m.state.depth) _ _ (λ e. omega arith)
    (run-told budget p m 0))))

machine-back : (m : Machine) → machine (state_of (state_in m.state)) m.mem m.cells ≡ m
machine-back m = ap (λ (s : State). machine s m.mem m.cells) (state-back m.state)

-- the numbers, the data and the cells are those of one outcome
pub ran-in-one : (a b : Outcome) → ToldRun a → ToldRun b → ran_in a ≡ ran_in b → a ≡ b
ran-in-one (came m k) (came m' k') x y e =
    let s : k ≡ k' = ap (λ (r : KhxRan × List ℕ × List ℕ). r.0.steps) e in
    let q : m ≡ m' = sym (machine-back m) ∙ (ap (λ (r : KhxRan × List ℕ × List ℕ). machine (state_of r.0.state) r.1 r.2) e ∙ machine-back m') in
    cc
ran-in-one (came m k) (refused n m') x y e = absurd (y (sym (ap (λ (r : KhxRan × List ℕ × List ℕ). r.0.refusal) e)))
ran-in-one (refused n m) (came m' k') x y e = absurd (x (ap (λ (r : KhxRan × List ℕ × List ℕ). r.0.refusal) e))
ran-in-one (refused n m) (refused n' m') x y e =
    let s : n ≡ n' = ap (λ (r : KhxRan × List ℕ × List ℕ). r.0.refusal) e in
    let q : m ≡ m' = sym (machine-back m) ∙ (ap (λ (r : KhxRan × List ℕ × List ℕ). machine (state_of r.0.state) r.1 r.2) e ∙ machine-back m') in
    cc
