-- Laws of the run: how it goes on, and that it is exactly the steps of its definition.
-- Assumes nothing.
use Prim.Native.Nat.{ℕ, zero, suc, ◌+◌}
use native.Mathlib.Omega.{arith}
use native.Mathlib.Nat.{add-zero, zero-add}
use mathlib.Core.Path.{◌≡◌, refl, sym, ap, ◌∙◌, subst}
use mathlib.Core.Bool.{Bool, true, false}
use mathlib.Core.List.{List}
use Rattle.machine.specs.Machine.{Machine, step_of}
use Rattle.machine.specs.Run.{came, run_of}
use Rattle.machine.specs.Trace.{running, faulted, Took, none, more, Ends, paused, stopped, faults, Told}

module _ (program : List ℕ) (m : Machine) (k : ℕ) where
  -- a stopped state comes back as it was
  pub run-stopped : (n : ℕ) → running m ≡ false → run_of n program m k ≡ came m k
  unfolding run_of
  run-stopped zero h = refl
  run-stopped (suc n) h = rw h

  -- the budget is used
  pub run-used : (n : ℕ) → n ≡ 0 → run_of n program m k ≡ came m k
  unfolding run_of
  run-used n h = rw h

  -- a fault counts no step
  pub run-faults : (n j : ℕ) → n ≡ suc j → running m ≡ true → faulted (step_of program m) ≡ true → run_of n program m k ≡ came (step_of program m) k
  unfolding run_of
  run-faults n j e h f = rw (e, h, f)

  -- one step, counted
  pub run-steps : (n j : ℕ) → n ≡ suc j → running m ≡ true → faulted (step_of program m) ≡ false → run_of n program m k ≡ run_of j program (step_of program m) (k + 1)
  unfolding run_of
  run-steps n j e h f = rw (e, h, f)

-- the same of a run whose count began at k
record Counted (program : List ℕ) (n k : ℕ) (m m' : Machine) (count : ℕ) : Type 0 where
  pub steps : ℕ
  pub left : ℕ
  pub last : Machine
  pub counted : count ≡ k + steps
  pub budget : n ≡ steps + left
  pub took : Took program m steps last
  pub ends : Ends program last left m'

came-machine : (m m' : Machine) (k k' : ℕ) → came m k ≡ came m' k' → (m ≡ m') × (k ≡ k')
came-machine m m' k k' e = (cc, cc)

counted-run : (program : List ℕ) (n k : ℕ) (m m' : Machine) (count : ℕ) → run_of n program m k ≡ came m' count → Counted program n k m m' count
counted-run program zero k m m' count e = by (running m) refl
  where
    q : (m ≡ m') × (k ≡ count)
    q = came-machine m m' k count (sym (run-used program m k 0 refl) ∙ e)

    by : (t : Bool) → running m ≡ t → Counted program 0 k m m' count
    by true h = record { steps = 0; left = 0; last = m; counted = omega (arith, q.1); budget = omega arith; took = none; ends = subst (λ (x : Machine). Ends program m 0 x) q.0 (paused h) }
    by false h = record { steps = 0; left = 0; last = m; counted = omega (arith, q.1); budget = omega arith; took = none; ends = subst (λ (x : Machine). Ends program m 0 x) q.0 (stopped h) }
counted-run program (suc n) k m m' count e =
    by (λ f. counted-run program n (k + 1) (step_of program m) m' count f) (running m) (faulted (step_of program m)) refl refl
  where
    by : (run_of n program (step_of program m) (k + 1) ≡ came m' count → Counted program n (k + 1) (step_of program m) m' count)
        → (t u : Bool) → running m ≡ t → faulted (step_of program m) ≡ u → Counted program (suc n) k m m' count
    by ih false u h f =
        let q = came-machine m m' k count (sym (run-stopped program m k (suc n) h) ∙ e) in
        record { steps = 0; left = suc n; last = m; counted = omega (arith, q.1); budget = omega arith; took = none; ends = subst (λ (x : Machine). Ends program m (suc n) x) q.0 (stopped h) }
    by ih true true h f =
        let q = came-machine (step_of program m) m' k count (sym (run-faults program m k (suc n) n refl h f) ∙ e) in
        record { steps = 0; left = suc n; last = m; counted = omega (arith, q.1); budget = omega arith; took = none; ends = subst (λ (x : Machine). Ends program m (suc n) x) q.0 (faults h f) }
    by ih true false h f =
        let t = ih (sym (run-steps program m k (suc n) n refl h f) ∙ e) in
        record { steps = suc t.steps; left = t.left; last = t.last; counted = omega (arith, t.counted); budget = omega (arith, t.budget); took = more h f t.took; ends = t.ends }

-- Every run is the iteration of the step, its count the number of steps taken, and it ends within its budget.
pub run-told : (program : List ℕ) (budget : ℕ) (m m' : Machine) (count : ℕ) → run_of budget program m 0 ≡ came m' count → Told program budget m m' count
run-told program budget m m' count e =
    let t = counted-run program budget 0 m m' count e in
    let c : t.steps ≡ count = omega (arith, t.counted) in
    record { left = t.left; last = t.last; within = omega (arith, t.budget, t.counted); took = subst (λ (k : ℕ). Took program m k t.last) c t.took; ends = t.ends }

-- And every sequence of steps within the budget that ends so is what the run hands back.
pub told-run : (program : List ℕ) (k steps left : ℕ) (m last m' : Machine) → Took program m steps last → Ends program last left m'
    → run_of (steps + left) program m k ≡ came m' (k + steps)
told-run program k zero left m last m' none (paused h) = simp add-zero (run-used program m k 0 refl)
told-run program k zero left m last m' none (stopped h) = rw (zero-add, add-zero) (run-stopped program m k left h)
told-run program k zero left m last m' none (faults h f) = rw (zero-add, add-zero) (run-faults program m k left _ refl h f)
told-run program k (suc s) left m last m' (more h f t) e =
    run-steps program m k (suc s + left) (s + left) (omega arith) h f
    ∙ told-run program (k + 1) s left (step_of program m) last m' t e
    ∙ ap (λ (c : ℕ). came m' c) (let z : k + 1 + s ≡ k + suc s = omega arith in z)
