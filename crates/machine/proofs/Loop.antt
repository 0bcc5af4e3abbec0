-- What holds at every turn of the run's loop, and that a step keeps it, or ends the run as its definition does.
-- Assumes nothing.
use Prim.Native.Nat.{ℕ, suc, ◌+◌, ◌-◌, ◌≤◌, ◌<◌}
use native.Mathlib.Omega.{arith}
use mathlib.Core.Path.{◌≡◌, refl, sym, ap, ◌∙◌}
use mathlib.Core.Bool.{true, false}
use mathlib.Core.List.{List}
use lib.ListN.{length}
use Rattle.basis.specs.Answer.{Answer, given, refused}
use Rattle.effects.specs.Act.{act_of}
use Rattle.effects.specs.declared.Move.{Move}
use Rattle.effects.specs.declared.Move.TheVariants.{To, Halt}
use Rattle.effects.proofs.Keeps.{depth_in, act-deep}
use Rattle.machine.specs.declared.State.{State}
use Rattle.machine.specs.declared.Status.{Status}
use Rattle.machine.specs.declared.Status.TheVariants.{Running, Halted, Faulted}
use Rattle.machine.specs.Machine.{Machine, state_after, step_of}
use Rattle.machine.specs.Run.{came, is_running, is_faulted, run_of}
use Rattle.machine.proofs.Runs.{run-stopped, run-used, run-faults, run-steps}

-- the lengths of the memories, and a depth inside the cells, are kept by a step
pub record Sound (m m' : Machine) : Type 0 where
  pub same_mem : length m'.mem ≡ length m.mem
  pub same_cells : length m'.cells ≡ length m.cells
  pub deep : m'.state.depth ≤ length m'.cells

after-deep : (s : State) (made : Answer Move) (n : ℕ) → s.depth ≤ n → depth_in made ≤ n → (state_after s made).depth ≤ n
after-deep s (given (To a d)) n h k = k
after-deep s (given (Halt d)) n h k = k
after-deep s (refused z) n h k = h

pub step-sound : (program : List ℕ) (m : Machine) → m.state.depth ≤ length m.cells → Sound m (step_of program m)
unfolding step_of
step-sound program m h =
    let a = act_of program m.state.address m.state.depth m.mem m.cells in
    let k = act-deep program m.state.address m.state.depth m.mem m.cells in
    let l = k.cells_length in
    record {
      same_mem = k.mem-length;
      same_cells = l;
      deep = rw l (after-deep m.state a.move (length m.cells) h k.depth-within);
    }

-- the run from here, so many steps being left, is the whole run
pub record Under (program : List ℕ) (budget : ℕ) (start m : Machine) (left : ℕ) : Type 0 where
  pub same_mem : length m.mem ≡ length start.mem
  pub same_cells : length m.cells ≡ length start.cells
  pub deep : m.state.depth ≤ length m.cells
  pub within : left ≤ budget
  pub on : m.state.status ≡ Running
  pub whole : run_of left program m (budget - left) ≡ run_of budget program start 0

running : (m : Machine) → m.state.status ≡ Running → is_running m.state.status ≡ true
running m e = ap is_running e

module _ {program : List ℕ} {budget : ℕ} {start m m' : Machine} {left : ℕ} (u : Under program budget start m left) (l : 0 < left) (e : m' ≡ step_of program m) where
  sound : Sound m m'
  sound = rw e (step-sound program m u.deep)

  falls : left ≡ suc (left - 1)
  falls = omega arith

  counts : budget - (left - 1) ≡ budget - left + 1
  counts = omega (arith, u.within)

  goes : is_faulted m'.state.status ≡ false → run_of (left - 1) program m' (budget - left + 1) ≡ run_of budget program start 0
  goes f =
      let g : is_faulted (step_of program m).state.status ≡ false = rw (← e) f in
      rw e (sym (run-steps program m (budget - left) left (left - 1) falls (running m u.on) g) ∙ u.whole)

  -- still running
  pub turned : m'.state.status ≡ Running → Under program budget start m' (left - 1)
  turned r =
      let s = sound in
      record {
        same_mem = omega (arith, s.same_mem, u.same_mem);
        same_cells = omega (arith, s.same_cells, u.same_cells);
        deep = s.deep;
        within = omega (arith, u.within);
        on = r;
        whole = ap (λ (k : ℕ). run_of (left - 1) program m' k) counts ∙ goes (ap is_faulted r);
      }

  -- halted: the step counts
  pub ended : m'.state.status ≡ Halted → came m' (budget - (left - 1)) ≡ run_of budget program start 0
  ended r = ap (λ (k : ℕ). came m' k) counts ∙ sym (run-stopped program m' (budget - left + 1) (left - 1) (ap is_running r)) ∙ goes (ap is_faulted r)

  -- faulted: it does not
  pub failed : (n : ℕ) → m'.state.status ≡ Faulted n → came m' (budget - left) ≡ run_of budget program start 0
  failed n r =
      let g : is_faulted (step_of program m).state.status ≡ true = rw (← e) (ap is_faulted r) in
      rw e (sym (run-faults program m (budget - left) left (left - 1) falls (running m u.on) g) ∙ u.whole)

-- the budget is used
pub used : {program : List ℕ} {budget : ℕ} {start m : Machine} {left : ℕ} → Under program budget start m left → left ≤ 0 → came m budget ≡ run_of budget program start 0
used {program} {budget} {start} {m} {left} u e =
    let k : budget ≡ budget - left = omega arith in
    ap (λ (n : ℕ). came m n) k ∙ sym (run-used program m (budget - left) left (omega arith)) ∙ u.whole

-- a stopped state comes back as it was
pub rested : (program : List ℕ) (budget : ℕ) (start : Machine) → (start.state.status ≡ Running → ⊥) → came start 0 ≡ run_of budget program start 0
rested program budget start h = sym (run-stopped program start 0 budget (by start.state.status h))
  where
    by : (s : Status) → (s ≡ Running → ⊥) → is_running s ≡ false
    by Running n = absurd (n refl)
    by Halted n = refl
    by (Faulted k) n = refl
