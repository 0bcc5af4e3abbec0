-- A program with a sealed map, started fresh or gone on with from a safe state, with as many cells or more, is safe at every budget.
-- Assumes nothing.
use Prim.Native.Nat.{ℕ, zero, suc, ◌+◌, ◌≤◌}
use native.Mathlib.Omega.{arith}
use mathlib.Core.Path.{◌≡◌, sym, ◌∙◌, subst}
use mathlib.Core.Logic.{◌≢◌}
use mathlib.Core.Bool.{Bool, true, false}
use mathlib.Core.List.{List}
use lib.ListN.{length, get_or}
use Rattle.basis.specs.Answer.{Answer, given, refused}
use Rattle.basis.specs.Pick.{pick}
use Rattle.effects.specs.Act.{act_of}
use Rattle.effects.specs.declared.Move.{Move}
use Rattle.effects.specs.declared.Move.TheVariants.{To, Halt}
use Rattle.machine.specs.Machine.{Machine, machine, fresh, state_after, step_of}
use Rattle.machine.specs.Run.{came, is_running, is_faulted, run_of, outcome_of}
use Rattle.machine.specs.Refusals.{Allowed}
use Rattle.machine.specs.declared.State.{State}
use Rattle.machine.proofs.Loop.{step-sound}
use Rattle.machine.proofs.Answers.{allowed-runs}
use Rattle.paths.specs.Paths.{Hop, leads, In}
use Rattle.paths.specs.Paths.{Outcome as Led}
use Rattle.safety.specs.Sealed.{Sealed, Safe}
use Rattle.safety.proofs.Foresees.{Foreseen, act-foreseen}

module _ (program : List ℕ) (cells : ℕ) (map : List ℕ) (s : Sealed program cells map) where
  -- a move that was foreseen from a safe state leads to a safe state
  moved :
      (st : State) (mem mem' cs : List ℕ) (hs : List Hop) → ((b e : ℕ) → In b e hs → (get_or map b 65535 ≡ e) × (e ≢ 65535))
      → get_or map st.address 65535 ≡ st.depth → st.depth ≢ 65535 → (made : Answer Move) → Foreseen st.depth (leads hs) made → Safe map (machine (state_after st made) mem' cs)
  moved st mem mem' cs hs onto at mark (given (To a e)) f = record { status = tt; depth = (onto a e f).0; marked = (onto a e f).1 }
  moved st mem mem' cs hs onto at mark (given (Halt e)) f = record { status = tt; depth = at ∙ sym f; marked = λ q. mark (sym f ∙ q) }
  moved st mem mem' cs hs onto at mark (refused k) f = record { status = f; depth = at; marked = mark }

  -- a step from a safe state is safe
  step-safe : (m : Machine) → cells ≤ length m.cells → Safe map m → Safe map (step_of program m)
  unfolding step_of
  step-safe m l h =
      let st = m.state in
      let c = s.closed st.address st.depth h.depth h.marked in
      let a = act_of program st.address st.depth m.mem m.cells in
      let f = act-foreseen program st.address st.depth m.mem m.cells cells l in
      moved st m.mem a.mem a.cells c.0 c.2 h.depth h.marked a.move (subst (λ (o : Led). Foreseen st.depth o a.move) c.1 f)

  came-one : (m m' : Machine) (k c : ℕ) → came m k ≡ came m' c → m ≡ m'
  came-one m m' k c e = cc

  -- a run from a safe state is safe
  pub run-safe : (n : ℕ) (m m' : Machine) (k c : ℕ) → m.state.depth ≤ length m.cells → cells ≤ length m.cells → Safe map m → run_of n program m k ≡ came m' c → Safe map m'
  unfolding run_of
  run-safe zero m m' k c d l h e = subst (Safe map) (came-one m m' k c e) h
  run-safe (suc n) m m' k c d l h e =
      by (λ f. run-safe n (step_of program m) m' (k + 1) c (step-sound program m d).deep (let q = (step-sound program m d).same_cells in omega arith) (step-safe m l h) f)
      (is_running m.state.status) (is_faulted (step_of program m).state.status) e
    where
      by : (run_of n program (step_of program m) (k + 1) ≡ came m' c → Safe map m') → (t u : Bool)
          → pick t (pick u (came (step_of program m) k) (run_of n program (step_of program m) (k + 1))) (came m k) ≡ came m' c → Safe map m'
      by ih true true f = subst (Safe map) (came-one (step_of program m) m' k c f) (step-safe m l h)
      by ih true false f = ih f
      by ih false u f = subst (Safe map) (came-one m m' k c f) h

  pub fresh-safe : (mem cs : List ℕ) → Safe map (machine fresh mem cs)
  fresh-safe mem cs = record { status = tt; depth = s.begun; marked = λ q. omega arith }

  -- a safe state, handed in again with any data and any cells, as many or more
  pub resumed-safe : (budget count : ℕ) (m : Machine) (mem cs : List ℕ) (m' : Machine) → Safe map m → Allowed program (machine m.state mem cs) → cells ≤ length cs
      → outcome_of budget program (machine m.state mem cs) ≡ came m' count → Safe map m'
  resumed-safe budget count m mem cs m' h a l e =
      run-safe budget (machine m.state mem cs) m' 0 count a.deep l (record { status = h.status; depth = h.depth; marked = h.marked })
      (sym (allowed-runs budget program (machine m.state mem cs) a) ∙ e)

  -- "Started fresh, with that many cells or more, any admissible data and any budget": it faults only 6 or 7, and its depth
  -- is the one in the map
  pub sealed-safe : (budget count : ℕ) (mem cs : List ℕ) (m' : Machine) → Allowed program (machine fresh mem cs) → cells ≤ length cs
      → outcome_of budget program (machine fresh mem cs) ≡ came m' count → Safe map m'
  sealed-safe budget count mem cs m' a l e = resumed-safe budget count (machine fresh mem cs) mem cs m' (fresh-safe mem cs) a l e
