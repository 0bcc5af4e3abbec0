-- A step's fault alters only the status, and a run faults by 1 to 8.
-- Assumes nothing.
use Prim.Native.Nat.{ℕ, ◌≤◌}
use native.Mathlib.Omega.{arith}
use mathlib.Core.Path.{◌≡◌, refl, sym, ap₂}
use mathlib.Core.Bool.{true, false}
use mathlib.Core.List.{List}
use lib.ListN.{length}
use Rattle.basis.specs.Answer.{Answer, given, refused}
use Rattle.basis.proofs.Tests.{false-true}
use Rattle.decoder.specs.Decode.{decode_of}
use Rattle.effects.specs.Act.{became, act_of}
use Rattle.effects.specs.Reach.{is_fault}
use Rattle.effects.specs.declared.Move.{Move}
use Rattle.effects.specs.declared.Move.TheVariants.{To, Halt}
use Rattle.effects.proofs.Faults.{FaultsBy, act_by, act-still}
use Rattle.machine.specs.Machine.{Machine, machine, state_after, landed, step_of}
use Rattle.machine.specs.Run.{is_faulted}
use Rattle.machine.specs.Trace.{faulted, Took, none, more, Ends, paused, stopped, faults, Told}
use Rattle.machine.specs.declared.State.{State}
use Rattle.machine.specs.declared.Status.{Status}
use Rattle.machine.specs.declared.Status.TheVariants.{Running, Halted, Faulted}
use Rattle.guarantee.specs.Demands.{FaultedBy, with_fault}

-- a fault
pub fault-alters : (program : List ℕ) (m : Machine) → faulted (step_of program m) ≡ true → (n : ℕ) × (step_of program m ≡ with_fault n m)
unfolding step_of
fault-alters program m h =
    let d = act_of program m.state.address m.state.depth m.mem m.cells in
    by d.move d.mem d.cells (act-still program m.state.address m.state.depth m.mem m.cells) h
  where
    by : (made : Answer Move) (mem cells : List ℕ) → (is_fault made ≡ true → (mem ≡ m.mem) × (cells ≡ m.cells)) → is_faulted (state_after m.state made).status ≡ true
        → (n : ℕ) × (landed m.state (became made mem cells) ≡ with_fault n m)
    by (given (To a e)) mem cells k f = absurd (false-true f)
    by (given (Halt e)) mem cells k f = absurd (false-true f)
    by (refused n) mem cells k f = (n, ap₂ (λ (x y : List ℕ). machine (state_after m.state (refused n)) x y) (k refl).0 (k refl).1)

-- where nothing is read
pub unread-alters : (program : List ℕ) (m : Machine) (n : ℕ) → decode_of program m.state.address ≡ refused n → step_of program m ≡ with_fault n m
unfolding step_of act_of
unread-alters program m n e = rw e

-- a status that is no fault, or one that a step left
status-by : (s : Status) → is_faulted s ≡ false → FaultedBy s
status-by Running f = tt
status-by Halted f = tt
status-by (Faulted n) f = absurd (false-true (sym f))

moved_by : (s : State) (made : Answer Move) → FaultsBy made → FaultedBy (state_after s made).status
moved_by s (given (To a e)) h = tt
moved_by s (given (Halt e)) h = tt
moved_by s (refused n) h = (h.0, omega (arith, h.1))

step_by : (program : List ℕ) (m : Machine) → length program ≤ 16384 → FaultedBy (step_of program m).state.status
unfolding step_of
step_by program m s =
    moved_by m.state (act_of program m.state.address m.state.depth m.mem m.cells).move
    (act_by program m.state.address m.state.depth m.mem m.cells s)

-- the steps of a run do not fault
took-on : {program : List ℕ} {m m' : Machine} {k : ℕ} → faulted m ≡ false → Took program m k m' → faulted m' ≡ false
took-on f none = f
took-on f (more r g t) = took-on g t

ends_by : (program : List ℕ) (m m' : Machine) (left : ℕ) → length program ≤ 16384 → faulted m ≡ false → Ends program m left m' → FaultedBy m'.state.status
ends_by program m m' left s f (paused r) = status-by m.state.status f
ends_by program m m' left s f (stopped r) = status-by m.state.status f
ends_by program m m' left s f (faults r g) = step_by program m s

pub run-faulted-by : (program : List ℕ) (budget count : ℕ) (m m' : Machine) → length program ≤ 16384 → faulted m ≡ false → Told program budget m m' count → FaultedBy m'.state.status
run-faulted-by program budget count m m' s f t = ends_by program t.last m' t.left s (took-on f t.took) t.ends
