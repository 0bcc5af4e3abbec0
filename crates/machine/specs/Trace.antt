-- The steps of a run, one by one: what "the count is the number of steps taken" says.
use Rattle.std.specs.Prelude.{ℕ, suc, ◌+◌, ◌≡◌, Bool, true, false, List}
use Rattle.machine.specs.Machine.{Machine, step_of}
use Rattle.machine.specs.Run.{is_running, is_faulted}

abbrev pub running : Machine → Bool
running m = is_running m.state.status

abbrev pub faulted : Machine → Bool
faulted m = is_faulted m.state.status

-- from the first machine k steps of the definition lead to the last; each was taken by a running machine and did not fault
pub data Took (program : List ℕ) : Machine → ℕ → Machine → Type 0 where
  none : {m : Machine} → Took program m 0 m
  more : {m m' : Machine} {k : ℕ} → running m ≡ true → faulted (step_of program m) ≡ false → Took program (step_of program m) k m' → Took program m (suc k) m'

-- how a run ends at a machine with this much budget left, and the machine that it hands back
pub data Ends (program : List ℕ) (m : Machine) : ℕ → Machine → Type 0 where
  paused : running m ≡ true → Ends program m 0 m
  stopped : {left : ℕ} → running m ≡ false → Ends program m left m
  faults : {left : ℕ} → running m ≡ true → faulted (step_of program m) ≡ true → Ends program m (suc left) (step_of program m)

-- what a run of this budget handed back: the counted steps lead to a last machine, where it ended with the budget left
pub record Told (program : List ℕ) (budget : ℕ) (m m' : Machine) (count : ℕ) : Type 0 where
  pub left : ℕ
  pub last : Machine
  pub within : budget ≡ count + left
  pub took : Took program m count last
  pub ends : Ends program last left m'
