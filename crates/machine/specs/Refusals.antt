-- Why a run is refused, each number of 01 with what makes it the first to apply; and what is not refused.
use Rattle.std.specs.Prelude.{ℕ, ◌≤◌, ◌<◌, List, length}
use Rattle.machine.specs.Machine.{Machine}

pub data Over (program : List ℕ) (m : Machine) : ℕ → Type 0 where
  program_over : 16384 < length program → Over program m 20
  data_over : length program ≤ 16384 → 65535 < length m.mem → Over program m 21
  cells_over : length program ≤ 16384 → length m.mem ≤ 65535 → 1024 < length m.cells → Over program m 22
  too_deep : length program ≤ 16384 → length m.mem ≤ 65535 → length m.cells ≤ 1024 → length m.cells < m.state.depth → Over program m 24

-- no number refuses it
pub record Allowed (program : List ℕ) (m : Machine) : Type 0 where
  pub program_size : length program ≤ 16384
  pub data_size : length m.mem ≤ 65535
  pub cells_size : length m.cells ≤ 1024
  pub deep : m.state.depth ≤ length m.cells
