-- A depth map that its program cannot leave, and what is then safe.
use Rattle.std.specs.Prelude.{◌≡◌, ◌⊎◌, ◌≢◌, List, ℕ, get_or}
use Rattle.machine.specs.Machine.{Machine}
use Rattle.machine.specs.declared.Status.{Status}
use Rattle.machine.specs.declared.Status.TheVariants.{Running, Halted, Faulted}
use Rattle.paths.specs.Paths.{Hop, leads, In}
use Rattle.look.specs.Look.{look_of}

-- address 0 is marked with depth 0; every marked address, at its depth, is a good instruction for so many cells, and each
-- of its successors is marked with the right depth; 65,535 marks none
pub record Sealed (program : List ℕ) (cells : ℕ) (map : List ℕ) : Type 0 where
  pub begun : get_or map 0 65535 ≡ 0
  pub closed :
      (a d : ℕ) → get_or map a 65535 ≡ d → d ≢ 65535
      → (hs : List Hop) × (look_of program cells a d ≡ leads hs) × ((b e : ℕ) → In b e hs → (get_or map b 65535 ≡ e) × (e ≢ 65535))

-- "faults only on a data range or a copy's program range"
abbrev pub RangeFault : Status → Type 0
RangeFault Running = Unit {0}
RangeFault Halted = Unit {0}
RangeFault (Faulted n) = (n ≡ 6) ⊎ (n ≡ 7)

-- ".., and its depth is always the one .. written down for its address"
pub record Safe (map : List ℕ) (m : Machine) : Type 0 where
  pub status : RangeFault m.state.status
  pub depth : get_or map m.state.address 65535 ≡ m.state.depth
  pub marked : m.state.depth ≢ 65535
