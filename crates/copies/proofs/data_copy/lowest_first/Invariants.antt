-- `copies::data_copy::lowest_first` meets its contract. The invariant, down or to a range apart: what is left to copy, of the bytes as they stood
-- at first, leaves what the whole copy leaves, and those still to be read stand as at first.
-- Assumes nothing.
use Prim.Native.Nat.{ℕ, ◌+◌, ◌-◌, ◌<◌, ◌≤◌}
use mathlib.Core.Path.{◌≡◌}
use mathlib.Core.Logic.{◌⊎◌}
use lib.ListN.{get_or}
use Rattle.effects.specs.Memory.{copied}
use Rattle.copies.proofs.data_copy.lowest_first.Given as goal

abbrev pub invariant-loop-k : goal.invariant-loop-k
invariant-loop-k l =
    (l.to ≤ l.from) ⊎ (l.from + l.count ≤ l.to)
    → ((q : ℕ) → l.from + l.k ≤ q → q < l.from + l.count → get_or l.«data» q 0 ≡ get_or l.initial.«data» q 0)
    × (copied l.initial.«data» (l.count - l.k) (l.to + l.k) (l.from + l.k) l.«data» ≡ copied l.initial.«data» l.count l.to l.from l.initial.«data»)
