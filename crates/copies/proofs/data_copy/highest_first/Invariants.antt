-- `copies::data_copy::highest_first` meets its contract. The invariant, up: what is left to copy, of the bytes as they stood at first, leaves what
-- the whole copy leaves, and those still to be read stand as at first.
-- Assumes nothing.
use Prim.Native.Nat.{ℕ, ◌+◌, ◌<◌, ◌≤◌}
use mathlib.Core.Path.{◌≡◌}
use lib.ListN.{get_or}
use Rattle.effects.specs.Memory.{copied}
use Rattle.copies.proofs.data_copy.highest_first.Given as goal

abbrev pub invariant-loop-last : goal.invariant-loop-last
invariant-loop-last l =
    l.from ≤ l.to
    → ((q : ℕ) → q < l.from + l.last → get_or l.«data» q 0 ≡ get_or l.initial.«data» q 0)
    × (copied l.initial.«data» l.last l.to l.from l.«data» ≡ copied l.initial.«data» l.count l.to l.from l.initial.«data»)
