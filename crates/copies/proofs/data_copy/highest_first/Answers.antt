-- `copies::data_copy::highest_first` meets its contract: a byte copied leaves the invariant of the loop.
-- Assumes nothing.
use Prim.Native.Nat.{◌+◌, ◌-◌}
use mathlib.Core.Path.{refl, sym, ◌∙◌}
use native.Mathlib.Omega.{arith}
use lib.Seq.{get_or-set_other}
use Rattle.copies.proofs.Copies.{copied-last}
use Rattle.copies.proofs.data_copy.highest_first.Goals as goal

pub loop-last-preserved : goal.loop-last-preserved
loop-last-preserved c =
    let l = c.loop-last in
    let a = c.args in
    let n = l.last - 1 in
    λ u.
    let i = l.invariant u in (
      (λ q h. get_or-set_other l.«data» (a.to + n) q _ 0 (λ e. omega arith) ∙ i.0 q (omega arith)),
      rw (i.0 (a.from + n) (omega arith))
          (sym (copied-last a.«data».now l.last n a.to a.from (a.to + n) (a.from + n) l.«data» (omega arith) refl refl (omega arith)) ∙ i.1),
    )
