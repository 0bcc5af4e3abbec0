-- `copies::data_copy::lowest_first` meets its contract: a byte copied leaves the invariant of the loop.
-- Assumes nothing.
use Prim.Native.Nat.{◌+◌, ◌-◌}
use mathlib.Core.Path.{◌≡◌, sym, ◌∙◌}
use mathlib.Core.Logic.{⊎_elim}
use native.Mathlib.Omega.{arith}
use lib.Seq.{get_or-set_other}
use Rattle.copies.proofs.Copies.{copied-first}
use Rattle.copies.proofs.data_copy.lowest_first.Goals as goal

pub loop-k-preserved : goal.loop-k-preserved
loop-k-preserved c =
    let l = c.loop-k in
    let a = c.args in
    let e : a.to + (l.k + 1) ≡ a.to + l.k + 1 = omega arith in
    let f : a.from + (l.k + 1) ≡ a.from + l.k + 1 = omega arith in
    λ o.
    let i = l.invariant o in (
      (λ q h k. get_or-set_other l.«data» (a.to + l.k) q _ 0 (λ e. ⊎_elim (λ r. omega arith) (λ r. omega arith) o) ∙ i.0 q (omega arith) k),
      rw (i.0 (a.from + l.k) (omega arith) (omega arith), e, f)
          (sym (copied-first a.«data».now (a.count - l.k) (a.count - (l.k + 1)) (a.to + l.k) (a.from + l.k) l.«data» (omega arith) (omega arith)) ∙ i.1),
    )
