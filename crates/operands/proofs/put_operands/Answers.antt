-- `operands::put_operands` meets its contract.
-- Assumes nothing.
use native.Mathlib.Omega.{arith}
use mathlib.Core.Path.{refl}
use Rattle.text.proofs.Puts.{puts-append, puts-place}
use Rattle.operands.proofs.Shown.{sized-le, all-more, all-done, all-within}
use Rattle.operands.proofs.put_operands.Goals as goal

pub put_operand-requires : goal.put_operand-requires
put_operand-requires c =
    let h = all-within _ c.sized-width-items.result c.loop-width.width-index c.sized-width-items.ensures c.args.i refl refl refl c.loop-width-test.true in
    (sized-le _ _ c.loop-width.width-index c.sized-width-items.ensures, puts-place _ c.loop-width.invariant (omega (arith, h)))

pub loop-width-preserved : goal.loop-width-preserved
loop-width-preserved c =
    let m = all-more _ c.sized-width-items.result c.loop-width.width-index c.sized-width-items.ensures c.loop-width-test.true in
    rw m (puts-append c.loop-width.invariant c.put_operand.ensures)

pub returns : goal.returns
returns c =
    let d = all-done _ c.sized-width-items.result c.loop-width.width-index c.sized-width-items.ensures c.loop-width-test.false in
    rw d at c.loop-width.invariant
