-- `operands::operands_length` meets its contract.
-- Assumes nothing.
use native.Mathlib.Omega.{arith}
use mathlib.Core.Path.{ap}
use lib.ListN.{length, length-append}
use Rattle.operands.proofs.Shown.{length-operand, sized-le, all-more, all-done}
use Rattle.operands.proofs.operands_length.Goals as goal

pub operand_length-n-requires : goal.operand_length-n-requires
operand_length-n-requires c = sized-le _ _ c.loop-width.width-index c.sized-width-items.ensures

pub loop-width-preserved : goal.loop-width-preserved
loop-width-preserved c =
    let m = all-more _ c.sized-width-items.result c.loop-width.width-index c.sized-width-items.ensures c.loop-width-test.true in
    (rw (m, length-append) (omega (arith, length-operand)), omega arith)

pub returns : goal.returns
returns c =
    let d = all-done _ c.sized-width-items.result c.loop-width.width-index c.sized-width-items.ensures c.loop-width-test.false in
    (omega (arith, ap length d), omega arith)
