-- `listing::lines_length` meets its contract.
-- Assumes nothing.
use native.Mathlib.Omega.{arith}
use mathlib.Core.Path.{ap}
use lib.ListN.{length, length-append}
use Rattle.basis.specs.Refusal.{number_of, answer_of}
use Rattle.lines.proofs.Written.{length-any}
use Rattle.listing.proofs.lines_length.Goals as goal

pub loop-place-preserved : goal.loop-place-preserved
loop-place-preserved c =
    let x = c.in-Some.place in
    let e = c.line_length-n.ensures number_of in
    record {
      can = tt;
      ends = tt;
      short = omega (arith, e.1, c.in-Some.ensures.goes.on tt);
      so_far = omega (arith, e.0, length-any x.address (answer_of x.answer) x.byte, simp length-append at (ap length c.in-Some.ensures.steps));
    }
