-- `listing::put_lines` meets its contract.
-- Assumes nothing.
use native.Mathlib.Omega.{arith}
use mathlib.Core.Path.{ap}
use mathlib.Core.List.{◌++◌, append_assoc}
use lib.ListN.{length, length-append}
use Rattle.basis.specs.Refusal.{number_of, answer_of}
use Rattle.text.proofs.Puts.{puts-append, puts-place}
use Rattle.lines.proofs.Written.{length-any}
use Rattle.listing.specs.Walk.{left, text_of}
use Rattle.listing.specs.declared.walk.Walk.{Walk}
use Rattle.listing.proofs.put_lines.Goals as goal

pub put_line-requires : goal.put_line-requires
put_line-requires c =
    let x = c.in-Some.place in
    let so_far = c.loop-place.invariant.so_far in (
      number_of,
      puts-place _ so_far.1.0 (omega (
        arith,
        c.requires,
        ap (λ (w : Walk). length (left w)) c.into_iter-place-iterator.ensures.into_iter_gives,
        simp length-append at (ap length so_far.1.1),
        simp length-append at (ap length c.in-Some.ensures.steps),
        length-any x.address (answer_of x.answer) x.byte,
      )),
    )

pub loop-place-preserved : goal.loop-place-preserved
loop-place-preserved c =
    let so_far = c.loop-place.invariant.so_far in
    record {
      can = tt;
      ends = tt;
      so_far = (so_far.0 ++ text_of c.in-Some.place, (puts-append so_far.1.0 (c.put_line.ensures number_of), rw (append_assoc, ← c.in-Some.ensures.steps) so_far.1.1));
    }
