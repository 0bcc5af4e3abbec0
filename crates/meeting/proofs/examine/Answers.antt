-- `meeting::examine` meets its contract: by what the address leads to.
-- Assumes nothing.
use native.Mathlib.Omega.{arith}
use Rattle.std.specs.Prelude.{None, Ok}
use Rattle.look.specs.Look.{look_of}
use Rattle.meeting.proofs.Steps.{went-none, turned-leads, one-deep, two-deep}
use Rattle.meeting.proofs.examine.Goals as goal

pub meet_one-requires : goal.meet_one-requires
meet_one-requires c = let l = one-deep _ _ _ _ _ _ (rw c.in-One.is at c.in_ok-look_at.ensures) in let p = c.requires.0 in omega arith

pub meet_two-requires : goal.meet_two-requires
meet_two-requires c = let l = two-deep _ _ _ _ _ _ _ (rw c.in-Two.is at c.in_ok-look_at.ensures) in let p = c.requires.0 in (omega arith, c.requires.2)

pub returns-in-Nowhere : goal.returns-in-Nowhere
returns-in-Nowhere c = turned-leads (look_of c.args.program.now c.args.cells) _ _ _ _ _ _ (Ok None) (rw c.in-Nowhere.is at c.in_ok-look_at.ensures) (went-none _ _)

pub returns-in-One : goal.returns-in-One
returns-in-One c = turned-leads (look_of c.args.program.now c.args.cells) _ _ _ _ _ _ c.meet_one.result (rw c.in-One.is at c.in_ok-look_at.ensures) (c.meet_one.ensures _)

pub returns-in-Two : goal.returns-in-Two
returns-in-Two c = turned-leads (look_of c.args.program.now c.args.cells) _ _ _ _ _ _ c.meet_two.result (rw c.in-Two.is at c.in_ok-look_at.ensures) c.meet_two.ensures
