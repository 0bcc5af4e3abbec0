-- `glance::look_at` meets its contract: 2 where no row begins with the byte, 3 where its length is not there, else what the first byte leads to.
-- Assumes nothing.
use native.Mathlib.Omega.{arith}
use mathlib.Core.Path.{sym, ◌∙◌}
use lib.ListN.{get_or}
use Rattle.shapes.proofs.Looks.{Says, row-says, none-says}
use Rattle.glance.specs.Firsts.{turning}
use Rattle.glance.proofs.Firsts.{look_none, look-cut, look-led, not-turning, on-next}
use Rattle.glance.proofs.look_at.Goals as goal
use Rattle.glance.proofs.look_at.Goals.{In-Some}

-- what the row says of the byte at the address
says : (c : In-Some) → Says (get_or c.args.program.now c.args.at 0) c.in-Some.row.length c.in-Some.row.taken c.in-Some.row.pushed
says c = row-says _ _ (sym c.in-Some.is ∙ c.row.ensures)

pub returns-in_default : goal.returns-in_default
returns-in_default c = look_none _ _ _ _ c.requires.0 c.requires.1 (none-says _ (sym c.in_default.is ∙ c.row.ensures))

pub returns-then-program-at : goal.returns-then-program-at
returns-then-program-at c =
    let w = says (goal.at.returns-then-program-at c).In-Some in
    let l = w.long in
    let s = w.some in
    look-cut _ _ _ _ c.requires.0 c.requires.1 (λ z. omega arith) (omega arith)

pub look_on-requires : goal.look_on-requires
look_on-requires c =
    let w = says (goal.at.look_on-requires c).In-Some in
    let l = w.long in
    let s = w.some in
    let i = c.requires.0 in
    (omega arith, omega arith)

pub returns-then-follows : goal.returns-then-follows
returns-then-follows c =
    let w = says (goal.at.returns-then-follows c).In-Some in
    let l = w.long in
    let s = w.some in
    let t = not-turning (turning (get_or c.args.program.now c.args.at 0)) (sym c.follows.ensures ∙ c.if-follows.true) in
    on-next c.args.program.now _ _ _ _ (λ j. omega (arith, c.type_inv.program j)) (omega (arith, c.type_inv.program c.args.at)) (omega arith) t c.led.ensures
    ∙ look-led _ _ _ _ c.requires.0 c.requires.1 _ _ _ w (omega arith)

pub returns : goal.returns
returns c = c.look_on.ensures ∙ look-led _ _ _ _ c.requires.0 c.requires.1 _ _ _ (says (goal.at.returns c).In-Some) (omega arith)
