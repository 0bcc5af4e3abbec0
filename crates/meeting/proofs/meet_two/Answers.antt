-- `meeting::meet_two` meets its contract: one is met, then the other.
-- Assumes nothing.
use mathlib.Core.List.{[], ◌∷◌}
use Rattle.std.proofs.lemmas.Result.{err_from_is_err_and}
use Rattle.paths.specs.Paths.{hop}
use Rattle.meeting.proofs.Steps.{two-new, two-known, two-refused, two-refused-first}
use Rattle.meeting.proofs.meet_two.Goals as goal

pub returns-in_err-beside : goal.returns-in_err-beside
returns-in_err-beside c =
    let p = err_from_is_err_and c.from_residual.result c.from_residual.ensures.1 in
    rw (p.1, p.2) (two-refused-first _ c.meet_one.new.map _ _ _ c.in_err-beside.ensures (hop c.args.x c.args.e ∷ []) _)

pub returns-in_err-meet : goal.returns-in_err-meet
returns-in_err-meet c =
    let p = err_from_is_err_and c.from_residual-in_err-meet.result c.from_residual-in_err-meet.ensures.1 in
    rw (p.1, p.2) (two-refused _ _ _ _ _ c.in_ok-beside.ensures c.meet.new.map _ _ _ c.in_err-meet.ensures.0 _)

pub returns-in-New : goal.returns-in-New
returns-in-New c = two-new _ _ _ _ _ c.in_ok-beside.ensures _ _ _ (rw c.in-New.is at c.in_ok-meet.ensures.0) _ _ c.put.ensures

pub returns-in-Known : goal.returns-in-Known
returns-in-Known c = two-known _ _ _ _ _ c.in_ok-beside.ensures _ _ _ (rw c.in-Known.is at c.in_ok-meet.ensures.0) _
