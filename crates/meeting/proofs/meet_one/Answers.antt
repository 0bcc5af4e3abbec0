-- `meeting::meet_one` meets its contract: by what meeting gave.
-- Assumes nothing.
use Rattle.std.proofs.lemmas.Result.{err_from_is_err_and}
use Rattle.meeting.proofs.Steps.{one-new, one-known, one-refused}
use Rattle.meeting.proofs.meet_one.Goals as goal

pub returns-in_err-meet : goal.returns-in_err-meet
returns-in_err-meet c = let p = err_from_is_err_and c.from_residual.result c.from_residual.ensures.1 in rw (p.1, p.2) (one-refused _ c.meet.new.map _ _ _ c.in_err-meet.ensures.0)

pub returns-in-New : goal.returns-in-New
returns-in-New c = one-new _ _ _ _ (rw c.in-New.is at c.in_ok-meet.ensures.0)

pub returns-in-Known : goal.returns-in-Known
returns-in-Known c = one-known _ _ _ _ (rw c.in-Known.is at c.in_ok-meet.ensures.0)
