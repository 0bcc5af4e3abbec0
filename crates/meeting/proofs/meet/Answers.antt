-- `meeting::meet` meets its contract: the cell tells the mark.
-- Assumes nothing.
use native.Mathlib.Omega.{arith}
use Rattle.meeting.proofs.Turns.{meet-known, meet-clash, meet-past}
use Rattle.meeting.proofs.meet.Goals as goal

pub returns-then-b-map : goal.returns-then-b-map
returns-then-b-map c = (λ marks m. meet-past m _ _ (omega arith), tt)

pub returns-then-depth-e : goal.returns-then-depth-e
returns-then-depth-e c = (λ marks m. (meet-known m _ (omega arith) c.if-depth-eq65535.false _ c.if-depth-e.true, m), tt)

pub returns : goal.returns
returns c = (λ marks m. meet-clash m _ (omega arith) c.if-depth-eq65535.false _ c.if-depth-e.false, tt)
