-- `arrival::store` meets its contract.
-- Assumes nothing.
use mathlib.Core.Path.{refl}
use Rattle.admission.specs.Admission.{mach}
use Rattle.arrival.proofs.Runs.{stored-contents, stored-body, of-contents, of-body}
use Rattle.arrival.proofs.store.Goals as goal

pub returns-then-k-st : goal.returns-then-k-st
returns-then-k-st c = λ map verdicts. let a = c.args in let p = c.requires in let t = c.if-k-st.true in let e = c.put_text.ensures in
    stored-contents (mach a.st a.contents.now a.body.now map verdicts) a.part.now (record { want = p.1.want; none = p.1.early t }) (of-contents _ a.st a.contents.now p.0 t) _ _ refl e.room

pub returns : goal.returns
returns c = λ map verdicts. let a = c.args in let p = c.requires in let t = c.if-k-st.false in let e = c.put_text-2.ensures in
    stored-body (mach a.st a.contents.now a.body.now map verdicts) a.part.now (of-body _ a.st a.contents.now p.0 t) _ _ refl e.room
