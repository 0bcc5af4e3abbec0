-- `listing::walk::Walk::next` meets its contract.
-- Assumes nothing.
use native.Mathlib.Omega.{arith}
use mathlib.Core.Path.{sym}
use borrow.Author.Tests.{ltb-true, ltb-false}
use Rattle.basis.specs.Refusal.{number_of}
use Rattle.listing.proofs.Listings.{step-inside, left-first, left-none}
use Rattle.listing.proofs.walk.WalkIterator.next.Goals as goal

pub returns-in_err-byte-clause-steps : goal.returns-in_err-byte-clause-steps
returns-in_err-byte-clause-steps c = rw c.from_residual.ensures (left-none c.args.self.now (ltb-false _ _ (sym c.in_err-byte.ensures.lookup.0)))

pub overflow_add-self : goal.overflow_add-self
overflow_add-self c =
    let s = step-inside c.args.self.now c.decode_by-answer.result _ (ltb-true _ _ (sym c.in_ok-byte.ensures.lookup.0)) c.decode_by-answer.ensures (c.step_of.ensures number_of) in
    omega (arith, s, c.args.self.now.within)

pub returns-clause-steps : goal.returns-clause-steps
returns-clause-steps c =
    let here = c.in_ok-byte.ensures.lookup.3.1 0 in
    left-first c.args.self.now c.decode_by-answer.result _ (ltb-true _ _ (sym c.in_ok-byte.ensures.lookup.0)) c.decode_by-answer.ensures (c.step_of.ensures number_of) _ (omega (arith, here))

pub returns-clause-goes : goal.returns-clause-goes
returns-clause-goes c =
    let s = step-inside c.args.self.now c.decode_by-answer.result _ (ltb-true _ _ (sym c.in_ok-byte.ensures.lookup.0)) c.decode_by-answer.ensures (c.step_of.ensures number_of) in
    record { on = λ _. (tt, tt, omega (arith, s)); keeps = tt; rests = λ _. tt }
