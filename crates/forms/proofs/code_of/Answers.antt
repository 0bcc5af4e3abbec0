-- `forms::code_of` meets its contract.
-- Assumes nothing.
use borrow.Author.Tests.{lt-ltb, le-ltb}
use Rattle.forms.specs.Form.{code_of}
use Rattle.forms.proofs.code_of.Goals as goal

pub returns-then-first-lt128 : goal.returns-then-first-lt128
unfolding code_of
returns-then-first-lt128 c = simp (lt-ltb _ _ c.if-first-lt128.true)

pub returns : goal.returns
unfolding code_of
returns c = simp (le-ltb _ _ c.if-first-lt128.false, le-ltb _ _ c.if-first-lt192.false)
