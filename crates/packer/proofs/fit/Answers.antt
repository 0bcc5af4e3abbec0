-- `packer::fit` meets its contract.
-- Assumes nothing.
use Prim.Native.Nat.{◌+◌}
use native.Mathlib.Omega.{arith}
use mathlib.Core.Path.{◌≡◌, ap}
use lib.ListN.{length}
use borrow.Author.Tests.{lt-ltb, le-ltb, eq-eqb}
use Rattle.basis.specs.Answer.{given}
use Rattle.pack.specs.Contents.{first_of}
use Rattle.packer.proofs.Puts.{length-pack}
use Rattle.packer.proofs.fit.Goals as goal

pub returns-then-room-end : goal.returns-then-room-end
returns-then-room-end c = let a = c.args in
    λ es b p q. rw (eq-eqb a.end (first_of (length es) + length b) (omega arith), le-ltb _ _ c.if-end-gt24576.false, length-pack es b, lt-ltb a.room (first_of (length es) + length b) (omega arith))

pub returns : goal.returns
returns c = let a = c.args in
    λ es b p q.
    let z : a.end ≡ first_of (length es) + length b = omega arith in
    rw (eq-eqb _ _ z, le-ltb _ _ c.if-end-gt24576.false, length-pack es b, le-ltb a.room (first_of (length es) + length b) (omega arith), length-pack es b) (ap given z)
