-- `pack::check` meets its contract.
-- Assumes nothing.
use native.Mathlib.Omega.{arith}
use mathlib.Core.Path.{◌≡◌, sym, ap, ◌∙◌}
use borrow.Author.Tests.{le-ltb, eq-eqb}
use Rattle.basis.specs.Answer.{given}
use Rattle.pack.specs.Read.{count_of, read_of}
use Rattle.pack.proofs.Sounds.{ended-whole, length-entries}
use Rattle.pack.proofs.check.Goals as goal

pub number_at-requires : goal.number_at-requires
number_at-requires c = (omega arith, omega (arith, (ended-whole c.args.pack.now _ (sym c.in_ok-end.ensures)).head))

pub returns : goal.returns
unfolding read_of
returns c = let s = c.args.pack.now in
    let told : c.number_at.result ≡ count_of s = omega (arith, c.number_at.ensures) in
    simp (le-ltb _ _ c.if-pack-gt24576.false, sym c.in_ok-end.ensures, eq-eqb _ _ c.if-end-pack.false) (ap given (told ∙ sym (length-entries s)))
