-- `pack::entry_at` meets its contract.
-- Assumes nothing.
use Prim.Native.Nat.{◌+◌, ◌*◌}
use native.Mathlib.Omega.{arith}
use mathlib.Core.Path.{◌≡◌, sym, ap, ◌∙◌}
use Rattle.std.specs.Prelude.{Some}
use Rattle.basis.specs.Answer.{given}
use Rattle.pack.specs.Contents.{entry_at}
use Rattle.pack.specs.declared.Entry.{Entry}
use Rattle.pack.proofs.Sounds.{counted, entry-there}
use Rattle.pack.proofs.entry_at.Goals as goal

pub overflow_mul-index : goal.overflow_mul-index
overflow_mul-index c = omega (arith, (counted c.args.pack.now _ (sym c.in_ok-n.ensures)).few)

pub overflow_add-index : goal.overflow_add-index
overflow_add-index c = omega (arith, (counted c.args.pack.now _ (sym c.in_ok-n.ensures)).few)

pub read_entry-requires : goal.read_entry-requires
read_entry-requires c = omega (arith, (counted c.args.pack.now _ (sym c.in_ok-n.ensures)).room)

pub returns : goal.returns
returns c = let s = c.args.pack.now in
    let e : c.read_entry.result ≡ entry_at s (2 + 8 * c.args.index) = c.read_entry.ensures in
    ap (λ (e : Entry). given (Some e)) e ∙ sym (entry-there s _ c.args.index (counted s _ (sym c.in_ok-n.ensures)) c.if-n-index.false)
