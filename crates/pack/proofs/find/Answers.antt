-- `pack::find` meets its contract.
-- Assumes nothing.
use mathlib.Core.Path.{sym, ◌∙◌}
use Rattle.pack.specs.Find.{find_of}
use Rattle.pack.proofs.Sounds.{counted}
use Rattle.pack.proofs.Tags.{halved-sought}
use Rattle.pack.proofs.find.Goals as goal

pub seek-requires : goal.seek-requires
seek-requires c = let k = counted c.args.pack.now _ (sym c.in_ok-entries.ensures) in
    (k.few, k.room)

pub returns : goal.returns
unfolding find_of
returns c = let a = c.args in
    let s = a.pack.now in
    let k = counted s _ (sym c.in_ok-entries.ensures) in
    simp k.read (c.seek.ensures ∙ halved-sought s _ a.tag k.few k.ends)
