-- `decoder::read_head` meets its contract: the row says whether an instruction begins here, and how long it is.
-- Assumes nothing.
use mathlib.Core.Path.{sym, ◌∙◌}
use Rattle.shapes.proofs.Looks.{row-says, none-says}
use Rattle.decoder.proofs.Heads.{head-none}
use Rattle.decoder.proofs.read_head.Goals as goal

pub read_long-requires : goal.read_long-requires
read_long-requires c = let w = row-says _ _ (sym c.in-Some.is ∙ c.row.ensures) in (c.requires, w.long, w.some)

pub returns-in-None : goal.returns-in-None
returns-in-None c = head-none c.args.s.now (none-says _ (sym c.in-None.is ∙ c.row.ensures))
