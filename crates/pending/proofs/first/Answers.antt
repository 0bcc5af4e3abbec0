-- `pending::first` meets its contract: the lowest digit of the first word that is not 0.
-- Assumes nothing.
use Rattle.pending.proofs.Words.{first-is}
use native.Mathlib.Omega.{arith}
use Rattle.pending.proofs.first.Goals as goal

pub returns : goal.returns
returns c = first-is c.args.words.now c.args.j (omega (arith, c.type_inv.words c.args.j)) c.requires.2 c.requires.3
