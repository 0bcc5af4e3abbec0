-- `pending::with` meets its contract: the digit set and the others.
-- Assumes nothing.
use Rattle.std.specs.Int.{w64}
use Rattle.std.proofs.lemmas.Nat.Bits.{bit_at_set_same, bit_at_set_other}
use Rattle.pending.proofs.with.Goals as goal

pub returns : goal.returns
returns c = (bit_at_set_same w64 c.args.w c.args.t c.requires, bit_at_set_other w64 c.args.w c.args.t c.requires)
