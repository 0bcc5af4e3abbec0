-- `packer::entries` meets its contract: the lists that pass can be those of a pack.
-- Assumes nothing.
use Rattle.std.proofs.Common.{rules}
use Rattle.packer.proofs.entries.Goals as goal

pub invariant_of-result : goal.invariant_of-result
invariant_of-result c = search rules
