-- `names::rows` meets its contract: the table is compared with the names, byte by byte.
-- Assumes nothing.
use mathlib.Core.Path.{refl}
use Rattle.names.specs.Rows.{name_rows}
use Rattle.names.proofs.rows.Goals as goal

pub returns : goal.returns
unfolding name_rows
returns c = refl
