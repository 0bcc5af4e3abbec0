-- `shapes::table::rows` meets its contract: the one computed test, over all 256 rows, that ties the table to the opcode definition.
-- Assumes nothing.
use mathlib.Core.Path.{refl}
use lib.Count.{ones}
use Rattle.forms.specs.Form.{form_of, code_of, length_of}
use Rattle.isa.specs.Op.{op_in}
use Rattle.isa.specs.Shape.{taken_in, pushed_in}
use Rattle.shapes.specs.Shapes.{shape_of, shape_rows}
use Rattle.shapes.proofs.table.rows.Goals as goal

pub returns : goal.returns
unfolding shape_rows shape_of length_of form_of code_of ones taken_in pushed_in op_in
returns c = refl
