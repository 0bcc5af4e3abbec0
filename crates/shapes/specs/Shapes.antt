-- The table of shapes: "for each of the 256 first bytes, length, values taken and values pushed".
use Rattle.std.specs.Prelude.{ℕ, zero, suc, List, [], ◌∷◌, ◌++◌, Option, Some, None, eqb}
use Rattle.basis.specs.Pick.{pick}
use Rattle.forms.specs.Form.{form_of, code_of, count_in, length_of}
use Rattle.isa.specs.Shape.{taken_in, pushed_in}
use Rattle.shapes.specs.declared.row.Row.{Row}

-- length, values taken, values pushed
abbrev pub row : ℕ → ℕ → ℕ → Row
row length taken pushed = record { length = length; taken = taken; pushed = pushed }

-- the row of a first byte, by the opcode definition (forms/specs/Form, isa/specs/Op and Shape), on which the definitions of decoder,
-- step and verifier stand; "Illegal bytes have a row of their own kind": none
unfoldable pub shape_of : ℕ → Option Row
shape_of b =
    pick (eqb (length_of b) 0) None
    (Some (row (length_of b) (taken_in (code_of b)) (pushed_in (code_of b) (count_in (form_of (code_of b)) b))))

-- its three numbers in the table; 0 for each where no instruction begins with the byte
abbrev pub numbers_of : Option Row → List ℕ
numbers_of (Some r) = r.length ∷ r.taken ∷ r.pushed ∷ []
numbers_of None = 0 ∷ 0 ∷ 0 ∷ []

-- the rows of the n first bytes from b, one after another
abbrev pub rows_from : ℕ → ℕ → List ℕ
rows_from b zero = []
rows_from b (suc n) = numbers_of (shape_of b) ++ rows_from (suc b) n

-- the whole table
unfoldable pub shape_rows : List ℕ
shape_rows = rows_from 0 256
