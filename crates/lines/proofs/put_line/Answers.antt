-- `lines::put_line` meets its contract.
-- Assumes nothing.
use native.Mathlib.Omega.{arith}
use mathlib.Core.List.{[], ◌∷◌}
use Rattle.basis.specs.Refusal.{answer_by}
use Rattle.text.specs.Pen.{Puts}
use Rattle.text.proofs.Puts.{puts-append, puts-place}
use Rattle.lines.specs.Line.{line_of}
use Rattle.lines.proofs.Written.{length-said, length-line}
use Rattle.lines.proofs.put_line.Goals as goal

pub put-requires-2 : goal.put-requires-2
put-requires-2 g c =
    let d = answer_by c.requires.0 c.args.answer.now in
    let before = puts-append c.put_hex.ensures (puts-append c.put.ensures (c.put_said.ensures c.requires.0)) in
    puts-place _ before (omega (arith, c.requires.1, length-line 0 d 0, length-said d c.args.byte))

pub returns : goal.returns
unfolding line_of
returns g c number =
    let ended : Puts (10 ∷ []) c.put_said.new.pen c.put-2.new.self = c.put-2.ensures in
    puts-append c.put_hex.ensures (puts-append c.put.ensures (puts-append (c.put_said.ensures number) ended))
