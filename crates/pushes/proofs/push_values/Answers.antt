-- `pushes::push_values` meets its contract: each return is one law of proofs/Values.antt, and what `push_all` asks of the program follows from
-- the law that the bytes of the values are as many as their count and the number of set flags.
-- Assumes nothing.
use Prim.Native.Nat.{◌+◌}
use native.Mathlib.Omega.{arith}
use mathlib.Core.Path.{◌≡◌, sym}
use lib.Count.{ones}
use Rattle.forms.specs.Form.{count_in, flags_in}
use Rattle.forms.specs.declared.Form.TheVariants.{Values}
use Rattle.pushes.proofs.Pushed.{bytes-ones, values-four}
use Rattle.pushes.proofs.Values.{none-past, values-illegal, values-cut, values-full, values-done}
use Rattle.pushes.proofs.push_values.Goals as goal

pub returns-then-flags-count-ne0 : goal.returns-then-flags-count-ne0
returns-then-flags-count-ne0 c =
    let s = c in
    λ m. sym (values-illegal s.requires.0 s.requires.1 s.args.depth m s.args.cells.now c.if-flags-count-ne0.true)

pub returns-then-program-end : goal.returns-then-program-end
returns-then-program-end c =
    let s = c in
    λ m. sym (values-cut s.requires.0 s.requires.1 s.args.depth m s.args.cells.now c.if-flags-count-ne0.false c.if-program-end.true)

pub returns-then-cells-depth : goal.returns-then-cells-depth
returns-then-cells-depth c =
    let s = c in
    λ m. sym (values-full s.requires.0 s.requires.1 s.args.depth m s.args.cells.now c.if-flags-count-ne0.false c.if-program-end.false (omega arith))

pub push_all-next-requires : goal.push_all-next-requires
push_all-next-requires c =
    let a = c.args in
    let f = none-past (flags_in Values a.first) (count_in Values a.first) c.if-flags-count-ne0.false in
    (omega (arith, bytes-ones (count_in Values a.first) (flags_in Values a.first) f), omega arith)

pub returns : goal.returns
returns c =
    let s = c in
    let f = c.if-flags-count-ne0.false in
    let count = count_in Values s.args.first in
    let flags = flags_in Values s.args.first in
    let e = c.push_all-next.ensures in
    let next : c.push_all-next.result ≡ s.args.address + 1 + count + ones flags =
    omega (arith, e.value, bytes-ones count flags (none-past flags count f)) in
    λ m.
    rw (next, e.cells_after, values-four count flags (omega arith) s.args.program.now (s.args.address + 1))
    (sym (values-done s.requires.0 s.requires.1 s.args.depth m s.args.cells.now f c.if-program-end.false (omega arith)))
