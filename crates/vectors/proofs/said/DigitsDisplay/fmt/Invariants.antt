use Rattle.std.proofs.Common.{◌*◌, map, take}
use Rattle.std.specs.List.{flat_map}
use Rattle.std.specs.Fmt.{HasWritten, IsPlainFormatter}
use Rattle.vectors.specs.Said.{hex_text}
use Rattle.vectors.proofs.said.DigitsDisplay.fmt.Given as goal

abbrev pub invariant-loop-element : goal.invariant-loop-element
invariant-loop-element g l =
    IsPlainFormatter l.initial.f
    → HasWritten g.W.Write.write_str_gives l.initial.f (flat_map (hex_text (2 * g.T.Element.SIZE)) (map g.T.Element.value (take l.element-index l.element-items))) l.f
