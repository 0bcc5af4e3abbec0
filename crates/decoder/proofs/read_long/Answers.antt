-- `decoder::read_long` meets its contract.
-- Assumes nothing.
use mathlib.Core.Path.{refl}
use native.Mathlib.Omega.{arith}
use Rattle.decoder.proofs.Heads.{head-cut, head-over, head-number, head-values, head_read}
use Rattle.decoder.proofs.read_long.Goals as goal

pub returns-then-s-n : goal.returns-then-s-n
returns-then-s-n c = head-cut c.args.s.now _ _ _ c.requires.1 refl refl (omega arith) c.if-s-n.true

pub number_in-number-requires : goal.number_in-number-requires
number_in-number-requires c = head-number c.args.s.now _ _ _ c.requires.1 c.code_of-code.ensures c.form_of-form.ensures (omega arith) c.if-s-n.false

pub returns-then-limit-number : goal.returns-then-limit-number
returns-then-limit-number c = head-over c.args.s.now _ _ _ c.requires.1 c.code_of-code.ensures c.form_of-form.ensures (omega arith)
    _ _ c.if-s-n.false c.number_in-number.ensures c.limit_in-limit.ensures c.if-limit-number.true

pub with_values-i-requires : goal.with_values-i-requires
with_values-i-requires c = head-values c.args.s.now _ _ _ c.requires.1 c.code_of-code.ensures c.form_of-form.ensures (omega arith)
    _ _ _ c.if-s-n.false c.width_in-at.ensures c.count_in.ensures c.flags_in.ensures

pub returns : goal.returns
returns c = head_read c.args.s.now _ _ _ c.requires.1 c.code_of-code.ensures c.form_of-form.ensures (omega arith)
    _ _ _ _ _ _ c.if-s-n.false c.number_in-number.ensures c.limit_in-limit.ensures c.if-limit-number.false
    c.width_in-at.ensures c.count_in.ensures c.flags_in.ensures c.with_values-i.ensures
