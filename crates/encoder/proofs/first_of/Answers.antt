-- `encoder::first_of` meets its contract.
-- Assumes nothing.
use mathlib.Core.Path.{◌≡◌, sym, ◌∙◌}
use native.Mathlib.Omega.{arith}
use Rattle.forms.specs.declared.Form.TheVariants.{Short, Values}
use Rattle.forms.specs.Form.{form_of}
use Rattle.encoder.proofs.Wells.{well, well-count, well-flags, count-pos}
use Rattle.encoder.proofs.first_of.Goals as goal

pub overflow_add-result : goal.overflow_add-result
overflow_add-result c = let i = c.args.i in let e : form_of i.code ≡ Short = sym c.form_of-f.ensures ∙ c.in-Short.is in let w = well i c.requires in let l = rw e at w.number in omega arith

pub overflow_cast-result : goal.overflow_cast-result
overflow_cast-result c = let i = c.args.i in let e : form_of i.code ≡ Short = sym c.form_of-f.ensures ∙ c.in-Short.is in let w = well i c.requires in let l = rw e at w.number in omega arith

pub overflow_mul-result : goal.overflow_mul-result
overflow_mul-result c = let i = c.args.i in let e : form_of i.code ≡ Values = sym c.form_of-f.ensures ∙ c.in-Values.is in let w = well i c.requires in omega (arith, well-count i w, well-flags i w, count-pos i.count (rw e at w.count))

pub overflow_add-result-in-Values : goal.overflow_add-result-in-Values
overflow_add-result-in-Values c = let i = c.args.i in let e : form_of i.code ≡ Values = sym c.form_of-f.ensures ∙ c.in-Values.is in let w = well i c.requires in omega (arith, well-count i w, well-flags i w, count-pos i.count (rw e at w.count))

pub overflow_sub-result : goal.overflow_sub-result
overflow_sub-result c = let i = c.args.i in let e : form_of i.code ≡ Values = sym c.form_of-f.ensures ∙ c.in-Values.is in let w = well i c.requires in omega (arith, well-count i w, well-flags i w, count-pos i.count (rw e at w.count))

pub overflow_add-result-in-Values-2 : goal.overflow_add-result-in-Values-2
overflow_add-result-in-Values-2 c = let i = c.args.i in let e : form_of i.code ≡ Values = sym c.form_of-f.ensures ∙ c.in-Values.is in let w = well i c.requires in omega (arith, well-count i w, well-flags i w, count-pos i.count (rw e at w.count))
