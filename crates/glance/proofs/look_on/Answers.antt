-- `glance::look_on` meets its contract: each arm is its first byte, and every other first byte goes on.
-- Assumes nothing.
use native.Mathlib.Omega.{arith}
use mathlib.Core.Path.{◌≡◌, refl, ap, ◌∙◌}
use borrow.Author.Rules.{rules}
use borrow.Author.Tests.{ne_eqb}
use Rattle.forms.specs.Form.{length_of}
use Rattle.basis.specs.Number.{number_at}
use Rattle.isa.specs.declared.Way.{Way}
use Rattle.paths.specs.Paths.{Outcome}
use Rattle.look.specs.Look.{on_way}
use Rattle.glance.specs.Firsts.{after_of, first_on}
use Prim.Native.Nat.{ℕ, ◌+◌, ◌≤◌}
use lib.ListN.{length, get_or}
use Rattle.std.proofs.Common.{Fits, w8}
use Rattle.glance.proofs.Firsts.{Leads, inside, on-number, on-shift, on-next, shifts-31, shifts-32}
use Rattle.glance.proofs.Firsts.{leads-00, leads-05, leads-06, leads-07, leads-08, leads-09, leads-0a, leads-3b, leads-3c, leads-3d, leads-3e, leads-3f, leads-40, leads-55, leads-56, leads-57, leads-58, leads-59, leads-5a}
use Rattle.glance.proofs.look_on.Goals as goal
use Rattle.glance.proofs.look_on.Goals.{Start}

-- where the first byte leads by a number of so many bytes, they are there, and it leads by them
module _ (c : Start) where
  reads : {b width : ℕ} {to : ℕ → Way} → Leads b width to → c.args.first ≡ b → c.args.at + 1 + width ≤ length c.args.program.now
  reads e k = inside _ _ _ e _ _ _ k c.requires.0

  arm :
      ((j : ℕ) → Fits w8 (get_or c.args.program.now j 0)) → {b width : ℕ} {to : ℕ → Way} → Leads b width to → c.args.first ≡ b → (x : ℕ) → x ≡ number_at width c.args.program.now (c.args.at + 1) → {o : Outcome}
      → o ≡ on_way c.args.found.next (to x) (after_of c.args.found) → o ≡ first_on c.args.program.now c.args.at c.args.first c.args.found
  arm bytes e k x q {o} = on-number c.args.program.now c.args.at c.args.found _ o (λ j. omega (arith, bytes j)) _ _ _ e k x q

pub shifted-requires : goal.shifted-requires
shifted-requires c = let l = ap length_of c.in-49.is ∙ shifts-31.long in let p = c.requires.0 in omega arith

pub shifted-requires-in-50 : goal.shifted-requires-in-50
shifted-requires-in-50 c = let l = ap length_of c.in-50.is ∙ shifts-32.long in let p = c.requires.0 in omega arith

pub number_at-requires : goal.number_at-requires
number_at-requires c = let h = reads (goal.at.number_at-requires c).Start leads-3b c.in-59.is in (omega arith, omega arith)

pub number_at-requires-in-60 : goal.number_at-requires-in-60
number_at-requires-in-60 c = let h = reads (goal.at.number_at-requires-in-60 c).Start leads-3c c.in-60.is in (omega arith, omega arith)

pub number_at-requires-in-61 : goal.number_at-requires-in-61
number_at-requires-in-61 c = let h = reads (goal.at.number_at-requires-in-61 c).Start leads-3d c.in-61.is in (omega arith, omega arith)

pub number_at-requires-in-62 : goal.number_at-requires-in-62
number_at-requires-in-62 c = let h = reads (goal.at.number_at-requires-in-62 c).Start leads-3e c.in-62.is in (omega arith, omega arith)

pub number_at-requires-in-63 : goal.number_at-requires-in-63
number_at-requires-in-63 c = let h = reads (goal.at.number_at-requires-in-63 c).Start leads-3f c.in-63.is in (omega arith, omega arith)

pub number_at-requires-in-64 : goal.number_at-requires-in-64
number_at-requires-in-64 c = let h = reads (goal.at.number_at-requires-in-64 c).Start leads-40 c.in-64.is in (omega arith, omega arith)

pub number_at-requires-in-85 : goal.number_at-requires-in-85
number_at-requires-in-85 c = let h = reads (goal.at.number_at-requires-in-85 c).Start leads-55 c.in-85.is in (omega arith, omega arith)

pub number_at-requires-in-86 : goal.number_at-requires-in-86
number_at-requires-in-86 c = let h = reads (goal.at.number_at-requires-in-86 c).Start leads-56 c.in-86.is in (omega arith, omega arith)

pub number_at-requires-in-87 : goal.number_at-requires-in-87
number_at-requires-in-87 c = let h = reads (goal.at.number_at-requires-in-87 c).Start leads-57 c.in-87.is in (omega arith, omega arith)

pub number_at-requires-in-88 : goal.number_at-requires-in-88
number_at-requires-in-88 c = let h = reads (goal.at.number_at-requires-in-88 c).Start leads-58 c.in-88.is in (omega arith, omega arith)

pub number_at-requires-in-89 : goal.number_at-requires-in-89
number_at-requires-in-89 c = let h = reads (goal.at.number_at-requires-in-89 c).Start leads-59 c.in-89.is in (omega arith, omega arith)

pub number_at-requires-in-90 : goal.number_at-requires-in-90
number_at-requires-in-90 c = let h = reads (goal.at.number_at-requires-in-90 c).Start leads-5a c.in-90.is in (omega arith, omega arith)

pub returns-in-0 : goal.returns-in-0
returns-in-0 c = arm (goal.at.returns-in-0 c).Start c.type_inv.program leads-00 c.in-0.is 0 refl c.led.ensures

pub returns-in-5 : goal.returns-in-5
returns-in-5 c = arm (goal.at.returns-in-5 c).Start c.type_inv.program leads-05 c.in-5.is 0 refl c.led-in-5.ensures

pub returns-in-6 : goal.returns-in-6
returns-in-6 c = arm (goal.at.returns-in-6 c).Start c.type_inv.program leads-06 c.in-6.is 0 refl c.led-in-6.ensures

pub returns-in-7 : goal.returns-in-7
returns-in-7 c = arm (goal.at.returns-in-7 c).Start c.type_inv.program leads-07 c.in-7.is 0 refl c.led-in-7.ensures

pub returns-in-8 : goal.returns-in-8
returns-in-8 c = arm (goal.at.returns-in-8 c).Start c.type_inv.program leads-08 c.in-8.is 0 refl c.led-in-8.ensures

pub returns-in-9 : goal.returns-in-9
returns-in-9 c = arm (goal.at.returns-in-9 c).Start c.type_inv.program leads-09 c.in-9.is 0 refl c.led-in-9.ensures

pub returns-in-10 : goal.returns-in-10
returns-in-10 c = arm (goal.at.returns-in-10 c).Start c.type_inv.program leads-0a c.in-10.is 0 refl c.led-in-10.ensures

pub returns-in-49 : goal.returns-in-49
returns-in-49 c = on-shift _ _ _ _ _ 0x31 shifts-31 c.in-49.is c.shifted.ensures

pub returns-in-50 : goal.returns-in-50
returns-in-50 c = on-shift _ _ _ _ _ 0x32 shifts-32 c.in-50.is c.shifted-in-50.ensures

pub returns-in-59 : goal.returns-in-59
returns-in-59 c = arm (goal.at.returns-in-59 c).Start c.type_inv.program leads-3b c.in-59.is _ c.number_at.ensures c.led-in-59.ensures

pub returns-in-60 : goal.returns-in-60
returns-in-60 c = arm (goal.at.returns-in-60 c).Start c.type_inv.program leads-3c c.in-60.is _ c.number_at-in-60.ensures c.led-in-60.ensures

pub returns-in-61 : goal.returns-in-61
returns-in-61 c = arm (goal.at.returns-in-61 c).Start c.type_inv.program leads-3d c.in-61.is _ c.number_at-in-61.ensures c.led-in-61.ensures

pub returns-in-62 : goal.returns-in-62
returns-in-62 c = arm (goal.at.returns-in-62 c).Start c.type_inv.program leads-3e c.in-62.is _ c.number_at-in-62.ensures c.led-in-62.ensures

pub returns-in-63 : goal.returns-in-63
returns-in-63 c = arm (goal.at.returns-in-63 c).Start c.type_inv.program leads-3f c.in-63.is _ c.number_at-in-63.ensures c.led-in-63.ensures

pub returns-in-64 : goal.returns-in-64
returns-in-64 c = arm (goal.at.returns-in-64 c).Start c.type_inv.program leads-40 c.in-64.is _ c.number_at-in-64.ensures c.led-in-64.ensures

pub returns-in-85 : goal.returns-in-85
returns-in-85 c = arm (goal.at.returns-in-85 c).Start c.type_inv.program leads-55 c.in-85.is _ c.number_at-in-85.ensures c.led-in-85.ensures

pub returns-in-86 : goal.returns-in-86
returns-in-86 c = arm (goal.at.returns-in-86 c).Start c.type_inv.program leads-56 c.in-86.is _ c.number_at-in-86.ensures c.led-in-86.ensures

pub returns-in-87 : goal.returns-in-87
returns-in-87 c = arm (goal.at.returns-in-87 c).Start c.type_inv.program leads-57 c.in-87.is _ c.number_at-in-87.ensures c.led-in-87.ensures

pub returns-in-88 : goal.returns-in-88
returns-in-88 c = arm (goal.at.returns-in-88 c).Start c.type_inv.program leads-58 c.in-88.is _ c.number_at-in-88.ensures c.led-in-88.ensures

pub returns-in-89 : goal.returns-in-89
returns-in-89 c = arm (goal.at.returns-in-89 c).Start c.type_inv.program leads-59 c.in-89.is _ c.number_at-in-89.ensures c.led-in-89.ensures

pub returns-in-90 : goal.returns-in-90
returns-in-90 c = arm (goal.at.returns-in-90 c).Start c.type_inv.program leads-5a c.in-90.is _ c.number_at-in-90.ensures c.led-in-90.ensures

pub returns-in_default : goal.returns-in_default
returns-in_default c = let n = c.in_default.in_default-own.rest in on-next _ _ _ _ _ (λ j. omega (arith, c.type_inv.program j)) (search rules) c.requires.1 (simp (ne_eqb _ _ n.0.0.0.0.0.0.0.0.0.0.0.0.0.0.0.0.0.0.0.0.1, ne_eqb _ _ n.0.0.0.0.0.0.0.0.0.0.0.0.0.0.0.0.0.0.0.1, ne_eqb _ _ n.0.0.0.0.0.0.0.0.0.0.0.0.0.0.0.0.0.0.1, ne_eqb _ _ n.0.0.0.0.0.0.0.0.0.0.0.0.0.0.0.0.0.1, ne_eqb _ _ n.0.0.0.0.0.0.0.0.0.0.0.0.0.0.0.0.1, ne_eqb _ _ n.0.0.0.0.0.0.0.0.0.0.0.0.0.0.0.1, ne_eqb _ _ n.0.0.0.0.0.0.0.0.0.0.0.0.0.0.1, ne_eqb _ _ n.0.0.0.0.0.0.0.0.0.0.0.0.0.1, ne_eqb _ _ n.0.0.0.0.0.0.0.0.0.0.0.0.1, ne_eqb _ _ n.0.0.0.0.0.0.0.0.0.0.0.1, ne_eqb _ _ n.0.0.0.0.0.0.0.0.0.0.1, ne_eqb _ _ n.0.0.0.0.0.0.0.0.0.1, ne_eqb _ _ n.0.0.0.0.0.0.0.0.1, ne_eqb _ _ n.0.0.0.0.0.0.0.1, ne_eqb _ _ n.0.0.0.0.0.0.1, ne_eqb _ _ n.0.0.0.0.0.1, ne_eqb _ _ n.0.0.0.0.1, ne_eqb _ _ n.0.0.0.1, ne_eqb _ _ n.0.0.1, ne_eqb _ _ n.0.1, ne_eqb _ _ n.1)) c.led-in_default.ensures
