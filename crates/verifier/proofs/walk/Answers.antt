-- `verifier::walk` meets its contract: the loop keeps what the walk holds, and the count of addresses ahead falls.
-- Assumes nothing.
use Prim.Native.Nat.{ℕ, zero, suc}
use mathlib.Core.Path.{◌≡◌, refl, ap, ◌∙◌}
use mathlib.Core.List.{List, ◌∷◌}
use lib.ListN.{length, set, replicate, length-set, length-replicate}
use Rattle.std.specs.Prelude.{Some}
use Rattle.verifier.proofs.Loops.{Walking, walking_start, walking-inside, walking-size, walking-next, walking-refused, walking-accepted}
use Rattle.verifier.proofs.walk.Goals as goal
use Rattle.verifier.proofs.walk.Goals.{In-Some}

-- an address is due, and the map has a cell for each address
walking : (c : In-Some) → Walking c.args.program.now c.args.cells c.loop-due.map c.loop-due.pending.words (Some c.in-Some.at)
walking c = rw c.in-Some.is at c.loop-due.invariant.0

as_long : (c : In-Some) → length c.loop-due.map ≡ length c.args.program.now
as_long c = c.loop-due.invariant.1 ∙ length-set c.args.map.now 0 _ ∙ ap length c.requires.map_value ∙ length-replicate (length c.args.program.now) 65535

pub loop-due-init : goal.loop-due-init
loop-due-init c =
    let p = c.requires.cells_bound in
    let start = walking_start c.args.program.now c.args.cells _ c.args.map.now c.new-pending.result.words refl p.2 p.1 c.requires.map_value c.new-pending.ensures in
    (search start, refl)

pub examine-requires : goal.examine-requires
examine-requires c = let s = (goal.at.examine-requires c).In-Some in let w = walking s in (c.requires.cells_bound.0, walking-inside w, walking-size w, as_long s)

pub loop-due-smaller : goal.loop-due-smaller
loop-due-smaller c = rw c.in-Some.is (walking-next (walking (goal.at.loop-due-smaller c).In-Some) _ _ _ _ c.in-Ok.ensures c.take-due.ensures).1

pub loop-due-preserved : goal.loop-due-preserved
loop-due-preserved c = ((walking-next (walking (goal.at.loop-due-preserved c).In-Some) _ _ _ _ c.in-Ok.ensures c.take-due.ensures).0, c.examine.auto.map ∙ c.loop-due.invariant.1)

-- a wiped map stays so where 65,535 is written once more
wiped-again : (n i : ℕ) → set {A = ℕ} (replicate n 65535) i 65535 ≡ replicate n 65535
wiped-again zero i = refl
wiped-again (suc n) zero = refl
wiped-again (suc n) (suc i) = ap (λ (r : List ℕ). 65535 ∷ r) (wiped-again n i)

pub returns-in-Err : goal.returns-in-Err
returns-in-Err c =
    let s = (goal.at.returns-in-Err c).In-Some in
    let n = length c.examine.new.map in
    simp (c.fill.ensures.after (λ y e. e), wiped-again)
    (walking-refused (walking s) c.examine.new.map c.examine.new.pending.words _ c.in-Err.ensures n (replicate n 65535) refl (c.examine.auto.map ∙ as_long s))

pub returns : goal.returns
returns c = walking-accepted (rw c.in_default.is at c.loop-due.invariant.0)
