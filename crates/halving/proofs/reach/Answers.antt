-- `halving::reach` meets its contract.
-- Assumes nothing.
use Prim.Native.Nat.{ℕ}
use native.Mathlib.Omega.{arith}
use mathlib.Core.Path.{◌≡◌, refl}
use borrow.Author.Tests.{lt-ltb, le-ltb}
use Rattle.halving.specs.Halving.{rounds_of}
use Rattle.halving.proofs.Steps.{reached-by, reached-one}
use Rattle.halving.proofs.reach.Goals as goal

pub returns-then-n-gt32 : goal.returns-then-n-gt32
unfolding rounds_of
returns-then-n-gt32 c = let a = c.args in
    let n : ℕ = a.n in
    let few : rounds_of n ≡ 5 = simp (lt-ltb 32 n (omega arith)) in
    reached-by 5 32 a.start a.stride a.s.now a.sought n c.narrow.result (omega arith) few refl c.narrow.ensures

pub returns-then-n-gt16 : goal.returns-then-n-gt16
unfolding rounds_of
returns-then-n-gt16 c = let a = c.args in
    let n : ℕ = a.n in
    let few : rounds_of n ≡ 4 = simp (le-ltb 32 n (omega arith), lt-ltb 16 n (omega arith)) in
    reached-by 4 16 a.start a.stride a.s.now a.sought n c.narrow-then-n-gt16.result (omega arith) few refl c.narrow-then-n-gt16.ensures

pub returns-then-n-gt8 : goal.returns-then-n-gt8
unfolding rounds_of
returns-then-n-gt8 c = let a = c.args in
    let n : ℕ = a.n in
    let few : rounds_of n ≡ 3 = simp (le-ltb 32 n (omega arith), le-ltb 16 n (omega arith), lt-ltb 8 n (omega arith)) in
    reached-by 3 8 a.start a.stride a.s.now a.sought n c.narrow-then-n-gt8.result (omega arith) few refl c.narrow-then-n-gt8.ensures

pub returns-then-n-gt4 : goal.returns-then-n-gt4
unfolding rounds_of
returns-then-n-gt4 c = let a = c.args in
    let n : ℕ = a.n in
    let few : rounds_of n ≡ 2 = simp (le-ltb 32 n (omega arith), le-ltb 16 n (omega arith), le-ltb 8 n (omega arith), lt-ltb 4 n (omega arith)) in
    reached-by 2 4 a.start a.stride a.s.now a.sought n c.narrow-then-n-gt4.result (omega arith) few refl c.narrow-then-n-gt4.ensures

pub returns-then-n-gt2 : goal.returns-then-n-gt2
unfolding rounds_of
returns-then-n-gt2 c = let a = c.args in
    let n : ℕ = a.n in
    let few : rounds_of n ≡ 1 = simp (le-ltb 32 n (omega arith), le-ltb 16 n (omega arith), le-ltb 8 n (omega arith), le-ltb 4 n (omega arith), lt-ltb 2 n (omega arith)) in
    reached-by 1 2 a.start a.stride a.s.now a.sought n c.narrow-then-n-gt2.result (omega arith) few refl c.narrow-then-n-gt2.ensures

pub returns-then-n-gt1 : goal.returns-then-n-gt1
unfolding rounds_of
returns-then-n-gt1 c = let a = c.args in
    let n : ℕ = a.n in
    let few : rounds_of n ≡ 0 = simp (le-ltb 32 n (omega arith), le-ltb 16 n (omega arith), le-ltb 8 n (omega arith), le-ltb 4 n (omega arith), le-ltb 2 n (omega arith)) in
    reached-by 0 1 a.start a.stride a.s.now a.sought n c.narrow-then-n-gt1.result (omega arith) few refl c.narrow-then-n-gt1.ensures

pub returns : goal.returns
returns c = let a = c.args in
    reached-one a.start a.stride a.s.now a.sought a.n c.if-n-gt1.false
