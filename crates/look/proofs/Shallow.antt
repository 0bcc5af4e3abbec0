-- No successor is deeper than the cells.
-- Assumes nothing.
use Prim.Native.Nat.{ℕ, ◌+◌, ◌-◌, ◌≤◌}
use mathlib.Core.Path.{◌≡◌, refl, subst}
use mathlib.Core.Logic.{⊎_elim}
use mathlib.Core.Bool.{Bool, true, false}
use mathlib.Core.List.{List, [], ◌∷◌}
use lib.Dec.{ltb, eqb}
use borrow.Author.Tests.{ltb-false}
use native.Mathlib.Omega.{arith}
use Rattle.basis.specs.Pick.{pick}
use Rattle.basis.specs.Answer.{Answer, given, refused}
use Rattle.isa.specs.Op.{op_of}
use Rattle.isa.specs.Shape.{taken_of, pushed_of, way_of, depth_after}
use Rattle.decoder.specs.Decode.{Reading, decode_of}
use Rattle.isa.specs.declared.Way.{Way}
use Rattle.isa.specs.declared.Way.TheVariants.{Stop, Next, Jump, Branch, Call, Taken, System, Extension}
use Rattle.paths.specs.Paths.{Hop, hop, Outcome, bad, leads, In}
use Rattle.paths.proofs.Marks.{in-cases, in-nil}
use Rattle.look.specs.Look.{is_nine, along, on_depth, on_way, on_reading, look_of}

abbrev Shallow : ℕ → Outcome → Type 0
Shallow n (bad k) = Unit {0}
Shallow n (leads hs) = (b e : ℕ) → In b e hs → e ≤ n

none : (n : ℕ) → Shallow n (leads [])
none n b e i = absurd (in-nil i)

more : (n b e : ℕ) (hs : List Hop) → e ≤ n → Shallow n (leads hs) → Shallow n (leads (hop b e ∷ hs))
more n b e hs h f x y i = ⊎_elim (λ q. omega (arith, q.1)) (f x y) (in-cases i)

along-shallow : (n next e : ℕ) (w : Way) → e ≤ n → Shallow n (along next e w)
along-shallow n next e Stop h = none n
along-shallow n next e Next h = more n next e [] h (none n)
along-shallow n next e (Jump x) h = more n x e [] h (none n)
along-shallow n next e (Branch t x) h = more n next e (hop x e ∷ []) h (more n x e [] h (none n))
along-shallow n next e (Call x) h = tt
along-shallow n next e (Taken r) h = tt
along-shallow n next e (System x) h = by (eqb x 0)
  where
    by : (t : Bool) → Shallow n (pick t (leads []) (bad 8))
    by true = none n
    by false = tt
along-shallow n next e (Extension x) h = tt

way-shallow : (n next d t p : ℕ) (w : Way) → Shallow n (on_way next w (depth_after n d t p))
unfolding depth_after
way-shallow n next d t p w = by (is_nine w) (ltb d t) (ltb n (d - t + p)) refl
  where
    by : (i j k : Bool) → ltb n (d - t + p) ≡ k → Shallow n (pick i (bad 9) (on_depth next w (pick j (refused 4) (pick k (refused 5) (given (d - t + p))))))
    by true j k e = tt
    by false true k e = tt
    by false false true e = tt
    by false false false e = along-shallow n next (d - t + p) w (ltb-false n (d - t + p) e)

read-shallow : (n a d : ℕ) (r : Answer Reading) → Shallow n (on_reading n a d r)
read-shallow n a d (refused k) = tt
read-shallow n a d (given r) = way-shallow n (a + r.1) d (taken_of (op_of r.0)) (pushed_of (op_of r.0)) (way_of (op_of r.0))

pub shallow : (program : List ℕ) (n a d b e : ℕ) (hs : List Hop) → look_of program n a d ≡ leads hs → In b e hs → e ≤ n
unfolding look_of
shallow program n a d b e hs q i =
    let s : Shallow n (leads hs) = subst (Shallow n) q (read-shallow n a d (decode_of program a)) in
    s b e i
