-- Decoder, step and verifier go by the table's rows: what is read at an address has the length, takes and pushes what the row of its first byte says.
-- Assumes nothing.
use Prim.Native.Nat.{ℕ, ◌+◌, ◌-◌, ◌/◌, ◌%◌, ◌^◌, ◌≤◌, ◌<◌}
use native.Mathlib.Omega.{arith}
use Rattle.std.specs.Prelude.{Option, Some, None}
use mathlib.Core.Path.{◌≡◌, refl, sym, ap, ap₂, subst, ◌∙◌}
use mathlib.Core.Logic.{◌⊎◌, inl, inr}
use mathlib.Core.Bool.{Bool, true, false, not}
use mathlib.Core.List.{List, [], ◌∷◌}
use lib.Count.{ones}
use lib.Dec.{ltb, leb, eqb}
use lib.ListN.{length, get_or, drop, replicate}
use lib.Seq.{drop-cons}
use borrow.Author.Tests.{lt-ltb, le-ltb, le-leb, lt-leb, leb-true, leb-false, eqb-true, ltb-true, ltb-false}
use Rattle.basis.specs.Pick.{pick, both}
use Rattle.basis.specs.Answer.{Answer, given, refused}
use Rattle.basis.specs.Number.{Bytes}
use Rattle.basis.proofs.Tables.{every, at}
use Rattle.basis.proofs.Tests.{both_left, both_right, refused-given, given-one, false-true}
use Rattle.forms.specs.Form.{form_of, code_of, count_in, limit_in, length_of, value_width}
use Rattle.forms.specs.declared.Form.{Form}
use Rattle.forms.specs.declared.Form.TheVariants.{Plain, Byte, Shift, Word, Short, Values, Illegal}
use Rattle.forms.proofs.Widths.{count-le}
use Rattle.isa.specs.Op.{Op, op_of, op_in}
use Rattle.isa.specs.Shape.{taken_in, pushed_in, taken_of, pushed_of, way_of, depth_after}
use Rattle.isa.specs.declared.Way.{Way}
use Rattle.isa.specs.declared.Way.TheVariants.{Stop, Next, Jump, Branch, Call, Taken, System, Extension}
use Rattle.isa.proofs.Codes.{taken-op, pushed-op}
use Rattle.decoder.specs.Decode.{Reading, number_in, instruction_in, head_of, decode_of}
use Rattle.decoder.specs.Refusals.{Inside, Why, over_size, past_end, illegal_first, cut, illegal_shift}
use Rattle.decoder.proofs.Refuses.{refusal-why, why-refusal}
use Rattle.shapes.specs.declared.row.Row.{Row}
use Rattle.shapes.specs.Shapes.{row, shape_of}
use Rattle.shapes.proofs.Looks.{rows-length, row_at, Says, row-says, none-says}
use Rattle.effects.specs.Memory.{operand_of}
use Rattle.effects.specs.Effect.{Effect, fails, leaves, effect_of, Going, stays, goes, going_of}
use Rattle.effects.specs.Act.{move_of, on_effect, do_of, act_of}
use Rattle.effects.proofs.Opens as opens
use Rattle.effects.proofs.Faults.{FailsBy, effect-by}
use Rattle.paths.specs.Paths.{Hop, hop, In, here, there, bad, leads}
use Rattle.look.specs.Look.{is_nine, along, on_depth, on_way, look_of}
use Rattle.machine.specs.Machine.{Machine, state_after, landed, step_of}
use Rattle.guarantee.specs.Demands.{with_fault}
use Rattle.guarantee.specs.Shapes.{OneTable, IsIllegal, unused, absent, IllegalsApart, ByHand, SmallRows, Over, Whole, Decodes, DecoderByRow, Steps, StepByRow, Looks, VerifierByRow}

pub one_table : OneTable
unfolding OneTable
one_table = (rows-length, row_at)

-- every row is small
abbrev small : Option Row → Bool
small (Some r) = both (both (leb 1 r.length) (leb r.length 9)) (both (leb r.taken 3) (leb r.pushed 4))
small None = true

all_small : every (λ b. small (shape_of b)) 256 ≡ true
unfolding shape_of length_of form_of code_of ones taken_in pushed_in op_in
all_small = refl

pub small-rows : SmallRows
unfolding SmallRows
small-rows b l t p h e =
    let x : small (Some (row l t p)) ≡ true = rw e at (at (λ c. small (shape_of c)) 256 all_small b h) in
    let y = both_left (both (leb 1 l) (leb l 9)) (both (leb t 3) (leb p 4)) x in
    let z = both_right (both (leb 1 l) (leb l 9)) (both (leb t 3) (leb p 4)) x in (
      leb-true 1 l (both_left (leb 1 l) (leb l 9) y),
      leb-true l 9 (both_right (leb 1 l) (leb l 9) y),
      leb-true t 3 (both_left (leb t 3) (leb p 4) z),
      leb-true p 4 (both_right (leb t 3) (leb p 4) z),
    )

-- the shifts are 31 and 32
abbrev is_shift : Form → Bool
is_shift Plain = false
is_shift Byte = false
is_shift Shift = true
is_shift Word = false
is_shift Short = false
is_shift Values = false
is_shift Illegal = false

shifts : every (λ b. pick (is_shift (form_of (code_of b))) (pick (eqb b 0x31) true (eqb b 0x32)) true) 256 ≡ true
unfolding code_of form_of
shifts = refl

either : (t u : Bool) (b : ℕ) → eqb b 0x31 ≡ t → eqb b 0x32 ≡ u → pick t true u ≡ true → (b ≡ 0x31) ⊎ (b ≡ 0x32)
either true u b x y e = inl (eqb-true b 0x31 x)
either false true b x y e = inr (eqb-true b 0x32 y)
either false false b x y e = absurd (false-true e)

shift_is : (b : ℕ) → b < 256 → form_of (code_of b) ≡ Shift → (b ≡ 0x31) ⊎ (b ≡ 0x32)
shift_is b h e = either (eqb b 0x31) (eqb b 0x32) b refl refl (rw e at (at (λ c. pick (is_shift (form_of (code_of c))) (pick (eqb c 0x31) true (eqb c 0x32)) true) 256 shifts b h))

is-shift : (b : ℕ) → (b ≡ 0x31) ⊎ (b ≡ 0x32) → (form_of (code_of b) ≡ Shift) × (length_of b ≡ 2)
unfolding code_of form_of length_of ones
is-shift b (inl e) = rw e (refl, refl)
is-shift b (inr e) = rw e (refl, refl)

-- what the first byte, c, says of what was read
abbrev Tells : Reading → ℕ → Type 0
Tells r c = (r.1 ≡ length_of c) × (r.0.code ≡ code_of c) × (r.0.count ≡ count_in (form_of (code_of c)) c)

first-tells : (program : List ℕ) (a : ℕ) (r : Reading) → decode_of program a ≡ given r → Tells r (get_or program a 0)
unfolding decode_of head_of
first-tells program a r e = by (ltb 16384 (length program)) (leb (length program) a) (eqb (length_of b) 0) (ltb (length s) (length_of b)) (ltb (number_in f s) (limit_in f)) refl e
  where
    s : List ℕ
    s = drop a program

    b : ℕ
    b = get_or s 0 0

    f : Form
    f = form_of (code_of b)

    first : leb (length program) a ≡ false → b ≡ get_or program a 0
    first l = ap (λ (z : List ℕ). get_or z 0 0) (drop-cons program a 0 (leb-false (length program) a l))

    by : (t u v w x : Bool) → leb (length program) a ≡ u
        → pick t (refused 20) (pick u (refused 1) (pick v (refused 2) (pick w (refused 3) (pick x (given (instruction_in f s, length_of b)) (refused 2))))) ≡ given r → Tells r (get_or program a 0)
    by true u v w x l h = absurd (refused-given 20 r h)
    by false true v w x l h = absurd (refused-given 1 r h)
    by false false true w x l h = absurd (refused-given 2 r h)
    by false false false true x l h = absurd (refused-given 3 r h)
    by false false false false true l h =
        let q = given-one (instruction_in f s, length_of b) r h in
        subst (Tells r) (first l) (sym (ap (λ (z : Reading). z.1) q), sym (ap (λ (z : Reading). z.0.code) q), sym (ap (λ (z : Reading). z.0.count) q))
    by false false false false false l h = absurd (refused-given 2 r h)

-- so it has the length, takes and pushes what the row of its first byte says
abbrev Rowed : Reading → ℕ → ℕ → ℕ → Type 0
Rowed r l t p = (r.1 ≡ l) × (taken_of (op_of r.0) ≡ t) × (pushed_of (op_of r.0) ≡ p)

pub reading-row : (program : List ℕ) (a l t p : ℕ) (r : Reading) → Says (get_or program a 0) l t p → decode_of program a ≡ given r → Rowed r l t p
reading-row program a l t p r w e =
    let b : ℕ = get_or program a 0 in
    let z = first-tells program a r e in
    let c : r.0.count ≤ 4 = rw z.2 (count-le (form_of (code_of b)) b) in (
      z.0 ∙ sym w.long,
      taken-op r.0 ∙ ap taken_in z.1 ∙ sym w.taken,
      pushed-op r.0 c ∙ ap₂ pushed_in z.1 z.2 ∙ sym w.pushed,
    )

-- an address inside an admissible program, and the row of the byte there
module _ (program : List ℕ) (a b l t p : ℕ) (bytes : Bytes program) (i : Inside program a b) (w : Says b l t p) where
  says : Says (get_or program a 0) l t p
  says = subst (λ (c : ℕ). Says c l t p) (sym i.byte) w

  never : Whole program a l → (k : ℕ) → Why program a k → ⊥
  never h k (over_size x) = omega (arith, i.size)
  never h k (past_end x y) = omega (arith, i.inside)
  never h k (illegal_first x z) = let e = ap length_of (sym i.byte ∙ x.byte) in omega (arith, w.long, w.some)
  never h k (cut x y z) = let e = ap length_of (sym i.byte ∙ x.byte) in omega (arith, w.long, h.fits)
  never h k (illegal_shift x z y m) =
      h.fine (record { shift = shift_is (get_or program a 0) (bytes a) (ap (λ (c : ℕ). form_of (code_of c)) x.byte ∙ z); wide = m })

  whole-read : Whole program a l → (r : Reading) × (decode_of program a ≡ given r) × Rowed r l t p
  whole-read h = by (decode_of program a) refl
    where
      by : (x : Answer Reading) → decode_of program a ≡ x → (r : Reading) × (decode_of program a ≡ given r) × Rowed r l t p
      by (given r) e = (r, e, reading-row program a l t p r says e)
      by (refused k) e = absurd (never h k (refusal-why program a k bytes e))

  decode-cut : length program < a + l → decode_of program a ≡ refused 3
  decode-cut h = why-refusal program a 3 (cut i (omega (arith, w.long, w.some)) (omega (arith, w.long)))

  decode-over : a + l ≤ length program → Over program a → decode_of program a ≡ refused 2
  decode-over h o =
      let s = is-shift b (subst (λ (c : ℕ). (c ≡ 0x31) ⊎ (c ≡ 0x32)) i.byte o.shift) in
      why-refusal program a 2 (illegal_shift i s.0 (omega (arith, s.1, w.long)) o.wide)

  decodes : Decodes program a l t p
  decodes = record { cut = decode-cut; over = decode-over; read = λ h. let z = whole-read h in (z.0, z.1, z.2.0, z.2.1, z.2.2) }

pub decoder-by-row : DecoderByRow
unfolding DecoderByRow
decoder-by-row program a b l t p bytes i e = decodes program a b l t p bytes i (row-says b (row l t p) (sym e))

decode-none : (program : List ℕ) (a b : ℕ) → Inside program a b → shape_of b ≡ None → decode_of program a ≡ refused 2
decode-none program a b i e = why-refusal program a 2 (illegal_first i (none-says b (sym e)))

-- a step, by what is read
module _ (program : List ℕ) (m : Machine) where
  abbrev address : ℕ
  address = m.state.address

  abbrev depth : ℕ
  depth = m.state.depth

  refused-step : (n : ℕ) → decode_of program address ≡ refused n → step_of program m ≡ with_fault n m
  unfolding step_of act_of
  refused-step n e = rw e

  given-step : (r : Reading) → decode_of program address ≡ given r → step_of program m ≡ landed m.state (do_of program (address + r.1) (op_of r.0) depth m.mem m.cells)
  unfolding step_of act_of
  given-step r e = rw e

  -- an operation whose effect is at hand, behind the stack check
  effected : (next e : ℕ) (o : Op) (x : Effect) → FailsBy x
      → ((n : ℕ) × (6 ≤ n) × (n ≤ 8) × (landed m.state (on_effect program next o depth m.mem m.cells e x) ≡ with_fault n m))
      ⊎ ((landed m.state (on_effect program next o depth m.mem m.cells e x)).state.depth ≡ e)
  effected next e o (fails n) h = inl (n, h.0, h.1, refl)
  effected next e o (leaves mem' vs) h = inr (by (going_of (operand_of m.cells depth) next (way_of o)))
    where
      by : (g : Going) → (state_after m.state (given (move_of e g))).depth ≡ e
      by stays = refl
      by (goes to) = refl

module _ (program : List ℕ) (m : Machine) (b l t p : ℕ) (bytes : Bytes program) (i : Inside program m.state.address b) (w : Says b l t p) where
  rowed : (r : Reading) → decode_of program (address program m) ≡ given r → Rowed r l t p
  rowed r e = reading-row program (address program m) l t p r (says program (address program m) b l t p bytes i w) e

  step-does : (r : Reading) → decode_of program (address program m) ≡ given r
      → (taken_of (op_of r.0) ≡ t) × (pushed_of (op_of r.0) ≡ p) × (step_of program m ≡ landed m.state (do_of program (address program m + l) (op_of r.0) (depth program m) m.mem m.cells))
  step-does r e =
      let z = rowed r e in
      (z.1, z.2, given-step program m r e ∙ ap (λ (n : ℕ). landed m.state (do_of program (address program m + n) (op_of r.0) (depth program m) m.mem m.cells)) z.0)

  step-few : Whole program (address program m) l → depth program m < t → step_of program m ≡ with_fault 4 m
  step-few h k =
      let y = whole-read program (address program m) b l t p bytes i w h in
      let z = step-does y.0 y.1 in
      z.2 ∙ ap (landed m.state) (opens.few program _ (op_of y.0.0) (depth program m) m.mem m.cells (rw z.0 k))

  step-many : Whole program (address program m) l → t ≤ depth program m → length m.cells < depth program m - t + p → step_of program m ≡ with_fault 5 m
  step-many h k q =
      let y = whole-read program (address program m) b l t p bytes i w h in
      let z = step-does y.0 y.1 in
      z.2 ∙ ap (landed m.state) (opens.full program _ (op_of y.0.0) (depth program m) m.mem m.cells (rw z.0 k) (rw (z.0, z.1) q))

  step-depth : Whole program (address program m) l → t ≤ depth program m → depth program m - t + p ≤ length m.cells
      → ((n : ℕ) × (6 ≤ n) × (n ≤ 8) × (step_of program m ≡ with_fault n m)) ⊎ ((step_of program m).state.depth ≡ depth program m - t + p)
  step-depth h k q =
      let y = whole-read program (address program m) b l t p bytes i w h in
      let o = op_of y.0.0 in
      let z = step-does y.0 y.1 in
      let next = address program m + l in
      let e = depth program m - t + p in
      let d : do_of program next o (depth program m) m.mem m.cells ≡ on_effect program next o (depth program m) m.mem m.cells e (effect_of program m.mem (operand_of m.cells (depth program m)) next o)
      = opens.opened program next o (depth program m) m.mem m.cells e (rw z.0 k) (rw (z.0, z.1)) q in
      rw (z.2, d) (effected program m next e o (effect_of program m.mem (operand_of m.cells (depth program m)) next o) (effect-by program m.mem (operand_of m.cells (depth program m)) next o))

  steps : Steps program m l t p
  steps =
      record {
        cut = λ h. refused-step program m 3 (decode-cut program (address program m) b l t p bytes i w h);
        over = λ h o. refused-step program m 2 (decode-over program (address program m) b l t p bytes i w h o);
        few = step-few;
        many = step-many;
        does = step-does;
        depth = step-depth;
      }

pub step-by-row : StepByRow
unfolding StepByRow
step-by-row program m b bytes i =
    (λ e. refused-step program m 2 (decode-none program m.state.address b i e), λ l t p e. steps program m b l t p bytes i (row-says b (row l t p) (sym e)))

-- a look, by what is read
module _ (program : List ℕ) (cells a d : ℕ) where
  refused-look : (k : ℕ) → decode_of program a ≡ refused k → look_of program cells a d ≡ bad k
  unfolding look_of
  refused-look k e = rw e

  given-look : (r : Reading) (l t p : ℕ) → decode_of program a ≡ given r → Rowed r l t p → look_of program cells a d ≡ on_way (a + l) (way_of (op_of r.0)) (depth_after cells d t p)
  unfolding look_of
  given-look r l t p e x = rw (e, x.0, x.1, x.2)

leads-bad : (hs : List Hop) (k : ℕ) → bad k ≡ leads hs → ⊥
leads-bad hs k e = let z : ◌≡◌ {A = ℕ} 0 1 = cc in omega arith

leads_one : (hs gs : List Hop) → leads hs ≡ leads gs → hs ≡ gs
leads_one hs gs e = cc

-- no successor
none : (b e : ℕ) → In b e [] → ⊥
none b e x = elim x [ ]

-- the successors along a way are at its depth
depths-one : (b e c d : ℕ) → In b e (hop c d ∷ []) → e ≡ d
depths-one b e c d here = refl
depths-one b e c d (there x) = absurd (none b e x)

depths-two : (b e c g d : ℕ) → In b e (hop c d ∷ hop g d ∷ []) → e ≡ d
depths-two b e c g d here = refl
depths-two b e c g d (there x) = depths-one b e g d x

depths-along : (next e b f : ℕ) (w : Way) (hs : List Hop) → along next e w ≡ leads hs → In b f hs → f ≡ e
depths-along next e b f Stop hs q x = absurd (none b f (subst (In b f) (sym (leads_one [] hs q)) x))
depths-along next e b f Next hs q x = depths-one b f next e (subst (In b f) (sym (leads_one (hop next e ∷ []) hs q)) x)
depths-along next e b f (Jump y) hs q x = depths-one b f y e (subst (In b f) (sym (leads_one (hop y e ∷ []) hs q)) x)
depths-along next e b f (Branch u y) hs q x = depths-two b f next y e (subst (In b f) (sym (leads_one (hop next e ∷ hop y e ∷ []) hs q)) x)
depths-along next e b f (Call y) hs q x = absurd (leads-bad hs 9 q)
depths-along next e b f (Taken r) hs q x = absurd (leads-bad hs 9 q)
depths-along next e b f (System y) hs q x = by (eqb y 0) q
  where
    by : (u : Bool) → pick u (leads []) (bad 8) ≡ leads hs → f ≡ e
    by true z = absurd (none b f (subst (In b f) (sym (leads_one [] hs z)) x))
    by false z = absurd (leads-bad hs 8 z)
depths-along next e b f (Extension y) hs q x = absurd (leads-bad hs 8 q)

depths-way : (cells d t p next b f : ℕ) (w : Way) (hs : List Hop) → on_way next w (depth_after cells d t p) ≡ leads hs → In b f hs → (t ≤ d) × (f ≡ d - t + p) × (f ≤ cells)
unfolding depth_after
depths-way cells d t p next b f w hs q x = by (is_nine w) (ltb d t) (ltb cells (d - t + p)) refl refl q
  where
    by : (u v y : Bool) → ltb d t ≡ v → ltb cells (d - t + p) ≡ y → pick u (bad 9) (on_depth next w (pick v (refused 4) (pick y (refused 5) (given (d - t + p))))) ≡ leads hs → (t ≤ d) × (f ≡ d - t + p) × (f ≤ cells)
    by true v y g h z = absurd (leads-bad hs 9 z)
    by false true y g h z = absurd (leads-bad hs 4 z)
    by false false true g h z = absurd (leads-bad hs 5 z)
    by false false false g h z =
        let e = depths-along next (d - t + p) b f w hs z x in
        (ltb-false d t g, e, omega (arith, e, ltb-false cells (d - t + p) h))

module _ (program : List ℕ) (cells a b d l t p : ℕ) (bytes : Bytes program) (i : Inside program a b) (w : Says b l t p) where
  look-way : (r : Reading) → decode_of program a ≡ given r → look_of program cells a d ≡ on_way (a + l) (way_of (op_of r.0)) (depth_after cells d t p)
  look-way r e = given-look program cells a d r l t p e (reading-row program a l t p r (says program a b l t p bytes i w) e)

  look-few : (r : Reading) → decode_of program a ≡ given r → d < t → look_of program cells a d ≡ pick (is_nine (way_of (op_of r.0))) (bad 9) (bad 4)
  unfolding depth_after
  look-few r e k = rw (look-way r e, lt-ltb d t k)

  look-many : (r : Reading) → decode_of program a ≡ given r → t ≤ d → cells < d - t + p → look_of program cells a d ≡ pick (is_nine (way_of (op_of r.0))) (bad 9) (bad 5)
  unfolding depth_after
  look-many r e k q = rw (look-way r e, le-ltb d t k, lt-ltb cells (d - t + p) q)

  look-depths : (hs : List Hop) (c f : ℕ) → look_of program cells a d ≡ leads hs → In c f hs → (t ≤ d) × (f ≡ d - t + p) × (f ≤ cells)
  look-depths hs c f q x = by (decode_of program a) refl
    where
      by : (r : Answer Reading) → decode_of program a ≡ r → (t ≤ d) × (f ≡ d - t + p) × (f ≤ cells)
      by (refused k) e = absurd (leads-bad hs k (sym (refused-look program cells a d k e) ∙ q))
      by (given r) e = depths-way cells d t p (a + l) c f (way_of (op_of r.0)) hs (sym (look-way r e) ∙ q) x

  looks : Looks program cells a d l t p
  looks =
      record {
        cut = λ h. refused-look program cells a d 3 (decode-cut program a b l t p bytes i w h);
        over = λ h o. refused-look program cells a d 2 (decode-over program a b l t p bytes i w h o);
        few = look-few;
        many = look-many;
        way = look-way;
        depths = look-depths;
      }

pub verifier-by-row : VerifierByRow
unfolding VerifierByRow
verifier-by-row program cells a b d bytes i =
    (λ e. refused-look program cells a d 2 (decode-none program a b i e), λ l t p e. looks program cells a b d l t p bytes i (row-says b (row l t p) (sym e)))

-- with a first byte that is not illegal, and zeros behind it, an instruction begins
abbrev is_given : {A : Type 0} → Answer A → Bool
is_given (given x) = true
is_given (refused k) = false

abbrev is_illegal : Option Row → Bool
is_illegal (Some r) = false
is_illegal None = true

all-begin : every (λ b. pick (is_illegal (shape_of b)) true (is_given (decode_of (b ∷ replicate 8 0) 0))) 256 ≡ true
unfolding decode_of head_of shape_of length_of form_of code_of ones taken_in pushed_in op_in value_width
all-begin = refl

begins : (b : ℕ) → b < 256 → (s : Option Row) → shape_of b ≡ s → (s ≡ None → ⊥) → (x : Answer Reading) → decode_of (b ∷ replicate 8 0) 0 ≡ x → (r : Reading) × (x ≡ given r)
begins b h (Some w) e n (given r) q = (r, refl)
begins b h (Some w) e n (refused k) q = absurd (false-true (rw (e, q) at (at (λ c. pick (is_illegal (shape_of c)) true (is_given (decode_of (c ∷ replicate 8 0) 0))) 256 all-begin b h)))
begins b h None e n x q = absurd (n refl)

-- the illegal bytes by their rule
abbrev illegal_by : ℕ → Bool
illegal_by b = pick (leb 0xC0 b) (leb (2 ^ (b % 4 + 1)) (b / 4 % 16)) (both (leb 0x5B b) (ltb b 0x80))

all-illegal : every (λ b. pick (is_illegal (shape_of b)) (illegal_by b) (not (illegal_by b))) 256 ≡ true
unfolding shape_of length_of form_of code_of ones taken_in pushed_in op_in
all-illegal = refl

by-rule : (b : ℕ) (t : Bool) → leb 0xC0 b ≡ t → pick t (leb (2 ^ (b % 4 + 1)) (b / 4 % 16)) (both (leb 0x5B b) (ltb b 0x80)) ≡ true → IsIllegal b
by-rule b true e x = absent (leb-true 0xC0 b e) (leb-true (2 ^ (b % 4 + 1)) (b / 4 % 16) x)
by-rule b false e x = unused (leb-true 0x5B b (both_left (leb 0x5B b) (ltb b 0x80) x)) (ltb-true b 0x80 (both_right (leb 0x5B b) (ltb b 0x80) x))

rule-by : (b : ℕ) → IsIllegal b → illegal_by b ≡ true
rule-by b (unused h k) = let n : b < 0xC0 = omega arith in rw (lt-leb 0xC0 b n, le-leb 0x5B b h, lt-ltb b 0x80 k)
rule-by b (absent h k) = rw (le-leb 0xC0 b h, le-leb (2 ^ (b % 4 + 1)) (b / 4 % 16) k)

ruled : (b : ℕ) → b < 256 → (s : Option Row) → shape_of b ≡ s → (s ≡ None → IsIllegal b) × (IsIllegal b → s ≡ None)
ruled b h (Some w) e =
    let x : not (illegal_by b) ≡ true = rw e at (at (λ c. pick (is_illegal (shape_of c)) (illegal_by c) (not (illegal_by c))) 256 all-illegal b h) in
    (λ q. absurd (let z : ◌≡◌ {A = ℕ} 0 1 = cc in omega arith), λ i. absurd (false-true (rw (rule-by b i) at x)))
ruled b h None e =
    let x : illegal_by b ≡ true = rw e at (at (λ c. pick (is_illegal (shape_of c)) (illegal_by c) (not (illegal_by c))) 256 all-illegal b h) in
    (λ q. by-rule b (leb 0xC0 b) refl x, λ i. refl)

pub illegals-apart : IllegalsApart
unfolding IllegalsApart
illegals-apart b h =
    let z = ruled b h (shape_of b) refl in
    (z.0, z.1, λ e program a i. decode-none program a b i e, λ n. begins b h (shape_of b) refl n (decode_of (b ∷ replicate 8 0) 0) refl)

pub by_hand : ByHand
unfolding ByHand shape_of length_of form_of code_of ones taken_in pushed_in op_in
by_hand = (refl, refl, refl, refl, refl, refl, refl, refl, refl, refl, refl, refl, refl, refl, refl, refl, refl, refl, refl, refl, refl, refl, refl, refl, refl, refl, refl, refl, refl, refl, refl, refl, refl, refl, refl, refl, refl, refl, refl)
