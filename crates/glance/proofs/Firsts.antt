-- What an instruction leads to, by its first byte and its row, is what the decoder's reading of it leads to.
-- Assumes nothing.
use Prim.Native.Nat.{ℕ, zero, suc, ◌+◌, ◌-◌, ◌^◌, ◌<◌, ◌≤◌}
use native.Mathlib.Omega.{arith}
use native.Mathlib.Nat.{add_assoc}
use mathlib.Core.Path.{◌≡◌, refl, ap, ◌∙◌}
use mathlib.Core.Logic.{◌≢◌}
use mathlib.Core.Bool.{Bool, true, false, not}
use mathlib.Core.List.{List}
use lib.Count.{ones}
use lib.Dec.{ltb}
use lib.ListN.{length, get_or, drop, length-drop}
use lib.Seq.{get_or-drop, drop-cons}
use borrow.Author.Tests.{lt-ltb, le-ltb, lt-leb, eq-eqb, ne_eqb}
use Rattle.basis.specs.Pick.{pick, both}
use Rattle.basis.specs.Answer.{Answer, given, refused}
use Rattle.basis.specs.Number.{number_at, Bytes}
use Rattle.basis.proofs.Numbers.{number_lt, bytes_drop}
use Rattle.basis.proofs.Tables.{every, at}
use Rattle.basis.proofs.Tests.{both_left, both_right, false-true}
use Rattle.forms.specs.Form.{form_of, code_of, limit_in, length_of}
use Rattle.forms.specs.declared.Form.{Form}
use Rattle.forms.specs.declared.Form.TheVariants.{Plain, Byte, Shift, Word, Short, Values, Illegal}
use Rattle.forms.proofs.Widths.{count-le, legal}
use Rattle.isa.specs.Op.{op_in}
use Rattle.isa.specs.Shape.{way_in, depth_after}
use Rattle.isa.specs.declared.Route.TheVariants as route
use Rattle.isa.specs.declared.Way.{Way}
use Rattle.isa.specs.declared.Way.TheVariants.{Stop, Next, Jump, Branch, Call, Taken, System, Extension}
use Rattle.isa.proofs.Codes.{taken-op, pushed-op, way-op}
use Rattle.decoder.specs.Decode.{Reading, number_in, instruction_in, head_of, decode_of}
use Rattle.paths.specs.Paths.{Outcome, bad}
use Rattle.look.specs.Look.{on_way, on_reading, look_of}
use Rattle.shapes.proofs.Looks.{Says}
use Rattle.glance.specs.Firsts.{turning, after_of, first_on}
use Rattle.glance.specs.declared.Found.{Found}

-- what was found of an instruction by its row, which says l, t and p of it
abbrev pub found_in : ℕ → ℕ → ℕ → ℕ → ℕ → ℕ → Found
found_in a cells depth l t p = record { next = a + l; cells = cells; depth = depth; taken = t; pushed = p }

-- the same for what s begins with, its number's test at hand
abbrev head_on : List ℕ → ℕ → Answer ℕ → Bool → Outcome
head_on s next after u = pick u (on_way next (way_in (code_of (get_or s 0 0)) (number_in (form_of (code_of (get_or s 0 0))) s)) after) (bad 2)

abbrev head_read : List ℕ → Bool → Answer Reading
head_read s u = pick u (given (instruction_in (form_of (code_of (get_or s 0 0))) s, length_of (get_or s 0 0))) (refused 2)

module _ (s : List ℕ) (cells a depth l t p : ℕ) where
  led-by : Says (get_or s 0 0) l t p → (u : Bool) → head_on s (a + l) (depth_after cells depth t p) u ≡ on_reading cells a depth (head_read s u)
  led-by w true =
      let b = get_or s 0 0 in
      let i = instruction_in (form_of (code_of b)) s in
      rw (w.long, w.taken, w.pushed, way-op i, taken-op i, pushed-op i (count-le (form_of (code_of b)) b))
  led-by w false = refl

  head-led : Says (get_or s 0 0) l t p → l ≤ length s
      → head_on s (a + l) (depth_after cells depth t p) (ltb (number_in (form_of (code_of (get_or s 0 0))) s) (limit_in (form_of (code_of (get_or s 0 0))))) ≡ on_reading cells a depth (head_of s)
  unfolding head_of
  head-led w h =
      let k = w.long in
      let m = w.some in
      let n : length_of (get_or s 0 0) ≢ 0 = λ z. omega arith in
      let r : length_of (get_or s 0 0) ≤ length s = omega arith in
      rw (ne_eqb (length_of (get_or s 0 0)) 0 n, le-ltb (length s) (length_of (get_or s 0 0)) r) (led-by w (ltb (number_in (form_of (code_of (get_or s 0 0))) s) (limit_in (form_of (code_of (get_or s 0 0))))))

-- an address inside an admissible program, met at a depth
module _ (program : List ℕ) (cells a depth : ℕ) (i : a < length program) (s : length program ≤ 16384) where
  first : get_or (drop a program) 0 0 ≡ get_or program a 0
  first = ap (λ (z : List ℕ). get_or z 0 0) (drop-cons program a 0 i)

  pub look_none : length_of (get_or program a 0) ≡ 0 → bad 2 ≡ look_of program cells a depth
  unfolding look_of decode_of head_of
  look_none z = rw (le-ltb 16384 (length program) s, lt-leb (length program) a i, first, eq-eqb (length_of (get_or program a 0)) 0 z)

  pub look-cut : length_of (get_or program a 0) ≢ 0 → length program - a < length_of (get_or program a 0) → bad 3 ≡ look_of program cells a depth
  unfolding look_of decode_of head_of
  look-cut n h =
      let d : length (drop a program) < length_of (get_or program a 0) = omega (arith, length-drop a program) in
      rw (le-ltb 16384 (length program) s, lt-leb (length program) a i, first, ne_eqb (length_of (get_or program a 0)) 0 n, lt-ltb _ _ d)

  pub look-led :
      (l t p : ℕ) → Says (get_or program a 0) l t p → l ≤ length program - a
      → first_on program a (get_or program a 0) (found_in a cells depth l t p) ≡ look_of program cells a depth
  unfolding first_on look_of decode_of
  look-led l t p w h =
      let d : l ≤ length (drop a program) = omega (arith, length-drop a program) in
      rw (le-ltb 16384 (length program) s, lt-leb (length program) a i, ← first) (head-led (drop a program) cells a depth l t p (rw first w) d)

-- a number in what is left of a program
number-drop : (w a k : ℕ) (s : List ℕ) → number_at w (drop a s) k ≡ number_at w s (a + k)
number-drop zero a k s = refl
number-drop (suc w) a k s = rw (get_or-drop, number-drop w a (k + 1) s, add_assoc)

-- a first byte b whose number has so many bytes, and leads by it
pub record Leads (b width : ℕ) (to : ℕ → Way) : Type 0 where
  pub long : length_of b ≡ 1 + width
  pub number : (s : List ℕ) → number_in (form_of (code_of b)) s ≡ number_at width s 1
  pub limit : limit_in (form_of (code_of b)) ≡ 256 ^ width
  pub way : (x : ℕ) → way_in (code_of b) x ≡ to x

pub leads-00 : Leads 0x00 0 (λ x. Stop)
unfolding code_of form_of length_of ones way_in op_in
leads-00 = record { long = refl; number = λ s. refl; limit = refl; way = λ x. refl }

pub leads-05 : Leads 0x05 0 (λ x. Taken route.Call)
unfolding code_of form_of length_of ones way_in op_in
leads-05 = record { long = refl; number = λ s. refl; limit = refl; way = λ x. refl }

pub leads-06 : Leads 0x06 0 (λ x. Taken route.Jump)
unfolding code_of form_of length_of ones way_in op_in
leads-06 = record { long = refl; number = λ s. refl; limit = refl; way = λ x. refl }

pub leads-07 : Leads 0x07 0 (λ x. Taken route.JumpIf)
unfolding code_of form_of length_of ones way_in op_in
leads-07 = record { long = refl; number = λ s. refl; limit = refl; way = λ x. refl }

pub leads-08 : Leads 0x08 0 (λ x. Taken route.JumpIfNot)
unfolding code_of form_of length_of ones way_in op_in
leads-08 = record { long = refl; number = λ s. refl; limit = refl; way = λ x. refl }

pub leads-09 : Leads 0x09 0 (λ x. Taken route.System)
unfolding code_of form_of length_of ones way_in op_in
leads-09 = record { long = refl; number = λ s. refl; limit = refl; way = λ x. refl }

pub leads-0a : Leads 0x0A 0 (λ x. Taken route.Extension)
unfolding code_of form_of length_of ones way_in op_in
leads-0a = record { long = refl; number = λ s. refl; limit = refl; way = λ x. refl }

pub leads-3b : Leads 0x3B 1 (λ x. Call x)
unfolding code_of form_of length_of ones way_in op_in
leads-3b = record { long = refl; number = λ s. refl; limit = refl; way = λ x. refl }

pub leads-3c : Leads 0x3C 1 (λ x. Jump x)
unfolding code_of form_of length_of ones way_in op_in
leads-3c = record { long = refl; number = λ s. refl; limit = refl; way = λ x. refl }

pub leads-3d : Leads 0x3D 1 (λ x. Branch true x)
unfolding code_of form_of length_of ones way_in op_in
leads-3d = record { long = refl; number = λ s. refl; limit = refl; way = λ x. refl }

pub leads-3e : Leads 0x3E 1 (λ x. Branch false x)
unfolding code_of form_of length_of ones way_in op_in
leads-3e = record { long = refl; number = λ s. refl; limit = refl; way = λ x. refl }

pub leads-3f : Leads 0x3F 1 (λ x. System x)
unfolding code_of form_of length_of ones way_in op_in
leads-3f = record { long = refl; number = λ s. refl; limit = refl; way = λ x. refl }

pub leads-40 : Leads 0x40 1 (λ x. Extension x)
unfolding code_of form_of length_of ones way_in op_in
leads-40 = record { long = refl; number = λ s. refl; limit = refl; way = λ x. refl }

pub leads-55 : Leads 0x55 2 (λ x. Call x)
unfolding code_of form_of length_of ones way_in op_in
leads-55 = record { long = refl; number = λ s. refl; limit = refl; way = λ x. refl }

pub leads-56 : Leads 0x56 2 (λ x. Jump x)
unfolding code_of form_of length_of ones way_in op_in
leads-56 = record { long = refl; number = λ s. refl; limit = refl; way = λ x. refl }

pub leads-57 : Leads 0x57 2 (λ x. Branch true x)
unfolding code_of form_of length_of ones way_in op_in
leads-57 = record { long = refl; number = λ s. refl; limit = refl; way = λ x. refl }

pub leads-58 : Leads 0x58 2 (λ x. Branch false x)
unfolding code_of form_of length_of ones way_in op_in
leads-58 = record { long = refl; number = λ s. refl; limit = refl; way = λ x. refl }

pub leads-59 : Leads 0x59 2 (λ x. System x)
unfolding code_of form_of length_of ones way_in op_in
leads-59 = record { long = refl; number = λ s. refl; limit = refl; way = λ x. refl }

pub leads-5a : Leads 0x5A 2 (λ x. Extension x)
unfolding code_of form_of length_of ones way_in op_in
leads-5a = record { long = refl; number = λ s. refl; limit = refl; way = λ x. refl }

-- its number stands inside a program that holds the instruction
pub inside : (b width : ℕ) (to : ℕ → Way) → Leads b width to → (c a n : ℕ) → c ≡ b → a + length_of c ≤ n → a + 1 + width ≤ n
inside b width to e c a n q h = let l : length_of c ≡ 1 + width = ap length_of q ∙ e.long in omega arith

-- the shifts
pub record Shifts (b : ℕ) : Type 0 where
  pub long : length_of b ≡ 2
  pub form : form_of (code_of b) ≡ Shift
  pub way : (x : ℕ) → way_in (code_of b) x ≡ Next

pub shifts-31 : Shifts 0x31
unfolding code_of form_of length_of ones way_in op_in
shifts-31 = record { long = refl; form = refl; way = λ x. refl }

pub shifts-32 : Shifts 0x32
unfolding code_of form_of length_of ones way_in op_in
shifts-32 = record { long = refl; form = refl; way = λ x. refl }

abbrev is_next : Way → Bool
is_next Stop = false
is_next Next = true
is_next (Jump x) = false
is_next (Branch t x) = false
is_next (Call x) = false
is_next (Taken r) = false
is_next (System x) = false
is_next (Extension x) = false

next_way : (w : Way) → is_next w ≡ true → w ≡ Next
next_way Stop e = absurd (false-true e)
next_way Next e = refl
next_way (Jump x) e = absurd (false-true e)
next_way (Branch t x) e = absurd (false-true e)
next_way (Call x) e = absurd (false-true e)
next_way (Taken r) e = absurd (false-true e)
next_way (System x) e = absurd (false-true e)
next_way (Extension x) e = absurd (false-true e)

abbrev not_shift : Form → Bool
not_shift Plain = true
not_shift Byte = true
not_shift Shift = false
not_shift Word = true
not_shift Short = true
not_shift Values = true
not_shift Illegal = true

-- all others go on to the next instruction, whatever their number, and are no shifts
abbrev onward : ℕ → ℕ → Bool
onward x b = both (is_next (way_in (code_of b) x)) (not_shift (form_of (code_of b)))

all_others : (x : ℕ) → every (λ b. pick (turning b) true (onward x b)) 256 ≡ true
unfolding code_of form_of way_in op_in
all_others x = refl

others : (b x : ℕ) → b < 256 → turning b ≡ false → onward x b ≡ true
others b x h t = rw t at (at (λ k. pick (turning k) true (onward x k)) 256 (all_others x) b h)

-- a number is below its limit, but for that of a shift
below : (f : Form) (s : List ℕ) → Bytes s → not_shift f ≡ true → 0 < limit_in f → number_in f s < limit_in f
below Plain s h n l = omega arith
below Byte s h n l = number_lt 1 s 1 h
below Shift s h n l = absurd (false-true n)
below Word s h n l = number_lt 2 s 1 h
below Short s h n l = omega arith
below Values s h n l = omega arith
below Illegal s h n l = absurd (omega arith)

pub not-turning : (t : Bool) → not t ≡ true → t ≡ false
not-turning true e = absurd (false-true e)
not-turning false e = refl

-- what the code makes of a program's instruction at the address a, which begins with c, and what it then answers
module _ (program : List ℕ) (a : ℕ) (found : Found) (c : ℕ) (o : Outcome) where
  -- it leads by its number, which is any of its width
  pub on-number : Bytes program → (b width : ℕ) (to : ℕ → Way) → Leads b width to → c ≡ b → (x : ℕ) → x ≡ number_at width program (a + 1)
      → o ≡ on_way found.next (to x) (after_of found) → o ≡ first_on program a c found
  unfolding first_on
  on-number bytes b width to e k x q r =
      let z = e.number (drop a program) in
      let m : number_at width (drop a program) 1 < 256 ^ width = number_lt width (drop a program) 1 (bytes_drop a program bytes) in
      rw (k, z, e.limit, lt-ltb _ _ m, e.way (number_at width (drop a program) 1), number-drop width a 1 program, ← q) r

  -- it is a shift
  pub on-shift : (b : ℕ) → Shifts b → c ≡ b
      → o ≡ pick (ltb (get_or program (a + 1) 0) 16) (on_way found.next Next (after_of found)) (bad 2) → o ≡ first_on program a c found
  unfolding first_on
  on-shift b e k r =
      let n : number_at 1 (drop a program) 1 ≡ get_or program (a + 1) 0 = number-drop 1 a 1 program ∙ omega arith in
      rw (k, e.form, n, e.way (get_or program (a + 1) 0)) r

  -- it goes on
  pub on-next : Bytes program → c < 256 → 0 < length_of c → turning c ≡ false → o ≡ on_way found.next Next (after_of found) → o ≡ first_on program a c found
  unfolding first_on length_of
  on-next bytes h l t r =
      let f = form_of (code_of c) in
      let x = number_in f (drop a program) in
      let u = others c x h t in
      let w = next_way (way_in (code_of c) x) (both_left (is_next (way_in (code_of c) x)) (not_shift f) u) in
      let g = legal f c (λ z. omega arith) in
      let k = below f (drop a program) (bytes_drop a program bytes) (both_right (is_next (way_in (code_of c) x)) (not_shift f) u) g.limit in
      rw (lt-ltb x (limit_in f) k, w) r
