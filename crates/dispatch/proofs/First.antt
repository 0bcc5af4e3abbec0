-- What an instruction does is told by its first byte: by cases on the form, from what the decoder answers on the rest of the program.
-- Assumes nothing.
use Prim.Native.Nat.{ℕ, suc, ◌+◌, ◌-◌, ◌*◌, ◌%◌, ◌<◌, ◌≤◌}
use native.Mathlib.Omega.{arith}
use native.Mathlib.Nat.{add-zero}
use mathlib.Core.Path.{◌≡◌, refl, sym, ap, ◌∙◌}
use mathlib.Core.Bool.{Bool, true, false}
use mathlib.Core.List.{List, [], ◌∷◌}
use lib.ListN.{length, get_or, drop, length-drop}
use lib.Seq.{get_or-drop}
use lib.Dec.{ltb, eqb}
use lib.Count.{ones}
use borrow.Author.Tests.{lt-ltb, le-ltb, le-leb, lt-leb, ltb-true, ltb-false, ne_eqb}
use Rattle.basis.specs.Pick.{pick}
use Rattle.basis.specs.Answer.{Answer, given, refused}
use Rattle.basis.specs.Number.{number_at, Bytes}
use Rattle.forms.specs.Form.{form_of, code_of, length_in, length_of, limit_in, count_in}
use Rattle.forms.specs.declared.Form.{Form}
use Rattle.forms.specs.declared.Form.TheVariants.{Plain, Byte, Shift, Word, Short, Values, Illegal}
use Rattle.isa.specs.Op.{Op, Push, op_in, op_of}
use Rattle.decoder.specs.Decode.{Reading, number_in, instruction_in, head_of, decode_of}
use Rattle.isa.specs.declared.Instruction.{Instruction}
use Rattle.effects.specs.Act.{became, do_of, on_reading, act_of}
use Rattle.dispatch.specs.First.{on_number, numbered_of, on_shift, shift_of, formed_of, first_of}

-- what s begins with, by the form of its first byte
abbrev head_by_form : Form → List ℕ → Answer Reading
head_by_form f s =
    pick (eqb (length_in f (get_or s 0 0)) 0) (refused 2)
    (pick (ltb (length s) (length_in f (get_or s 0 0))) (refused 3)
    (pick (ltb (number_in f s) (limit_in f)) (given (instruction_in f s, length_in f (get_or s 0 0)))
    (refused 2)))

-- the rest is too short where the whole is
ltb-part : (l a n : ℕ) → a ≤ l → ltb (l - a) n ≡ ltb l (a + n)
ltb-part l a n h = by (ltb l (a + n)) refl
  where
    by : (t : Bool) → ltb l (a + n) ≡ t → ltb (l - a) n ≡ t
    by true e = let q = ltb-true l (a + n) e in lt-ltb (l - a) n (omega arith)
    by false e = let q = ltb-false l (a + n) e in le-ltb (l - a) n (omega arith)

-- a code whose form has no values is not C0
not-values : (code b : ℕ) → count_in (form_of code) b ≡ 0 → eqb code 0xC0 ≡ false
unfolding form_of
not-values code b h = ne_eqb code 0xC0 (λ q. let k : b % 4 + 1 ≡ 0 = rw q at h in omega arith)

module _ (program : List ℕ) (address depth : ℕ) (mem cells : List ℕ) where
  -- an answer of the decoder that is cut or not, of a good number or not
  read_as :
      (t t' u u' : Bool) (i : Instruction) (n : ℕ) (o : Op) → t ≡ t' → u ≡ u' → op_of i ≡ o
      → on_reading program address depth mem cells (pick t (refused 3) (pick u (given (i, n)) (refused 2)))
      ≡ pick t' (became (refused 3) mem cells) (pick u' (do_of program (address + n) o depth mem cells) (became (refused 2) mem cells))
  read_as true t' u u' i n o e f g = rw (← e)
  read_as false t' true u' i n o e f g = rw (← e, ← f, g)
  read_as false t' false u' i n o e f g = rw (← e, ← f)

  -- 1
  pub act-end : length program ≤ 16384 → length program ≤ address → act_of program address depth mem cells ≡ became (refused 1) mem cells
  unfolding act_of decode_of
  act-end s h = rw (le-ltb 16384 (length program) s, le-leb (length program) address h)

  abbrev first : ℕ
  first = get_or program address 0

  abbrev second : ℕ
  second = get_or program (address + 1) 0

  abbrev third : ℕ
  third = get_or program (address + 1 + 1) 0

  abbrev rest : List ℕ
  rest = drop address program

  first_byte : get_or rest 0 0 ≡ first
  first_byte = get_or-drop address program 0 0 ∙ ap (λ (k : ℕ). get_or program k 0) (add-zero address)

  second-byte : get_or rest 1 0 ≡ second
  second-byte = get_or-drop address program 1 0

  third-byte : get_or rest 2 0 ≡ third
  third-byte = get_or-drop address program 2 0 ∙ ap (λ (k : ℕ). get_or program k 0) (let e : address + 2 ≡ address + 1 + 1 = omega arith in e)

  number-one : number_at 1 rest 1 ≡ second
  number-one = let q = second-byte in omega arith

  number-two : number_at 2 rest 1 ≡ second + 256 * third
  number-two = let q = second-byte in let r = third-byte in omega arith

  -- an operation with a number, by whether that is cut
  numbered-as :
      (w x next : ℕ) (o : ℕ → Op) → number_at w program (address + 1) ≡ x → address + 1 + w ≡ next
      → numbered_of program address depth mem cells w o ≡ pick (ltb (length program) next) (became (refused 3) mem cells) (do_of program next (o x) depth mem cells)
  unfolding numbered_of
  numbered-as w x next o e f = rw (e, ← f) (by (ltb (length program) (address + 1 + w)))
    where
      by : (t : Bool)
          → on_number program address depth mem cells w o (pick t (refused 3) (given x)) ≡ pick t (became (refused 3) mem cells) (do_of program (address + 1 + w) (o x) depth mem cells)
      by true = refl
      by false = refl

  -- a shift, by whether its number is cut, and then whether it is 0 to 15
  shift-as :
      (x next : ℕ) (o : ℕ → Op) → number_at 1 program (address + 1) ≡ x → address + 1 + 1 ≡ next
      → shift_of program address depth mem cells o
      ≡ pick (ltb (length program) next) (became (refused 3) mem cells) (pick (ltb x 16) (do_of program next (o x) depth mem cells) (became (refused 2) mem cells))
  unfolding shift_of
  shift-as x next o e f = rw (e, ← f) (by (ltb (length program) (address + 1 + 1)))
    where
      by : (t : Bool)
          → on_shift program address depth mem cells o (pick t (refused 3) (given x))
          ≡ pick t (became (refused 3) mem cells) (pick (ltb x 16) (do_of program (address + 1 + 1) (o x) depth mem cells) (became (refused 2) mem cells))
      by true = refl
      by false = refl

  byte-after : number_at 1 program (address + 1) ≡ second
  byte-after = omega arith

  word-after : number_at 2 program (address + 1) ≡ second + 256 * third
  word-after = omega arith

  -- what the rest begins with, by the form of its first byte
  head_in : (f : Form) → form_of (code_of first) ≡ f → head_of rest ≡ head_by_form f rest
  unfolding head_of length_of
  head_in f e = rw (first_byte, e)

  -- the operation that was read, where it is no push of values
  op-as : (f : Form) (x : ℕ) → form_of (code_of first) ≡ f → count_in f first ≡ 0 → number_in f rest ≡ x → op_of (instruction_in f rest) ≡ op_in (code_of first) x
  unfolding op_of
  op-as f x e n q = rw (first_byte, not-values (code_of first) first (rw e n), q)

  module _ (h : address < length program) (w : Bytes program) where
    cut : (n : ℕ) → ltb (length rest) n ≡ ltb (length program) (address + n)
    cut n = ap (λ (l : ℕ). ltb l n) (length-drop address program) ∙ ltb-part (length program) address n (omega arith)

    whole : ltb (length rest) 1 ≡ false
    whole = cut 1 ∙ le-ltb (length program) (address + 1) (omega arith)

    good-one : ltb (number_at 1 rest 1) 256 ≡ true
    good-one = ap (λ (n : ℕ). ltb n 256) number-one ∙ lt-ltb second 256 (w (address + 1))

    good-two : ltb (number_at 2 rest 1) 65536 ≡ true
    good-two =
        let v = w (address + 1) in
        let z = w (address + 1 + 1) in
        ap (λ (n : ℕ). ltb n 65536) number-two ∙ lt-ltb (second + 256 * third) 65536 (omega arith)

    good-six : ltb (get_or rest 0 0 % 64) 64 ≡ true
    good-six = lt-ltb (get_or rest 0 0 % 64) 64 (omega arith)

    formed :
        (f : Form) → form_of (code_of first) ≡ f
        → on_reading program address depth mem cells (head_of rest) ≡ formed_of program address depth mem cells f first (λ x. op_in (code_of first) x)
    unfolding ones
    formed Plain e = rw (head_in Plain e) (read_as _ false true true (instruction_in Plain rest) 1 _ whole refl (op-as Plain 0 e refl refl))
    formed Byte e =
        rw (head_in Byte e) (read_as _ _ _ true (instruction_in Byte rest) 2 _ (cut 2) good-one (op-as Byte second e refl number-one))
        ∙ sym (numbered-as 1 second (address + 2) (λ x. op_in (code_of first) x) byte-after (omega arith))
    formed Shift e =
        rw (head_in Shift e) (read_as _ _ _ _ (instruction_in Shift rest) 2 _ (cut 2) (ap (λ (n : ℕ). ltb n 16) number-one) (op-as Shift second e refl number-one))
        ∙ sym (shift-as second (address + 2) (λ x. op_in (code_of first) x) byte-after (omega arith))
    formed Word e =
        rw (head_in Word e) (read_as _ _ _ true (instruction_in Word rest) 3 _ (cut 3) good-two (op-as Word _ e refl number-two))
        ∙ sym (numbered-as 2 (second + 256 * third) (address + 3) (λ x. op_in (code_of first) x) word-after (omega arith))
    formed Short e = rw (head_in Short e) (read_as _ false _ true (instruction_in Short rest) 1 _ whole good-six (op-as Short _ e refl (ap (λ (n : ℕ). n % 64) first_byte)))
    formed Values e = refl
    formed Illegal e = rw (head_in Illegal e)

  -- an instruction is told by its first byte
  pub act-first : length program ≤ 16384 → address < length program → Bytes program → act_of program address depth mem cells ≡ first_of program address depth mem cells first
  unfolding act_of decode_of first_of
  act-first s h w = rw (le-ltb 16384 (length program) s, lt-leb (length program) address h) (formed h w (form_of (code_of first)) refl)
