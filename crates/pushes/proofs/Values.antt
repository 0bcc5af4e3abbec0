-- What an instruction C0 to FF does, by the outcome of each check: a flag of an absent value, operands cut, no room, or its values pushed.
-- Assumes nothing.
use Prim.Native.Nat.{ℕ, zero, suc, ◌+◌, ◌-◌, ◌/◌, ◌^◌, ◌<◌, ◌≤◌}
use native.Mathlib.Omega.{arith}
use native.Mathlib.Nat.{add-zero, sub-zero, add_assoc, le-div_iff_mul-le, div-lt_iff_lt-mul}
use mathlib.Core.Path.{◌≡◌, refl, ap, ◌∙◌}
use mathlib.Core.List.{List}
use lib.ListN.{length, get_or, drop, length-drop}
use lib.Seq.{get_or-drop, length-take-le}
use lib.Pow.{pow_pos}
use lib.Count.{ones}
use borrow.Author.Tests.{lt-ltb, le-ltb, lt-leb, ne_eqb}
use Rattle.basis.specs.Answer.{given, refused}
use Rattle.basis.specs.Number.{number_at}
use Rattle.forms.specs.Form.{form_of, code_of, count_in, flags_in, length_of}
use Rattle.forms.specs.declared.Form.TheVariants.{Values}
use Rattle.isa.specs.Op.{Push, op_of}
use Rattle.decoder.specs.Decode.{with_values, head_of, decode_of}
use Rattle.decoder.specs.Refusals.{Inside, illegal_first, cut}
use Rattle.decoder.proofs.Refuses.{why-refusal}
use Rattle.effects.specs.Memory.{pushed}
use Rattle.effects.specs.Effect.{goes}
use Rattle.effects.specs.Act.{became, do_of, act_of}
use Rattle.effects.specs.declared.Move.TheVariants.{To}
use Rattle.effects.proofs.Opens.{full, left}
use Rattle.pushes.specs.Values.{values_at}

-- no flag past the first n is set, or one is
pub none-past : (flags n : ℕ) → flags / 2 ^ n ≡ 0 → flags < 2 ^ n
none-past flags n h = let k = (div-lt_iff_lt-mul {k = 2 ^ n} {x = flags} {y = 1} (pow_pos n)).0 (omega arith) in omega arith

one-past : (flags n : ℕ) → (flags / 2 ^ n ≡ 0 → ⊥) → 2 ^ n ≤ flags
one-past flags n h = let k = (le-div_iff_mul-le {k = 2 ^ n} {x = 1} {y = flags} (pow_pos n)).0 (omega arith) in omega arith

values-code : (b : ℕ) → 192 ≤ b → code_of b ≡ 0xC0
unfolding code_of
values-code b h = rw (le-ltb b 0x80 (omega arith), le-ltb b 0xC0 h)

values-form : (b : ℕ) → 192 ≤ b → form_of (code_of b) ≡ Values
unfolding form_of
values-form b h = rw (values-code b h)

-- "Flags of absent values must be 0"
no_length : (b : ℕ) → 192 ≤ b → 2 ^ count_in Values b ≤ flags_in Values b → length_of b ≡ 0
unfolding length_of
no_length b h f = rw (values-form b h, le-ltb (flags_in Values b) (2 ^ count_in Values b) f)

-- "one, plus the count, plus the number of set flags"
values_length : (b : ℕ) → 192 ≤ b → flags_in Values b < 2 ^ count_in Values b → length_of b ≡ 1 + count_in Values b + ones (flags_in Values b)
unfolding length_of
values_length b h f = rw (values-form b h, lt-ltb (flags_in Values b) (2 ^ count_in Values b) f)

-- what stands in the rest of a list stands in the list
number-drop : (w a at : ℕ) (s : List ℕ) → number_at w (drop a s) at ≡ number_at w s (a + at)
number-drop zero a at s = refl
number-drop (suc w) a at s = rw (get_or-drop, number-drop w a (at + 1) s, ← add_assoc)

values-drop : (count flags a at : ℕ) (s : List ℕ) → values_at count flags (drop a s) at ≡ values_at count flags s (a + at)
values-drop count flags a at s = simp (number-drop, ← add_assoc)

module _ {program : List ℕ} {address b : ℕ} (i : Inside program address b) (h : 192 ≤ b) (depth : ℕ) (mem cells : List ℕ) where
  abbrev count : ℕ
  count = count_in Values b

  abbrev flags : ℕ
  flags = flags_in Values b

  abbrev values : List ℕ
  values = values_at count flags program (address + 1)

  -- 2
  pub values-illegal : (flags / 2 ^ count ≡ 0 → ⊥) → act_of program address depth mem cells ≡ became (refused 2) mem cells
  unfolding act_of
  values-illegal f = rw (why-refusal program address 2 (illegal_first i (no_length b h (one-past flags count f))))

  module _ (f : flags / 2 ^ count ≡ 0) where
    long : length_of b ≡ 1 + count + ones flags
    long = values_length b h (none-past flags count f)

    -- 3
    pub values-cut : length program < address + 1 + count + ones flags → act_of program address depth mem cells ≡ became (refused 3) mem cells
    unfolding act_of
    values-cut l = let e = long in rw (why-refusal program address 3 (cut i (omega arith) (omega arith)))

    module _ (l : address + 1 + count + ones flags ≤ length program) where
      head : head_of (drop address program) ≡ given (with_values 0xC0 0 count flags (drop address program) 1, length_of b)
      unfolding head_of
      head =
          let e = long in
          let first : get_or (drop address program) 0 0 ≡ b = get_or-drop address program 0 0 ∙ ap (λ (k : ℕ). get_or program k 0) (add-zero address) ∙ i.byte in
          rw (
            first,
            ne_eqb (length_of b) 0 (omega arith),
            length-drop address program,
            le-ltb (length program - address) (length_of b) (omega arith),
            values-form b h,
            values-code b h,
          )

      act-push : act_of program address depth mem cells ≡ do_of program (address + length_of b) (Push values) depth mem cells
      unfolding act_of decode_of op_of
      act-push =
          rw (le-ltb 16384 (length program) i.size, lt-leb (length program) address i.inside, head)
          (ap (λ (vs : List ℕ). do_of program (address + length_of b) (Push vs) depth mem cells) (values-drop count flags address 1 program))

      length-values : length values ≡ count
      length-values = length-take-le count _ (omega arith)

      -- 5
      pub values-full : length cells < depth + count → act_of program address depth mem cells ≡ became (refused 5) mem cells
      values-full r = let v = length-values in act-push ∙ full program (address + length_of b) (Push values) depth mem cells (omega arith) (omega arith)

      pub values-done :
          depth + count ≤ length cells → act_of program address depth mem cells ≡ became (given (To (address + 1 + count + ones flags) (depth + count))) mem (pushed cells depth values)
      values-done r =
          let v = length-values in
          let k = long in
          let next = address + length_of b in
          let e : next ≡ address + 1 + count + ones flags = omega arith in
          act-push ∙ left program next (Push values) depth mem cells (depth + count) (omega arith) (omega arith) r mem values (goes next) refl refl ∙ rw (e, sub-zero)
