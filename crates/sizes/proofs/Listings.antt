-- A line of the listing has at most 17 bytes for each byte of the program that it is about, so a listing has at most 17 a byte; one
-- of short pushes has as many.
-- Assumes nothing.
use Prim.Native.Nat.{ℕ, zero, suc, ◌+◌, ◌-◌, ◌*◌, ◌≤◌, ◌<◌}
use native.Mathlib.Omega.{arith}
use mathlib.Core.Path.{◌≡◌, refl, ◌∙◌, subst}
use mathlib.Core.Bool.{Bool, true, false}
use mathlib.Core.List.{List, [], ◌∷◌, ◌++◌}
use lib.Count.{ones}
use lib.Dec.{ltb, leb, eqb}
use lib.ListN.{length, get_or, replicate, length-append, length-replicate}
use borrow.Author.Tests.{le-ltb, ltb-true, ltb-false, leb-true, eqb-false}
use Rattle.basis.specs.Pick.{pick}
use Rattle.basis.specs.Answer.{Answer, given, refused}
use Rattle.basis.specs.Room.{fitted}
use Rattle.basis.proofs.Tests.{refused-given, given-one}
use Rattle.basis.proofs.Tables.{every, at as passes_at}
use Rattle.forms.specs.Form.{form_of, code_of, width_in, limit_in, count_in, flags_in, length_in, length_of, value_width, width0, width1, width2, width3}
use Rattle.forms.specs.declared.Form.{Form}
use Rattle.forms.specs.declared.Form.TheVariants.{Plain, Byte, Shift, Word, Short, Values, Illegal}
use Rattle.forms.proofs.Widths.{count-le, widths-sum, legal}
use Rattle.decoder.specs.Decode.{Reading, number_in, instruction_in, head_of}
use Rattle.text.proofs.Puts.{length-hex}
use Rattle.names.specs.Names.{place_of, name_of}
use Rattle.lines.specs.Line.{operand_of, shown_in, operands_of, said_of, step_of, line_of}
use Rattle.operands.proofs.Shown.{length-operands}
use Rattle.lines.proofs.Written.{length-line}
use Rattle.listing.specs.Listing.{lines_of, listing_of, list_of}
use Rattle.listing.proofs.Listings.{step_in}
use Rattle.sizes.proofs.Rooms.{Writes, early, late}

-- the longest name of a form
abbrev name_most : Form → ℕ
name_most Plain = 11
name_most Byte = 17
name_most Shift = 17
name_most Word = 17
name_most Short = 7
name_most Values = 11
name_most Illegal = 17

abbrev short : ℕ → Bool
short c = leb (length (name_of c)) (name_most (form_of c))

all_short : every short 256 ≡ true
unfolding form_of place_of name_of
all_short = refl

code_lt : (b : ℕ) → code_of b < 256
unfolding code_of
code_lt b = go (ltb b 0x80) (ltb b 0xC0) refl
  where
    go : (t u : Bool) → ltb b 0x80 ≡ t → pick t b (pick u 0x80 0xC0) < 256
    go true u p = omega (arith, ltb-true b 0x80 p)
    go false true p = omega arith
    go false false p = omega arith

name-most : (b : ℕ) → length (name_of (code_of b)) ≤ name_most (form_of (code_of b))
name-most b = leb-true _ _ (passes_at short 256 all_short (code_of b) (code_lt b))

-- an operand has four bytes at most for each byte of its width
operand-most : (w v : ℕ) → length (operand_of w v) ≤ 4 * w
operand-most zero v = omega arith
operand-most (suc w) v = omega (arith, length-hex (suc w) v)

-- address, blanks, name and number of a legal form
form-most : (f : Form) → 0 < limit_in f → 6 + name_most f + 4 * shown_in f ≤ 17 + 17 * width_in f
form-most Plain h = omega arith
form-most Byte h = omega arith
form-most Shift h = omega arith
form-most Word h = omega arith
form-most Short h = omega arith
form-most Values h = omega arith
form-most Illegal h = omega arith

sum-most : (n o v0 v1 v2 v3 w0 w1 w2 w3 set count wide shown name len : ℕ)
    → o ≤ 4 * shown → v0 ≤ 4 * w0 → v1 ≤ 4 * w1 → v2 ≤ 4 * w2 → v3 ≤ 4 * w3 → w0 + w1 + w2 + w3 ≡ count + set
    → len ≡ 1 + wide + count + set → n ≤ name → 6 + name + 4 * shown ≤ 17 + 17 * wide → 6 + (n + (o + (v0 + (v1 + (v2 + v3))))) ≤ 17 * len
sum-most n o v0 v1 v2 v3 w0 w1 w2 w3 set count wide shown name len a b c d e f g h i = omega arith

-- what a line says of an instruction
instruction-most : (s : List ℕ) (f : Form) → form_of (code_of (get_or s 0 0)) ≡ f → (length_in f (get_or s 0 0) ≡ 0 → ⊥)
    → 6 + length (name_of (instruction_in f s).code ++ operands_of (instruction_in f s)) ≤ 17 * length_in f (get_or s 0 0)
instruction-most s f e n =
    let b = get_or s 0 0 in
    let i = instruction_in f s in
    let g = legal f b n in
    let h : length (name_of (code_of b)) ≤ name_most f = rw (← e) (name-most b) in
    let o : length (operand_of (shown_in (form_of (code_of b))) i.number) ≤ 4 * shown_in f = rw e (operand-most (shown_in f) i.number) in
    rw (length-append, length-operands i)
    (sum-most _ _ _ _ _ _ _ _ _ _ (ones (flags_in f b)) (count_in f b) (width_in f) (shown_in f) (name_most f) (length_in f b)
    o (operand-most (width0 (count_in f b) (flags_in f b)) i.v0) (operand-most (width1 (count_in f b) (flags_in f b)) i.v1)
    (operand-most (width2 (count_in f b) (flags_in f b)) i.v2) (operand-most (width3 (count_in f b) (flags_in f b)) i.v3)
    (widths-sum (count_in f b) (flags_in f b) (count-le f b) g.flags) g.long h (form-most f g.limit))

said-most : (s : List ℕ) (r : Reading) (b : ℕ) → head_of s ≡ given r → 6 + length (said_of (given r) b) ≤ 17 * r.1
unfolding head_of said_of length_of
said-most s r b e = go (eqb (length_in f c) 0) (ltb (length s) (length_in f c)) (ltb (number_in f s) (limit_in f)) refl e
  where
    c : ℕ
    c = get_or s 0 0

    f : Form
    f = form_of (code_of c)

    go : (t u v : Bool) → eqb (length_in f c) 0 ≡ t → pick t (refused 2) (pick u (refused 3) (pick v (given (instruction_in f s, length_in f c)) (refused 2))) ≡ given r
        → 6 + length (name_of r.0.code ++ operands_of r.0) ≤ 17 * r.1
    go true u v p x = absurd (refused-given 2 r x)
    go false true v p x = absurd (refused-given 3 r x)
    go false false true p x =
        subst (λ (a : Reading). 6 + length (name_of a.0.code ++ operands_of a.0) ≤ 17 * a.1) (given-one _ _ x)
        (instruction-most s f refl (eqb-false (length_in f c) 0 p))
    go false false false p x = absurd (refused-given 2 r x)

byte-said : (n b : ℕ) → length (said_of (refused n) b) ≡ 8
unfolding said_of
byte-said n b = refl

-- a line, by the bytes that it is about
line-most : (at b : ℕ) (s : List ℕ) → length (line_of at (head_of s) b) ≤ 17 * step_of (head_of s)
line-most at b s = by (head_of s) refl
  where
    by : (d : Answer Reading) → head_of s ≡ d → length (line_of at d b) ≤ 17 * step_of d
    by (given r) e = omega (arith, length-line at (given r) b, said-most s r b e)
    by (refused n) e = omega (arith, length-line at (refused n) b, byte-said n b)

lines-most : (past at : ℕ) (s : List ℕ) → length (lines_of past at s) ≤ 17 * (length s - past)
unfolding lines_of
lines-most past at [] = omega arith
lines-most zero at (b ∷ s) =
    let t = step_in (b ∷ s) (omega arith) in
    rw length-append (omega (arith, line-most at b (b ∷ s), lines-most (step_of (head_of (b ∷ s)) - 1) (suc at) s, t.0, t.1))
lines-most (suc past) at (b ∷ s) = omega (arith, lines-most past (suc at) s)

pub list-writes : (p : List ℕ) (most : ℕ) → (length p ≤ 16384 → 17 * length p ≤ most) → Writes most (λ room. list_of p room)
unfolding list_of
list-writes p most h = by (ltb 16384 (length p)) refl
  where
    by : (t : Bool) → ltb 16384 (length p) ≡ t → Writes most (λ room. pick (ltb 16384 (length p)) (refused 20) (fitted room (listing_of p)))
    by true e = early 20 (λ z. omega arith) (λ room. rw e)
    by false e = late (listing_of p) (omega (arith, lines-most 0 0 p, h (ltb-false 16384 (length p) e))) (λ room. rw e)

-- a short push
push-head : (s : List ℕ) → head_of (0x80 ∷ s) ≡ given (instruction_in Short (0x80 ∷ s), 1)
unfolding head_of length_of form_of code_of ones
push-head s = let h : 1 ≤ suc (length s) = omega arith in rw (le-ltb (suc (length s)) 1 h)

push-said : (s : List ℕ) → length (said_of (given (instruction_in Short (0x80 ∷ s), 1)) 0x80) ≡ 11
unfolding said_of operands_of name_of place_of form_of code_of value_width
push-said s = refl

push-line : (at : ℕ) (s : List ℕ) → length (line_of at (head_of (0x80 ∷ s)) 0x80) ≡ 17
push-line at s = length-line at (head_of (0x80 ∷ s)) 0x80 ∙ rw (push-head s, push-said s)

pushes-listed : (n at : ℕ) → length (lines_of 0 at (replicate {A = ℕ} n 0x80)) ≡ 17 * n
unfolding lines_of
pushes-listed zero at = refl
pushes-listed (suc n) at =
    let s = replicate {A = ℕ} n 0x80 in
    let z : step_of (head_of (0x80 ∷ s)) - 1 ≡ 0 = rw (push-head s) in
    rw (length-append, push-line at s, z) (omega (arith, pushes-listed n (suc at)))

listing-fits : (p : List ℕ) (room : ℕ) → length p ≤ 16384 → length (listing_of p) ≤ room → list_of p room ≡ given (listing_of p)
unfolding list_of
listing-fits p room h l = rw (le-ltb 16384 (length p) h, le-ltb room (length (listing_of p)) l)

-- the longest program, all short pushes
unfoldable pub pushes : List ℕ
pushes = replicate 16384 0x80

pub pushes-long : length (listing_of pushes) ≡ 278528
unfolding pushes
pushes-long = pushes-listed 16384 0

length-pushes : length pushes ≡ 16384
unfolding pushes
length-pushes = length-replicate {A = ℕ} 16384 0x80

pub pushes-written : list_of pushes 278528 ≡ given (listing_of pushes)
pushes-written = listing-fits pushes 278528 (omega (arith, length-pushes)) (omega (arith, pushes-long))
