-- Two programs with one listing are one: line after line tells the instruction, its bytes and the rest.
-- Assumes nothing.
use Prim.Native.Nat.{ℕ, zero, suc, ◌+◌, ◌-◌, ◌/◌, ◌%◌, ◌^◌, ◌≤◌, ◌<◌}
use native.Mathlib.Omega.{arith}
use mathlib.Core.Path.{◌≡◌, refl, sym, ap, ◌∙◌}
use mathlib.Core.Bool.{Bool, true, false}
use mathlib.Core.List.{List, [], ◌∷◌, ◌++◌, append_assoc}
use lib.ListN.{length, take, drop, length-append, length-drop, take-append-drop}
use lib.Seq.{length-take-le}
use lib.Dec.{ltb}
use borrow.Author.Tests.{le-ltb, ltb-false}
use Rattle.basis.specs.Pick.{pick}
use Rattle.basis.specs.Answer.{Answer, given, refused}
use Rattle.basis.specs.Number.{Bytes}
use Rattle.basis.proofs.Tables.{at}
use Rattle.basis.proofs.Tests.{refused-given, given-one}
use Rattle.basis.proofs.Numbers.{bytes_drop}
use Rattle.forms.specs.Form.{form_of, limit_in, value_width, width0, width1, width2, width3}
use Rattle.forms.specs.declared.Form.{Form}
use Rattle.forms.specs.declared.Form.TheVariants.{Plain, Byte, Shift, Word, Short, Values, Illegal}
use Rattle.decoder.specs.Decode.{Reading, head_of}
use Rattle.isa.specs.declared.Instruction.{Instruction}
use Rattle.encoder.specs.Encode.{encoded_of}
use Rattle.encoder.proofs.Wells.{WellFormed, well, well-count, well-flags}
use Rattle.encoder.proofs.Back.{head-back}
use Rattle.text.specs.Text.{bytes, hex_of}
use Rattle.names.specs.Names.{name_of}
use Rattle.lines.specs.Line.{operand_of, shown_in, operands_of, said_of, step_of, line_of}
use Rattle.lines.proofs.Written.{length-line}
use Rattle.listing.specs.Listing.{lines_of, listing_of, list_of}
use Rattle.listing.proofs.Listings.{step_in, lines-past}
use Rattle.distinct.specs.Listings.{ListingTells, WrittenTells}
use Rattle.distinct.proofs.Words.{front, word-stop, first}
use Rattle.distinct.proofs.Codes.{name-word, name-byte, code_same}
use Rattle.distinct.proofs.Operands.{operand-stop, number_same, four, Good, s1, four_same, widths-say}

-- an instruction
absent : (k count f f' : ℕ) → value_width k count f ≡ 0 → value_width (suc k) count f' ≡ 0
unfolding value_width
absent k count f f' e = go (ltb k count) refl e
  where
    go : (t : Bool) → ltb k count ≡ t → pick t (1 + f % 2) 0 ≡ 0 → pick (ltb (suc k) count) (1 + f' % 2) 0 ≡ 0
    go true p q = absurd (omega arith)
    go false p q = let h : count ≤ suc k = omega (arith, ltb-false k count p) in rw (le-ltb (suc k) count h)

good : (i : Instruction) (r : List ℕ) → WellFormed i →
    Good (width0 i.count i.flags) (width1 i.count i.flags) (width2 i.count i.flags) (width3 i.count i.flags) i.v0 i.v1 i.v2 i.v3 (10 ∷ r)
good i r w = record {
  b0 = w.v0;
  b1 = w.v1;
  b2 = w.v2;
  b3 = w.v3;
  c1 = absent 0 i.count i.flags (i.flags / 2);
  c2 = absent 1 i.count (i.flags / 2) (i.flags / 4);
  c3 = absent 2 i.count (i.flags / 4) (i.flags / 8);
  end = refl;
}

shown-limit : (f : Form) → limit_in f ≤ 256 ^ shown_in f
shown-limit Plain = omega arith
shown-limit Byte = omega arith
shown-limit Shift = omega arith
shown-limit Word = omega arith
shown-limit Short = omega arith
shown-limit Values = omega arith
shown-limit Illegal = omega arith

-- the values and the end of a line
abbrev ending : Instruction → List ℕ → List ℕ
ending i r = four (width0 i.count i.flags) (width1 i.count i.flags) (width2 i.count i.flags) (width3 i.count i.flags) i.v0 i.v1 i.v2 i.v3 (10 ∷ r)

abbrev after : Instruction → List ℕ → List ℕ
after i r = operand_of (shown_in (form_of i.code)) i.number ++ ending i r

after_stop : (i : Instruction) (r : List ℕ) → WellFormed i → first (after i r) ≤ 32
after_stop i r w =
    operand-stop (shown_in (form_of i.code)) i.number (ending i r)
    (operand-stop (width0 i.count i.flags) i.v0 _ (s1 _ _ _ _ _ _ _ _ (10 ∷ r) (good i r w)))

abbrev made : ℕ → ℕ → ℕ → ℕ → ℕ → ℕ → ℕ → ℕ → Instruction
made a b c d e f g h = record { code = a; number = b; count = c; flags = d; v0 = e; v1 = f; v2 = g; v3 = h }

same-instruction : (i k : Instruction) → i.code ≡ k.code → i.number ≡ k.number → i.count ≡ k.count → i.flags ≡ k.flags
    → i.v0 ≡ k.v0 → i.v1 ≡ k.v1 → i.v2 ≡ k.v2 → i.v3 ≡ k.v3 → i ≡ k
same-instruction i k a b c d e f g h =
    let t : made i.code i.number i.count i.flags i.v0 i.v1 i.v2 i.v3 ≡ made k.code k.number k.count k.flags k.v0 k.v1 k.v2 k.v3 = cc in t

number_at : (i k : Instruction) (x y : List ℕ) → WellFormed i → WellFormed k → i.code ≡ k.code
    → operand_of (shown_in (form_of i.code)) i.number ++ x ≡ operand_of (shown_in (form_of k.code)) k.number ++ y → (i.number ≡ k.number) × (x ≡ y)
number_at i k x y w u c e =
    let t = ap (λ (n : ℕ). limit_in (form_of n)) c in
    let a : i.number < 256 ^ shown_in (form_of k.code) = omega (arith, w.number, shown-limit (form_of k.code)) in
    let b : k.number < 256 ^ shown_in (form_of k.code) = omega (arith, u.number, shown-limit (form_of k.code)) in
    number_same (shown_in (form_of k.code)) i.number k.number x y a b (rw c at e)

read_same : (i k : Instruction) (r s : List ℕ) → WellFormed i → WellFormed k → name_of i.code ++ after i r ≡ name_of k.code ++ after k s → (i ≡ k) × (r ≡ s)
read_same i k r s w u e =
    let a = word-stop (name_of i.code) (name_of k.code) (after i r) (after k s) (name-word i.code) (name-word k.code) (after_stop i r w) (after_stop k s u) e in
    let c = code_same i.code k.code (omega (arith, w.number)) (omega (arith, u.number)) a.0 in
    let n = number_at i k (ending i r) (ending k s) w u c a.1 in
    let v = four_same _ _ _ _ _ _ _ _ (10 ∷ r) _ _ _ _ _ _ _ _ (10 ∷ s) (good i r w) (good k s u) n.1 in
    let l = v.rest in
    let z = widths-say i.count i.flags k.count k.flags (omega (arith, well-count i w)) (well-flags i w) (omega (arith, well-count k u)) (well-flags k u) w.flags u.flags v.e0 v.e1 v.e2 v.e3 in
    (same-instruction i k c n.0 z.0 z.1 v.x0 v.x1 v.x2 v.x3, cc l)

-- a line
line-said : (at : ℕ) (d : Answer Reading) (b : ℕ) (r : List ℕ) → line_of at d b ++ r ≡ hex_of 2 at ++ (32 ∷ (said_of d b ++ (10 ∷ r)))
unfolding line_of
line-said at d b r = simp append_assoc

said-of-read : (i : Instruction) (n b : ℕ) (r : List ℕ) → said_of (given (i, n)) b ++ (10 ∷ r) ≡ name_of i.code ++ after i r
unfolding said_of operands_of
said-of-read i n b r = simp append_assoc

said-of-byte : (e b : ℕ) (r : List ℕ) → said_of (refused e) b ++ (10 ∷ r) ≡ bytes "byte" ++ (operand_of 1 b ++ (10 ∷ r))
unfolding said_of
said-of-byte e b r = simp append_assoc

record Twin (s t r q : List ℕ) : Type 0 where
  pub step : step_of (head_of s) ≡ step_of (head_of t)
  pub part : take (step_of (head_of s)) s ≡ take (step_of (head_of t)) t
  pub rest : r ≡ q

said_same : (b c : ℕ) (s t r q : List ℕ) (d e : Answer Reading) → Bytes (b ∷ s) → Bytes (c ∷ t) → head_of (b ∷ s) ≡ d → head_of (c ∷ t) ≡ e
    → said_of d b ++ (10 ∷ r) ≡ said_of e c ++ (10 ∷ q) → Twin (b ∷ s) (c ∷ t) r q
said_same b c s t r q (given x') (given y') h g x y z =
    let i = x'.0 in
    let n = x'.1 in
    let k = y'.0 in
    let m = y'.1 in
    let u = head-back (b ∷ s) i n h x in
    let v = head-back (c ∷ t) k m g y in
    let w = read_same i k r q (well i u.0) (well k v.0) (sym (said-of-read i n b r) ∙ z ∙ said-of-read k m c q) in
    let a : n ≡ length (encoded_of i) = sym (length-take-le n (b ∷ s) u.2) ∙ ap length (sym u.1) in
    let o : m ≡ length (encoded_of k) = sym (length-take-le m (c ∷ t) v.2) ∙ ap length (sym v.1) in
    let j : n ≡ m = a ∙ ap (λ (f : Instruction). length (encoded_of f)) w.0 ∙ sym o in
    record { step = rw (x, y) j; part = rw (x, y) (sym u.1 ∙ ap encoded_of w.0 ∙ v.1); rest = w.1 }
said_same b c s t r q (given x') (refused e) h g x y z =
    let i = x'.0 in
    let n = x'.1 in
    let u = head-back (b ∷ s) i n h x in
    let w = word-stop (name_of i.code) (bytes "byte") (after i r) (operand_of 1 c ++ (10 ∷ q)) (name-word i.code) refl (after_stop i r (well i u.0)) (omega arith) (sym (said-of-read i n b r) ∙ z ∙ said-of-byte e c q) in
    absurd (name-byte i.code w.0)
said_same b c s t r q (refused e) (given y') h g x y z =
    let k = y'.0 in
    let m = y'.1 in
    let v = head-back (c ∷ t) k m g y in
    let w = word-stop (bytes "byte") (name_of k.code) (operand_of 1 b ++ (10 ∷ r)) (after k q) refl (name-word k.code) (omega arith) (after_stop k q (well k v.0)) (sym (said-of-byte e b r) ∙ z ∙ said-of-read k m c q) in
    absurd (name-byte k.code (sym w.0))
said_same b c s t r q (refused e) (refused f) h g x y z =
    let w : bytes "byte" ++ (operand_of 1 b ++ (10 ∷ r)) ≡ bytes "byte" ++ (operand_of 1 c ++ (10 ∷ q)) = sym (said-of-byte e b r) ∙ z ∙ said-of-byte f c q in
    let o = front (bytes "byte") (bytes "byte") (operand_of 1 b ++ (10 ∷ r)) (operand_of 1 c ++ (10 ∷ q)) refl w in
    let v = number_same 1 b c (10 ∷ r) (10 ∷ q) (h 0) (g 0) o.1 in
    let l = v.0 in
    let k = v.1 in
    record { step = rw (x, y); part = rw (x, y) (cc); rest = cc }

line_same : (at b c : ℕ) (s t r q : List ℕ) → Bytes (b ∷ s) → Bytes (c ∷ t)
    → line_of at (head_of (b ∷ s)) b ++ r ≡ line_of at (head_of (c ∷ t)) c ++ q → Twin (b ∷ s) (c ∷ t) r q
line_same at b c s t r q h g e =
    let o = front (hex_of 2 at) (hex_of 2 at) (32 ∷ (said_of (head_of (b ∷ s)) b ++ (10 ∷ r))) (32 ∷ (said_of (head_of (c ∷ t)) c ++ (10 ∷ q))) refl (sym (line-said at (head_of (b ∷ s)) b r) ∙ e ∙ line-said at (head_of (c ∷ t)) c q) in
    let l = o.1 in
    let z : said_of (head_of (b ∷ s)) b ++ (10 ∷ r) ≡ said_of (head_of (c ∷ t)) c ++ (10 ∷ q) = cc in
    said_same b c s t r q (head_of (b ∷ s)) (head_of (c ∷ t)) h g refl refl z

-- all lines
lines-back : (n at b : ℕ) (s : List ℕ) → 1 ≤ n → lines_of (n - 1) (suc at) s ≡ lines_of 0 (at + n) (drop n (b ∷ s))
lines-back zero at b s h = absurd (omega arith)
lines-back (suc m) at b s h =
    let k : suc m - 1 ≡ m = omega arith in
    let j : suc at + m ≡ at + suc m = omega arith in
    rw (k, ← j) (lines-past m (suc at) s)

-- the lines of a list that begins with b
lines-of : (at b : ℕ) (s : List ℕ) → lines_of 0 at (b ∷ s) ≡ line_of at (head_of (b ∷ s)) b ++ lines_of 0 (at + step_of (head_of (b ∷ s))) (drop (step_of (head_of (b ∷ s))) (b ∷ s))
unfolding lines_of
lines-of at b s = ap (λ (l : List ℕ). line_of at (head_of (b ∷ s)) b ++ l) (lines-back (step_of (head_of (b ∷ s))) at b s (step_in (b ∷ s) (omega arith)).0)

lines_none : (at : ℕ) → lines_of 0 at [] ≡ []
unfolding lines_of
lines_none at = refl

-- lists of at most k bytes with the same lines are the same
abbrev Claim : ℕ → Type 0
Claim k = (s t : List ℕ) (at : ℕ) → length s ≤ k → Bytes s → Bytes t → lines_of 0 at s ≡ lines_of 0 at t → s ≡ t

longer : (at b : ℕ) (s : List ℕ) → lines_of 0 at [] ≡ lines_of 0 at (b ∷ s) → ⊥
longer at b s e = omega (arith, ap length (lines_none at), simp length-append at (ap length (e ∙ lines-of at b s)), length-line at (head_of (b ∷ s)) b)

claim-zero : Claim 0
claim-zero [] [] at l h g e = refl
claim-zero [] (c ∷ t) at l h g e = absurd (longer at c t e)
claim-zero (b ∷ s) t at l h g e = absurd (omega arith)

claim-suc : (k : ℕ) → Claim k → Claim (suc k)
claim-suc k ih [] [] at l h g e = refl
claim-suc k ih [] (c ∷ t) at l h g e = absurd (longer at c t e)
claim-suc k ih (b ∷ s) [] at l h g e = absurd (longer at b s (sym e))
claim-suc k ih (b ∷ s) (c ∷ t) at l h g e =
    let n = step_of (head_of (b ∷ s)) in
    let m = step_of (head_of (c ∷ t)) in
    let i = step_in (b ∷ s) (omega arith) in
    let w = line_same at b c s t (lines_of 0 (at + n) (drop n (b ∷ s))) (lines_of 0 (at + m) (drop m (c ∷ t))) h g (sym (lines-of at b s) ∙ e ∙ lines-of at c t) in
    let d = ih (drop n (b ∷ s)) (drop m (c ∷ t)) (at + m) (omega (arith, length-drop n (b ∷ s))) (bytes_drop n (b ∷ s) h) (bytes_drop m (c ∷ t) g) (ap (λ (j : ℕ). lines_of 0 (at + j) (drop n (b ∷ s))) (sym w.step) ∙ w.rest) in
    sym (take-append-drop n (b ∷ s)) ∙ (ap (λ (x : List ℕ). x ++ drop n (b ∷ s)) w.part ∙ (ap (λ (x : List ℕ). take m (c ∷ t) ++ x) d ∙ take-append-drop m (c ∷ t)))

claim : (k : ℕ) → Claim k
claim zero = claim-zero
claim (suc k) = claim-suc k (claim k)

pub listing-tells : ListingTells
listing-tells p q h g e = claim (length p) p q 0 (omega arith) h g e

-- what is written is the listing
written_is : (p written : List ℕ) (n : ℕ) → list_of p n ≡ given written → listing_of p ≡ written
unfolding list_of
written_is p written n e = go (ltb 16384 (length p)) (ltb n (length (listing_of p))) refl refl
  where
    go : (t u : Bool) → ltb 16384 (length p) ≡ t → ltb n (length (listing_of p)) ≡ u → listing_of p ≡ written
    go true u x y = absurd (refused-given 20 written (rw x at e))
    go false true x y = absurd (refused-given 25 written (rw (x, y) at e))
    go false false x y = given-one _ _ (rw (x, y) at e)

pub written-tells : WrittenTells
written-tells p q written m n h g d e = listing-tells p q h g (written_is p written m d ∙ sym (written_is q written n e))
