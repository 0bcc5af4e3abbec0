-- A report has at most 64 lines of 24 bytes, and that of 64 rules which are refused by 10 has as many.
-- Assumes nothing.
use Prim.Native.Nat.{ℕ, zero, suc, ◌+◌, ◌*◌, ◌≤◌}
use native.Mathlib.Omega.{arith}
use mathlib.Core.Path.{◌≡◌, refl, ap, ap₂, ◌∙◌}
use mathlib.Core.Bool.{Bool, true, false}
use mathlib.Core.List.{List, [], ◌∷◌, map}
use lib.Count.{ones}
use lib.Dec.{ltb}
use lib.ListN.{length, replicate, length-append}
use borrow.Author.Tests.{le-ltb}
use Rattle.basis.specs.Pick.{pick}
use Rattle.basis.specs.Answer.{Answer, given, refused, seen}
use Rattle.basis.specs.Room.{fitted}
use Rattle.forms.specs.Form.{form_of, code_of, value_width, length_of}
use Rattle.isa.specs.Op.{op_in, op_of}
use Rattle.isa.specs.Shape.{depth_after}
use Rattle.decoder.specs.Decode.{head_of, decode_of}
use Rattle.paths.specs.Walk.{walk, turns, turn, lowest, meets, meet}
use Rattle.look.specs.Look.{look_of}
use Rattle.verifier.specs.Verify.{Judged, names, verify_of}
use Rattle.pack.specs.Read.{read_of}
use Rattle.pack.specs.declared.Entry.{Entry}
use Rattle.verdicts.specs.Line.{decimal_of, refused_of, said_of, line_of}
use Rattle.verdicts.proofs.Lines.{length-line, length-pack-line}
use Rattle.rules.specs.Rules.{Rule, Admissible, bodies_of, contents_for, packed, Packable, rule_of, rules_of}
use Rattle.rules.proofs.Kept.{Kept, nil, cons, kept-rising, kept-each, length-packed}
use Rattle.rules.proofs.Forth.{packed-read, packed-rules}
use Rattle.rules.proofs.Inside.{count_most}
use Rattle.rulings.specs.Rulings.{judged_of, ruling_of, rulings_of}
use Rattle.report.specs.Report.{lines_of, report_in, report_of, write_of}
use Rattle.sizes.proofs.Rooms.{Writes, early, late}

lines-most : (pack : List ℕ) (es : List Entry) → length (lines_of (map (ruling_of pack) es)) ≤ 24 * length es
lines-most pack [] = omega arith
lines-most pack (e ∷ es) = rw length-append (omega (arith, length-line e.tag (judged_of pack e), lines-most pack es))

report-most : (pack : List ℕ) → length (report_of pack) ≤ 1536
unfolding report_of rulings_of
report-most pack = by (read_of pack) (λ n h. count_most pack n h)
  where
    by : (a : Answer (List Entry)) → ((n : ℕ) → seen length a ≡ given n → n ≤ 64) → length (report_in (seen (map (ruling_of pack)) a)) ≤ 1536
    by (given es) h = omega (arith, lines-most pack es, h (length es) refl)
    by (refused n) h = omega (arith, length-pack-line n)

pub report-writes : (pack : List ℕ) (cells : ℕ) → Writes 1536 (λ room. write_of pack cells room)
unfolding write_of
report-writes pack cells = by (ltb cells 16384)
  where
    by : (t : Bool) → Writes 1536 (λ room. pick t (refused 23) (fitted room (report_of pack)))
    by true = early 23 (λ z. omega arith) (λ room. refl)
    by false = late (report_of pack) (report-most pack) (λ room. refl)

-- a rule with the program of M7, and so many of them
abbrev ten : ℕ → Rule
ten tag = record { tag = tag; cells = 1; body = 0x81 ∷ 0x3C ∷ 0x00 ∷ [] }

abbrev tens : ℕ → ℕ → List Rule
tens tag zero = []
tens tag (suc n) = ten tag ∷ tens (tag + 1) n

tens-kept : (tag n : ℕ) → tag + n ≤ 65536 → Kept tag (tens tag n)
tens-kept tag zero h = nil
tens-kept tag (suc n) h =
    let a : Admissible (ten tag) = record { tag = omega arith; cells = omega arith; body = omega arith } in
    cons {least = tag} {r = ten tag} (omega arith) a (tens-kept (tag + 1) n (omega arith))

length-tens : (tag n : ℕ) → length (tens tag n) ≡ n
length-tens tag zero = refl
length-tens tag (suc n) = ap suc (length-tens (tag + 1) n)

tens-bodies : (tag n : ℕ) → length (bodies_of (tens tag n)) ≡ 3 * n
tens-bodies tag zero = refl
tens-bodies tag (suc n) = omega (arith, tens-bodies (tag + 1) n)

tens-packable : Packable (tens 0 64)
tens-packable =
    let k = tens-kept 0 64 (omega arith) in
    let l : length (packed (tens 0 64)) ≤ 24576 = omega (arith, length-packed (tens 0 64), length-tens 0 64, tens-bodies 0 64) in
    record { count = omega (arith, length-tens 0 64); rising = kept-rising 0 (tens 0 64) k; each = kept-each 0 (tens 0 64) k; size = l }

-- M7: 10 at 1
judged : List ℕ → ℕ → Judged
judged body cells = (verify_of body cells (replicate (length body) 65535)).0

ten-refused : judged (0x81 ∷ 0x3C ∷ 0x00 ∷ []) 1 ≡ names 10 1
unfolding judged verify_of walk turns turn lowest meets meet look_of depth_after op_of op_in decode_of head_of length_of form_of code_of value_width ones
ten-refused = refl

ten-judged : (pack : List ℕ) (e : Entry) (tag : ℕ) → rule_of pack e ≡ ten tag → judged_of pack e ≡ names 10 1
unfolding judged_of judged
ten-judged pack e tag h = ap₂ judged (ap (λ (r : Rule). r.body) h) (ap (λ (r : Rule). r.cells) h) ∙ ten-refused

line-long : (tag : ℕ) → length (line_of tag (names 10 1)) ≡ 24
unfolding line_of said_of refused_of decimal_of
line-long tag = refl

tens-lines : (pack : List ℕ) (es : List Entry) (tag n : ℕ) → rules_of pack es ≡ tens tag n → length (lines_of (map (ruling_of pack) es)) ≡ 24 * n
tens-lines pack [] tag zero h = refl
tens-lines pack [] tag (suc n) h = absurd (let z : ◌≡◌ {A = ℕ} 0 1 = cc in omega arith)
tens-lines pack (e ∷ es) tag zero h = absurd (let z : ◌≡◌ {A = ℕ} 0 1 = cc in omega arith)
tens-lines pack (e ∷ es) tag (suc n) h =
    let p : rule_of pack e ≡ ten tag = cc in
    let q : rules_of pack es ≡ tens (tag + 1) n = cc in
    rw (length-append, ten-judged pack e tag p, line-long e.tag) (omega (arith, tens-lines pack es (tag + 1) n q))

-- The pack of 64 such rules.
abbrev pub tens_pack : List ℕ
tens_pack = packed (tens 0 64)

pub tens-long : length (report_of tens_pack) ≡ 1536
unfolding report_of rulings_of
tens-long = rw (packed-read (tens 0 64) tens-packable) (tens-lines (packed (tens 0 64)) (contents_for (tens 0 64)) 0 64 (packed-rules (tens 0 64) tens-packable))

pub tens-written : write_of tens_pack 16384 1536 ≡ given (report_of tens_pack)
unfolding write_of
tens-written = let h : length (report_of tens_pack) ≤ 1536 = rw tens-long (omega arith) in rw (le-ltb 1536 (length (report_of tens_pack)) h)
