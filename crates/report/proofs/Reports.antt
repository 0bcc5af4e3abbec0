-- What is left of a report at an entry: a line and what is left at the next, or its end.
-- Assumes nothing.
use Prim.Native.Nat.{ℕ, ◌+◌, ◌≤◌}
use mathlib.Core.Path.{◌≡◌, refl, sym, ap, ◌∙◌, subst}
use Rattle.std.specs.Prelude.{slice_get, Some}
use mathlib.Core.List.{List, [], ◌++◌, map as each}
use lib.ListN.{length, drop, drop_of_length-le}
use lib.Seq.{length-sets}
use Rattle.basis.specs.Answer.{Answer, given, refused, seen}
use Rattle.basis.proofs.Tests.{refused-given, given-one}
use Rattle.pack.specs.Read.{read_of}
use Rattle.pack.specs.Find.{body_of}
use Rattle.pack.specs.declared.Entry.{Entry}
use Rattle.pack.proofs.Walks.{listed}
use Rattle.text.specs.Pen.{Puts}
use Rattle.text.specs.declared.pen.Pen.{Pen}
use Rattle.text.proofs.Puts.{put-none, puts-append}
use Rattle.verdicts.specs.Line.{line_of, pack_line_of}
use Rattle.rulings.specs.Rulings.{judged_of, ruling_of, rulings_of}
use Rattle.rulings.proofs.Entries.{good-there}
use Rattle.report.specs.Report.{lines_of, report_in, report_of, laid_over, all_laid, map_in}
use Rattle.report.proofs.Entries.{there}

-- what is left of the lines, and of the map's changes, at the entry with an index
abbrev pub lines_from : List ℕ → ℕ → Answer (List Entry) → List ℕ
lines_from pack i (given es) = lines_of (each (ruling_of pack) (drop i es))
lines_from pack i (refused n) = pack_line_of n

abbrev pub laid_from : List ℕ → ℕ → Answer (List Entry) → List ℕ → List ℕ
laid_from pack i (given es) map = all_laid pack (drop i es) map
laid_from pack i (refused n) map = map

-- nothing is put
puts-none : (p : Pen) → Puts [] p p
puts-none p = record { puts = put-none p.room.now p.at; same = refl }

-- the room keeps its length
pub puts-length : {xs : List ℕ} {p q : Pen} → Puts xs p q → length q.room.now ≡ length p.room.now
puts-length {xs} {p} h = ap length h.puts.room ∙ length-sets p.room.now p.at xs

-- whoever puts what is left has put the whole report, and the same of the map
pub record Left (pack : List ℕ) (i : ℕ) (p : Pen) (map : List ℕ) (p₀ : Pen) (map₀ : List ℕ) : Type 0 where
  pub lines : (q : Pen) → Puts (lines_from pack i (read_of pack)) p q → Puts (report_of pack) p₀ q
  pub laid : laid_from pack i (read_of pack) map ≡ map_in pack (read_of pack) map₀

lines-whole : (pack : List ℕ) (a : Answer (List Entry)) → lines_from pack 0 a ≡ report_in (seen (each (ruling_of pack)) a)
lines-whole pack (given es) = refl
lines-whole pack (refused n) = refl

laid-whole : (pack map : List ℕ) (a : Answer (List Entry)) → laid_from pack 0 a map ≡ map_in pack a map
laid-whole pack map (given es) = refl
laid-whole pack map (refused n) = refl

pub left-start : (pack : List ℕ) (p : Pen) (map : List ℕ) → Left pack 0 p map p map
unfolding report_of rulings_of
left-start pack p map = record {
  lines = λ q h. subst (λ (xs : List ℕ). Puts xs p q) (lines-whole pack (read_of pack)) h;
  laid = laid-whole pack map (read_of pack);
}

-- the pack is refused: its line is the only one
pub report-refused : (pack map : List ℕ) (n : ℕ) → read_of pack ≡ refused n → (report_of pack ≡ pack_line_of n) × (map ≡ map_in pack (read_of pack) map)
unfolding report_of rulings_of
report-refused pack map n h = (rw h, rw h)

module _ {pack : List ℕ} {i : ℕ} {p : Pen} {map : List ℕ} {p₀ : Pen} {map₀ : List ℕ} (l : Left pack i p map p₀ map₀) where
  -- there is an entry with this index
  module _ (e : Entry) (h : seen (λ es. slice_get es i) (read_of pack) ≡ given (Some e)) where
    pub record Entered : Type 0 where
      pub body : length (body_of pack e) ≤ 16384
      pub lines : lines_from pack i (read_of pack) ≡ line_of e.tag (judged_of pack e) ++ lines_from pack (i + 1) (read_of pack)
      pub laid : laid_from pack i (read_of pack) map ≡ laid_from pack (i + 1) (read_of pack) (laid_over pack e map)

    pub entered : Entered
    entered = by (read_of pack) refl
      where
        by : (a : Answer (List Entry)) → read_of pack ≡ a → Entered
        by (refused n) q = absurd (refused-given n (Some e) (rw q at h))
        by (given es) q =
            let g = listed es i e (given-one (slice_get es i) (Some e) (rw q at h)) in
            let t = there es i e g in
            record {
              body = (good-there pack es i e q g).body;
              lines = rw (q, t.rest);
              laid = rw (q, t.rest);
            }

    pub left-next : (after : Pen) → Puts (line_of e.tag (judged_of pack e)) p after → (later : List ℕ) → later ≡ laid_over pack e map → Left pack (i + 1) after later p₀ map₀
    left-next after h later q = record {
      lines = λ last r. l.lines last (subst (λ (xs : List ℕ). Puts xs p last) (sym entered.lines) (puts-append h r));
      laid = ap (laid_from pack (i + 1) (read_of pack)) q ∙ sym entered.laid ∙ l.laid;
    }

  -- there is none
  pub left-past : (es : List Entry) → read_of pack ≡ given es → length es ≤ i → Puts (report_of pack) p₀ p × (map ≡ map_in pack (read_of pack) map₀)
  left-past es q past =
      let g = drop_of_length-le es past in
      let z : lines_from pack i (read_of pack) ≡ [] = rw (q, g) in
      let y : laid_from pack i (read_of pack) map ≡ map = rw (q, g) in
      (l.lines p (subst (λ (xs : List ℕ). Puts xs p p) (sym z) (puts-none p)), sym y ∙ l.laid)
