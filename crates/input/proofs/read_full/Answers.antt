-- What another read put behind the bytes read so far is what the reader then gave.
use Rattle.std.proofs.Common.{◌≡◌, ℕ, ◌+◌, ◌≤◌, List, ◌++◌, ◌∙◌, length, take, rules, arith, refl, sym, ap, subst, length-take-le}
use Rattle.std.proofs.lemmas.List.{take-take}
use Rattle.std.proofs.lemmas.Slice.{take-put_mid}
use Rattle.std.specs.Io.KnownBytes.{Consumes}
use Rattle.std.proofs.KnownBytes.{Consumes-trans}
use Rattle.std.proofs.Math.Seq.{take-append-add}
use Rattle.input.proofs.read_full.Goals as goal

more_read : (at n : ℕ) (old new put : List ℕ) → at ≤ length old → n ≤ length new → take (at + length new) put ≡ take at old ++ new
    → take at old ++ take n new ≡ take (at + n) put
more_read at n old new put within bound front =
    let cut : take (at + n) put ≡ take (at + n) (take at old ++ new) = sym (take-take (at + n) (at + length new) put (omega arith)) ∙ ap (take (at + n)) front in
    let long : length (take at old) ≡ at = length-take-le at old within in
    sym (cut ∙ subst (λ (k : ℕ). take (k + n) (take at old ++ new) ≡ take at old ++ take n new) long (take-append-add (take at old) new n))

pub loop-done-preserved : goal.loop-done-preserved
loop-done-preserved g c =
    let within = c.loop-done.invariant.within in
    let front = take-put_mid c.loop-done.done _ c.loop-done.room c.read.new.buf _ refl within in
    record {
      kept = search rules;
      within = search rules;
      consumed = subst (Consumes _ _) (more_read _ _ _ _ _ within c.in_ok-n.ensures.bound.0 front) (Consumes-trans _ _ _ _ _ c.loop-done.invariant.consumed c.in_ok-n.ensures.bytes.0);
    }
