-- `report::put_report` meets its contract.
-- Assumes nothing.
use native.Mathlib.Omega.{arith}
use mathlib.Core.Path.{refl, sym, ◌∙◌}
use lib.ListN.{length}
use Rattle.basis.proofs.Tests.{refused-given, given-one}
use Rattle.pack.specs.Read.{read_of}
use Rattle.pack.proofs.Walks.{length_from}
use Rattle.pack.proofs.Sounds.{counted, entry-there, refused-seen}
use Rattle.rulings.specs.Rulings.{judged_of}
use Rattle.verdicts.proofs.Lines.{length-line, length-pack-line}
use Rattle.report.proofs.Reports.{puts-length, left-start, entered, left-next, left-past, report-refused}
use Rattle.report.proofs.put_report.Goals as goal
use Rattle.report.proofs.put_report.Goals.{in_default-via-in-Ok+in_default, in_default-via-in_default}

pub returns-in-Err-clause-put : goal.returns-in-Err-clause-put
returns-in-Err-clause-put c = let r = report-refused c.args.pack.now c.args.map.now _ (refused-seen length (read_of c.args.pack.now) _ (sym c.in-Err.ensures)) in
    rw (r.0, ← c.from.ensures) (c.put_pack_line.ensures, omega (arith, length-pack-line c.from.result))

pub returns-in-Err-clause-map_after : goal.returns-in-Err-clause-map_after
returns-in-Err-clause-map_after c = (report-refused c.args.pack.now c.args.map.now _ (refused-seen length (read_of c.args.pack.now) _ (sym c.in-Err.ensures))).1

pub loop-index-init : goal.loop-index-init
loop-index-init c = (omega arith, refl, left-start c.args.pack.now c.args.pen.now c.args.map.now)

pub unreachable-requires : goal.unreachable-requires
unreachable-requires c = let h = c.entry_at.ensures ∙ entry-there c.args.pack.now _ c.loop-index.index (counted c.args.pack.now _ (sym c.in-Ok.ensures)) c.loop-index-test.true in
    elim c.in_default.branch [
      | in_default-via-in-Ok+in_default w ↦ let k = given-one _ _ (rw w.in_default.is at h) in cc
      | in_default-via-in_default w ↦ absurd (refused-given _ _ (rw w.in_default.is at h))
    ]

pub put_entry-requires : goal.put_entry-requires
put_entry-requires c = let l = c.loop-index in
    let k = counted c.args.pack.now _ (sym c.in-Ok.ensures) in
    let g = entered l.invariant.2 c.in-Ok-Some.e (sym (rw c.in-Ok-Some.field-0-is at c.in-Ok-Some.ensures)) in
    (omega (arith, g.body), omega (arith, k.few, c.requires.1, l.invariant.0, l.invariant.1))

pub loop-index-preserved : goal.loop-index-preserved
loop-index-preserved c = let l = c.loop-index in
    let e = c.in-Ok-Some.e in
    let p = c.put_entry.ensures in (
      omega (arith, p.put.puts.next, length-line e.tag (judged_of c.args.pack.now e)),
      puts-length p.put ∙ l.invariant.1,
      left-next l.invariant.2 e (sym (rw c.in-Ok-Some.field-0-is at c.in-Ok-Some.ensures)) _ p.put _ p.map_after,
    )

pub returns-clause-put : goal.returns-clause-put
returns-clause-put c = let l = c.loop-index in
    let k = counted c.args.pack.now _ (sym c.in-Ok.ensures) in
    let p = (left-past l.invariant.2 _ k.read (omega (arith, length_from c.args.pack.now 2 c.in-Ok.n))).0 in
    (p, omega (arith, p.puts.next, k.few, l.invariant.0))

pub returns-clause-map_after : goal.returns-clause-map_after
returns-clause-map_after c = let l = c.loop-index in
    let k = counted c.args.pack.now _ (sym c.in-Ok.ensures) in
    (left-past l.invariant.2 _ k.read (omega (arith, length_from c.args.pack.now 2 c.in-Ok.n))).1
