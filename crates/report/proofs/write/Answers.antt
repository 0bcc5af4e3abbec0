-- `report::write` meets its contract.
-- Assumes nothing.
use native.Mathlib.Omega.{arith}
use Prim.Native.Nat.{◌≤◌}
use mathlib.Core.Path.{◌≡◌, refl, sym}
use lib.ListN.{length, take}
use Rattle.std.proofs.Common.{rules}
use Rattle.report.specs.Report.{report_of}
use Rattle.report.proofs.Writes.{fits, copied}
use Rattle.report.proofs.write.Goals as goal

pub returns-clause-room_after : goal.returns-clause-room_after
returns-clause-room_after c = let a = c.args in
    let pen = c.put_report.new.pen in
    let p = c.put_report.ensures.put in
    let same = sym p.0.same in
    let n : pen.at ≡ length (report_of a.pack.now) = omega (arith, p.0.puts.next) in
    let k : length (report_of a.pack.now) ≤ length a.room.now = omega arith in
    rw (fits a.pack.now a.map.now (length a.room.now) c.if-map-lt16384.false k) (copied _ _ _ (take pen.at pen.room.now) a.room.now _ _ p.0.puts (omega (arith, p.1)) k refl (search rules))
