-- `report::put_entry` meets its contract.
-- Assumes nothing.
use Rattle.basis.specs.Refusal.{number_of}
use Rattle.report.proofs.Entries.{put-judged, entry_done}
use Rattle.report.proofs.put_entry.Goals as goal

pub returns : goal.returns
returns c = let a = c.args in
    let d = entry_done a.pack.now a.e a.map.now _ _ c.verify-verdict.result c.body-program.ensures c.requires.0 c.verify-verdict.ensures in
    record { put = put-judged a.e.tag _ _ d.0 (c.put_line.ensures number_of (λ why n h. h)); map_after = d.1 }
