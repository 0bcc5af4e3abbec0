-- The rooms that the C face promises are enough, and none is a byte too large.
-- Assumes nothing.
use Prim.Native.Nat.{ℕ}
use native.Mathlib.Omega.{arith}
use mathlib.Core.Path.{refl}
use mathlib.Core.List.{List}
use Rattle.encoder.specs.Encode.{encode_of}
use Rattle.listing.specs.Listing.{listing_of, list_of}
use Rattle.packer.specs.Write.{write_of}
use Rattle.rules.specs.Rules.{packed}
use Rattle.report.specs.Report.{report_of}
use Rattle.report.specs.Report as report
use Rattle.sizes.specs.Sizes.{InstructionMax, ListMax, Parts, PackMax, ReportMax}
use Rattle.sizes.proofs.Rooms.{writes-never, as-large, enough}
use Rattle.sizes.proofs.Instructions.{encode-writes, longest, longest-written, read-most}
use Rattle.sizes.proofs.Listings.{list-writes, pushes, pushes-long, pushes-written}
use Rattle.sizes.proofs.Packs.{pack-writes, full, full-long, full_parts, full-written}
use Rattle.sizes.proofs.Reports.{report-writes, tens_pack, tens-long, tens-written}

pub instruction-max : InstructionMax
unfolding InstructionMax
instruction-max = (
  as-large (omega arith) (enough (λ i room. encode_of i room) 9 encode-writes longest _ refl longest-written),
  (λ program at n i e. omega (arith, read-most program at (i, n) e)),
)

pub list-max : ListMax
unfolding ListMax
list-max = (
  as-large (omega arith) (enough (λ p room. list_of p room) 278528 (λ p. list-writes p 278528 (λ h. omega arith)) pushes (listing_of pushes) pushes-long pushes-written),
  (λ p room h. writes-never room (λ n. list_of p n) (list-writes p room (λ l. omega arith)) room (omega arith)),
)

pub pack-max : PackMax
unfolding PackMax
pack-max =
    as-large (omega arith)
    (enough (λ (p : Parts) (room : ℕ). write_of p.tags p.cells p.lengths p.bodies room) 24576
    (λ (p : Parts). pack-writes p.tags p.cells p.lengths p.bodies) full_parts (packed full) full-long full-written)

pub report-max : ReportMax
unfolding ReportMax
report-max =
    as-large (omega arith)
    (enough (λ (a : List ℕ × ℕ) (room : ℕ). report.write_of a.0 a.1 room) 1536
    (λ (a : List ℕ × ℕ). report-writes a.0 a.1) (tens_pack, 16384) (report_of tens_pack) tens-long tens-written)
