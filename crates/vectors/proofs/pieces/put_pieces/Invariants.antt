use Rattle.std.proofs.Common.{◌≡◌, ◌≤◌, length}
use Rattle.vectors.proofs.pieces.put_pieces.Given as goal

abbrev pub invariant-loop-time : goal.invariant-loop-time
invariant-loop-time l = record { reached : l.at ≤ length l.room; kept : length l.room ≡ length l.fn.room }
