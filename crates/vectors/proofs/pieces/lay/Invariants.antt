use Rattle.std.proofs.Common.{◌≡◌, ◌≤◌, ◌+◌, ◌*◌, length}
use Rattle.vectors.proofs.pieces.lay.Given as goal

abbrev pub invariant-loop : goal.invariant-loop
invariant-loop l = record { reached : l.reach ≤ length l.room; kept : length l.room ≡ length l.fn.room; within : l.end ≤ 255; same : l.case.bytes ≡ l.fn.case.bytes; read : l.case.at ≤ l.fn.case.at + 1 + 65541 * l.counter }
