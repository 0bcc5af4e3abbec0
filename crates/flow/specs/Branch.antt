-- The route of a branch, by the outcome of "not 0" at which it jumps.
use Rattle.std.specs.Prelude.{Bool, true, false}
use Rattle.isa.specs.declared.Route.{Route}
use Rattle.isa.specs.declared.Route.TheVariants.{JumpIf, JumpIfNot}

abbrev pub branch_at : Bool → Route
branch_at true = JumpIf
branch_at false = JumpIfNot
