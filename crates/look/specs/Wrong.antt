-- What no path may lead to, in the words of the third demand.
use Rattle.std.specs.Prelude.{ℕ, ◌+◌, ◌-◌, ◌<◌, ◌≤◌, ◌≡◌, ◌≢◌, List, length}
use Rattle.basis.specs.Answer.{given, refused}
use Rattle.isa.specs.Op.{op_of}
use Rattle.isa.specs.Shape.{taken_of, pushed_of, way_of}
use Rattle.decoder.specs.Decode.{Reading, decode_of}
use Rattle.isa.specs.declared.Route.{Route}
use Rattle.isa.specs.declared.Way.TheVariants.{Call, Taken, System, Extension}
use Rattle.paths.specs.Paths.{Met}
use Rattle.look.specs.Look.{look_of}

-- what is wrong at an address that a path meets at depth d, with so many cells
pub data Wrong (program : List ℕ) (cells a d : ℕ) : Type 0 where
  -- "the program's end"
  ended : length program ≤ a → Wrong program cells a d
  -- "a bad instruction"
  unread : {k : ℕ} → decode_of program a ≡ refused k → Wrong program cells a d
  -- "a call"
  calls : {r : Reading} {x : ℕ} → decode_of program a ≡ given r → way_of (op_of r.0) ≡ Call x → Wrong program cells a d
  -- "a jump or function taken from the stack"
  taken : {r : Reading} {t : Route} → decode_of program a ≡ given r → way_of (op_of r.0) ≡ Taken t → Wrong program cells a d
  -- "an unknown function": of the system's all but 0, and every extension function
  unknown : {r : Reading} {x : ℕ} → decode_of program a ≡ given r → way_of (op_of r.0) ≡ System x → x ≢ 0 → Wrong program cells a d
  extension : {r : Reading} {x : ℕ} → decode_of program a ≡ given r → way_of (op_of r.0) ≡ Extension x → Wrong program cells a d
  -- "too few .. values"
  few : {r : Reading} → decode_of program a ≡ given r → d < taken_of (op_of r.0) → Wrong program cells a d
  -- "or too many values"
  many : {r : Reading} → decode_of program a ≡ given r → cells < d - taken_of (op_of r.0) + pushed_of (op_of r.0) → Wrong program cells a d

-- "no path of its jumps, both branches counted as possible, leads to" any of these, "and no address is met at two depths"
pub record Clear (program : List ℕ) (cells : ℕ) : Type 0 where
  pub right : (a d : ℕ) → Met (look_of program cells) a d → Wrong program cells a d → ⊥
  pub once : (a d e : ℕ) → Met (look_of program cells) a d → Met (look_of program cells) a e → d ≡ e
