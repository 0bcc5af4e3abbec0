-- What the step and the verifier share: values taken, values pushed, the way of an operation, and the one stack check.
use Rattle.std.specs.Prelude.{ℕ, ◌+◌, ◌-◌, true, false, length, ltb, eqb}
use Rattle.basis.specs.Pick.{pick}
use Rattle.basis.specs.Answer.{Answer, given, refused}
use Rattle.isa.specs.Op.{Op, op_in}
use Rattle.isa.specs.Op as op
use Rattle.isa.specs.declared.Route.{Route}
use Rattle.isa.specs.declared.Route.TheVariants as route
use Rattle.isa.specs.declared.Way.{Way}
use Rattle.isa.specs.declared.Way.TheVariants.{Stop, Next, Jump, Branch, Call, Taken, System, Extension}

-- what a route takes besides its target: the condition of a branch
abbrev pub route_taken : Route → ℕ
route_taken route.Call = 0
route_taken route.Jump = 0
route_taken route.JumpIf = 1
route_taken route.JumpIfNot = 1
route_taken route.System = 0
route_taken route.Extension = 0

-- "call: push the address of the next instruction"
abbrev pub route_pushed : Route → ℕ
route_pushed route.Call = 1
route_pushed route.Jump = 0
route_pushed route.JumpIf = 0
route_pushed route.JumpIfNot = 0
route_pushed route.System = 0
route_pushed route.Extension = 0

-- how many values an operation takes
abbrev pub taken_of : Op → ℕ
taken_of op.Halt = 0
taken_of op.Discard = 1
taken_of op.DataCopy = 3
taken_of op.ProgramCopy = 3
taken_of op.Swap = 2
taken_of (op.Taken r) = 1 + route_taken r
taken_of (op.Given r x) = route_taken r
taken_of (op.Two p) = 2
taken_of (op.TwoNumber p x) = 1
taken_of (op.One s) = 1
taken_of (op.Load w n x) = n
taken_of (op.Store w n x) = n + 1
taken_of (op.Push vs) = 0
taken_of op.NoOp = 0

-- how many values it pushes; "A store pushes what it stored"
abbrev pub pushed_of : Op → ℕ
pushed_of op.Halt = 0
pushed_of op.Discard = 0
pushed_of op.DataCopy = 1
pushed_of op.ProgramCopy = 1
pushed_of op.Swap = 2
pushed_of (op.Taken r) = route_pushed r
pushed_of (op.Given r x) = route_pushed r
pushed_of (op.Two p) = 1
pushed_of (op.TwoNumber p x) = 1
pushed_of (op.One s) = 1
pushed_of (op.Load w n x) = 1
pushed_of (op.Store w n x) = 1
pushed_of (op.Push vs) = length vs
pushed_of op.NoOp = 0

-- where a route with the number x leads
abbrev pub way_to : Route → ℕ → Way
way_to route.Call x = Call x
way_to route.Jump x = Jump x
way_to route.JumpIf x = Branch true x
way_to route.JumpIfNot x = Branch false x
way_to route.System x = System x
way_to route.Extension x = Extension x

-- where an operation leads
abbrev pub way_of : Op → Way
way_of op.Halt = Stop
way_of op.Discard = Next
way_of op.DataCopy = Next
way_of op.ProgramCopy = Next
way_of op.Swap = Next
way_of (op.Taken r) = Taken r
way_of (op.Given r x) = way_to r x
way_of (op.Two p) = Next
way_of (op.TwoNumber p x) = Next
way_of (op.One s) = Next
way_of (op.Load w n x) = Next
way_of (op.Store w n x) = Next
way_of (op.Push vs) = Next
way_of op.NoOp = Next

-- the same by the code: a push of values pushes its count
unfoldable pub taken_in : ℕ → ℕ
taken_in code = taken_of (op_in code 0)

unfoldable pub pushed_in : ℕ → ℕ → ℕ
pushed_in code count = pick (eqb code 0xC0) count (pushed_of (op_in code 0))

unfoldable pub way_in : ℕ → ℕ → Way
way_in code x = way_of (op_in code x)

-- the depth after: "4 fewer values than are taken", "5 depth less taken plus pushed exceeds the cells"
unfoldable pub depth_after : ℕ → ℕ → ℕ → ℕ → Answer ℕ
depth_after cells depth taken pushed =
    pick (ltb depth taken) (refused 4)
    (pick (ltb cells (depth - taken + pushed)) (refused 5)
    (given (depth - taken + pushed)))
