-- The one list of the codes: what operation each code is, in the words of 01. The verifier and the step are built from it.
use Rattle.std.specs.Prelude.{ℕ, List, [], ◌∷◌, ◌++◌, map, get_or, take, eqb}
use Rattle.basis.specs.Pick.{pick}
use Rattle.alu.specs.declared.Pair.{Pair}
use Rattle.alu.specs.declared.Pair.TheVariants.{Eq, Ne, Le, Gt, Lt, Ge, And, Or, Xor, Add, Sub, Mul, Shl, Shr}
use Rattle.alu.specs.declared.Single.{Single}
use Rattle.alu.specs.declared.Single.TheVariants.{Inc, Dec, Not, Neg}
use Rattle.isa.specs.declared.Instruction.{Instruction}
use Rattle.isa.specs.declared.Route.{Route}
use Rattle.isa.specs.declared.Route.TheVariants.{Call, Jump, JumpIf, JumpIfNot, System, Extension}

-- NoOp stands for a code that is none.
-- Taken goes where the stack says, Given where the number in the code says. A load has the bytes that it reads, how many
-- operands it takes for its address, and the number that is added to them; a store the same, and takes its value last.
pub data Op : Type 0 where
  Halt : Op
  Discard : Op
  DataCopy : Op
  ProgramCopy : Op
  Swap : Op
  Taken : Route → Op
  Given : Route → ℕ → Op
  Two : Pair → Op
  TwoNumber : Pair → ℕ → Op
  One : Single → Op
  Load : ℕ → ℕ → ℕ → Op
  Store : ℕ → ℕ → ℕ → Op
  Push : List ℕ → Op
  NoOp : Op

-- "call", "jump", "jump-if", "jump-if-not", "syscall", "extcall"
abbrev pub routes : List Route
routes = Call ∷ Jump ∷ JumpIf ∷ JumpIfNot ∷ System ∷ Extension ∷ []

-- "eq ne le gt lt ge", "and or xor add sub mul", "shl", "shr"
abbrev pub pairs : List Pair
pairs = Eq ∷ Ne ∷ Le ∷ Gt ∷ Lt ∷ Ge ∷ And ∷ Or ∷ Xor ∷ Add ∷ Sub ∷ Mul ∷ Shl ∷ Shr ∷ []

-- 00 to 24
abbrev pub plain_ops : List Op
plain_ops =
    -- 00 halt, 01 discard, 02 dcopy, 03 pcopy, 04 swap
    (Halt ∷ Discard ∷ DataCopy ∷ ProgramCopy ∷ Swap ∷ [])
    -- 05 call to 0A extcall
    ++ (map (λ r. Taken r) routes
    -- 0B eq to 18 shr
    ++ (map (λ p. Two p) pairs
    -- 19 to 1C inc dec not neg
    ++ ((One Inc ∷ One Dec ∷ One Not ∷ One Neg ∷ [])
    -- 1D to 20: loads "at a, or at a+b"; 21 to 24: stores "(b to a), then the offs pair (c to a+b)"
    ++ (Load 1 1 0 ∷ Load 2 1 0 ∷ Load 1 2 0 ∷ Load 2 2 0 ∷ Store 1 1 0 ∷ Store 2 1 0 ∷ Store 1 2 0 ∷ Store 2 2 0 ∷ []))))

-- 33 to 40, and 4D to 5A
abbrev pub number_ops : ℕ → List Op
number_ops x =
    -- "loads at x, x, a+x, a+x", "stores of a at x (two), of b at a+x (two)"
    (Load 1 0 x ∷ Load 2 0 x ∷ Load 1 1 x ∷ Load 2 1 x ∷ Store 1 0 x ∷ Store 2 0 x ∷ Store 1 1 x ∷ Store 2 1 x ∷ [])
    -- "3B call, 3C jump, 3D jump if a is not 0, 3E if 0, 3F syscall, 40 extcall, all with x"
    ++ map (λ r. Given r x) routes

-- 00 to 5A with the number x
abbrev pub ops_of : ℕ → List Op
ops_of x =
    plain_ops
    -- 25 to 30 "the twelve of 0B to 16 with a one-byte x for b", 31, 32 shl-imm4, shr-imm4; then 33 to 40
    ++ (map (λ p. TwoNumber p x) pairs
    ++ (number_ops x
    -- 41 to 4C and 4D to 5A "the same families in the same order with a two-byte x (no shifts)"
    ++ (map (λ p. TwoNumber p x) (take 12 pairs)
    ++ number_ops x)))

-- the operation of a code, other than C0, with its number; "80 to BF push the low six bits"
unfoldable pub op_in : ℕ → ℕ → Op
op_in code x = pick (eqb code 0x80) (Push (x ∷ [])) (get_or (ops_of x) code NoOp)

-- "C0 to FF push one to four values"
abbrev pub values_of : Instruction → List ℕ
values_of i = take i.count (i.v0 ∷ i.v1 ∷ i.v2 ∷ i.v3 ∷ [])

-- the operation of an instruction
unfoldable pub op_of : Instruction → Op
op_of i = pick (eqb i.code 0xC0) (Push (values_of i)) (op_in i.code i.number)
