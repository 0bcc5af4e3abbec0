-- The demands, sentence by sentence, as propositions over the definitions that the public functions are proved to meet.
use Rattle.std.specs.Prelude.{ℕ, ◌+◌, ◌<◌, ◌≤◌, ◌≡◌, ◌⊎◌, ◌≢◌, true, false, List, ◌++◌, length, take, drop, replicate, get_or}
use Rattle.std.proofs.Math.Option.{some}
use Rattle.std.proofs.Math.ListN.{get_elem?}
use Rattle.basis.specs.Answer.{given, refused, seen}
use Rattle.basis.specs.Number.{Bytes}
use Rattle.basis.specs.Room.{room_after}
use Rattle.decoder.specs.Decode.{decode_of}
use Rattle.decoder.specs.Refusals.{Why}
use Rattle.isa.specs.declared.Instruction.{Instruction}
use Rattle.isa.specs.Op.{op_of}
use Rattle.encoder.specs.Encode.{well_formed, encoded_of, encode_of}
use Rattle.effects.specs.Act.{act_of}
use Rattle.effects.specs.Memory.{operand_of}
use Rattle.effects.specs.Reach.{Framed, reads_from, reads_count, Agree, Alike}
use Rattle.machine.specs.Machine.{Machine, machine, fresh, step_of}
use Rattle.machine.specs.Run.{came, outcome_of}
use Rattle.machine.specs.Run.{refused as refused_run}
use Rattle.machine.specs.Refusals.{Over, Allowed}
use Rattle.machine.specs.Trace.{faulted, Took, Ends, Told}
use Rattle.machine.specs.declared.Status.{Status}
use Rattle.machine.specs.declared.Status.TheVariants.{Running, Halted, Faulted}
use Rattle.paths.specs.Paths.{Shown, Mapped}
use Rattle.look.specs.Look.{look_of}
use Rattle.look.specs.Wrong.{Clear}
use Rattle.meeting.specs.Clash.{two_depths}
use Rattle.verifier.specs.Verify.{good, names, nameless, Numbered, verify_of}
use Rattle.safety.specs.Sealed.{Safe}
use Rattle.pack.specs.Read.{read_of}
use Rattle.pack.specs.Find.{find_of, body_of}
use Rattle.pack.specs.declared.Entry.{Entry}
use Rattle.packer.specs.Write.{write_of}
use Rattle.rules.specs.Rules.{Rule, contents_for, packed, Among, Packable, WellFormed, rule_of, rules_of, Inside, write_rules, PartsOf, Words}
use Rattle.rules.specs.Refusals.{Why as WhyPack}

-- Demand 1.

-- "A program over 16,384 bytes, data over 65,535, a stack over 1,024 cells or a state deeper than its stack is refused by
-- number, before a byte or a state changes": the run is refused by the first number that applies, with the machine as it was.
unfoldable pub IsRefused : Type 0
IsRefused = (budget : ℕ) (program : List ℕ) (m : Machine) (n : ℕ) → Over program m n → outcome_of budget program m ≡ refused_run n m

-- "Any bytes, any lengths and any saved state get an answer, and every call ends": a run that no number refuses takes its
-- steps, no more than its budget, and ends paused, stopped or faulted (`Told`).
unfoldable pub HasAnswer : Type 0
HasAnswer =
    (budget : ℕ) (program : List ℕ) (m : Machine)
    → ((n : ℕ) × Over program m n) ⊎ ((m' : Machine) × (k : ℕ) × (outcome_of budget program m ≡ came m' k) × (k ≤ budget) × Told program budget m m' k)

-- The verifier's checks before its walk: what each of its numbers says of a program, cells and a map.
pub data Early (program : List ℕ) (cells : ℕ) (depths : List ℕ) : ℕ → Type 0 where
  long_program : 16384 < length program → Early program cells depths 20
  many_cells : length program ≤ 16384 → 1024 < cells → Early program cells depths 22
  unlike_map : length program ≤ 16384 → cells ≤ 1024 → length depths ≢ length program → Early program cells depths 23

-- "refused by number, before a byte or a state changes", of the verifier: by 20, 22 or 23 exactly where it is the first to apply,
-- with the map as it was.
unfoldable pub RefusesEarly : Type 0
RefusesEarly =
    ((program : List ℕ) (cells : ℕ) (depths : List ℕ) (n : ℕ) → Early program cells depths n → verify_of program cells depths ≡ (nameless n, depths))
    × ((program : List ℕ) (cells : ℕ) (depths after : List ℕ) (n : ℕ) → verify_of program cells depths ≡ (nameless n, after) → Early program cells depths n)

-- Demand 2.

-- "A run is the published machine, step by step: address, depth, status, step count, every data byte and every stack cell":
-- what an allowed run hands back is reached by exactly the counted steps of the definition, and so ends; and whatever is so
-- reached is handed back.
unfoldable pub IsStepByStep : Type 0
IsStepByStep =
    ((budget count : ℕ) (program : List ℕ) (m m' : Machine) → Allowed program m → outcome_of budget program m ≡ came m' count → Told program budget m m' count)
    × ((steps left : ℕ) (program : List ℕ) (m last m' : Machine) → Allowed program m → Took program m steps last → Ends program last left m'
    → outcome_of (steps + left) program m ≡ came m' steps)

-- "with n cells and depth d the live values are cells n-d to n-1": an allowed run hands back as many data bytes and cells as it was
-- lent, and a depth of at most the cells.
unfoldable pub KeepsSizes : Type 0
KeepsSizes =
    (budget count : ℕ) (program : List ℕ) (m m' : Machine) → Allowed program m → outcome_of budget program m ≡ came m' count
    → (length m'.mem ≡ length m.mem) × (length m'.cells ≡ length m.cells) × (m'.state.depth ≤ length m'.cells)

-- A fault "needs a budget of at least one": with none, an allowed run hands back what it was given, no step counted.
unfoldable pub NoneAtZero : Type 0
NoneAtZero = (program : List ℕ) (m : Machine) → Allowed program m → outcome_of 0 program m ≡ came m 0

-- the table of faults: of a state that faulted, the number is 1 to 8
abbrev pub FaultedBy : Status → Type 0
FaultedBy Running = Unit {0}
FaultedBy Halted = Unit {0}
FaultedBy (Faulted n) = (1 ≤ n) × (n ≤ 8)

-- What an allowed run hands back, started from a state that had not faulted, is running, halted or faulted by 1 to 8.
unfoldable pub FaultsByNumber : Type 0
FaultsByNumber =
    (budget count : ℕ) (program : List ℕ) (m m' : Machine) → Allowed program m → faulted m ≡ false → outcome_of budget program m ≡ came m' count
    → FaultedBy m'.state.status

-- the machine with no byte and no cell altered, and of its state only the status: faulted by this number
abbrev pub with_fault : ℕ → Machine → Machine
with_fault n m = machine (record { address = m.state.address; depth = m.state.depth; status = Faulted n }) m.mem m.cells

-- "A fault alters only the status", of any machine at any address; where no instruction is read, the step is the decoder's
-- refusal as a fault (in a program of an allowed size 1, 2 or 3).
unfoldable pub FaultAltersStatus : Type 0
FaultAltersStatus =
    ((program : List ℕ) (m : Machine) → faulted (step_of program m) ≡ true → (n : ℕ) × (step_of program m ≡ with_fault n m))
    × ((program : List ℕ) (m : Machine) (n : ℕ) → decode_of program m.state.address ≡ refused n → step_of program m ≡ with_fault n m)

-- "No address sum wraps": a step that does not fault has the ranges of its instruction inside the memories, their sums being
-- whole numbers; every byte outside the range that it names, and every cell outside those that it pushes into, keeps what it
-- held; and a fault alters no byte and no cell (`Framed`).
unfoldable pub NoSumWraps : Type 0
NoSumWraps =
    (program : List ℕ) (m : Machine) (i : Instruction) (n : ℕ) → decode_of program m.state.address ≡ given (i, n)
    → Framed program (op_of i) m.state.depth m.mem m.cells (act_of program m.state.address m.state.depth m.mem m.cells)

-- Of the data nothing is read but the range that the instruction names: over data of one length that agree there (`Agree`), whatever
-- else they hold, the instruction does the same: its move, all cells, and every byte that it writes (`Alike`). So no data
-- outside that range, say another message's in one buffer, shows in what a hostile table's rule comes to.
unfoldable pub ReadsOnlyItsRange : Type 0
ReadsOnlyItsRange =
    (program : List ℕ) (m : Machine) (other : List ℕ) (i : Instruction) (n : ℕ) → decode_of program m.state.address ≡ given (i, n)
    → Agree (reads_from (operand_of m.cells m.state.depth) (op_of i)) (reads_count (operand_of m.cells m.state.depth) (op_of i)) m.mem other
    → Alike (op_of i) m.state.depth m.cells (act_of program m.state.address m.state.depth m.mem m.cells) (act_of program m.state.address m.state.depth other m.cells)

-- "Every well-formed instruction .. is read": wherever its bytes stand in an admissible program, the decoder gives it.
unfoldable pub IsRead : Type 0
IsRead =
    (before after : List ℕ) (i : Instruction) → well_formed i ≡ true → length (before ++ (encoded_of i ++ after)) ≤ 16384
    → decode_of (before ++ (encoded_of i ++ after)) (length before) ≡ given (i, length (encoded_of i))

-- ".. and written again gives the same bytes": what the decoder gives is well-formed, and the encoder writes the very
-- bytes that it was read from, into any room that holds them.
unfoldable pub IsWrittenAgain : Type 0
IsWrittenAgain =
    (program : List ℕ) (at n room : ℕ) (i : Instruction) → Bytes program → decode_of program at ≡ given (i, n) → n ≤ room
    → (well_formed i ≡ true) × (encode_of i room ≡ given (take n (drop at program)))

-- "the reverse holds too": what the encoder wrote, wherever it stands in an admissible program, is read as the instruction
-- that was written.
unfoldable pub IsReadAgain : Type 0
IsReadAgain =
    (before room bytes : List ℕ) (i : Instruction) → encode_of i (length room) ≡ given bytes
    → length (before ++ room_after (given bytes) room) ≤ 16384
    → decode_of (before ++ room_after (given bytes) room) (length before) ≡ given (i, length bytes)

-- The decoder refuses by a number of 01 exactly where that number is the first to apply.
unfoldable pub RefusesExactly : Type 0
RefusesExactly =
    ((program : List ℕ) (at n : ℕ) → Bytes program → decode_of program at ≡ refused n → Why program at n)
    × ((program : List ℕ) (at n : ℕ) → Why program at n → decode_of program at ≡ refused n)

-- What is read has one byte at least and ends inside the program: a reader moves on, and never past the end.
unfoldable pub ReadsInside : Type 0
ReadsInside = (program : List ℕ) (at n : ℕ) (i : Instruction) → decode_of program at ≡ given (i, n) → (0 < n) × (at + n ≤ length program)

-- No two well-formed instructions have the same bytes.
unfoldable pub BytesTellApart : Type 0
BytesTellApart = (i j : Instruction) → well_formed i ≡ true → well_formed j ≡ true → encoded_of i ≡ encoded_of j → i ≡ j

-- "Every well-formed .. rule pack is read": the pack of any rules that a pack can hold is read, and tells these rules.
unfoldable pub PackIsRead : Type 0
PackIsRead = (rs : List Rule) → Packable rs → (read_of (packed rs) ≡ given (contents_for rs)) × (rules_of (packed rs) (contents_for rs) ≡ rs)

-- ".. and written again gives the same bytes": what is read is well-formed, and the rules that it tells are written as the
-- very bytes that they were read from, into any room that holds them.
unfoldable pub PackIsWrittenAgain : Type 0
PackIsWrittenAgain =
    (s : List ℕ) (es : List Entry) (room : ℕ) → Bytes s → read_of s ≡ given es → length s ≤ room
    → WellFormed s × (write_rules (rules_of s es) room ≡ given s)

-- "the reverse holds too": whatever the writer took is read back as it was, tags, cells, lengths and bodies; and it takes all
-- rules that a pack can hold.
unfoldable pub PackIsReadAgain : Type 0
PackIsReadAgain =
    ((tags cells lengths bodies : List ℕ) (room : ℕ) (bytes : List ℕ) → Words tags → write_of tags cells lengths bodies room ≡ given bytes
    → (es : List Entry) × (read_of bytes ≡ given es) × PartsOf tags cells lengths bodies (rules_of bytes es))
    × ((rs : List Rule) (room : ℕ) → Packable rs → length (packed rs) ≤ room → write_rules rs room ≡ given (packed rs))

-- A pack is refused by a number of 01 exactly where that number is the first to apply.
unfoldable pub PackRefusesExactly : Type 0
PackRefusesExactly = ((s : List ℕ) (n : ℕ) → read_of s ≡ refused n → WhyPack s n) × ((s : List ℕ) (n : ℕ) → WhyPack s n → read_of s ≡ refused n)

-- A found program is exactly the body of the rule with that tag, and a tag is found exactly where a rule has it; the bytes that
-- the entry names lie inside the pack (`Inside`).
unfoldable pub FindsExactly : Type 0
FindsExactly =
    (s : List ℕ) (w : WellFormed s)
    → ((r : Rule) → Among r w.rules → (e : Entry) × (find_of s r.tag ≡ given e) × (e.cells ≡ r.cells) × (body_of s e ≡ r.body) × Inside s e)
    × ((tag : ℕ) (e : Entry) → find_of s tag ≡ given e → (e.tag ≡ tag) × Among (rule_of s e) w.rules × Inside s e)
    × ((tag : ℕ) → ((r : Rule) → Among r w.rules → r.tag ≡ tag → ⊥) → find_of s tag ≡ refused 36)

-- Whatever the bytes of a pack are, it counts at most 64 entries, and the bytes that an entry names, asked for by its index or by its
-- tag, lie inside the pack.
unfoldable pub EntriesLieInside : Type 0
EntriesLieInside =
    ((s : List ℕ) (n : ℕ) → seen length (read_of s) ≡ given n → n ≤ 64)
    × ((s : List ℕ) (index : ℕ) (e : Entry) → seen (λ es. get_elem? es index) (read_of s) ≡ given (some e) → Inside s e)
    × ((s : List ℕ) (tag : ℕ) (e : Entry) → find_of s tag ≡ given e → Inside s e)

-- Demand 3.

-- "an admissible program for an allowed number of cells", and a map as long as the program: none of 20, 22 and 23 applies
pub record Admissible (program : List ℕ) (cells : ℕ) (depths : List ℕ) : Type 0 where
  pub size : length program ≤ 16384
  pub few : cells ≤ 1024
  pub alike : length depths ≡ length program

-- the verifier accepts, and leaves this map
abbrev pub Accepts : List ℕ → ℕ → List ℕ → List ℕ → Type 0
Accepts program cells depths after = verify_of program cells depths ≡ (good, after)

-- "The verifier accepts .. exactly when no path of its jumps .. leads to a bad instruction, a call, a jump or function taken from
-- the stack, an unknown function, the program's end, or too few or too many values, and no address is met at two depths" (`Clear`).
unfoldable pub AcceptsExactly : Type 0
AcceptsExactly =
    ((program : List ℕ) (cells : ℕ) (depths after : List ℕ) → Accepts program cells depths after → Admissible program cells depths × Clear program cells)
    × ((program : List ℕ) (cells : ℕ) (depths : List ℕ) → Admissible program cells depths → Clear program cells → (after : List ℕ) × Accepts program cells depths after)

-- "Accepted: a cell holds the depth of its address if a path meets it, else 65,535" (`Mapped`).
unfoldable pub WritesDepths : Type 0
WritesDepths =
    (program : List ℕ) (cells : ℕ) (depths after : List ℕ) → Accepts program cells depths after
    → Mapped (look_of program cells) (length program) after

-- No depth in the map of an accepted program is over the cells.
unfoldable pub DepthsFit : Type 0
DepthsFit =
    (program : List ℕ) (cells : ℕ) (depths after : List ℕ) → Accepts program cells depths after
    → (a : ℕ) → (get_or after a 65535 ≡ 65535) ⊎ (get_or after a 65535 ≤ cells)

-- "each refusal by the walk has a path that shows it, 10 two" (`Shown`); "Refused by 1 to 10: every cell 65,535".
unfoldable pub ShowsRefusals : Type 0
ShowsRefusals =
    (program : List ℕ) (cells : ℕ) (depths after : List ℕ) (n a : ℕ) → verify_of program cells depths ≡ (names n a, after)
    → Shown two_depths (look_of program cells) (length program) n a × (after ≡ replicate (length program) 65535)

-- "A refusal names the instruction examined", which stands inside the program; "An empty program is 1 at 0".
unfoldable pub NamesInside : Type 0
NamesInside =
    (program : List ℕ) (cells : ℕ) (depths after : List ℕ) (n a : ℕ) → verify_of program cells depths ≡ (names n a, after)
    → (a < length program) ⊎ ((length program ≡ 0) × (n ≡ 1) × (a ≡ 0))

-- Every refusal of the verifier has its number: 1 to 5 or 8 to 10 where it names an instruction, never 6 or 7; 20, 22 or 23
-- where it names none (`Numbered`).
unfoldable pub RefusesByNumber : Type 0
RefusesByNumber = (program : List ℕ) (cells : ℕ) (depths : List ℕ) → Numbered (verify_of program cells depths).0

-- "Started fresh, with that many cells or more, any admissible data and any budget, an accepted program faults only on a data
-- range or a copy's program range, and its depth is always the one the verifier wrote down for its address" (`Safe`).
unfoldable pub RunsSafely : Type 0
RunsSafely =
    (program : List ℕ) (cells : ℕ) (depths after : List ℕ) → Accepts program cells depths after
    → (budget count : ℕ) (mem cs : List ℕ) (m' : Machine) → Allowed program (machine fresh mem cs) → cells ≤ length cs
    → outcome_of budget program (machine fresh mem cs) ≡ came m' count → Safe after m'

-- The same of a run that is gone on with: a fresh state is safe; and from any safe state, whatever became of data and cells since it
-- was handed back, with that many cells or more, any admissible data and any budget, what is handed back is safe again.
unfoldable pub ResumesSafely : Type 0
ResumesSafely =
    (program : List ℕ) (cells : ℕ) (depths after : List ℕ) → Accepts program cells depths after
    → ((mem cs : List ℕ) → Safe after (machine fresh mem cs))
    × ((budget count : ℕ) (m : Machine) (mem cs : List ℕ) (m' : Machine) → Safe after m → Allowed program (machine m.state mem cs)
    → cells ≤ length cs → outcome_of budget program (machine m.state mem cs) ≡ came m' count → Safe after m')

-- The verifier always answers: it accepts, or refuses before the walk, or in it.
unfoldable pub Answers : Type 0
Answers =
    (program : List ℕ) (cells : ℕ) (depths : List ℕ)
    → ((after : List ℕ) × Accepts program cells depths after)
    ⊎ (((n : ℕ) × (verify_of program cells depths ≡ (nameless n, depths)))
    ⊎ ((n : ℕ) × (a : ℕ) × (verify_of program cells depths ≡ (names n a, replicate (length program) 65535))))
