-- Why a call is refused, or a step faults, with its number: 01's table "Faults and refusals", the numbers of packs in 01's "Rule packs", those of
-- request No. 1 (37), and what docs/DECISIONS.md adds (90, 91).
use Rattle.std.specs.Prelude.{ℕ, Result, Ok, Err}
use Rattle.basis.specs.Answer.{Answer, given, refused}
use Rattle.basis.specs.declared.refusal.Refusal.{Refusal}
use Rattle.basis.specs.declared.refusal.Refusal.TheVariants.{PastEnd, Illegal, Cut, TooFew, TooMany, DataRange, ProgramRange, NoFunction, Untraced, TwoDepths, LongProgram, LongData, LongCells, MapLength, DeepState, ShortRoom, Unwritable, CutContents, LongPack, TagOrder, WrongOffset, WrongEnd, OverLimit, NoTag, Closed, ShortMemory, Damaged}

abbrev pub number_of : Refusal → ℕ
-- "address at or past the program's end"
number_of PastEnd = 1
-- "illegal first byte, flags or shift byte"
number_of Illegal = 2
-- "operands cut by the program's end"
number_of Cut = 3
-- "fewer values than are taken"
number_of TooFew = 4
-- "depth less taken plus pushed exceeds the cells"
number_of TooMany = 5
-- "data range"
number_of DataRange = 6
-- "program range in pcopy"
number_of ProgramRange = 7
-- "no such function"
number_of NoFunction = 8
-- "verifier: codes 05 to 0A, 3B, 55"
number_of Untraced = 9
-- "verifier: an address met at two depths"
number_of TwoDepths = 10
-- "program, data, cells over size"
number_of LongProgram = 20
number_of LongData = 21
number_of LongCells = 22
-- "depth map not as long as the program"
number_of MapLength = 23
-- "state deeper than the stack"
number_of DeepState = 24
-- "output longer than the room lent"
number_of ShortRoom = 25
-- "encoder: illegal code, number too large for its field, .."
number_of Unwritable = 26
-- "contents cut, or n over 64"
number_of CutContents = 30
-- "too long"
number_of LongPack = 31
-- "tag not above the one before"
number_of TagOrder = 32
-- "wrong offset"
number_of WrongOffset = 33
-- "bodies don't end at the pack's end"
number_of WrongEnd = 34
-- "cells over 1,024 or length over 16,384"
number_of OverLimit = 35
-- "the tag is absent"
number_of NoTag = 36
-- request No. 1: after the close
number_of Closed = 37
-- memory of an admission that is too short
number_of ShortMemory = 90
-- numbers that no admission has
number_of Damaged = 91

-- the code's answer as 01 gives it: a refusal is its number
abbrev pub answer_by : {A E : Type 0} → (E → ℕ) → Result A E → Answer A
answer_by number (Ok a) = given a
answer_by number (Err why) = refused (number why)

abbrev pub answer_of : {A : Type 0} → Result A Refusal → Answer A
answer_of r = answer_by number_of r
