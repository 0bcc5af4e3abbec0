-- Every row that was worked by hand from 01 and 004: one statement.
use Rattle.guarantee.specs.Marked.{AllHold}
use Rattle.worked.specs.Values.{compared, reckoned, shifted, changed, with_byte, with_word}
use Rattle.worked.specs.Memory.{loaded, stored, copied}
use Rattle.worked.specs.Flow.{ordered, led, asked, pushed}
use Rattle.worked.specs.Faults.{past, illegal, unread, cut, few, full, outside, apart}
use Rattle.worked.specs.Walk.{mapped, walked, followed}
use Rattle.worked.specs.Instructions.{read, Written}
use Rattle.worked.specs.States.{Resumed, Refused}
use Rattle.worked.specs.Packs.{ReadPacks, LookedUp, WrittenPacks}
use Rattle.worked.specs.Downloads.{Closed, Cells, Open}

-- the operations of 01 by families
abbrev pub Operations : Type 0
Operations =
    AllHold compared × AllHold reckoned × AllHold shifted × AllHold changed × AllHold with_byte × AllHold with_word × AllHold loaded × AllHold stored × AllHold copied
    × AllHold ordered × AllHold led × AllHold asked × AllHold pushed

-- the faults of a step by number
abbrev pub Faults : Type 0
Faults = AllHold past × AllHold illegal × AllHold unread × AllHold cut × AllHold few × AllHold full × AllHold outside × AllHold apart

-- the verifier's maps and refusals
abbrev pub Walks : Type 0
Walks = AllHold mapped × AllHold walked × AllHold followed

-- instructions as values, read and written
abbrev pub Values : Type 0
Values = AllHold read × Written

-- budgets, states handed in again, and what is refused before a step
abbrev pub States : Type 0
States = Resumed × Refused

-- rule packs
abbrev pub Packs : Type 0
Packs = ReadPacks × LookedUp × WrittenPacks

-- packs that come byte by byte
abbrev pub Downloads : Type 0
Downloads = Closed × Cells × Open

abbrev pub Worked : Type 0
Worked = Operations × Faults × Walks × Values × States × Packs × Downloads
