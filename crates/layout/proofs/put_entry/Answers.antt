-- `layout::put_entry` meets its contract.
-- Assumes nothing.
use Rattle.layout.proofs.Puts.{put_four}
use Rattle.layout.proofs.put_entry.Goals as goal

pub returns : goal.returns
returns c = let a = c.args in
    put_four a.room.now c.put_number.new.room c.put_number-2.new.room c.put_number-3.new.room c.put_number-4.new.room a.at a.e
    c.put_number.ensures c.put_number-2.ensures c.put_number-3.ensures c.put_number-4.ensures
