-- `encoder::put_bytes` meets its contract.
-- Assumes nothing.
use lib.ListN.{length}
use Rattle.encoder.proofs.Wells.{room-first, room-number, room-values, put-encoded}
use Rattle.encoder.proofs.put_bytes.Goals as goal

pub bounds-room-0 : goal.bounds-room-0
bounds-room-0 c = let s = c in room-first s.args.i (length s.args.room.now) s.requires.1

pub put_number-requires : goal.put_number-requires
put_number-requires c = let s = c in
    room-number s.args.i _ _ c.width_in-w.ensures c.form_of.ensures s.args.room.now c.first_of.result s.requires.1

pub put_values-requires : goal.put_values-requires
put_values-requires c = let s = c in
    room-values s.args.i _ _ c.width_in-w.ensures c.form_of.ensures s.args.room.now c.put_number.new.room c.first_of.result s.requires.1 c.put_number.auto.room

pub returns : goal.returns
returns c = let a = c.args in
    put-encoded a.i _ _ c.width_in-w.ensures c.form_of.ensures a.room.now c.put_number.new.room c.put_values.new.room c.first_of.result
    c.first_of.ensures c.put_number.ensures c.put_values.ensures
