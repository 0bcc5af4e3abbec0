-- `encoder::encoded_length` meets its contract.
-- Assumes nothing.
use mathlib.Core.Path.{sym}
use Rattle.encoder.proofs.Wells.{well, length-well, own-width}
use Rattle.encoder.proofs.encoded_length.Goals as goal

pub returns : goal.returns
returns c = let s = c in
    rw (own-width s.args.i _ _ c.width_in.ensures c.form_of.ensures) (sym (length-well s.args.i (well s.args.i s.requires)))
