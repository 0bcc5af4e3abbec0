-- `face_packs::khx_pack_entry` meets its contract.
-- Assumes nothing.
use Rattle.std.proofs.Common.{rules}
use Rattle.pack.specs.Read.{read_of}
use Rattle.face_packs.proofs.Entries.{placed}
use Rattle.face_packs.proofs.khx_pack_entry.Goals as goal

pub returns : goal.returns
returns c = search (rules, placed (read_of c.args.pack.now) c.args.index)
