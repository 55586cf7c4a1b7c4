use Rattle.potentials.proofs.Table.{first_row}
use Rattle.potentials.proofs.kept.first_room.Goals as goal

pub returns : goal.returns
returns c = first_row _ _ c.blank_room-room.result c.blank_room-room.ensures c.numbers_for-n.ensures
