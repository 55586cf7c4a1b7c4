use Rattle.potentials.proofs.Table.{begun}
use Rattle.potentials.proofs.both.over.Goals as goal

pub by_blocks-requires : goal.by_blocks-requires
by_blocks-requires c = record { ways_len = (c.blank_ways-ways.ensures, c.blank_two-two.ensures, c.blank_two-pulls.ensures); kept = begun _ _ _ _ c.blank_keys-atoms.ensures c.first_room-room.ensures }
