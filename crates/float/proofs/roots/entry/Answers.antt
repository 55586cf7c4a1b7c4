-- `float::roots::entry` meets its contract. `tt` is the table's rule: one test over its 768 entries, which antt computes. Assumes nothing.
use Rattle.float.proofs.Table.{keeps_rule}
use Rattle.std.proofs.Common.{refl}
use Rattle.float.proofs.roots.entry.Goals as goal

pub read-requires : goal.read-requires
read-requires c = (keeps_rule _ tt refl, c.requires.0, c.requires.1)
