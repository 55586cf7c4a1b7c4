use Rattle.potentials.proofs.Table.{hit, unchanged}
use borrow.Author.Rules.{rules}
use Rattle.potentials.proofs.kept.recall.Goals as goal

pub returns-then-atoms-s : goal.returns-then-atoms-s
returns-then-atoms-s c = record { value = hit _ _ _ _ c.requires _ _ _ _ (search rules) (search rules) c.slot_of-s.ensures c.key_of.ensures c.if-atoms-s.true; renewed = unchanged _ _ _ _ c.requires }
