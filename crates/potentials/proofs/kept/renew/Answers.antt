use Rattle.potentials.proofs.Table.{renewed}
use borrow.Author.Rules.{rules}
use lib.ListN.{length-set}
use native.Mathlib.Omega.{arith}
use Rattle.potentials.proofs.kept.renew.Goals as goal

pub bounds-room-k-2 : goal.bounds-room-k-2
bounds-room-k-2 c = simp length-set (omega (arith, c.requires.kept.block.room561, c.requires.s_value))

pub bounds-room-k-3 : goal.bounds-room-k-3
bounds-room-k-3 c = simp length-set (omega (arith, c.requires.kept.block.room561, c.requires.s_value))

pub returns : goal.returns
returns c = record { value = c.numbers_for-n.ensures; renewed = renewed _ _ _ _ c.requires.kept _ _ _ _ (search rules) (search rules) c.requires.s_value c.key_of.ensures _ c.numbers_for-n.ensures }
