use Rattle.lists.proofs.Rows.{length_rows}
use Rattle.lists.specs.Lists.{rows}
use Rattle.potentials.proofs.Blocks.{sifted_begin, sifted_number}
use lib.ListN.{length}
use mathlib.Core.Path.{refl, ◌∙◌}
use native.Mathlib.Omega.{arith}
use Rattle.potentials.proofs.bonds.sift.Goals as goal

pub loop-b-init : goal.loop-b-init
loop-b-init c = (c.requires.0, refl, refl, refl, sifted_begin _ _ _)

pub loop-b-preserved : goal.loop-b-preserved
loop-b-preserved c = (omega (arith, c.loop-b-test.true), c.gather-c.auto.atoms ∙ c.loop-b.invariant.1, c.gather-c.auto.apart ∙ c.loop-b.invariant.2, c.gather-c.auto.two ∙ c.loop-b.invariant.3, sifted_number (length (rows c.args.bonds.now.ends.now)) (omega (arith, length_rows c.args.bonds.now.ends.now, c.loop-b-test.true, c.requires.2)) c.loop-b.invariant.4 c.gather-c.ensures)
