use Rattle.potentials.proofs.Kernels.{both_there}
use Rattle.potentials.specs.Rows.{way_of}
use mathlib.Core.Path.{sym, ◌∙◌}
use Rattle.potentials.proofs.rows.way_of.Goals as goal

pub returns-then-is_absent : goal.returns-then-is_absent
returns-then-is_absent c = unfold way_of in simp (c.zero.ensures, ← c.is_absent.ensures, c.if-is_absent.true)

pub quick_displacement-requires : goal.quick_displacement-requires
quick_displacement-requires c = both_there _ c.args.i c.args.j (sym c.is_absent.ensures ∙ c.if-is_absent.false)

pub returns : goal.returns
returns c = unfold way_of in simp (c.quick_displacement.ensures, ← c.is_absent.ensures, c.if-is_absent.false)
