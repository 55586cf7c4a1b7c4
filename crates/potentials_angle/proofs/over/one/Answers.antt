use Rattle.potentials_angle.proofs.Kernels.{three_there}
use Rattle.potentials_angle.specs.Terms.{angle_step}
use mathlib.Core.Path.{sym, ◌∙◌}
use Rattle.potentials_angle.proofs.over.one.Goals as goal

pub returns-then-is_missing : goal.returns-then-is_missing
returns-then-is_missing c = unfold angle_step in rw (← c.corner_at-c.ensures, ← c.is_missing.ensures, c.if-is_missing.true)

pub bend_at-bend-requires : goal.bend_at-bend-requires
bend_at-bend-requires c = three_there _ c.corner_at-c.result (sym c.is_missing.ensures ∙ c.if-is_missing.false)

pub returns : goal.returns
returns c = unfold angle_step in rw (← c.corner_at-c.ensures, ← c.is_missing.ensures, c.if-is_missing.false, ← c.bend_at-bend.ensures) c.apply.ensures
