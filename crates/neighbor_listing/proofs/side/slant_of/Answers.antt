use Rattle.neighbor_listing.proofs.Slanted.{level_says}
use Rattle.neighbor_listing.specs.Sides.{is_slanted, whole_step}
use mathlib.Core.Path.{sym, ◌∙◌}
use Rattle.neighbor_listing.proofs.side.slant_of.Goals as goal

pub returns-then-is_level : goal.returns-then-is_level
returns-then-is_level c = level_says c.args.s c.args.w c.args.low c.args.high c.requires (sym c.is_level.ensures ∙ c.if-is_level.true) c.zero.ensures

pub returns : goal.returns
returns c = record {
  single = unfold is_slanted in rw (c.is_tilted.ensures, c.is_steady.ensures, c.is_steady-2.ensures, c.is_steady-3.ensures);
  step = unfold whole_step in rw (c.step_by.ensures, c.step_by-2.ensures, c.step_by-3.ensures);
}
