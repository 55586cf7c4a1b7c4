use mathlib.Core.Bool.{false≢true}
use mathlib.Core.Path.{sym, ◌∙◌}
use Rattle.neighbor_listing.proofs.side.flag_skewed.Goals as goal

pub flag_upper-requires : goal.flag_upper-requires
flag_upper-requires c = (c.requires.0, c.requires.1, c.requires.2, c.requires.3, c.requires.4, c.if-r.true, sym c.is_upper.ensures ∙ c.if-is_upper.true)

pub flag_slanted-requires : goal.flag_slanted-requires
flag_slanted-requires c = (c.requires.0, c.requires.1, c.requires.2, c.requires.3, c.requires.4, c.if-r.true, sym c.is_upper.ensures ∙ c.if-is_upper.false)

pub returns-then-not-is_tilted : goal.returns-then-not-is_tilted
returns-then-not-is_tilted c = record { hold = λ e. absurd (false≢true e) }
