use mathlib.Core.Path.{refl}
use Rattle.cell.specs.Boxes.{fits_of}
use mathlib.Core.Path.{refl}
use Rattle.cell.proofs.counting.fits.Goals as goal

pub returns : goal.returns
unfolding fits_of
returns c = refl
