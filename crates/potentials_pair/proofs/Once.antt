-- The formulas over the numbers of two species are those of the source over the mixed epsilon and sigma: the same operations in the same order. Assumes nothing.
use mathlib.Core.Path.{◌≡◌, refl}
use lib.Ieee.{Float}
use Rattle.cell.specs.declared.Vec3.{Vec3}
use Rattle.potentials_pair.specs.declared.Lj.{Lj}
use Rattle.potentials_pair.specs.declared.Mixed.{Mixed}
use Rattle.potentials_pair.specs.Lj.{lj_energy, lj_near}
use Rattle.potentials_pair.specs.Once.{numbers_of, energy_by, slope_by, near_by}

pub near_numbers : (lj : Lj) (m : Mixed) (d : Vec3) (r2 : Float) → near_by lj.shift (numbers_of lj m) d r2 ≡ lj_near lj m d r2
unfolding near_by energy_by slope_by numbers_of lj_near lj_energy
near_numbers lj m d r2 = refl
