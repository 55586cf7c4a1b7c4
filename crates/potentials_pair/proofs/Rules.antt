-- The mixing rules: each mixes as it is written, and nothing but the mixed sigma asks for one. Assumes nothing.
use mathlib.Core.Path.{refl}
use Rattle.potentials_pair.specs.declared.Lj.{Lj}
use Rattle.potentials_pair.specs.declared.Mixed.{Mixed}
use Rattle.potentials_pair.specs.Lj.{sigma_of, mix_of, lj_energy, lj_near, lj_pull}
use Rattle.potentials_pair.specs.Species.{Tables, numbers_in, look_of}
use Rattle.potentials_pair.specs.Rules.{RuleOneMixes, RuleTwoMixes, LooksAlike, PullsAlike}

pub rule_one_mixes : (a b : Mixed) → RuleOneMixes a b
unfolding mix_of sigma_of
rule_one_mixes a b = refl

pub rule_two_mixes : (a b : Mixed) → RuleTwoMixes a b
unfolding mix_of sigma_of
rule_two_mixes a b = refl

pub looks_alike : (tab : Tables) (lj : Lj) → LooksAlike tab lj
unfolding look_of numbers_in
looks_alike tab lj rule z = refl

pub pulls_alike : (lj : Lj) → PullsAlike lj
unfolding lj_pull lj_near lj_energy
pulls_alike lj rule m d = refl
