-- The rule is asked where two species are mixed, and nowhere else in a call. Assumes nothing.
use mathlib.Core.Path.{refl, ap₂, ◌∙◌}
use lib.ListN.{get_or}
use Rattle.potentials_pair.specs.declared.Lj.{Lj}
use Rattle.potentials_pair.specs.declared.Mixed.{Mixed}
use Rattle.potentials_pair.specs.Lj.{mix_of, lj_pull}
use Rattle.potentials_pair.specs.Species.{look_of}
use Rattle.potentials_pair.specs.Rules.{with_rule}
use Rattle.potentials_pair.proofs.Rules.{looks_alike, pulls_alike}
use Rattle.potentials.specs.Terms.{displaced, lj_pair}
use Rattle.potentials.specs.Ranged.{lj_in_range}
use Rattle.potentials.specs.Calls.{lj_ranges, lj_asked}
use Rattle.potentials.specs.Rules.{AskedAlike, PairByRule}

pub asked_alike : (lj : Lj) → AskedAlike lj
unfolding lj_asked lj_ranges lj_in_range
asked_alike lj rule cell tab species xs forces pairs absent = refl

pub pair_by_rule : (lj : Lj) → PairByRule lj
unfolding lj_pair
pair_by_rule lj rule image tab species xs p =
    let y = get_or species p.0 0 in
    let z = get_or species p.1 0 in
    pulls_alike lj rule (mix_of rule (look_of tab (with_rule rule lj) y) (look_of tab (with_rule rule lj) z)) (displaced image xs p)
    ∙ ap₂ (λ (a b : Mixed). lj_pull lj (mix_of rule a b) (displaced image xs p)) (looks_alike tab lj rule y) (looks_alike tab lj rule z)
