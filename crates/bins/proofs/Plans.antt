-- What a plan shows of the tests that made it. Assumes nothing.
use mathlib.Core.Path.{◌≡◌, refl}
use mathlib.Core.Bool.{Bool, true, false, cond}
use Rattle.lists.proofs.Cases.{impossible}
use Rattle.bins.specs.declared.Grid.{Grid}
use Rattle.bins.specs.declared.Plan.TheVariants.{AllPairs, TooMany, Laid}

pub planned_plain : (a b : Bool) (g : Grid) → cond a AllPairs (cond b TooMany (Laid g)) ≡ AllPairs → a ≡ true
planned_plain true b g e = refl
planned_plain false true g e = impossible (cc)
planned_plain false false g e = impossible (cc)

pub planned_many : (a b : Bool) (g : Grid) → cond a AllPairs (cond b TooMany (Laid g)) ≡ TooMany → (a ≡ false) × (b ≡ true)
planned_many true b g e = impossible (cc)
planned_many false true g e = (refl, refl)
planned_many false false g e = impossible (cc)

pub planned_laid : (a b : Bool) (g h : Grid) → cond a AllPairs (cond b TooMany (Laid g)) ≡ Laid h → (a ≡ false) × (b ≡ false) × (h ≡ g)
planned_laid true b g h e = impossible (cc)
planned_laid false true g h e = impossible (cc)
planned_laid false false g h e = (refl, refl, cc)
