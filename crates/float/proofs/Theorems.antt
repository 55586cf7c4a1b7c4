-- The theorems of specs/Theorems.antt, each proved in the file of its subject. Assumes nothing.
use Rattle.std.proofs.Common.{◌≡◌, true, false, pos, negsuc, refl}
use lib.Ieee.{fin, add, rem, lt, round}
use Rattle.float.specs.Def.{rem_euclid_of}
use Rattle.float.specs.Theorems.{Theorems}
use Rattle.float.proofs.RootNearest as Root
use Rattle.float.proofs.Whole as Whole
use Rattle.float.proofs.Fold as Fold

to_one : rem_euclid_of (fin true 1 (negsuc 1073)) (fin false 1 (pos 0)) ≡ fin false 1 (pos 0)
unfolding rem_euclid_of rem add lt round
to_one = refl

pub theorems : Theorems
theorems =
    record {
      root_nearest = Root.root_nearest;
      root_only = Root.nearest_unique;
      trunc_exact = Whole.trunc_exact;
      floor_exact = Whole.floor_exact;
      round_exact = Whole.nearest_exact;
      fold_in_unit = Fold.fold_in_unit;
      fold_to_one = to_one;
    }
