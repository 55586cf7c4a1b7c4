-- THEOREM (02, No. 10): at C "a job names rule 1 or rule 2", and another number is out of range, whatever the others are; so each call refuses it with 3, in 3's place among its
-- tests. proofs/Rules.antt proves it of every struct. Definitions only.
use Rattle.std.specs.Prelude.{◌≡◌, false}
use Rattle.potentials.specs.Ranged.{lj_in_range}
use Rattle.field_structs.specs.declared.FlatLj.{FlatLj}
use Rattle.field_structs.specs.Taken.{lj_of}

abbrev pub OtherRule : FlatLj → Type 0
OtherRule lj = (lj.rule ≡ 1 → ⊥) → (lj.rule ≡ 2 → ⊥) → lj_in_range (lj_of lj) ≡ false
