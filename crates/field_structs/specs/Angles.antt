-- The structs that stand for the answers about angles. Definitions only.
use Rattle.std.specs.Prelude.{Err, Ok, Result}
use Rattle.answer.specs.declared.Refusal.{Refusal}
use Rattle.float.specs.Arith.{bits}
use Rattle.potentials_angle.specs.declared.Angle.{Angle}
use Rattle.field_structs.specs.declared.FlatAngleAnswer.{FlatAngleAnswer}
use Rattle.field_structs.specs.Flat.{well_done, flat_refusal}

abbrev pub zero_angle : Angle
zero_angle = record { k = bits 0; rest = bits 0 }

unfoldable pub flat_angle_answer : Result Angle Refusal → FlatAngleAnswer
flat_angle_answer (Ok a) = record { done = well_done; angle = a }
flat_angle_answer (Err r) = record { done = flat_refusal r; angle = zero_angle }
