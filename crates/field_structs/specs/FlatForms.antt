-- Answers of sheets of either form as structs of numbers: a sheet with its form and its rule, and a move's answer with 12 among its refusals. Definitions only.
use Rattle.std.specs.Prelude.{ℕ, Result, Ok, Err}
use Rattle.answer.specs.declared.Refusal.{Refusal}
use Rattle.sheet_either.specs.declared.Formed.{Formed}
use Rattle.sheet_moved.specs.declared.MoveError.{MoveError}
use Rattle.sheet_moved.specs.declared.MoveError.TheVariants.{Refused, NoWayBack}
use Rattle.field_structs.specs.declared.FlatFormed.{FlatFormed}
use Rattle.field_structs.specs.declared.FlatWhole.{FlatWhole}
use Rattle.field_structs.specs.Flat.{well_done, flat_refusal, flat_job, zero_job}

unfoldable pub flat_formed : Result Formed Refusal → FlatFormed
flat_formed (Ok f) = record { done = well_done; job = flat_job f.job; form = f.form; rule = f.rule }
flat_formed (Err r) = record { done = flat_refusal r; job = zero_job; form = 0; rule = 0 }

unfoldable pub flat_moved : Result ℕ MoveError → FlatWhole
flat_moved (Ok n) = record { done = well_done; value = n }
flat_moved (Err (Refused r)) = record { done = flat_refusal r; value = 0 }
flat_moved (Err (NoWayBack k)) = record { done = record { number = 12; place = k }; value = 0 }
