-- The struct that stands for an answer of `add_shells`: a build's, with 13 among its refusals. Definitions only.
use Rattle.std.specs.Prelude.{Result, Ok, Err}
use Rattle.frame.specs.declared.Built.{Built}
use Rattle.shells.specs.declared.CountError.{CountError}
use Rattle.shells.specs.declared.CountError.TheVariants.{Refused, Full}
use Rattle.field_structs.specs.declared.FlatBuilt.{FlatBuilt}
use Rattle.field_structs.specs.Flat.{flag, well_done, flat_refusal}

unfoldable pub flat_counted : Result Built CountError → FlatBuilt
flat_counted (Ok b) = record { done = well_done; pairs = b.pairs; checks = b.checks; fallback = flag b.fallback }
flat_counted (Err (Refused r)) = record { done = flat_refusal r; pairs = 0; checks = 0; fallback = 0 }
flat_counted (Err Full) = record { done = record { number = 13; place = 0 }; pairs = 0; checks = 0; fallback = 0 }
