-- The structs that stand for the answers about striking. Definitions only.
use Rattle.strike.specs.declared.Struck.{Struck}
use Rattle.strike.specs.declared.Entered.{Entered}
use Rattle.field_structs.specs.declared.FlatStruck.{FlatStruck}
use Rattle.field_structs.specs.declared.FlatEntered.{FlatEntered}
use Rattle.field_structs.specs.Flat.{flat_done, flat_state}

unfoldable pub flat_struck : Struck → FlatStruck
flat_struck a = record { done = flat_done a.done; left = a.left; state = flat_state a.state }

unfoldable pub flat_entered : Entered → FlatEntered
flat_entered a = record { done = flat_done a.done; count = a.count; state = flat_state a.state }
