use Rattle.skin.proofs.Skin.{squared_value, squared_not_refused}
use Rattle.skin.proofs.squared_move.Goals as goal

pub returns-in-Ok : goal.returns-in-Ok
returns-in-Ok c = squared_value _ _ _ c.requires _ _ c.squared_distance-d.ensures c.in-Ok.is

pub returns-in-Err : goal.returns-in-Err
returns-in-Err c = squared_not_refused _ _ _ c.requires _ _ _ c.squared_distance-d.ensures c.in-Err.is
