use Rattle.sheet.proofs.Keeping.{when_answered, when_refused}
use native.Mathlib.Omega.{arith}
use Rattle.sheet.proofs.desk.keep_exclusion.Goals as goal

pub overflow_cast-result : goal.overflow_cast-result
overflow_cast-result c = omega (arith, (when_answered c.args.count c.args.a c.args.b c.args.table.now c.exclude-whole.new.table c.requires c.exclude-whole.result _ c.in-Ok.is c.exclude-whole.ensures).few)

pub returns-in-Ok : goal.returns-in-Ok
returns-in-Ok c = let w = when_answered c.args.count c.args.a c.args.b c.args.table.now c.exclude-whole.new.table c.requires c.exclude-whole.result _ c.in-Ok.is c.exclude-whole.ensures in record { table_after = w.is; fit_count = w.fits }

pub returns-in-Err : goal.returns-in-Err
returns-in-Err c = record { table_after = when_refused c.args.count c.args.a c.args.b c.args.table.now c.exclude-whole.new.table c.requires c.exclude-whole.result _ c.in-Err.is c.exclude-whole.ensures; fit_count = tt }
