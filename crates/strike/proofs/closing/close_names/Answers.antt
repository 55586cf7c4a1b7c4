use Rattle.strike.proofs.Rows.{row_there}
use Rattle.strike.proofs.Turns.{closed_none, closed_few, closed_long, closed_rest, closed_turn, row_asked}
use Rattle.strike.specs.Closed.{row_survives, new_number}
use Rattle.strike.specs.Steps.{Closed}
use lib.ListN.{length, get_or}
use mathlib.Core.Path.{subst, ap}
use native.Mathlib.Omega.{arith}
use Rattle.strike.proofs.closing.close_names.Goals as goal

pub loop-k-init : goal.loop-k-init
loop-k-init c = (omega arith, closed_none (λ e. new_number c.args.marks.now (get_or c.args.names.now e 0)) c.args.width (row_survives c.args.marks.now c.args.width c.args.names.now) c.args.names.now)

pub carry_names-to-requires : goal.carry_names-to-requires
carry_names-to-requires c = (closed_few (λ e. new_number c.args.marks.now (get_or c.args.names.now e 0)) c.args.width (row_survives c.args.marks.now c.args.width c.args.names.now) c.args.names.now c.loop-k.invariant.1, omega (arith, c.requires.0, closed_long (λ e. new_number c.args.marks.now (get_or c.args.names.now e 0)) c.args.width (row_survives c.args.marks.now c.args.width c.args.names.now) c.args.names.now c.loop-k.invariant.1), omega (arith, row_there c.args.width c.loop-k.k c.args.rows (length c.args.names.now) c.loop-k-test.true c.requires.1, closed_long (λ e. new_number c.args.marks.now (get_or c.args.names.now e 0)) c.args.width (row_survives c.args.marks.now c.args.width c.args.names.now) c.args.names.now c.loop-k.invariant.1), c.requires.2)

pub loop-k-preserved : goal.loop-k-preserved
loop-k-preserved c = (omega arith, closed_turn (λ e. new_number c.args.marks.now (get_or c.args.names.now e 0)) c.args.width (row_survives c.args.marks.now c.args.width c.args.names.now) c.args.names.now (λ e. new_number c.args.marks.now (get_or c.loop-k.names e 0)) c.loop-k.k c.loop-k.to c.carry_names-to.result (row_survives c.args.marks.now c.args.width c.loop-k.names c.loop-k.k) c.loop-k.names c.carry_names-to.new.names c.loop-k.invariant.1 (row_asked c.args.marks.now c.args.width c.loop-k.names c.args.names.now c.loop-k.k (λ j. closed_rest (λ e. new_number c.args.marks.now (get_or c.args.names.now e 0)) c.args.width (row_survives c.args.marks.now c.args.width c.args.names.now) c.args.names.now 0 c.loop-k.invariant.1 _ (omega arith))) (λ s j h. ap (new_number c.args.marks.now) (closed_rest (λ e. new_number c.args.marks.now (get_or c.args.names.now e 0)) c.args.width (row_survives c.args.marks.now c.args.width c.args.names.now) c.args.names.now 0 c.loop-k.invariant.1 _ (omega arith))) c.carry_names-to.ensures)

pub shape_of-names : goal.shape_of-names
shape_of-names c = closed_long (λ e. new_number c.args.marks.now (get_or c.args.names.now e 0)) c.args.width (row_survives c.args.marks.now c.args.width c.args.names.now) c.args.names.now c.loop-k.invariant.1

pub returns : goal.returns
returns c = subst (λ n. Closed (λ e. new_number c.args.marks.now (get_or c.args.names.now e 0)) c.args.width (row_survives c.args.marks.now c.args.width c.args.names.now) n c.args.names.now c.loop-k.to c.loop-k.names) (omega arith) c.loop-k.invariant.1
