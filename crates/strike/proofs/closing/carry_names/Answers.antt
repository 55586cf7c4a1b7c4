use borrow.Author.Tests.{not-false}
use Prim.Native.Nat.{◌*◌, ◌+◌}
use Rattle.strike.proofs.Rows.{row_below}
use Rattle.strike.proofs.Turns.{carry_start, carry_turn, carry_done, carried_not, carried_on, row_there_at, fresh_there, fresh_is}
use Rattle.strike.specs.Closed.{new_number}
use lib.ListN.{get_or}
use mathlib.Core.Path.{refl, sym, ap, ◌∙◌}
use native.Mathlib.Omega.{arith}
use Rattle.std.proofs.Common.{not}
use Rattle.strike.proofs.closing.carry_names.Goals as goal

pub row_survives-requires : goal.row_survives-requires
row_survives-requires c = c.requires.2

pub shape_of-names-then-not-row_survives : goal.shape_of-names-then-not-row_survives
shape_of-names-then-not-row_survives c = refl

pub returns-then-not-row_survives : goal.returns-then-not-row_survives
returns-then-not-row_survives c = carried_not (λ e. new_number c.args.marks.now (get_or c.args.names.now e 0)) c.args.width c.args.to c.args.from c.args.names.now _ c.row_survives.result c.row_survives.ensures (ap not c.if-not-row_survives.true)

pub overflow_mul-a : goal.overflow_mul-a
overflow_mul-a c = omega (arith, c.requires.2, row_below c.args.width c.args.to c.args.from c.requires.0)

pub overflow_mul-b : goal.overflow_mul-b
overflow_mul-b c = omega (arith, c.requires.2)

pub loop-c-init : goal.loop-c-init
loop-c-init c = carry_start 0 (λ j. new_number c.args.marks.now (get_or c.args.names.now (c.args.width * c.args.from + j) 0)) (c.args.width * c.args.to) c.args.width c.args.names.now

pub overflow_add-b : goal.overflow_add-b
overflow_add-b c = omega (arith, c.requires.2)

pub offset_bounds-names-b : goal.offset_bounds-names-b
offset_bounds-names-b c = omega (arith, c.requires.2, c.loop-c.invariant.long)

pub bounds-names-b : goal.bounds-names-b
bounds-names-b c = omega (arith, c.requires.2, c.loop-c.invariant.long)

pub offset_bounds-fresh-i : goal.offset_bounds-fresh-i
offset_bounds-fresh-i c = omega (arith, fresh_there c.args.marks.now c.args.fresh.now c.requires.3 c.wide-i.result (get_or c.args.names.now (c.args.width * c.args.from + c.loop-c.c) 0) (c.wide-i.ensures ∙ c.loop-c.invariant.rest (c.args.width * c.args.from + c.loop-c.c) (omega (arith, row_below c.args.width c.args.to c.args.from c.requires.0))) (row_there_at c.args.marks.now c.args.width c.args.names.now c.args.from (sym c.row_survives.ensures ∙ not-false c.row_survives.result (ap not c.if-not-row_survives.false)) c.loop-c.c c.loop-c-test.true))

pub bounds-fresh-i : goal.bounds-fresh-i
bounds-fresh-i c = fresh_there c.args.marks.now c.args.fresh.now c.requires.3 c.wide-i.result (get_or c.args.names.now (c.args.width * c.args.from + c.loop-c.c) 0) (c.wide-i.ensures ∙ c.loop-c.invariant.rest (c.args.width * c.args.from + c.loop-c.c) (omega (arith, row_below c.args.width c.args.to c.args.from c.requires.0))) (row_there_at c.args.marks.now c.args.width c.args.names.now c.args.from (sym c.row_survives.ensures ∙ not-false c.row_survives.result (ap not c.if-not-row_survives.false)) c.loop-c.c c.loop-c-test.true)

pub overflow_add-names : goal.overflow_add-names
overflow_add-names c = omega (arith, c.requires.2, row_below c.args.width c.args.to c.args.from c.requires.0)

pub offset_bounds-names-a : goal.offset_bounds-names-a
offset_bounds-names-a c = omega (arith, c.requires.2, c.loop-c.invariant.long, row_below c.args.width c.args.to c.args.from c.requires.0)

pub bounds-names-a : goal.bounds-names-a
bounds-names-a c = omega (arith, c.requires.2, c.loop-c.invariant.long, row_below c.args.width c.args.to c.args.from c.requires.0)

pub loop-c-preserved : goal.loop-c-preserved
loop-c-preserved c = carry_turn 0 (λ j. new_number c.args.marks.now (get_or c.args.names.now (c.args.width * c.args.from + j) 0)) (c.args.width * c.args.to) c.args.width c.args.names.now c.loop-c.c c.loop-c.names (get_or c.args.fresh.now c.wide-i.result 0) c.loop-c-test.true (fresh_is c.args.marks.now c.args.fresh.now c.requires.3 c.wide-i.result (get_or c.args.names.now (c.args.width * c.args.from + c.loop-c.c) 0) (c.wide-i.ensures ∙ c.loop-c.invariant.rest (c.args.width * c.args.from + c.loop-c.c) (omega (arith, row_below c.args.width c.args.to c.args.from c.requires.0))) (row_there_at c.args.marks.now c.args.width c.args.names.now c.args.from (sym c.row_survives.ensures ∙ not-false c.row_survives.result (ap not c.if-not-row_survives.false)) c.loop-c.c c.loop-c-test.true)) c.loop-c.invariant

pub overflow_add-result : goal.overflow_add-result
overflow_add-result c = omega (arith, c.requires.0, c.requires.1)

pub shape_of-names : goal.shape_of-names
shape_of-names c = c.loop-c.invariant.long

pub returns : goal.returns
returns c = carried_on (λ e. new_number c.args.marks.now (get_or c.args.names.now e 0)) c.args.width c.args.to c.args.from c.args.names.now _ c.row_survives.result c.loop-c.names c.row_survives.ensures (ap not c.if-not-row_survives.false) (carry_done 0 (λ j. new_number c.args.marks.now (get_or c.args.names.now (c.args.width * c.args.from + j) 0)) (c.args.width * c.args.to) c.args.width c.args.names.now c.loop-c.c c.loop-c.names (omega (arith, c.loop-c-test.false)) c.loop-c.invariant)
