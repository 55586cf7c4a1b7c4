use Prim.Native.Nat.{◌+◌}
use Rattle.bins.proofs.Parts.{held_is, part_none, part_some}
use Rattle.bins.specs.Sort.{part_of}
use borrow.Author.Tests.{not-true, not-false}
use mathlib.Core.Path.{◌∙◌, sym}
use native.Mathlib.Omega.{arith}
use Rattle.std.proofs.Common.{ap, not}
use Rattle.bins.proofs.atoms_in.Goals as goal

pub returns-then-not-is_held : goal.returns-then-not-is_held
returns-then-not-is_held c = part_none c.args.cell c.args.starts.now c.args.items.now (sym c.is_held.ensures ∙ not-true _ (ap not c.if-not-is_held.true))

pub offset_bounds-starts-cell : goal.offset_bounds-starts-cell
offset_bounds-starts-cell c = omega (arith, (held_is c.args.cell c.args.starts.now c.args.items.now (sym c.is_held.ensures ∙ not-false _ (ap not c.if-not-is_held.false))).there)

pub bounds-starts-cell : goal.bounds-starts-cell
bounds-starts-cell c = omega (arith, (held_is c.args.cell c.args.starts.now c.args.items.now (sym c.is_held.ensures ∙ not-false _ (ap not c.if-not-is_held.false))).there)

pub overflow_cast-from : goal.overflow_cast-from
overflow_cast-from c = omega (arith, c.type_inv.starts c.args.cell)

pub overflow_add-to : goal.overflow_add-to
overflow_add-to c = omega (arith, (held_is c.args.cell c.args.starts.now c.args.items.now (sym c.is_held.ensures ∙ not-false _ (ap not c.if-not-is_held.false))).there)

pub offset_bounds-starts-cell-2 : goal.offset_bounds-starts-cell-2
offset_bounds-starts-cell-2 c = omega (arith, (held_is c.args.cell c.args.starts.now c.args.items.now (sym c.is_held.ensures ∙ not-false _ (ap not c.if-not-is_held.false))).there)

pub bounds-starts-cell-2 : goal.bounds-starts-cell-2
bounds-starts-cell-2 c = (held_is c.args.cell c.args.starts.now c.args.items.now (sym c.is_held.ensures ∙ not-false _ (ap not c.if-not-is_held.false))).there

pub overflow_cast-to : goal.overflow_cast-to
overflow_cast-to c = omega (arith, c.type_inv.starts (c.args.cell + 1))

pub offset_bounds-items-from : goal.offset_bounds-items-from
offset_bounds-items-from c = omega (arith, c.type_inv.starts c.args.cell)

pub slice_bounds-result-count-2 : goal.slice_bounds-result-count-2
slice_bounds-result-count-2 c = (held_is c.args.cell c.args.starts.now c.args.items.now (sym c.is_held.ensures ∙ not-false _ (ap not c.if-not-is_held.false))).rising

pub slice_bounds-result-start-2 : goal.slice_bounds-result-start-2
slice_bounds-result-start-2 c = omega (arith, (held_is c.args.cell c.args.starts.now c.args.items.now (sym c.is_held.ensures ∙ not-false _ (ap not c.if-not-is_held.false))).rising, (held_is c.args.cell c.args.starts.now c.args.items.now (sym c.is_held.ensures ∙ not-false _ (ap not c.if-not-is_held.false))).within)

pub slice_bounds-result-end-2 : goal.slice_bounds-result-end-2
slice_bounds-result-end-2 c = (held_is c.args.cell c.args.starts.now c.args.items.now (sym c.is_held.ensures ∙ not-false _ (ap not c.if-not-is_held.false))).within

pub returns : goal.returns
unfolding part_of
returns c = part_some c.args.cell c.args.starts.now c.args.items.now (sym c.is_held.ensures ∙ not-false _ (ap not c.if-not-is_held.false))
