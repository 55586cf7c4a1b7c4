use Rattle.answer.proofs.Passed.{passed_up}
use Rattle.shells.specs.declared.CountError.TheVariants.{Refused}
use Rattle.frame.specs.Build.{Given, given}
use Rattle.shells.proofs.Refusals.{asked_bad, built_refused, built_added, built_full, listed_fit, listed_countable}
use Rattle.shells.specs.Shells.{Adding, adding}
use lib.Seq.{length-take-le}
use mathlib.Core.Path.{sym}
use Rattle.shells.proofs.add_shells.Goals as goal

pub returns-then-width-totals : goal.returns-then-width-totals
returns-then-width-totals c = let j : Adding = adding (given c.args.f c.args.coordinates.now c.args.exclusions.now c.args.pairs.now c.args.starts.now c.args.items.now) c.args.width c.args.totals.now in asked_bad j c.if-width-totals.true c.refusal.ensures

pub slice_bounds-add-end : goal.slice_bounds-add-end
slice_bounds-add-end c = let i : Given = given c.args.f c.args.coordinates.now c.args.exclusions.now c.args.pairs.now c.args.starts.now c.args.items.now in listed_fit i c.build.result _ _ _ c.build.ensures.says c.in_ok-b.was

pub slice_bounds-add-end-2 : goal.slice_bounds-add-end-2
slice_bounds-add-end-2 c = let i : Given = given c.args.f c.args.coordinates.now c.args.exclusions.now c.args.pairs.now c.args.starts.now c.args.items.now in sym (length-take-le _ _ (listed_fit i c.build.result _ _ _ c.build.ensures.says c.in_ok-b.was))

pub add-requires : goal.add-requires
add-requires c = let i : Given = given c.args.f c.args.coordinates.now c.args.exclusions.now c.args.pairs.now c.args.starts.now c.args.items.now in listed_countable i c.build.result _ _ _ c.build.ensures.says c.in_ok-b.was c.build.ensures.lists _ _ c.if-width-totals.false

pub returns-then-add : goal.returns-then-add
returns-then-add c = let j : Adding = adding (given c.args.f c.args.coordinates.now c.args.exclusions.now c.args.pairs.now c.args.starts.now c.args.items.now) c.args.width c.args.totals.now in built_added j c.if-width-totals.false c.build.result _ _ _ c.build.ensures.says c.in_ok-b.was c.add.ensures.value c.add.ensures.totals_after c.if-add.true

pub returns-in_err-b : goal.returns-in_err-b
returns-in_err-b c =
    let j : Adding = adding (given c.args.f c.args.coordinates.now c.args.exclusions.now c.args.pairs.now c.args.starts.now c.args.items.now) c.args.width c.args.totals.now in
    let r = passed_up c.from_residual.result (Refused c.in_err-b.field-0.0) c.from_residual.ensures.1 in
    rw r (built_refused j c.if-width-totals.false c.build.result _ _ _ c.build.ensures.says c.in_err-b.was)

pub returns : goal.returns
returns c = let j : Adding = adding (given c.args.f c.args.coordinates.now c.args.exclusions.now c.args.pairs.now c.args.starts.now c.args.items.now) c.args.width c.args.totals.now in built_full j c.if-width-totals.false c.build.result _ _ _ c.build.ensures.says c.in_ok-b.was c.add.ensures.value c.add.ensures.totals_after c.if-add.false
