use Rattle.std.specs.Prelude.{Ok}
use Rattle.answer.proofs.Passed.{passed_up}
use Rattle.frame.proofs.Outcomes.{build_refused, build_fine, build_few, build_run, build_lists}
use Rattle.frame.specs.Build.{Given, given, BuildSays}
use mathlib.Core.Bool.{false}
use Rattle.frame.proofs.build.Goals as goal

pub returns-in_err-asked : goal.returns-in_err-asked
returns-in_err-asked c =
    let i : Given = given c.args.f c.args.coordinates.now c.args.exclusions.now c.args.pairs.now c.args.starts.now c.args.items.now in
    let r = passed_up c.from_residual.result c.in_err-asked.field-0.0 c.from_residual.ensures.1 in
    let h : BuildSays i c.from_residual.result i.pairs i.starts i.items = rw r (build_refused i c.asked.ensures c.in_err-asked.was) in
    record { says = h; lists = build_lists i c.from_residual.result _ _ _ h }

pub returns-then-coordinates-lt2 : goal.returns-then-coordinates-lt2
returns-then-coordinates-lt2 c = let i : Given = given c.args.f c.args.coordinates.now c.args.exclusions.now c.args.pairs.now c.args.starts.now c.args.items.now in let h = build_few i c.asked.ensures c.in_ok-asked.was c.if-coordinates-lt2.true in record { says = h; lists = build_lists i (Ok (record { pairs = 0; checks = 0; fallback = false })) _ _ _ h }

pub run-requires : goal.run-requires
run-requires c = let i : Given = given c.args.f c.args.coordinates.now c.args.exclusions.now c.args.pairs.now c.args.starts.now c.args.items.now in let z = build_fine i c.asked.ensures c.in_ok-asked.was in record { framed = (z.framed, z.ascending); in_bounds = (c.if-coordinates-lt2.false, z.few, z.room) }

pub returns : goal.returns
returns c = let i : Given = given c.args.f c.args.coordinates.now c.args.exclusions.now c.args.pairs.now c.args.starts.now c.args.items.now in let h = build_run i c.asked.ensures c.in_ok-asked.was c.run.ensures in record { says = h; lists = build_lists i c.run.result _ _ _ h }
