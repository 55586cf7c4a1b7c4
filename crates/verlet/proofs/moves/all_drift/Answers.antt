use Prim.Native.Nat.{◌≤◌, ◌<◌}
use Rattle.lists.proofs.Walks.{every_passes, every_fails, every_past}
use Rattle.verlet.proofs.Steps.{drifted_length, drifted_at}
use Rattle.verlet.specs.Parts.{coordinate}
use Rattle.verlet.specs.Verlet.{kicked_of, drifted_of}
use borrow.Author.Rules.{rules}
use borrow.Author.Tests.{not-true, not-false}
use lib.Ieee.{nan}
use lib.ListN.{length}
use mathlib.Core.Path.{refl, sym, ◌∙◌, ap}
use native.Mathlib.Omega.{arith}
use Rattle.std.proofs.Common.{not}
use Rattle.verlet.proofs.moves.all_drift.Goals as goal

pub loop-k-init : goal.loop-k-init
loop-k-init c = (search rules, refl)

pub returns-then-not-is_within : goal.returns-then-not-is_within
returns-then-not-is_within c = let l = drifted_of c.args.dt (kicked_of c.args.units c.args.dt c.args.fs.now c.args.ms.now c.args.vs.now) c.args.xs.now in
    let h : c.loop-k.k < length l = omega (arith, drifted_length c.args.dt (kicked_of c.args.units c.args.dt c.args.fs.now c.args.ms.now c.args.vs.now) c.args.xs.now, c.loop-k-test.true) in
    let e = drifted_at c.args.units c.args.dt c.args.fs.now c.args.ms.now c.args.xs.now c.args.vs.now c.loop-k.k (omega arith) (omega arith) in
    sym (c.loop-k.invariant.1 ∙ every_fails nan l c.loop-k.k coordinate h (ap coordinate (e ∙ sym c.drifted_at-x.ensures) ∙ sym c.is_within.ensures ∙ not-true _ (ap not c.if-not-is_within.true)))

pub loop-k-preserved : goal.loop-k-preserved
loop-k-preserved c = let l = drifted_of c.args.dt (kicked_of c.args.units c.args.dt c.args.fs.now c.args.ms.now c.args.vs.now) c.args.xs.now in
    let h : c.loop-k.k < length l = omega (arith, drifted_length c.args.dt (kicked_of c.args.units c.args.dt c.args.fs.now c.args.ms.now c.args.vs.now) c.args.xs.now, c.loop-k-test.true) in
    let e = drifted_at c.args.units c.args.dt c.args.fs.now c.args.ms.now c.args.xs.now c.args.vs.now c.loop-k.k (omega arith) (omega arith) in
    (search rules, c.loop-k.invariant.1 ∙ every_passes nan l c.loop-k.k coordinate h (ap coordinate (e ∙ sym c.drifted_at-x.ensures) ∙ sym c.is_within.ensures ∙ not-false _ (ap not c.if-not-is_within.false)))

pub returns : goal.returns
returns c = let l = drifted_of c.args.dt (kicked_of c.args.units c.args.dt c.args.fs.now c.args.ms.now c.args.vs.now) c.args.xs.now in
    let h : length l ≤ c.loop-k.k = omega (arith, drifted_length c.args.dt (kicked_of c.args.units c.args.dt c.args.fs.now c.args.ms.now c.args.vs.now) c.args.xs.now, c.loop-k-test.false) in
    sym (c.loop-k.invariant.1 ∙ every_past nan l c.loop-k.k coordinate h)
