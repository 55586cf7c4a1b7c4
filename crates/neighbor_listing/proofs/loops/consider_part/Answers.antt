use Rattle.bins.proofs.Runs.{run_begin, run_with_end}
use Rattle.neighbor_listing.proofs.Sifted.{run_piece, ready_piece, below_first, below_later}
use Rattle.std.specs.Slice.Iter.{chunks_rest, chunks_size}
use mathlib.Core.Path.{ap, refl, ◌∙◌}
use native.Mathlib.Omega.{arith}
use Rattle.neighbor_listing.proofs.loops.consider_part.Goals as goal

pub loop-few-init : goal.loop-few-init
loop-few-init c =
    let all = ap chunks_rest c.into_iter-few-iterator.ensures.into_iter_gives ∙ c.chunks-few-items.ensures.rest in
    (ap chunks_size c.into_iter-few-iterator.ensures.into_iter_gives ∙ c.chunks-few-items.ensures.size, rw all c.requires.1, refl, rw all (run_begin _ c.requires.2))

pub consider_few-now-requires : goal.consider_few-now-requires
consider_few-now-requires c =
    let s = c.in-Some.ensures.steps.1 in
    (omega (arith, s.1, c.loop-few.invariant.0), below_first _ _ _ s.0 c.loop-few.invariant.1, c.spot_at-a.ensures, ready_piece _ _ _ s.0 c.loop-few.invariant.3.ready)

pub loop-few-preserved : goal.loop-few-preserved
loop-few-preserved c =
    let s = c.in-Some.ensures.steps in
    (s.0 ∙ c.loop-few.invariant.0, below_later _ _ _ s.1.0 c.loop-few.invariant.1, c.consider_few-now.auto.pairs ∙ c.loop-few.invariant.2, run_piece _ _ _ s.1.0 _ c.loop-few.invariant.3 c.consider_few-now.ensures)

pub returns : goal.returns
returns c = run_with_end c.args.i (chunks_rest c.loop-few.few-iterator) 0 (omega (arith, c.in-None.ensures.steps.1.0)) c.loop-few.invariant.3
