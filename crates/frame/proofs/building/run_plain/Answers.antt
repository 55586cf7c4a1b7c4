use Prim.Native.Nat.{ℕ, ◌/◌}
use Rattle.bins.proofs.Found.{plain_ready}
use Rattle.frame.proofs.Builds.{plain_count, plain_mem, plain_room, plain_left, shown_is}
use Rattle.candidates.proofs.Runs.{ended}
use Rattle.frame.specs.Steps.{looked_by, scene_by}
use Rattle.lists.specs.Lists.{all_pairs}
use lib.ListN.{length}
use mathlib.Core.Bool.{true}
use mathlib.Core.Path.{ap}
use native.Mathlib.Omega.{arith}
use Rattle.frame.proofs.building.run_plain.Goals as goal

pub consider_all-t-requires : goal.consider_all-t-requires
consider_all-t-requires c = let n = length c.args.xs.now / 3 in record { framed = c.requires.framed.0; n_in_bounds = (omega arith, plain_ready (scene_by c.args.f c.args.xs.now c.args.table.now) n c.requires.xs_len_bound.0) }

pub finish-requires : goal.finish-requires
finish-requires c = let n = length c.args.xs.now / 3 in let z = ended (looked_by c.args.f c.args.xs.now c.args.table.now) c.args.pairs.now (all_pairs n) _ _ c.consider_all-t.ensures (plain_ready (scene_by c.args.f c.args.xs.now c.args.table.now) n c.requires.xs_len_bound.0) in (plain_room c.args.f c.args.xs.now c.args.table.now c.requires.framed.1 c.args.pairs.now c.requires.xs_len_bound.1 z c.rows_below-excluded.ensures, z.few)

pub returns : goal.returns
returns c = let n = length c.args.xs.now / 3 in let z = ended (looked_by c.args.f c.args.xs.now c.args.table.now) c.args.pairs.now (all_pairs n) _ _ c.consider_all-t.ensures (plain_ready (scene_by c.args.f c.args.xs.now c.args.table.now) n c.requires.xs_len_bound.0) in record { result_value = shown_is true c.finish.ensures (plain_count c.args.f c.args.xs.now c.args.table.now c.requires.framed.1 c.args.pairs.now c.requires.xs_len_bound.1 z) (plain_left c.args.f c.args.xs.now c.args.table.now c.requires.framed.1 c.args.pairs.now c.requires.xs_len_bound.1 z c.rows_below-excluded.ensures) (ap (λ (l : ℕ). l / 2) z.same); pairs_after = plain_mem c.args.f c.args.xs.now c.args.table.now c.requires.framed.1 c.args.pairs.now c.requires.xs_len_bound.1 z }
