-- Every marked case holds: each is computed. Assumes nothing.
use mathlib.Core.Path.{refl}
use lib.Ieee.{of_bits, round}
use Rattle.float.specs.Def.{round_of, root_of}
use Rattle.lists.specs.Lists.{numbers, each, keep, how_many, every, some, ordered, with_each, inside, across, rows}
use Rattle.bins.specs.Axis.{touch, stepped, rem_euclid, bin_within, follows}
use Rattle.bins.specs.Edge.{bins_on, bin_on, gap, distance, axis_on}
use Rattle.bins.specs.Stencil.{flatten, cells, same_cell, touching, half_stencil, offset, joined_bins, reached}
use Rattle.bins.specs.Traversal.{bin, met, visit, cell_pairs, pairs_of}
use Rattle.exclusions.specs.Table.{is_table, is_row}
use Rattle.frame.specs.Distance.{spot_of, squared_of, near_of, edge_ok, side_ok, frame_ok, spot_ok}
use Rattle.frame.specs.Laying.{grid_of, cell_of_spot, narrow, plain_of, crowded}
use Rattle.frame.specs.Build.{scene_of, candidates, near_pairs, beside, checks_of, lengths_bad, ranges_ok, shown_of, run_of, after_of, build_of, frame_asked}
use Rattle.skin.specs.Skin.{moved_little, all_moved_little, counts_differ, skin_seen}
use Rattle.cases.specs.Marked.{Marked}

pub marked : Marked
unfolding round_of root_of of_bits round numbers each keep how_many every some ordered with_each inside across rows follows touch stepped rem_euclid bin_within bins_on bin_on gap distance axis_on flatten cells same_cell touching half_stencil offset joined_bins reached bin met visit cell_pairs pairs_of is_table is_row spot_of squared_of near_of edge_ok side_ok frame_ok spot_ok grid_of cell_of_spot narrow plain_of crowded scene_of candidates near_pairs beside checks_of lengths_bad ranges_ok frame_asked shown_of run_of after_of build_of moved_little all_moved_little counts_differ skin_seen
marked =
    record {
      round_half = refl;
      round_minus_half = refl;
      round_two_and_half = refl;
      round_below_half = refl;
      root_four = refl;
      root_minus_zero = refl;
      root_least = refl;
      root_minus_one = refl;
      distance_round = refl;
      three_bins = refl;
      three_lays = refl;
      four_falls_back = refl;
      five_accepted = refl;
      six_refused = refl;
      six_refused_empty = refl;
      six_open = refl;
      skin_two = refl;
      skin_one = refl;
      skin_one_past = refl;
      skin_one_misses = refl;
      now_within = refl;
      skin_none_still = refl;
      skin_none_moved = refl;
      ten_refused = refl;
    }
