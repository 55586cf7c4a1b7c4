-- The cases that 01 marks P under "Both sides of each edge", as one statement. A float is named by its sign, significand and exponent: `fin s m e` is m * 2 ^ e.
use Rattle.std.specs.Prelude.{◌≡◌, true, false, pos, negsuc, ℕ, ◌+◌, ◌*◌, List, [], ◌∷◌, replicate}
use Rattle.std.specs.Float.{nan, fin}
use Rattle.float.specs.Arith.{bits}
use Rattle.float.specs.Def.{round_of, root_of}
use Rattle.answer.specs.Seen.{answered, refused}
use Rattle.frame.specs.declared.Side.{Side}
use Rattle.frame.specs.declared.Frame.{Frame}
use Rattle.frame.specs.Distance.{along, spot_of, squared_of}
use Rattle.frame.specs.Laying.{grid_of}
use Rattle.frame.specs.Build.{Given, build_of}
use Rattle.skin.specs.Skin.{skin_seen}

-- a periodic axis of edge 10 and an open one, and a frame of three of them
abbrev pub ten : Side
ten = record { edge = 10; round = true }

abbrev pub open_ten : Side
open_ten = record { edge = 10; round = false }

abbrev pub tens : ℕ → Frame
tens radius = record { x = ten; y = ten; z = ten; radius = radius }

-- the same with open axes
abbrev pub open_tens : ℕ → Frame
open_tens radius = record { x = open_ten; y = open_ten; z = open_ten; radius = radius }

-- a build with room for two pairs and for the starts of 27 cells
abbrev pub build_at : Frame → List ℕ → Given
build_at f coordinates =
    record { frame = f; coordinates = coordinates; exclusions = []; pairs = replicate 4 7; starts = replicate 28 7; items = replicate 2 7 }

-- of two atoms, one at the corner and one at x on the first axis
abbrev pub pair_at : ℕ → ℕ → Given
pair_at radius x = build_at (tens radius) (0 ∷ 0 ∷ 0 ∷ x ∷ 0 ∷ 0 ∷ [])

abbrev pub pair_open : ℕ → ℕ → Given
pair_open radius x = build_at (open_tens radius) (0 ∷ 0 ∷ 0 ∷ x ∷ 0 ∷ 0 ∷ [])

-- and of none
abbrev pub empty_at : ℕ → Given
empty_at radius = build_at (tens radius) []

-- two atoms, and where they are after a move of 1 each
abbrev pub apart_five : List ℕ
apart_five = 0 ∷ 0 ∷ 0 ∷ 5 ∷ 0 ∷ 0 ∷ []

abbrev pub apart_three : List ℕ
apart_three = 1 ∷ 0 ∷ 0 ∷ 4 ∷ 0 ∷ 0 ∷ []

pub record Marked : Type 0 where
  -- `round` 0.5 → 1; -0.5 → -1; 2.5 → 3; 0.49999999999999994 → 0
  pub round_half : round_of (fin false 1 (negsuc 0)) ≡ fin false 1 (pos 0)
  pub round_minus_half : round_of (fin true 1 (negsuc 0)) ≡ fin true 1 (pos 0)
  pub round_two_and_half : round_of (fin false 5 (negsuc 0)) ≡ fin false 3 (pos 0)
  pub round_below_half : round_of (bits 0x3fdf_ffff_ffff_ffff) ≡ fin false 0 (pos 0)
  -- root 4 → 2; -0 → -0; 2^-1074 → 2^-537; -1 → not a number
  pub root_four : root_of (fin false 1 (pos 2)) ≡ fin false 1 (pos 1)
  pub root_minus_zero : root_of (fin true 0 (pos 0)) ≡ fin true 0 (pos 0)
  pub root_least : root_of (fin false 1 (negsuc 1073)) ≡ fin false 1 (negsuc 536)
  pub root_minus_one : root_of (fin true 1 (pos 0)) ≡ nan
  -- whole frame, periodic edge 10: distance 0 to 9 is 1; radius 3 gives 3 bins, radius 4 falls back
  pub distance_round : along ten 0 9 ≡ 1
  pub three_bins : (grid_of (tens 3)).x.size ≡ 3
  pub three_lays : (build_of (pair_at 3 9)).answer ≡ answered (record { pairs = 1; checks = 1; fallback = false })
  pub four_falls_back : (build_of (pair_at 4 9)).answer ≡ answered (record { pairs = 1; checks = 1; fallback = true })
  -- 02, No. 3: radius 5, whose double is the edge, is accepted; radius 6 is refused 3, and so with no atoms; on open axes it falls back
  pub five_accepted : (build_of (pair_at 5 5)).answer ≡ answered (record { pairs = 1; checks = 1; fallback = true })
  pub six_refused : (build_of (pair_at 6 9)).answer ≡ refused 3 0
  pub six_refused_empty : (build_of (empty_at 6)).answer ≡ refused 3 0
  pub six_open : (build_of (pair_open 6 9)).answer ≡ answered (record { pairs = 0; checks = 1; fallback = true })
  -- 02, No. 14: atoms 5 apart move 1 each and are 3 apart, within the cutoff 3. Skin 2 says yes, and the list at 5 (above) has the pair. Skin 1 says no:
  -- four times the squared displacement is past the squared skin by 3, the least that there is, and the list at 4 misses the pair. Skin 0 bears no move.
  pub skin_two : skin_seen (tens 3) 2 apart_five apart_three ≡ answered true
  pub skin_one : skin_seen (tens 3) 1 apart_five apart_three ≡ answered false
  pub skin_one_past : 4 * squared_of (tens 3) (spot_of apart_five 1) (spot_of apart_three 1) ≡ 1 * 1 + 3
  pub skin_one_misses : (build_of (pair_at 4 5)).answer ≡ answered (record { pairs = 0; checks = 1; fallback = true })
  pub now_within : (build_of (build_at (tens 3) apart_three)).answer ≡ answered (record { pairs = 1; checks = 1; fallback = false })
  pub skin_none_still : skin_seen (tens 3) 0 apart_three apart_three ≡ answered true
  pub skin_none_moved : skin_seen (tens 3) 0 apart_five apart_three ≡ answered false
  -- coordinate 9 of edge 10 accepted (above), 10 refused 3
  pub ten_refused : (build_of (pair_at 3 10)).answer ≡ refused 3 0
