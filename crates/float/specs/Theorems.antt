-- The theorems about the helpers, as one statement (proofs/Theorems.antt has its value), and what it is to be nearest to a square root, without real numbers.
use Rattle.std.specs.Prelude.{◌≡◌, ℕ, ◌+◌, ◌*◌, ◌/◌, ◌<◌, ◌≤◌, Bool, true, false, cond, T, ℤ, pos, negsuc, Float}
use Rattle.std.specs.Float.{fin, binary64}
use Rattle.std.specs.Float.Ieee.{fits, lt, le, up, down}
use Rattle.std.specs.Float.Ieee.Exact.{HasValue}
use Rattle.std.specs.Float.Ieee.Positive.{num, den, positive}
use Rattle.float.specs.Def.{trunc_of, floor_of, round_of, root_of, rem_euclid_of, ceil_div}

-- y and r are num y / den y and num r / den r, and so their sum is sum_num y r / sum_den y r
abbrev pub sum_num : Float → Float → ℕ
sum_num y r = num y * den r + num r * den y

abbrev pub sum_den : Float → Float → ℕ
sum_den y r = den y * den r

-- (y + r) ^ 2 ≤ 4 * x: the middle of y and r is at most the root of x. And 4 * x < (y + r) ^ 2: it is above the root of x.
abbrev pub MiddleAtMost : Float → Float → Float → Type 0
MiddleAtMost x y r = sum_num y r * sum_num y r * den x ≤ 4 * num x * (sum_den y r * sum_den y r)

abbrev pub MiddleAbove : Float → Float → Float → Type 0
MiddleAbove x y r = 4 * num x * (sum_den y r * sum_den y r) < sum_num y r * sum_num y r * den x

-- r is a number above zero, and of the values y above zero of the format, none is nearer to the root of x than r is. A y below r is no nearer, since the root is at or above the
-- middle of the two, and a y above r is farther, since the root is below the middle. (0 and the values below it are farther than the least value above zero.)
pub record NearestRoot (x r : Float) : Type 0 where
  pub number : T (positive r)
  pub holds : T (fits binary64 r)
  pub below : (y : Float) → T (positive y) → T (fits binary64 y) → T (lt y r) → MiddleAtMost x y r
  pub above : (y : Float) → T (positive y) → T (fits binary64 y) → T (lt r y) → MiddleAbove x y r

-- from 0 to 1, 1 included
abbrev pub InUnit : Float → Type 0
InUnit r = T (le (fin false 0 (pos 0)) r) × T (le r (fin false 1 (pos 0)))

-- `T (fits binary64 x)` says that x is a value of the format, and `HasValue x s a c` that x is finite, has the sign s, and is a / c in size.
pub record Theorems : Type 0 where
  -- 01, "Cell rules": the root is rounded to nearest. It is the nearest value, and the only one.
  pub root_nearest : (x : Float) → T (positive x) → T (fits binary64 x) → NearestRoot x (root_of x)
  pub root_only : (x r s : Float) → NearestRoot x r → NearestRoot x s → r ≡ s
  -- the whole numbers of the definitions are values of the format: nothing is rounded away
  pub trunc_exact : (s : Bool) (m : ℕ) (e : ℤ) → T (fits binary64 (fin s m e)) → HasValue (trunc_of (fin s m e)) s (m * up e / down e) 1
  pub floor_exact : (s : Bool) (m : ℕ) (e : ℤ) → T (fits binary64 (fin s m e)) → HasValue (floor_of (fin s m e)) s (cond s (ceil_div (m * up e) (down e)) (m * up e / down e)) 1
  pub round_exact : (s : Bool) (m : ℕ) (e : ℤ) → T (fits binary64 (fin s m e)) → HasValue (round_of (fin s m e)) s ((2 * (m * up e) + down e) / (2 * down e)) 1
  -- 01, "Easy ways to be wrong": a fold by 1 can be 1
  pub fold_in_unit : (s : Bool) (m : ℕ) (e : ℤ) → T (fits binary64 (fin s m e)) → InUnit (rem_euclid_of (fin s m e) (fin false 1 (pos 0)))
  pub fold_to_one : rem_euclid_of (fin true 1 (negsuc 1073)) (fin false 1 (pos 0)) ≡ fin false 1 (pos 0)
