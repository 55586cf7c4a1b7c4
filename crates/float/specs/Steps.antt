-- What the private functions say of themselves: the root's table and its digits, and two small shapes. No public contract cites this file, so nobody has to believe it.
use Rattle.std.specs.Prelude.{◌≡◌, ℕ, ◌+◌, ◌-◌, ◌*◌, ◌/◌, ◌^◌, ◌<◌, ◌≤◌, false, cond, List, pos, negsuc, from_bits, slice_index, Float}
use Rattle.std.specs.Float.{fin, binary64}
use Rattle.std.specs.Float.Ieee.{neg, add, lt, eq}
use Rattle.float.specs.Def.{whole_root, root_scaled, root_of}

-- The whole root of n is r or one of the next k - 1 numbers; with k = 1 it is r.
pub record Within (n r k : ℕ) : Type 0 where
  pub low : r * r ≤ n
  pub high : n < (r + k) * (r + k)

-- The rule of the table of starting roots: for m from 256 to 1,023 the entry e at m - 256 has e ^ 2 ≤ 65,536 m < (e + 1) ^ 2.
pub record Ruled (es : List ℕ) : Type 0 where
  pub at : (m : ℕ) → 256 ≤ m → m < 1024 → Within (65536 * m) (slice_index es (m - 256)) 1

-- The digits found of the whole root of v * 2 ^ 54, down to the place p: they are `root`, s is twice as much, and y is what is left, in units of p. The next
-- digit has half the place.
pub record Digits (v s y p : ℕ) : Type 0 where
  pub root : ℕ
  pub twice : s ≡ 2 * root
  pub sum : p * y + root * root ≡ v * 2 ^ 54
  pub left : y < s + p
  pub short : v < 2 ^ 54

-- n is v * 4 ^ (h + 36), with 53 or 54 digits in v
pub record Evened (n v h : ℕ) : Type 0 where
  pub low : 2 ^ 52 ≤ v
  pub high : v < 2 ^ 54
  pub few : h ≤ 1049
  pub whole : v * 4 ^ (h + 36) ≡ n

-- the root of x is that of v * 4 ^ (h + 36) / 4 ^ 600
pub record EvenOf (x : Float) (v h : ℕ) : Type 0 where
  pub low : 2 ^ 52 ≤ v
  pub high : v < 2 ^ 54
  pub few : h ≤ 1049
  pub same : root_scaled (v * 4 ^ (h + 36)) ≡ root_of x

-- r is 0, or the whole number nearest to the root of v * 2 ^ 52: half of the whole root of v * 2 ^ 54, rounded up.
pub record Confirmed (v r : ℕ) : Type 0 where
  pub nearest : 0 < r → (whole_root 54 (v * 2 ^ 54) + 1) / 2 ≡ r

-- b is 0, or the bits of the root y
pub record RootBits (y : Float) (b : ℕ) : Type 0 where
  pub few : b ≤ 2047 * 2 ^ 52
  pub right : 0 < b → from_bits binary64 b ≡ y

-- r with x's sign, for an r that is not negative, and x itself where x is a zero
unfoldable pub sign_of : Float → Float → Float
sign_of x r = cond (eq x (fin false 0 (pos 0))) x (cond (lt x (fin false 0 (pos 0))) (neg r) r)

-- t, and t + 1 where d is a half or more
unfoldable pub half_up : Float → Float → Float
half_up t d = cond (lt d (fin false 1 (negsuc 0))) t (add binary64 t (fin false 1 (pos 0)))
