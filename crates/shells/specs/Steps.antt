-- What the private functions ask and say of themselves: nobody has to believe it. Definitions only.
use Rattle.std.specs.Prelude.{Err, Ok, Result}
use Rattle.std.specs.Prelude.{ℕ, ◌+◌, ◌-◌, ◌*◌, ◌/◌, ◌≤◌, ◌<◌, ◌≡◌, true, false, cond, List, length, get_or, take, eqb}
use Rattle.lists.specs.Lists.{how_many}
use Rattle.lists.specs.Loops.{map_at}
use Rattle.answer.specs.declared.Refusal.{Refusal}
use Rattle.answer.specs.declared.Refusal.TheVariants.{Range}
use Rattle.answer.specs.Seen.{number_of}
use Rattle.frame.specs.declared.Frame.{Frame}
use Rattle.frame.specs.Build.{ranges_ok}
use Rattle.shells.specs.Shells.{totals_with, is_past}

-- a build's refusal, where the width or the totals are out of range: 5 comes after that
unfoldable pub before_order : Refusal → Refusal
before_order r = cond (eqb (number_of r) 5) Range r

unfoldable pub refusal_of : Result (Unit {0}) Refusal → Refusal
refusal_of (Ok tt) = Range
refusal_of (Err r) = before_order r

-- the frame is in range, the pairs are of its atoms, and there are shells
pub record Countable (f : Frame) (xs : List ℕ) (width shells : ℕ) (pairs : List ℕ) : Type 0 where
  pub ranged : ranges_ok f xs ≡ true
  pub there : (k : ℕ) → k < length pairs / 2 → (get_or pairs (2 * k) 0 < length xs / 3) × (get_or pairs (2 * k + 1) 0 < length xs / 3)
  pub wide : 0 < width
  pub many : 0 < shells

-- the pairs' shells taken off the totals
unfoldable pub totals_without : (ℕ × ℕ → ℕ) → List (ℕ × ℕ) → List ℕ → List ℕ
totals_without shell ps totals = map_at (λ k total. total - how_many (λ p. eqb (shell p) k) ps) totals

-- the first r pairs are added: all, or those before the one whose total is full
pub record AddedSome (shell : ℕ × ℕ → ℕ) (ps : List (ℕ × ℕ)) (before : List ℕ) (r : ℕ) (after : List ℕ) : Type 0 where
  pub most : r ≤ length ps
  pub left : after ≡ totals_with shell (take r ps) before
  pub full : r < length ps → is_past (totals_with shell ps before) ≡ true
  pub fits : length ps ≤ r → is_past (totals_with shell ps before) ≡ false
