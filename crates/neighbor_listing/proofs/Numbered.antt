-- The atoms' numbers in a room of the most atoms that there can be: one bin that has them all. Assumes nothing.
use Prim.Native.Nat.{ℕ, suc, ◌+◌, ◌<◌, ◌≤◌}
use mathlib.Core.Path.{◌≡◌, refl, sym, ap, ◌∙◌}
use mathlib.Core.List.{List, [], ◌∷◌, ◌++◌}
use native.Mathlib.Omega.{arith}
use native.Mathlib.Numerals.{add-one}
use lib.ListN.{length, set, take, drop, length-set, length-append}
use lib.Seq.{take_at}
use Rattle.lists.specs.Lists.{numbers, up_to}
use Rattle.lists.specs.Loops.{map_from, part_at}
use Rattle.lists.proofs.Loops.{part_none, part_turn, part_done, room_front}
use Rattle.lists.proofs.Exactness.{numbers_at, length_up_to}
use Rattle.bins.specs.Listing.{Below}

numbered : (n : ℕ) (l : List ℕ) → map_from (λ k _. k) n l ≡ numbers n (length l)
unfolding map_from numbers
numbered n [] = refl
numbered n (a ∷ l) = rw (add-one n) (ap (λ (t : List ℕ). n ∷ t) (numbered (suc n) l))

-- so far the first k
pub record Numbering (start now : List ℕ) (k : ℕ) : Type 0 where
  pub within : k ≤ length start
  pub same : length now ≡ length start
  pub are : now ≡ part_at (λ i _. i) k start

pub numbering_begin : (start : List ℕ) → Numbering start start 0
numbering_begin start = record { within = omega arith; same = refl; are = part_none (λ i _. i) 0 start }

module _ (start now : List ℕ) (k : ℕ) (u : Numbering start now k) where
  pub numbering_turn : k < length now → Numbering start (set now k k) (k + 1)
  numbering_turn l = record { within = omega (arith, u.same); same = length-set now k k ∙ u.same; are = part_turn (λ i _. i) 0 k start (omega (arith, u.same)) u.are refl }

  pub numbering_end : length now ≤ k → now ≡ up_to (length start)
  numbering_end l = part_done (λ i _. i) 0 k start (omega (arith, u.same, u.within)) u.are ∙ numbered 0 start

-- the first n of the room, numbered
module _ (room : List ℕ) (n : ℕ) (big : length room ≡ 16384) (few : n ≤ 16384) where
  module _ {done : List ℕ} (are : done ≡ up_to (length (take n room))) where
    done_is : done ≡ up_to n
    done_is = are ∙ ap up_to (room_front room n big few)

    done_long : length done ≡ n
    done_long = ap length done_is ∙ length_up_to n

    pub part_is : take n (done ++ drop n room) ≡ up_to n
    part_is = take_at done (drop n room) n done_long ∙ done_is

    pub part_within : n ≤ length (done ++ drop n room)
    part_within = omega (arith, done_long, length-append done (drop n room))

    pub part_long : n ≡ length (take n (done ++ drop n room))
    part_long = sym (ap length part_is ∙ length_up_to n)

    pub part_below : Below n (take n (done ++ drop n room))
    part_below = rw part_is (λ k l. let m : k < n = omega (arith, length_up_to n) in omega (arith, numbers_at 0 n k m))
