-- What the tests of `within_skin` show, and its answer by its cases. Assumes nothing.
use Rattle.std.specs.Prelude.{Err, Ok, Result}
use Prim.Native.Nat.{ℕ, ◌+◌, ◌*◌, ◌/◌, ◌%◌, ◌≤◌, ◌<◌}
use native.Mathlib.Omega.{arith}
use native.Mathlib.Nat.{zero-add}
use mathlib.Core.Path.{◌≡◌, sym, ap, ◌∙◌}
use mathlib.Core.Bool.{Bool, true, false, not, ◌&&◌, ◌||◌}
use mathlib.Core.List.{List}
use mathlib.Core.Logic.{⊎_elim}
use lib.ListN.{length}
use lib.Dec.{eqb}
use borrow.Author.Tests.{lt-ltb, le-ltb, leb-true, le-leb, lt-leb, eqb-true, not-false}
use Rattle.answer.specs.declared.Refusal.{Refusal}
use Rattle.answer.specs.Seen.{answered, refused, refused_by, seen}
use Rattle.lists.specs.Lists.{up_to, every}
use Rattle.lists.proofs.Cases.{and_both, both_and, or_neither, true_or_false}
use Rattle.lists.proofs.Exactness.{numbers_at, length_up_to}
use Rattle.lists.proofs.Walks.{every_at}
use Rattle.frame.specs.declared.Frame.{Frame}
use Rattle.frame.specs.declared.Spot.{Spot}
use Rattle.frame.specs.Distance.{spot_of, square_of, squared_of, frame_ok, spot_ok, squared_seen}
use Rattle.frame.specs.Build.{ranges_ok}
use Rattle.frame.proofs.Ranges.{ranges_framed}
use Rattle.skin.specs.Skin.{widened, moved_little, all_moved_little, counts_differ, skin_seen}

-- ---- one atom
module _ (f : Frame) (skin : ℕ) (a b : Spot) where
  pub little_fails : skin * skin / 4 < squared_of f a b → moved_little f skin a b ≡ false
  unfolding moved_little
  little_fails h = lt-leb (4 * squared_of f a b) (square_of skin) (omega arith)

  pub little_passes : squared_of f a b ≤ skin * skin / 4 → moved_little f skin a b ≡ true
  unfolding moved_little
  little_passes h = le-leb (4 * squared_of f a b) (square_of skin) (omega arith)

  pub little_within : moved_little f skin a b ≡ true → 4 * squared_of f a b ≤ square_of skin
  unfolding moved_little
  little_within h = leb-true (4 * squared_of f a b) (square_of skin) h

-- ---- an atom of a frame in range
module _ (f : Frame) (xs : List ℕ) (h : ranges_ok f xs ≡ true) where
  both_ranges : (frame_ok f ≡ true) × (every (λ k. spot_ok f (spot_of xs k)) (up_to (length xs / 3)) ≡ true)
  unfolding ranges_ok
  both_ranges = and_both (frame_ok f) (every (λ k. spot_ok f (spot_of xs k)) (up_to (length xs / 3))) h

  pub ranged_frame : frame_ok f ≡ true
  ranged_frame = both_ranges.0

  pub ranged_spot : (i : ℕ) → i < length xs / 3 → spot_ok f (spot_of xs i) ≡ true
  ranged_spot i l =
      rw (numbers_at 0 (length xs / 3) i l, zero-add i) at (every_at 0 (λ k. spot_ok f (spot_of xs k)) (up_to (length xs / 3)) both_ranges.1 i (rw length_up_to l))

pub all_three : (r s t : Bool) → r ≡ true → s ≡ true → t ≡ true → r && s && t ≡ true
all_three r s t e g h = both_and (r && s) t (both_and r s e g) h

-- ---- the answer of `squared_distance` where nothing is out of range
module _ (f : Frame) (a b : Spot) (h : frame_ok f && spot_ok f a && spot_ok f b ≡ true) where
  pub seen_squared : squared_seen f a b ≡ answered (squared_of f a b)
  unfolding squared_seen
  seen_squared = rw h

  pub squared_value : (r : Result ℕ Refusal) (n : ℕ) → seen r ≡ squared_seen f a b → r ≡ Ok n → n ≡ squared_of f a b
  squared_value r n q e = let s : answered n ≡ answered (squared_of f a b) = ap seen (sym e) ∙ q ∙ seen_squared in cc

  pub squared_not_refused : (r : Result ℕ Refusal) (y : Refusal) (n : ℕ) → seen r ≡ squared_seen f a b → r ≡ Err y → n ≡ squared_of f a b
  squared_not_refused r y n q e = let s : refused_by y ≡ answered (squared_of f a b) = ap seen (sym e) ∙ q ∙ seen_squared in cc

-- a radius past that of any frame
too_wide : (f : Frame) (xs : List ℕ) → 1048576 < f.radius → ranges_ok f xs ≡ false
too_wide f xs l =
    ⊎_elim (λ (t : ranges_ok f xs ≡ true). absurd (omega (arith, l, (ranges_framed f xs t).sized.radius))) (λ (n : ranges_ok f xs ≡ false). n)
    (true_or_false (ranges_ok f xs))

-- ---- the answer by its cases
module _ (old new : ℕ) (h : counts_differ old new ≡ false) where
  pub counts_same : old / 3 ≡ new / 3
  unfolding counts_differ
  counts_same =
      eqb-true (old / 3) (new / 3)
      (not-false _ (or_neither (not (eqb (old % 3) 0) || not (eqb (new % 3) 0)) (not (eqb (old / 3) (new / 3))) h).1)

module _ (f : Frame) (skin : ℕ) (old new : List ℕ) where
  pub skin_lengths : counts_differ (length old) (length new) ≡ true → refused 1 0 ≡ skin_seen f skin old new
  unfolding skin_seen
  skin_lengths h = rw h

  module _ (h : counts_differ (length old) (length new) ≡ false) where
    pub skin_many : 16384 < length old / 3 → refused 2 (length old / 3) ≡ skin_seen f skin old new
    unfolding skin_seen
    skin_many k = rw (h, lt-ltb 16384 (length old / 3) k)

    module _ (k : length old / 3 ≤ 16384) where
      pub skin_old : ranges_ok (widened f skin) old ≡ false → refused 3 0 ≡ skin_seen f skin old new
      unfolding skin_seen
      skin_old l = rw (h, le-ltb 16384 (length old / 3) k, l)

      pub skin_wide : 1048576 < f.radius + skin → refused 3 0 ≡ skin_seen f skin old new
      skin_wide l = skin_old (too_wide (widened f skin) old l)

      module _ (l : ranges_ok (widened f skin) old ≡ true) where
        pub skin_new : ranges_ok (widened f skin) new ≡ false → refused 3 0 ≡ skin_seen f skin old new
        unfolding skin_seen
        skin_new m = rw (h, le-ltb 16384 (length old / 3) k, l, m)

        pub skin_fine : ranges_ok (widened f skin) new ≡ true → {r : Bool} → r ≡ every (λ k. moved_little (widened f skin) skin (spot_of old k) (spot_of new k)) (up_to (length old / 3)) → answered r ≡ skin_seen f skin old new
        unfolding skin_seen all_moved_little moved_little squared_of
        skin_fine m e = rw (h, le-ltb 16384 (length old / 3) k, l, m, e)
