-- In a frame whose numbers are in range, the distance of two of its atoms is answered. Assumes nothing.
use Rattle.std.specs.Prelude.{Err, Ok, Result}
use Prim.Native.Nat.{ℕ, ◌+◌, ◌*◌, ◌/◌, ◌<◌}
use mathlib.Core.Path.{◌≡◌, ap, ◌∙◌}
use mathlib.Core.Bool.{true}
use mathlib.Core.List.{List}
use native.Mathlib.Nat.{zero-add}
use lib.ListN.{length, get_or}
use Rattle.answer.specs.declared.Refusal.{Refusal}
use Rattle.answer.specs.Seen.{answered}
use Rattle.lists.specs.Lists.{up_to, every, rows}
use Rattle.lists.proofs.Cases.{and_both, impossible}
use Rattle.lists.proofs.Exactness.{numbers_at, length_up_to}
use Rattle.lists.proofs.Walks.{every_at}
use Rattle.lists.proofs.Rows.{rows_at}
use Rattle.frame.specs.declared.Frame.{Frame}
use Rattle.frame.specs.Distance.{spot_of, squared_of, squared_seen, frame_ok, spot_ok, SquaredSays}
use Rattle.frame.specs.Build.{ranges_ok}
use Rattle.shells.specs.Shells.{shell_of, shell_at}

module _ (f : Frame) (xs : List ℕ) (h : ranges_ok f xs ≡ true) where
  both : (frame_ok f ≡ true) × (every (λ k. spot_ok f (spot_of xs k)) (up_to (length xs / 3)) ≡ true)
  unfolding ranges_ok
  both = and_both (frame_ok f) (every (λ k. spot_ok f (spot_of xs k)) (up_to (length xs / 3))) h

  at : (i : ℕ) → i < length xs / 3 → spot_ok f (spot_of xs i) ≡ true
  at i l =
      let n : get_or (up_to (length xs / 3)) i 0 ≡ i = numbers_at 0 (length xs / 3) i l ∙ zero-add i in
      rw n at (every_at 0 (λ k. spot_ok f (spot_of xs k)) (up_to (length xs / 3)) both.1 i (rw (length_up_to (length xs / 3)) l))

  module _ (i j : ℕ) (li : i < length xs / 3) (lj : j < length xs / 3) where
    seen : squared_seen f (spot_of xs i) (spot_of xs j) ≡ answered (squared_of f (spot_of xs i) (spot_of xs j))
    unfolding squared_seen
    seen = rw (both.0, at i li, at j lj)

    module _ {d : Result ℕ Refusal} (says : SquaredSays f (spot_of xs i) (spot_of xs j) d) where
      pub never_refused : {A : Type 0} {r : Refusal} → d ≡ Err r → A
      never_refused e = let s = says ∙ seen in impossible (cc)

      pub squared_is : {n : ℕ} → d ≡ Ok n → n ≡ squared_of f (spot_of xs i) (spot_of xs j)
      squared_is e = let s = says ∙ seen in cc

-- the shell of the pair in row k
pub shell_row : (f : Frame) (xs : List ℕ) (width shells : ℕ) (pairs : List ℕ) (k : ℕ) → k < length pairs / 2 → {s d : ℕ}
    → s ≡ shell_of width shells d → d ≡ squared_of f (spot_of xs (get_or pairs (2 * k) 0)) (spot_of xs (get_or pairs (2 * k + 1) 0))
    → s ≡ shell_at f xs width shells (get_or (rows pairs) k (0, 0))
unfolding shell_at
shell_row f xs width shells pairs k h e q = rw (rows_at pairs k h) (e ∙ ap (shell_of width shells) q)
