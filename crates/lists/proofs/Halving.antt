-- A search by halving: one turn of it, and what it finds where the test holds up to some place and not from there on. Assumes nothing.
use mathlib.Core.Path.{◌≡◌, refl, sym, ap, ◌∙◌}
use mathlib.Core.Bool.{Bool, true, false, false≢true}
use mathlib.Core.Logic.{⊎_elim}
use Prim.Native.Nat.{ℕ, zero, suc, ◌+◌, ◌-◌, ◌≤◌, ◌<◌}
use native.Mathlib.Omega.{arith}
use native.Mathlib.Nat.{eq-or-lt_of_le}
use borrow.Author.Tests.{lt-ltb, le-ltb}
use Rattle.lists.specs.Loops.{middle, halved}
use Rattle.lists.proofs.Cases.{below_or, true_or_false}

module _ (q : ℕ → Bool) where
  pub halved_stop : (f from to : ℕ) → to ≤ from → halved q f from to ≡ from
  unfolding halved
  halved_stop zero from to h = refl
  halved_stop (suc f) from to h = rw (le-ltb from to h)

  module _ (f from to : ℕ) (h : from < to) where
    pub halved_up : q (middle from to) ≡ true → halved q (suc f) from to ≡ halved q f (middle from to + 1) to
    unfolding halved
    halved_up e = rw (lt-ltb from to h, e)

    pub halved_down : q (middle from to) ≡ false → halved q (suc f) from to ≡ halved q f from (middle from to)
    unfolding halved
    halved_down e = rw (lt-ltb from to h, e)

  -- more turns than are needed change nothing
  pub halved_enough : (f k from to : ℕ) → to - from ≤ f → to - from ≤ k → halved q f from to ≡ halved q k from to
  unfolding halved
  halved_enough zero k from to a b = sym (halved_stop k from to (omega arith))
  halved_enough (suc f) zero from to a b = halved_stop (suc f) from to (omega arith)
  halved_enough (suc f) (suc k) from to a b =
      ⊎_elim
      (λ (h : from < to).
      ⊎_elim
      (λ e. halved_up f from to h e ∙ halved_enough f k (middle from to + 1) to (omega arith) (omega arith) ∙ sym (halved_up k from to h e))
      (λ e. halved_down f from to h e ∙ halved_enough f k from (middle from to) (omega arith) (omega arith) ∙ sym (halved_down k from to h e))
      (true_or_false (q (middle from to))))
      (λ h. halved_stop (suc f) from to h ∙ sym (halved_stop (suc k) from to h)) (below_or from to)

  -- one turn of the loop: what is left to search gives the same
  module _ (from to : ℕ) (h : from < to) where
    pub turn_up : q (middle from to) ≡ true → halved q (to - (middle from to + 1)) (middle from to + 1) to ≡ halved q (to - from) from to
    turn_up e =
        halved_enough (to - (middle from to + 1)) (to - from) (middle from to + 1) to (omega arith) (omega arith)
        ∙ sym (halved_up (to - from) from to h e)
        ∙ halved_enough (suc (to - from)) (to - from) from to (omega arith) (omega arith)

    pub turn_down : q (middle from to) ≡ false → halved q (middle from to - from) from (middle from to) ≡ halved q (to - from) from to
    turn_down e =
        halved_enough (middle from to - from) (to - from) from (middle from to) (omega arith) (omega arith)
        ∙ sym (halved_down (to - from) from to h e)
        ∙ halved_enough (suc (to - from)) (to - from) from to (omega arith) (omega arith)

-- the test holds below r, and from there up to n it does not
pub record Split (q : ℕ → Bool) (n r : ℕ) : Type 0 where
  pub most : r ≤ n
  pub before : (k : ℕ) → k < r → q k ≡ true
  pub after : (k : ℕ) → r ≤ k → k < n → q k ≡ false

-- where the test holds at k it holds at each earlier place
abbrev pub Falling : (ℕ → Bool) → ℕ → Type 0
Falling q n = (j k : ℕ) → j < k → k < n → q k ≡ true → q j ≡ true

module _ (q : ℕ → Bool) (n : ℕ) (falls : Falling q n) where
  later : (j k : ℕ) → j ≤ k → k < n → q j ≡ false → q k ≡ false
  later j k h l e =
      ⊎_elim (λ (t : q k ≡ true). absurd (false≢true (sym e ∙ holds t))) (λ (t : q k ≡ false). t) (true_or_false (q k))
    where
      holds : q k ≡ true → q j ≡ true
      holds t = ⊎_elim (λ (s : j ≡ k). ap q s ∙ t) (λ (s : j < k). falls j k s l t) (eq-or-lt_of_le h)

  below_middle : (from to k : ℕ) → from < to → to ≤ n → k < middle from to + 1 → q (middle from to) ≡ true → q k ≡ true
  below_middle from to k s b h t =
      ⊎_elim (λ (r : k < middle from to). falls k (middle from to) r (omega arith) t) (λ (r : middle from to ≤ k). let e : k ≡ middle from to = omega arith in ap q e ∙ t)
      (below_or k (middle from to))

  search : (f from to : ℕ) → to - from ≤ f → from ≤ to → to ≤ n → ((k : ℕ) → k < from → q k ≡ true) → ((k : ℕ) → to ≤ k → k < n → q k ≡ false) → Split q n (halved q f from to)
  unfolding halved
  search zero from to e a b low high = record { most = omega arith; before = low; after = λ k h l. high k (omega arith) l }
  search (suc f) from to e a b low high =
      ⊎_elim
      (λ (s : from < to).
      ⊎_elim
      (λ (t : q (middle from to) ≡ true).
      rw (halved_up q f from to s t) (search f (middle from to + 1) to (omega arith) (omega arith) b (λ k h. below_middle from to k s b h t) high))
      (λ (t : q (middle from to) ≡ false).
      rw (halved_down q f from to s t) (search f from (middle from to) (omega arith) (omega arith) (omega arith) low (λ k h l. later (middle from to) k h l t)))
      (true_or_false (q (middle from to))))
      (λ (s : to ≤ from). rw (halved_stop q (suc f) from to s) (record { most = omega arith; before = low; after = λ k h l. high k (omega arith) l }))
      (below_or from to)

  -- what the search finds
  pub halved_splits : Split q n (halved q n 0 n)
  halved_splits = search n 0 n (omega arith) (omega arith) (omega arith) (λ k h. absurd (omega arith)) (λ k h l. absurd (omega arith))
