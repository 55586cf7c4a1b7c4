-- The count of a table's rows that pass a test, turn by turn. Assumes nothing.
use Prim.Native.Nat.{ℕ, suc, ◌+◌, ◌/◌, ◌≤◌, ◌<◌}
use native.Mathlib.Omega.{arith}
use mathlib.Core.Path.{◌≡◌, sym, ap, ◌∙◌}
use mathlib.Core.Bool.{Bool, true, false, cond}
use mathlib.Core.List.{List}
use lib.ListN.{length, drop}
use lib.Dec.{ltb}
use borrow.Author.Tests.{ltb-true}
use Rattle.lists.specs.Lists.{how_many, rows}
use Rattle.lists.proofs.Cases.{by_test, and_both}
use Rattle.lists.proofs.Walks.{drop_next, many_past}
use Rattle.lists.proofs.Rows.{rows_at, length_rows}
use Rattle.bins.specs.declared.Grid.{Grid}
use Rattle.bins.specs.declared.Cell.{Cell}
use Rattle.bins.specs.Stencil.{touching}
use Rattle.exclusions.specs.Table.{row_at}
use Rattle.candidates.specs.Checks.{there, beside_in}

-- k rows are passed, `count` of them pass the test, and what is left gives the rest
pub record Counting (q : ℕ × ℕ → Bool) (t : List ℕ) (count k : ℕ) : Type 0 where
  pub sum : count + how_many q (drop k (rows t)) ≡ how_many q (rows t)
  pub most : k ≤ length t / 2
  pub few : count ≤ k

pub count_begin : {q : ℕ × ℕ → Bool} {t : List ℕ} → Counting q t 0 0
count_begin = record { sum = omega arith; most = omega arith; few = omega arith }

turn : (q : ℕ × ℕ → Bool) (t : List ℕ) (k : ℕ) → k < length t / 2 → how_many q (drop k (rows t)) ≡ cond (q (row_at t k)) 1 0 + how_many q (drop (k + 1) (rows t))
unfolding how_many
turn q t k h =
    rw (drop_next (0, 0) (rows t) k (omega (arith, length_rows t)), rows_at t k h)
    (by_test (λ b. cond b (suc (how_many q (drop (k + 1) (rows t)))) (how_many q (drop (k + 1) (rows t))) ≡ cond b 1 0 + how_many q (drop (k + 1) (rows t)))
    (q (row_at t k)) (λ e. omega arith) (λ e. omega arith))

module _ {q : ℕ × ℕ → Bool} {t : List ℕ} {count k : ℕ} (u : Counting q t count k) where
  pub count_step : k < length t / 2 → {b : Bool} {r : ℕ} → b ≡ q (row_at t k) → r ≡ cond b 1 0 → r ≤ 1 → Counting q t (count + r) (k + 1)
  count_step h {b} {r} e f l =
      let g : r ≡ cond (q (row_at t k)) 1 0 = f ∙ ap (λ (t : Bool). cond t 1 0) e in
      record { sum = omega (arith, u.sum, turn q t k h, g); most = omega arith; few = omega (arith, u.few) }

  pub count_end : length t / 2 ≤ k → count ≡ how_many q (rows t)
  count_end h = omega (arith, u.sum, many_past (0, 0) (rows t) k q (omega (arith, length_rows t)))

-- ---- a row's test, for the code
module _ (n low high : ℕ) {x : Bool} (is : x ≡ there n (low, high)) where
  pub both_there : x ≡ true → (low < n) × (high < n)
  both_there h = let r = and_both (ltb low n) (ltb high n) (sym is ∙ h) in (ltb-true low n r.0, ltb-true high n r.1)

  module _ (g : Grid) (cell_of : ℕ → Cell) where
    pub beside_not : x ≡ false → false ≡ beside_in g n cell_of (low, high)
    beside_not h = rw (← is, h)

    pub beside_is : x ≡ true → {y : Bool} → y ≡ touching g (cell_of low) (cell_of high) → y ≡ beside_in g n cell_of (low, high)
    beside_is h e = rw (← is, h) e
