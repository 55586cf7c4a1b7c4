-- What a run over the traversal, or over all pairs, finds and checks, over any scene: the words of demand 3. Assumes nothing.
use mathlib.Core.Path.{◌≡◌, sym, ap, ◌∙◌}
use mathlib.Core.Bool.{Bool, true, not, ◌&&◌}
use mathlib.Core.List.{List}
use Prim.Native.Nat.{ℕ, ◌≤◌}
use native.Mathlib.Nat.{mul-le-mul}
use native.Mathlib.Omega.{arith}
use lib.ListN.{length}
use borrow.Author.Tests.{not-true}
use Rattle.lists.specs.Exact.{Exactly}
use Rattle.lists.specs.Lists.{how_many, all_pairs, Two}
use Rattle.lists.proofs.Exactness.{exactly_keep, exactly_as, all_exactly, keep_keep, many_keep, length_all}
use Rattle.bins.specs.declared.Grid.{Grid}
use Rattle.bins.specs.declared.Cell.{Cell}
use Rattle.bins.specs.Stencil.{GoodGrid, touching}
use Rattle.bins.specs.Traversal.{bin, pairs_of, Near, Placed}
use Rattle.bins.specs.Listing.{Scene, free, close, checked_of, found_of, Chosen, Ready}
use Rattle.bins.proofs.TraversalLaws.{pairs_exactly, pairs_few, checks_free}

-- two tests on a list that holds exactly what has P
found_exactly : (e : Scene) {P : ℕ × ℕ → Type 0} (l : List (ℕ × ℕ)) → Exactly P l → Exactly (λ p. P p × Chosen e p) (found_of e l)
found_exactly e l h =
    exactly_as (found_of e l) (exactly_keep (close e) (checked_of e l) (exactly_keep (free e) l h)) (λ p u. (u.0.0, (not-true _ u.0.1, u.1)))
    (λ p u. ((u.0, ap not u.1.0), u.1.1))

-- ---- where no grid is laid
module _ (e : Scene) (n : ℕ) where
  pub plain_found : Exactly (λ p. Two n p × Chosen e p) (found_of e (all_pairs n))
  plain_found = found_exactly e (all_pairs n) (all_exactly n)

  pub plain_checks : length (checked_of e (all_pairs n)) ≡ how_many (free e) (all_pairs n)
  plain_checks = sym (many_keep (free e) (all_pairs n))

  pub plain_ready : n ≤ 16384 → Ready (record { count = 0; checks = 0 }) (length (all_pairs n))
  plain_ready h = record { count = omega arith; checks = omega (arith, length_all n, mul-le-mul {n₁ = n} {m₁ = n} {n₂ = 16384} {m₂ = 16384} h h) }

-- ---- over a grid
module _ (e : Scene) (g : Grid) (good : GoodGrid g) (n : ℕ) (cell_of : ℕ → Cell) (placed : Placed g n cell_of) where
  -- the two cells touch
  abbrev pub beside : ℕ × ℕ → Bool
  beside p = touching g (cell_of p.0) (cell_of p.1)

  pub binned_found : Exactly (λ p. Near g n cell_of p × Chosen e p) (found_of e (pairs_of g (bin n cell_of)))
  binned_found = found_exactly e (pairs_of g (bin n cell_of)) (pairs_exactly g good n cell_of placed)

  -- the checks: how many of all pairs touch and are not excluded
  pub binned_checks : length (checked_of e (pairs_of g (bin n cell_of))) ≡ how_many (λ p. beside p && free e p) (all_pairs n)
  binned_checks =
      checks_free g good n cell_of placed (free e) ∙ ap length (keep_keep beside (free e) (all_pairs n)) ∙ sym (many_keep (λ p. beside p && free e p) (all_pairs n))

  pub binned_ready : n ≤ 16384 → Ready (record { count = 0; checks = 0 }) (length (pairs_of g (bin n cell_of)))
  binned_ready h = record { count = omega arith; checks = omega (arith, pairs_few g good n cell_of placed, mul-le-mul {n₁ = n} {m₁ = n} {n₂ = 16384} {m₂ = 16384} h h) }

  -- where what is near touches, the bins excuse nothing
  pub nothing_excused : ((p : ℕ × ℕ) → Two n p → close e p ≡ true → beside p ≡ true) → Exactly (λ p. Two n p × Chosen e p) (found_of e (pairs_of g (bin n cell_of)))
  nothing_excused near_touch =
      exactly_as (found_of e (pairs_of g (bin n cell_of))) binned_found (λ p u. (u.0.0, u.1)) (λ p u. ((u.0, near_touch p u.0 u.1.1), u.1))
