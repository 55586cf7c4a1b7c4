-- What an answered build lists, said of the exit memory: demand 3. Assumes nothing.
use Rattle.std.specs.Prelude.{Err, Ok, Option, Result}
use Rattle.answer.specs.declared.Refusal.{Refusal}
use Rattle.cell.specs.declared.Lattice.{Lattice}
use Rattle.std.proofs.Common.{◌≡◌, ℕ, ◌/◌, ◌<◌, ◌≤◌, Bool, true, false, cond, ltb, leb, List, length, sym, refl, ap, ◌∙◌, ⊎_elim, arith, ltb-true, leb-true}
use mathlib.Core.Bool.{false≢true}
use mathlib.Core.List.Memᴰ
use lib.Ieee.{Float}
use Rattle.lists.specs.Atoms.{atoms_of}
use Rattle.answer.specs.declared.Refusal.TheVariants.{Lengths}
use Rattle.lists.specs.Exact.{Exactly}
use Rattle.lists.specs.Lists.{how_many, rows, Two}
use Rattle.lists.proofs.Cases.{by_test, true_or_false}
use Rattle.lists.proofs.Exactness.{exactly_as, no_pairs}
use Rattle.bins.specs.Stencil.{touching}
use Rattle.bins.specs.Traversal.{Near}
use Rattle.bins.specs.Listing.{Chosen, laid_of}
use Rattle.bins.proofs.Laid.{laid_rows}
use Rattle.bins.proofs.Found.{plain_found, binned_found}
use Rattle.exclusions.specs.Table.{is_row}
use Rattle.neighbor_grid.specs.Grid.{grid_of, cell_at, plain_of, crowded}
use Rattle.neighbor_grid.specs.Layout.{starts_laid, items_laid}
use Rattle.neighbor_grid.proofs.Layouts.{good_grid, placed}
use Rattle.neighbor_listing.specs.declared.Listed.TheVariants.{Found, Full, Crowded, Unfit}
use Rattle.neighbor_listing.specs.Found.{near_of, scene_of, candidates, near_pairs, beside, checks_of}
use Rattle.neighbor_listing.specs.Listed.{Outcome as found_outcome, outcome, shown_of, run_of, unlisted, listing_of}
use Rattle.neighbor.specs.declared.Question.{Question}
use Rattle.neighbor.specs.declared.Updated.{Updated}
use Rattle.neighbor.specs.State.{radius_of, built_of}
use Rattle.neighbor.specs.Update.{Given, Outcome, stays, kept_all, built_all, full_all, listed_all, listed_by, rebuilt_all, unfit, keeps_of, update_of, update_asked, after_of, may_keep, updated_of, UpdateSays}
use Rattle.neighbor.specs.Listed.{Listed, UpdateLists}

-- ---- the listed pairs, of any frame
module _ (cell : Option Lattice) (r : Float) (xs : List Float) (table : List ℕ) where
  abbrev pub Listable : ℕ × ℕ → Type 0
  Listable p = Two (atoms_of xs) p × (is_row p (rows table) ≡ false) × (beside cell r xs p ≡ true) × (near_of cell r xs p.0 p.1 ≡ true)

  beside_plain : plain_of cell r xs ≡ true → (p : ℕ × ℕ) → beside cell r xs p ≡ true
  unfolding beside
  beside_plain e p = rw e

  beside_grid : plain_of cell r xs ≡ false → (p : ℕ × ℕ) → beside cell r xs p ≡ touching (grid_of cell r xs) (cell_at cell r xs p.0) (cell_at cell r xs p.1)
  unfolding beside
  beside_grid e p = rw e

  plain_exactly : plain_of cell r xs ≡ true → Exactly Listable (near_pairs cell r xs table)
  unfolding near_pairs candidates scene_of
  plain_exactly e =
      exactly_as {P = λ p. Two (atoms_of xs) p × Chosen (scene_of cell r xs table) p} (near_pairs cell r xs table) (rw e (plain_found (scene_of cell r xs table) (atoms_of xs))) (λ p u. (u.0, u.1.0, beside_plain e p, u.1.1))
      (λ p u. (u.0, (u.1, u.3)))

  grid_exactly : plain_of cell r xs ≡ false → Exactly Listable (near_pairs cell r xs table)
  unfolding near_pairs candidates scene_of
  grid_exactly e =
      exactly_as {P = λ p. Near (grid_of cell r xs) (atoms_of xs) (cell_at cell r xs) p × Chosen (scene_of cell r xs table) p} (near_pairs cell r xs table)
      (rw e (binned_found (scene_of cell r xs table) (grid_of cell r xs) (good_grid cell r xs e) (atoms_of xs) (cell_at cell r xs) (placed cell r xs)))
      (λ p u. (u.0.0, u.1.0, beside_grid e p ∙ u.0.1, u.1.1))
      (λ p u. ((u.0, sym (beside_grid e p) ∙ u.2), (u.1, u.3)))

  pub near_exactly : Exactly Listable (near_pairs cell r xs table)
  near_exactly = ⊎_elim plain_exactly grid_exactly (true_or_false (plain_of cell r xs))

-- ---- an outcome, where it is a build's
abbrev pub Says : Given → Outcome → Type 0
Says i o = o.rebuilt ≡ true → Listed i o.state o.pairs

never : {A : Type 0} → false ≡ true → A
never e = absurd (false≢true e)

few_lists : (i : Given) → atoms_of i.positions < 2 → Says i (built_all i 0 0 false i.pairs i.starts i.items)
unfolding built_all built_of rows how_many
few_lists i h _ =
    record {
      exactly =
          record { sound = λ p m. absurd (Memᴰ.not-nil m); complete = λ p u. let l = u.0.0 in let m = u.0.1 in absurd (omega arith); once = tt };
      checks = rw (no_pairs (atoms_of i.positions) h);
    }

module _ (i : Given) where
  abbrev found : List (ℕ × ℕ)
  found = near_pairs i.cell (radius_of i.state) i.positions i.exclusions

  abbrev tested : ℕ
  tested = checks_of i.cell (radius_of i.state) i.positions i.exclusions

  found_lists : (fallback : Bool) (starts items : List ℕ) → length found ≤ length i.pairs / 2 → Says i (built_all i (length found) tested fallback (laid_of i.pairs found) starts items)
  unfolding built_all built_of
  found_lists fallback starts items h _ =
      record {
        exactly = rw (laid_rows i.pairs found h) (near_exactly i.cell (radius_of i.state) i.positions i.exclusions);
        checks = unfold checks_of scene_of in refl;
      }

  run_lists : (fallback : Bool) (starts items : List ℕ) → Says i (listed_by i (run_of i.cell (radius_of i.state) i.positions i.exclusions i.pairs starts items fallback))
  unfolding run_of shown_of listed_all full_all
  run_lists fallback starts items =
      by_test (λ t. Says i (listed_all i (cond t (Found (length found) tested fallback) (Full (length found))) (laid_of i.pairs found) starts items)) (leb (length found) (length i.pairs / 2))
      (λ e. found_lists fallback starts items (leb-true (length found) (length i.pairs / 2) e))
      (λ _ q. never q)

  list_lists : Says i (listed_by i (listing_of i.cell (radius_of i.state) i.positions i.exclusions i.pairs i.starts i.items))
  unfolding listing_of listed_all
  list_lists =
      by_test (λ t. Says i (listed_by i (fits t))) (unlisted i.positions i.exclusions i.items) (λ _ q. never q)
      (λ _.
      by_test (λ t. Says i (listed_by i (flat t))) (plain_of i.cell (radius_of i.state) i.positions) (λ _. run_lists true i.starts i.items)
      (λ _.
      by_test (λ t. Says i (listed_by i (full t))) (crowded i.cell (radius_of i.state) i.positions (length i.starts)) (λ _ q. never q) (λ _. run_lists false _ _)))
    where
      full : Bool → found_outcome
      full t =
          cond t (outcome Crowded i.pairs i.starts i.items)
          (run_of i.cell (radius_of i.state) i.positions i.exclusions i.pairs (starts_laid i.cell (radius_of i.state) i.positions i.starts) (items_laid i.cell (radius_of i.state) i.positions i.items) false)

      flat : Bool → found_outcome
      flat t =
          cond t (run_of i.cell (radius_of i.state) i.positions i.exclusions i.pairs i.starts i.items true)
          (full (crowded i.cell (radius_of i.state) i.positions (length i.starts)))

      fits : Bool → found_outcome
      fits t = cond t (outcome Unfit i.pairs i.starts i.items) (flat (plain_of i.cell (radius_of i.state) i.positions))

  rebuilt_lists : Says i (rebuilt_all i)
  unfolding rebuilt_all
  rebuilt_lists =
      by_test (λ t. Says i (cond t (built_all i 0 0 false i.pairs i.starts i.items) (listed_by i (listing_of i.cell (radius_of i.state) i.positions i.exclusions i.pairs i.starts i.items))))
      (ltb (atoms_of i.positions) 2)
      (λ e. few_lists i (ltb-true (atoms_of i.positions) 2 e))
      (λ _. list_lists)

  pub update_lists : (question : Question) → Says i (update_of question i)
  unfolding update_of kept_all
  update_lists question =
      let asked = keeps_of question i.state i.cell i.positions i.references in
      by_test (λ t. Says i (cond t (stays i Lengths) (cond asked (kept_all i) (rebuilt_all i)))) (unfit (length i.positions) (length i.references)) (λ _ q. never q)
      (λ _. by_test (λ t. Says i (cond t (kept_all i) (rebuilt_all i))) asked (λ _ q. never q) (λ _. rebuilt_lists))

  asked_lists : (question : Question) (d : Result (Unit {0}) Refusal) → Says i (after_of question i d)
  unfolding after_of
  asked_lists question (Err r) q = never q
  asked_lists question (Ok tt) q = update_lists question q

-- DEMAND 3. What the outcome's equation says of an answered build.
pub says_lists : (question : Question) (i : Given) (r : Updated) (pairs : List ℕ) (references : List Float) (starts items : List ℕ) → UpdateSays question i r pairs references starts items → UpdateLists i r pairs
unfolding updated_of
says_lists question i r pairs references starts items h q =
    let o = after_of question i (update_asked (may_keep question) i) in
    let rebuilt : o.rebuilt ≡ true = sym (ap (λ (z : Outcome). z.rebuilt) h) ∙ q in
    rw (ap (λ (z : Outcome). z.pairs) h, ap (λ (z : Outcome). z.state) h) (asked_lists i question (update_asked (may_keep question) i) rebuilt)
