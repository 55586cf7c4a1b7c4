-- The outcome of `list` by its cases, as the code takes them. Assumes nothing.
use Rattle.std.specs.Prelude.{Option}
use Rattle.cell.specs.declared.Lattice.{Lattice}
use Prim.Native.Nat.{ℕ, ◌/◌, ◌≤◌}
use mathlib.Core.Path.{◌≡◌, refl, sym, ◌∙◌}
use mathlib.Core.Bool.{Bool, true, false, cond, not}
use mathlib.Core.List.{List}
use lib.ListN.{length}
use lib.Dec.{ltb}
use lib.Ieee.{Float}
use borrow.Author.Tests.{ltb-false, not-true, not-false}
use Rattle.lists.specs.Atoms.{atoms_of}
use Rattle.lists.specs.Lists.{rows}
use Rattle.lists.proofs.Cases.{or_neither, or_right, impossible}
use Rattle.bins.specs.declared.Grid.{Grid}
use Rattle.bins.specs.Listing.{laid_of}
use Rattle.exclusions.specs.Table.{is_table}
use Rattle.neighbor_grid.specs.declared.Layout.{Layout}
use Rattle.neighbor_grid.specs.declared.Layout.TheVariants as to
use Rattle.neighbor_grid.specs.Grid.{plain_of}
use Rattle.neighbor_grid.specs.Layout.{unfit_of, layout_of, starts_after, items_after}
use Rattle.neighbor_grid.proofs.Layouts.{is_unfit, is_plain, is_crowded, is_laid, unfit_stays, plain_stays, crowded_stays, starts_laid_lem, items_laid_lem, laid_part}
use Rattle.neighbor_listing.specs.declared.Listed.{Listed}
use Rattle.neighbor_listing.specs.declared.Listed.TheVariants.{Crowded, Unfit}
use Rattle.neighbor_listing.specs.Found.{near_pairs, checks_of}
use Rattle.neighbor_listing.specs.Listed.{outcome, shown_of, run_of, unlisted, listing_of}
use Rattle.neighbor_listing.specs.Steps.{Gridded}

-- a layout that is not `Unfit`
fitting : (t : Bool) (rest o : Layout) → o ≡ cond t to.Unfit rest → (o ≡ to.Unfit → ⊥) → t ≡ false
fitting true rest o e h = absurd (h e)
fitting false rest o e h = refl

plain_fits : (o : Layout) → o ≡ to.AllPairs → o ≡ to.Unfit → ⊥
plain_fits o e h = impossible (cc)

crowded_fits : (o : Layout) → o ≡ to.TooMany → o ≡ to.Unfit → ⊥
crowded_fits o e h = impossible (cc)

laid_fits : (o : Layout) (g : Grid) (t : ℕ) → o ≡ to.Laid g t → o ≡ to.Unfit → ⊥
laid_fits o g t e h = impossible (cc)

module _ (cell : Option Lattice) (r : Float) (xs : List Float) (table pairs starts items : List ℕ) {b : Bool} (ib : b ≡ is_table (rows table)) where
  untabled : not b ≡ true → unlisted xs table items ≡ true
  unfolding unlisted
  untabled h = rw (← ib, not-true b h) (or_right (unfit_of xs (length items)) true refl)

  pub list_table : not b ≡ true → outcome Unfit pairs starts items ≡ listing_of cell r xs table pairs starts items
  unfolding listing_of
  list_table h = rw (untabled h)

  module _ (h : not b ≡ false) where
    pub table_is : is_table (rows table) ≡ true
    table_is = sym ib ∙ not-false b h

    listed_fit : unfit_of xs (length items) ≡ false → unlisted xs table items ≡ false
    unfolding unlisted
    listed_fit f = rw (f, table_is)

    module _ (o : Layout) (is : o ≡ layout_of cell r xs table (length starts) (length items)) where
      fits : (o ≡ to.Unfit → ⊥) → unfit_of xs (length items) ≡ false
      unfolding layout_of
      fits = fitting (unfit_of xs (length items)) _ o is

      few : (o ≡ to.Unfit → ⊥) → atoms_of xs ≤ 16384
      unfolding unfit_of
      few f = ltb-false 16384 (atoms_of xs) (or_neither (ltb 16384 (atoms_of xs)) (ltb (length items) (atoms_of xs)) (fits f)).0

      pub plain_few : o ≡ to.AllPairs → atoms_of xs ≤ 16384
      plain_few e = few (plain_fits o e)

      pub plain_flat : o ≡ to.AllPairs → plain_of cell r xs ≡ true
      plain_flat e = is_plain cell r xs table starts items is e

      module _ {s i : List ℕ} (es : s ≡ starts_after cell r xs starts items) (ei : i ≡ items_after cell r xs starts items) where
        pub list_unfit : o ≡ to.Unfit → outcome Unfit pairs s i ≡ listing_of cell r xs table pairs starts items
        unfolding listing_of unlisted
        list_unfit e =
            let k = unfit_stays cell r xs table starts items is e in
            rw (is_unfit cell r xs table starts items is e, es, ei, k.0, k.1)

        pub list_plain : o ≡ to.AllPairs → {a : Listed} {m : List ℕ}
            → a ≡ shown_of (length (near_pairs cell r xs table)) (checks_of cell r xs table) (length pairs / 2) true → m ≡ laid_of pairs (near_pairs cell r xs table)
            → outcome a m s i ≡ listing_of cell r xs table pairs starts items
        unfolding listing_of run_of
        list_plain e ea em =
            let k = plain_stays cell r xs table starts items is e in
            rw (listed_fit (fits (plain_fits o e)), plain_flat e, ea, em, es, ei, k.0, k.1)

        pub list_crowded : o ≡ to.TooMany → outcome Crowded pairs s i ≡ listing_of cell r xs table pairs starts items
        unfolding listing_of
        list_crowded e =
            let k = crowded_stays cell r xs table starts items is e in
            let q = is_crowded cell r xs table starts items is e in
            rw (listed_fit (fits (crowded_fits o e)), q.0, q.1, es, ei, k.0, k.1)

        module _ {g : Grid} {t : ℕ} (e : o ≡ to.Laid g t) where
          pub laid_few : atoms_of xs ≤ 16384
          laid_few = few (laid_fits o g t e)

          pub laid_gridded : Gridded cell r xs table g t s i
          laid_gridded =
              let q = is_laid cell r xs table starts items is e in
              record { is = q.2; wide = q.0; counted = q.3; part = laid_part cell r xs table starts items is e es ei }

          pub list_grid : {a : Listed} {m : List ℕ}
              → a ≡ shown_of (length (near_pairs cell r xs table)) (checks_of cell r xs table) (length pairs / 2) false → m ≡ laid_of pairs (near_pairs cell r xs table)
              → outcome a m s i ≡ listing_of cell r xs table pairs starts items
          unfolding listing_of run_of
          list_grid ea em =
              let q = is_laid cell r xs table starts items is e in
              rw (listed_fit (fits (laid_fits o g t e)), q.0, q.1, ea, em, es ∙ starts_laid_lem cell r xs table starts items is e, ei ∙ items_laid_lem cell r xs table starts items is e)
