-- The sweep over a grid's cells as loops make it: for both frames. Assumes nothing.
use Rattle.std.specs.Prelude.{None, Option, Some}
use Prim.Native.Nat.{ℕ, zero, suc, ◌+◌, ◌-◌, ◌≤◌, ◌<◌}
use mathlib.Core.Path.{◌≡◌, refl, sym, ap, ap₂, ◌∙◌}
use mathlib.Core.List.{List, []}
use native.Mathlib.Omega.{arith}
use lib.ListN.{length}
use Rattle.lists.specs.Lists.{inside, across, each, numbers, up_to}
use Rattle.lists.proofs.Exactness.{mem_up_to}
use Rattle.lists.proofs.Nested.{each_agree}
use Rattle.bins.specs.declared.Cell.{Cell}
use Rattle.bins.specs.declared.Grid.{Grid}
use Rattle.bins.specs.Stencil.{InGrid, reached, home_of, cells}
use Rattle.bins.specs.Traversal.{met, visit, cell_pairs, pairs_of}
use Rattle.bins.specs.Listing.{Scene, Listing, list_of, Ready}
use Rattle.bins.proofs.StencilLaws.{reached_from}
use Rattle.bins.proofs.FlatLaws.{home_in, pairs_linear}
use Rattle.bins.proofs.TraversalLaws.{visit_nowhere, visit_home, visit_other}
use Rattle.bins.proofs.Runs.{Run, run_each_begin, run_each, ready_each, run_each_end}

-- ---- a row of the stencil, by what the code found
module _ (g : Grid) (atoms : Cell → List ℕ) (home : Cell) (s : ℕ) {o : Option Cell} (e : o ≡ reached g home s) where
  pub row_none : o ≡ None → visit g atoms home s ≡ []
  row_none h = visit_nowhere g atoms home s (sym e ∙ h)

  module _ {c : Cell} (h : o ≡ Some c) where
    pub row_other : InGrid g c
    row_other = (reached_from g home c s (sym e ∙ h)).1

    pub row_home : s ≡ 0 → {mine : List ℕ} → mine ≡ atoms home → visit g atoms home s ≡ inside mine
    row_home z q = visit_home g atoms home s c z (sym e ∙ h) ∙ ap inside (sym q)

    pub row_cross : (s ≡ 0 → ⊥) → {mine theirs : List ℕ} → mine ≡ atoms home → theirs ≡ atoms c → visit g atoms home s ≡ across mine theirs
    row_cross z q r = visit_other g atoms home s c z (sym e ∙ h) ∙ ap₂ across (sym q) (sym r)

-- ---- the rows of a cell, and the cells
abbrev pub rows_from : Grid → (Cell → List ℕ) → Cell → ℕ → List (ℕ × ℕ)
rows_from g atoms home s = each (visit g atoms home) (numbers s (14 - s))

abbrev pub cells_from : Grid → (Cell → List ℕ) → ℕ → List (ℕ × ℕ)
cells_from g atoms h = each (λ k. cell_pairs g atoms (home_of g k)) (numbers h (cells g - h))

module _ {e : Scene} {s : Listing} (g : Grid) (atoms : Cell → List ℕ) where
  pub rows_begin : (home : Cell) → Ready s.tally (length (cell_pairs g atoms home)) → Run e s s (cell_pairs g atoms home) (rows_from g atoms home 0)
  unfolding cell_pairs
  rows_begin home h = run_each_begin (visit g atoms home) 14 h

  pub cells_begin : Ready s.tally (length (pairs_of g atoms)) → Run e s s (pairs_of g atoms) (cells_from g atoms 0)
  cells_begin h =
      rw (pairs_linear g atoms) (run_each_begin (λ k. cell_pairs g atoms (home_of g k)) (cells g) (rw (pairs_linear g atoms) at h))

pub cell_in : (g : Grid) (h : ℕ) {count : ℕ} {home : Cell} → count ≡ cells g → h < count → home ≡ home_of g h → InGrid g home
cell_in g h is l at = rw at (home_in g h (omega (arith, is)))

-- ---- one home cell more; `home` and `count` are what the code computed
module _ {e : Scene} {s₀ s : Listing} {all : List (ℕ × ℕ)} (g : Grid) (atoms : Cell → List ℕ) (h : ℕ) {count : ℕ} (is : count ≡ cells g) where
  module _ (l : h < count) {home : Cell} (at : home ≡ home_of g h) where
    pub cell_ready : Run e s₀ s all (cells_from g atoms h) → Ready s.tally (length (cell_pairs g atoms home))
    cell_ready u = rw at (ready_each (cells g) h (λ k. cell_pairs g atoms (home_of g k)) (omega (arith, is)) u)

    pub cell_turn : (r : Listing) → Run e s₀ s all (cells_from g atoms h) → r ≡ list_of e s (cell_pairs g atoms home) → Run e s₀ r all (cells_from g atoms (h + 1))
    cell_turn r u q = run_each (cells g) h (λ k. cell_pairs g atoms (home_of g k)) (omega (arith, is)) r u (rw at at q)

  pub cells_end : count ≤ h → Run e s₀ s all (cells_from g atoms h) → s ≡ list_of e s₀ all
  cells_end l u = run_each_end (cells g) h (λ k. cell_pairs g atoms (home_of g k)) (omega (arith, is)) u

-- ---- the pairs depend on the atoms of the grid's own cells alone
module _ (g : Grid) (a b : Cell → List ℕ) (same : (c : Cell) → InGrid g c → a c ≡ b c) where
  met_agree : (home : Cell) → InGrid g home → (s : ℕ) (o : Option Cell) → reached g home s ≡ o → met a home s o ≡ met b home s o
  unfolding met
  met_agree home h s None e = refl
  met_agree home h zero (Some other) e = ap inside (same home h)
  met_agree home h (suc s) (Some other) e = ap₂ across (same home h) (same other (reached_from g home other (suc s) e).1)

  cell_agree : (home : Cell) → InGrid g home → cell_pairs g a home ≡ cell_pairs g b home
  unfolding cell_pairs visit
  cell_agree home h = each_agree (visit g a home) (visit g b home) (up_to 14) (λ s _. met_agree home h s (reached g home s) refl)

  pub pairs_agree : pairs_of g a ≡ pairs_of g b
  pairs_agree =
      pairs_linear g a
      ∙ each_agree (λ h. cell_pairs g a (home_of g h)) (λ h. cell_pairs g b (home_of g h)) (up_to (cells g)) (λ h m. cell_agree (home_of g h) (home_in g h (mem_up_to (cells g) m)))
      ∙ sym (pairs_linear g b)
