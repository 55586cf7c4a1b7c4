-- The grid is good where it is laid, each atom has a cell of it, and what `lay` answers and leaves, by its cases. Assumes nothing.
use Rattle.std.specs.Prelude.{None, Option, Some}
use Rattle.cell.specs.declared.Lattice.{Lattice}
use Prim.Native.Nat.{ℕ, ◌+◌, ◌≤◌, ◌<◌}
use mathlib.Core.Path.{◌≡◌, refl, sym, ap, ◌∙◌}
use mathlib.Core.Bool.{Bool, true, false, cond, not, ◌&&◌, ◌||◌}
use mathlib.Core.List.{List, ◌++◌}
use lib.ListN.{length, drop}
use lib.Dec.{ltb, leb}
use lib.Ieee.{Float, le}
use borrow.Author.Tests.{ltb-false, leb-false}
use Rattle.cell.specs.Vec.{position_at}
use Rattle.lists.specs.Atoms.{atoms_of}
use Rattle.float.specs.Arith.{bits}
use Rattle.lists.specs.Lists.{rows}
use Rattle.lists.proofs.Cases.{or_neither, impossible}
use Rattle.bins.specs.declared.Axis.{Axis}
use Rattle.bins.specs.declared.Grid.{Grid}
use Rattle.bins.specs.declared.Cell.{Cell as Home}
use Rattle.bins.specs.Axis.{Good}
use Rattle.bins.specs.Stencil.{GoodGrid, InGrid, cells, flatten}
use Rattle.bins.specs.Traversal.{Placed, bin}
use Rattle.bins.specs.Sort.{atoms_in, starts_of, items_of}
use Rattle.bins.proofs.Parts.{cell_part}
use Rattle.candidates.specs.Checks.{rows_touching}
use Rattle.bins.proofs.Plans.{planned_plain, planned_many, planned_laid}
use Rattle.neighbor_grid.specs.declared.Layout.{Layout}
use Rattle.neighbor_grid.specs.declared.Layout.TheVariants as to
use Rattle.neighbor_grid.specs.declared.measuring.Measure.{Measure}
use Rattle.bins.specs.declared.Plan.{Plan}
use Rattle.bins.specs.declared.Plan.TheVariants.{AllPairs, TooMany, Laid}
use Rattle.neighbor_grid.specs.Grid.{grid_by, grid_of, cell_at, narrow, plain_by, no_inverse, plain_of, crowded_by, crowded, home_at, relative_of}
use Rattle.neighbor_grid.specs.Layout.{unfit_of, touching_rows, layout_of, laid_for, starts_laid, items_laid, starts_after, items_after}
use Rattle.neighbor_grid.specs.Steps.{measure_of, plan_of, Wide, Small, cell_by, place_by}
use Rattle.neighbor_grid.proofs.Sizes.{size_some, in_some}
use Rattle.neighbor_grid.proofs.Measured.{plan_is, cells_are}

-- ---- the grid's sizes
some_grid : (cell : Option Lattice) (r : Float) (xs : List Float) → Wide (grid_of cell r xs)
unfolding grid_of grid_by
some_grid None r xs = record { x = size_some _; y = size_some _; z = size_some _ }
some_grid (Some l) r xs = record { x = size_some _; y = size_some _; z = size_some _ }

wide_good : (a : Axis) → 1 ≤ a.size → narrow a ≡ false → Good a
unfolding narrow
wide_good a some h = (some, λ t. let s : ltb a.size 3 ≡ false = rw t at h in ltb-false a.size 3 s)

module _ (cell : Option Lattice) (r : Float) (xs : List Float) where
  pub good_grid : plain_of cell r xs ≡ false → GoodGrid (grid_of cell r xs)
  unfolding plain_of plain_by
  good_grid h =
      let g = grid_of cell r xs in
      let some = some_grid cell r xs in
      let a = or_neither (le r (bits 0) || no_inverse cell) (narrow g.x || narrow g.y || narrow g.z || ltb (cells g) 8) h in
      let b = or_neither (narrow g.x || narrow g.y || narrow g.z) (ltb (cells g) 8) a.1 in
      let c = or_neither (narrow g.x || narrow g.y) (narrow g.z) b.0 in
      let d = or_neither (narrow g.x) (narrow g.y) c.0 in
      (wide_good g.x some.x d.0, wide_good g.y some.y d.1, wide_good g.z some.z c.1)

  -- each atom has a cell of the grid, laid or not
  pub placed : Placed (grid_of cell r xs) (atoms_of xs) (cell_at cell r xs)
  placed k l = in_some (grid_of cell r xs) (some_grid cell r xs) (relative_of cell xs (position_at xs k))

  -- the sorted tables hand out each cell's atoms, rising
  pub swept : (starts items : List ℕ) {s i : List ℕ} → s ≡ starts_laid cell r xs starts → i ≡ items_laid cell r xs items
      → (c : Home) → InGrid (grid_of cell r xs) c → atoms_in (flatten (grid_of cell r xs) c) s i ≡ bin (atoms_of xs) (cell_at cell r xs) c
  swept starts items {s} {i} es ei c k =
      cell_part (grid_of cell r xs) (atoms_of xs) (cell_at cell r xs) placed (home_at cell r xs) (λ k l. refl) s i (drop (cells (grid_of cell r xs) + 1) starts)
      (drop (atoms_of xs) items) es ei c k

-- ---- a layout by its tests
module _ (g h : Grid) (t : ℕ) where
  shown_unfit : (u a b : Bool) → cond u to.Unfit (cond a to.AllPairs (cond b to.TooMany (to.Laid g t))) ≡ to.Unfit → u ≡ true
  shown_unfit true a b e = refl
  shown_unfit false true b e = impossible (cc)
  shown_unfit false false true e = impossible (cc)
  shown_unfit false false false e = impossible (cc)

  shown_plain : (u a b : Bool) → cond u to.Unfit (cond a to.AllPairs (cond b to.TooMany (to.Laid g t))) ≡ to.AllPairs → (u ≡ false) × (a ≡ true)
  shown_plain true a b e = impossible (cc)
  shown_plain false true b e = (refl, refl)
  shown_plain false false true e = impossible (cc)
  shown_plain false false false e = impossible (cc)

  shown_crowded : (u a b : Bool) → cond u to.Unfit (cond a to.AllPairs (cond b to.TooMany (to.Laid g t))) ≡ to.TooMany → (u ≡ false) × (a ≡ false) × (b ≡ true)
  shown_crowded true a b e = impossible (cc)
  shown_crowded false true b e = impossible (cc)
  shown_crowded false false true e = (refl, refl, refl)
  shown_crowded false false false e = impossible (cc)

  shown_laid : (k : ℕ) (u a b : Bool) → cond u to.Unfit (cond a to.AllPairs (cond b to.TooMany (to.Laid g t))) ≡ to.Laid h k
      → (u ≡ false) × (a ≡ false) × (b ≡ false) × (h ≡ g) × (k ≡ t)
  shown_laid k true a b e = impossible (cc)
  shown_laid k false true b e = impossible (cc)
  shown_laid k false false true e = impossible (cc)
  shown_laid k false false false e = (refl, refl, refl, cc, cc)

never_both : (u : Bool) → not u && false ≡ false
never_both true = refl
never_both false = refl

module _ (cell : Option Lattice) (r : Float) (xs : List Float) (table starts items : List ℕ) {o : Layout} (is : o ≡ layout_of cell r xs table (length starts) (length items)) where
  pub is_unfit : o ≡ to.Unfit → unfit_of xs (length items) ≡ true
  unfolding layout_of
  is_unfit e = shown_unfit (grid_of cell r xs) (grid_of cell r xs) (touching_rows cell r xs table) (unfit_of xs (length items)) (plain_of cell r xs) (crowded cell r xs (length starts)) (sym is ∙ e)

  pub is_plain : o ≡ to.AllPairs → plain_of cell r xs ≡ true
  unfolding layout_of
  is_plain e = (shown_plain (grid_of cell r xs) (grid_of cell r xs) (touching_rows cell r xs table) (unfit_of xs (length items)) (plain_of cell r xs) (crowded cell r xs (length starts)) (sym is ∙ e)).1

  pub is_crowded : o ≡ to.TooMany → (plain_of cell r xs ≡ false) × (crowded cell r xs (length starts) ≡ true)
  unfolding layout_of
  is_crowded e =
      let q = shown_crowded (grid_of cell r xs) (grid_of cell r xs) (touching_rows cell r xs table) (unfit_of xs (length items)) (plain_of cell r xs) (crowded cell r xs (length starts)) (sym is ∙ e) in
      (q.1, q.2)

  -- where no grid is laid the tables stay
  stay : laid_for cell r xs (length starts) (length items) ≡ false → (starts_after cell r xs starts items ≡ starts) × (items_after cell r xs starts items ≡ items)
  unfolding starts_after items_after
  stay h = (rw h, rw h)

  pub unfit_stays : o ≡ to.Unfit → (starts_after cell r xs starts items ≡ starts) × (items_after cell r xs starts items ≡ items)
  unfolding laid_for
  unfit_stays e = stay (rw (is_unfit e))

  pub plain_stays : o ≡ to.AllPairs → (starts_after cell r xs starts items ≡ starts) × (items_after cell r xs starts items ≡ items)
  unfolding laid_for
  plain_stays e = stay (rw (is_plain e) (never_both (unfit_of xs (length items))))

  pub crowded_stays : o ≡ to.TooMany → (starts_after cell r xs starts items ≡ starts) × (items_after cell r xs starts items ≡ items)
  unfolding laid_for
  crowded_stays e = stay (rw ((is_crowded e).0, (is_crowded e).1) (never_both (unfit_of xs (length items))))

  module _ {g : Grid} {t : ℕ} (e : o ≡ to.Laid g t) where
    shown : (unfit_of xs (length items) ≡ false) × (plain_of cell r xs ≡ false) × (crowded cell r xs (length starts) ≡ false) × (g ≡ grid_of cell r xs) × (t ≡ touching_rows cell r xs table)
    unfolding layout_of
    shown = shown_laid (grid_of cell r xs) g (touching_rows cell r xs table) t (unfit_of xs (length items)) (plain_of cell r xs) (crowded cell r xs (length starts)) (sym is ∙ e)

    pub is_laid : (plain_of cell r xs ≡ false) × (crowded cell r xs (length starts) ≡ false) × (g ≡ grid_of cell r xs) × (t ≡ touching_rows cell r xs table)
    is_laid = (shown.1, shown.2, shown.3, shown.4)

    laid_for_lem : laid_for cell r xs (length starts) (length items) ≡ true
    unfolding laid_for
    laid_for_lem = rw (shown.0, shown.1, shown.2)

    pub starts_laid_lem : starts_after cell r xs starts items ≡ starts_laid cell r xs starts
    unfolding starts_after
    starts_laid_lem = rw laid_for_lem

    pub items_laid_lem : items_after cell r xs starts items ≡ items_laid cell r xs items
    unfolding items_after
    items_laid_lem = rw laid_for_lem

    -- what `lay` leaves hands out each cell's atoms
    pub laid_part : {s i : List ℕ} → s ≡ starts_after cell r xs starts items → i ≡ items_after cell r xs starts items
        → (c : Home) → InGrid g c → atoms_in (flatten g c) s i ≡ bin (atoms_of xs) (cell_at cell r xs) c
    laid_part es ei c k =
        rw shown.3 (swept cell r xs starts items (es ∙ starts_laid_lem) (ei ∙ items_laid_lem) c (rw shown.3 at k))

-- ---- what `lay` gives, by its plan
abbrev Says : Option Lattice → Float → List Float → List ℕ → List ℕ → List ℕ → Layout → List ℕ → List ℕ → Type 0
Says cell r xs table starts items o s i = (o ≡ layout_of cell r xs table (length starts) (length items)) × ((s ≡ starts_after cell r xs starts items) × (i ≡ items_after cell r xs starts items))

pub lay_unfit : (cell : Option Lattice) (r : Float) (xs : List Float) (table starts items : List ℕ) → ltb 16384 (atoms_of xs) || ltb (length items) (atoms_of xs) ≡ true
    → Says cell r xs table starts items to.Unfit starts items
unfolding layout_of starts_after items_after laid_for unfit_of
lay_unfit cell r xs table starts items h = (rw h, (rw h, rw h))

pub record Planned (cell : Option Lattice) (r : Float) (xs : List Float) (starts items : List ℕ) (m : Measure) (p : Plan) : Type 0 where
  pub fit : ltb 16384 (atoms_of xs) || ltb (length items) (atoms_of xs) ≡ false
  pub measured : m ≡ measure_of cell xs
  pub is : p ≡ plan_of m r (length starts)

module _ {cell : Option Lattice} {r : Float} {xs : List Float} {starts items : List ℕ} {m : Measure} {p : Plan} (h : Planned cell r xs starts items m p) where
  pub atoms_few : atoms_of xs ≤ 16384
  atoms_few = ltb-false 16384 (atoms_of xs) (or_neither (ltb 16384 (atoms_of xs)) (ltb (length items) (atoms_of xs)) h.fit).0

  pub atoms_room : atoms_of xs ≤ length items
  atoms_room = ltb-false (length items) (atoms_of xs) (or_neither (ltb 16384 (atoms_of xs)) (ltb (length items) (atoms_of xs)) h.fit).1

  planned : p ≡ cond (plain_of cell r xs) AllPairs (cond (crowded cell r xs (length starts)) TooMany (Laid (grid_of cell r xs)))
  planned = h.is ∙ ap (λ (t : Measure). plan_of t r (length starts)) h.measured ∙ plan_is cell r xs (length starts)

  pub lay_plain : (table : List ℕ) → p ≡ AllPairs → Says cell r xs table starts items to.AllPairs starts items
  unfolding layout_of starts_after items_after laid_for unfit_of
  lay_plain table e =
      let q = planned_plain (plain_of cell r xs) (crowded cell r xs (length starts)) (grid_of cell r xs) (sym planned ∙ e) in
      (rw (h.fit, q), (rw (h.fit, q), rw (h.fit, q)))

  pub lay_crowded : (table : List ℕ) → p ≡ TooMany → Says cell r xs table starts items to.TooMany starts items
  unfolding layout_of starts_after items_after laid_for unfit_of
  lay_crowded table e =
      let q = planned_many (plain_of cell r xs) (crowded cell r xs (length starts)) (grid_of cell r xs) (sym planned ∙ e) in
      (rw (h.fit, q.0, q.1), (rw (h.fit, q.0, q.1), rw (h.fit, q.0, q.1)))

  module _ {g : Grid} (e : p ≡ Laid g) where
    laid : (plain_of cell r xs ≡ false) × (crowded cell r xs (length starts) ≡ false) × (g ≡ grid_of cell r xs)
    laid = planned_laid (plain_of cell r xs) (crowded cell r xs (length starts)) (grid_of cell r xs) g (sym planned ∙ e)

    within : (ltb 32768 (cells (grid_of cell r xs)) ≡ false) × (leb (length starts) (cells (grid_of cell r xs)) ≡ false)
    unfolding crowded_by
    within = or_neither (ltb 32768 (cells (grid_of cell r xs))) (leb (length starts) (cells (grid_of cell r xs))) laid.1

    pub laid_small : Small g
    laid_small =
        rw laid.2 (record { some = some_grid cell r xs; few = ltb-false 32768 (cells (grid_of cell r xs)) within.0 })

    pub laid_room : cells g < length starts
    laid_room = rw laid.2 (leb-false (length starts) (cells (grid_of cell r xs)) within.1)

    same : cell_by m.ruler g xs ≡ cell_at cell r xs
    same = ap (λ (t : Measure). cell_by t.ruler g xs) h.measured ∙ cells_are cell r xs laid.2

    pub lay_laid : (table : List ℕ) {t : ℕ} {s i : List ℕ}
        → t ≡ rows_touching g (atoms_of xs) (cell_by m.ruler g xs) (rows table)
        → s ≡ starts_of (place_by m.ruler g xs) (atoms_of xs) (cells g) ++ drop (cells g + 1) starts
        → i ≡ items_of (place_by m.ruler g xs) (atoms_of xs) (cells g) ++ drop (atoms_of xs) items
        → Says cell r xs table starts items (to.Laid g t) s i
    unfolding layout_of starts_after items_after laid_for unfit_of touching_rows
    lay_laid table et es ei = (
      rw (h.fit, laid.0, laid.1) (rw (et, same, laid.2)),
      (
        rw (h.fit, laid.0, laid.1)
            (es
            ∙ ap (λ (c : ℕ → Home). starts_of (λ k. flatten g (c k)) (atoms_of xs) (cells g) ++ drop (cells g + 1) starts) (same)
            ∙ ap (λ (f : Grid). starts_of (λ k. flatten f (cell_at cell r xs k)) (atoms_of xs) (cells f) ++ drop (cells f + 1) starts) laid.2),
        rw (h.fit, laid.0, laid.1)
            (ei
            ∙ ap (λ (c : ℕ → Home). items_of (λ k. flatten g (c k)) (atoms_of xs) (cells g) ++ drop (atoms_of xs) items) (same)
            ∙ ap (λ (f : Grid). items_of (λ k. flatten f (cell_at cell r xs k)) (atoms_of xs) (cells f) ++ drop (atoms_of xs) items) laid.2),
      ),
    )
