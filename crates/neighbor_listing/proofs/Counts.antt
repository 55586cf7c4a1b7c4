-- A run that has ended gives the numbers and the memory that the outcome names. Assumes nothing.
use Rattle.std.specs.Prelude.{Option}
use Rattle.cell.specs.declared.Lattice.{Lattice}
use Prim.Native.Nat.{ℕ, ◌+◌, ◌-◌, ◌/◌, ◌≤◌, ◌<◌}
use mathlib.Core.Path.{◌≡◌, sym, ap, ◌∙◌}
use mathlib.Core.Bool.{Bool, true, false}
use mathlib.Core.List.{List}
use native.Mathlib.Omega.{arith}
use lib.ListN.{length}
use lib.Ieee.{Float, le}
use Rattle.lists.specs.Atoms.{atoms_of}
use Rattle.float.specs.Arith.{◌⊗◌}
use Rattle.lists.specs.Lists.{all_pairs, rows}
use Rattle.lists.proofs.Exactness.{length_keep}
use Rattle.cell.specs.declared.Image.{Image}
use Rattle.cell.specs.Vec.{sub_of, norm2_of, position_at}
use Rattle.cell_prepared.proofs.Law.{prepared_image}
use Rattle.bins.specs.declared.Tally.{Tally}
use Rattle.bins.specs.Stencil.{GoodGrid}
use Rattle.bins.specs.Traversal.{bin, pairs_of, Placed}
use Rattle.bins.specs.declared.Grid.{Grid}
use Rattle.bins.specs.Listing.{list_of, empty_listing, free, found_of, laid_of, Ready}
use Rattle.bins.proofs.Found.{plain_ready, binned_ready}
use Rattle.bins.proofs.Sweeps.{pairs_agree}
use Rattle.bins.proofs.TraversalLaws.{bin_less}
use Rattle.candidates.proofs.Runs.{Ended, ended}
use Rattle.candidates.specs.Checks.{rows_below, rows_touching}
use Rattle.candidates.proofs.Counted.{plain_less, binned_less}
use Rattle.exclusions.specs.Table.{is_table}
use Rattle.neighbor_grid.specs.Grid.{grid_of, cell_at, plain_of}
use Rattle.neighbor_listing.specs.declared.sight.Sight.{Sight}
use Rattle.neighbor_listing.specs.Found.{near_of, scene_of, candidates, near_pairs, beside, checks_of}
use Rattle.neighbor_grid.specs.Layout.{touching_rows}
use Rattle.neighbor_grid.proofs.Layouts.{good_grid, placed}
use Rattle.neighbor_listing.specs.declared.Listed.{Listed}
use Rattle.neighbor_listing.specs.Listed.{shown_of}
use Rattle.neighbor_listing.proofs.Partners.{looked_in_lem}
use Rattle.neighbor_listing.specs.Steps.{sees_of, Tops, looked_by, scene_by, sight_of, atoms_by, Swept, Gridded}

-- ---- the loops' scene is the outcome's, the near test first
seen_is : (cell : Option Lattice) (r : Float) (xs : List Float) (low high : ℕ) → sees_of (sight_of cell r) (position_at xs low) (position_at xs high) ≡ near_of cell r xs low high
unfolding sees_of near_of sight_of
seen_is cell r xs low high = ap (λ (i : Image). le (norm2_of i.diff) (r ⊗ r)) (prepared_image cell (sub_of (position_at xs low) (position_at xs high)))

module _ (cell : Option Lattice) (r : Float) (xs : List Float) (table : List ℕ) (h : is_table (rows table) ≡ true) where
  scene_is : (tops : List ℕ) → Tops table tops → looked_by (sight_of cell r) xs tops table ≡ scene_of cell r xs table
  unfolding looked_by scene_of
  scene_is tops w = λ i. record { excluded = λ low high. looked_in_lem table tops w low high h i; near = λ low high. seen_is cell r xs low high i }

  -- ---- what any run finds
  module _ {s : Sight} (es : s ≡ sight_of cell r) {tops : List ℕ} (w : Tops table tops) {old : List ℕ} {cands : List (ℕ × ℕ)} {t : Tally} {m : List ℕ} (all : cands ≡ candidates cell r xs) (z : Ended (looked_by s xs tops table) old cands t m) where
    found_is : found_of (looked_by s xs tops table) cands ≡ near_pairs cell r xs table
    unfolding near_pairs
    found_is = rw (es, scene_is tops w, all)

    pub run_count : t.count ≡ length (near_pairs cell r xs table)
    run_count = z.count ∙ ap length found_is

    pub run_mem : m ≡ laid_of old (near_pairs cell r xs table)
    run_mem = z.mem ∙ ap (laid_of old) found_is

    pub run_all : t.checks ≡ length (candidates cell r xs)
    run_all = z.all ∙ ap length all

  -- ---- the checks: the candidates less the exclusion rows among them
  pub plain_all : plain_of cell r xs ≡ true → length (candidates cell r xs) ≡ checks_of cell r xs table + rows_below (atoms_of xs) (rows table)
  unfolding candidates checks_of beside scene_of
  plain_all p = rw p (plain_less table h (atoms_of xs))

  pub grid_all : plain_of cell r xs ≡ false → GoodGrid (grid_of cell r xs) → Placed (grid_of cell r xs) (atoms_of xs) (cell_at cell r xs)
      → length (candidates cell r xs) ≡ checks_of cell r xs table + rows_touching (grid_of cell r xs) (atoms_of xs) (cell_at cell r xs) (rows table)
  unfolding candidates checks_of beside scene_of
  grid_all p good placed = rw p (binned_less table h (atoms_of xs) (grid_of cell r xs) good (cell_at cell r xs) placed)

plain_cands : (cell : Option Lattice) (r : Float) (xs : List Float) → plain_of cell r xs ≡ true → all_pairs (atoms_of xs) ≡ candidates cell r xs
unfolding candidates
plain_cands cell r xs p = rw p

-- ---- a run that has ended, as the outcome has it; `e` are the exclusion rows among the candidates
pub record Ran (cell : Option Lattice) (r : Float) (xs : List Float) (table old : List ℕ) (t : Tally) (m : List ℕ) (e : ℕ) : Type 0 where
  pub count : t.count ≡ length (near_pairs cell r xs table)
  pub left : t.checks - e ≡ checks_of cell r xs table
  pub mem : m ≡ laid_of old (near_pairs cell r xs table)
  pub order : t.count ≤ t.checks
  pub fits : e ≤ t.checks
  pub few : t.checks < 4294967296
  pub same : length m ≡ length old

module _ (cell : Option Lattice) (r : Float) (xs : List Float) (table : List ℕ) (h : is_table (rows table) ≡ true) (few : atoms_of xs ≤ 16384) {s : Sight} (es : s ≡ sight_of cell r) {tops : List ℕ} (w : Tops table tops) (old : List ℕ) {t : Tally} {m : List ℕ} where
  ran : {cands : List (ℕ × ℕ)} {e : ℕ} → cands ≡ candidates cell r xs → Ended (looked_by s xs tops table) old cands t m → length (candidates cell r xs) ≡ checks_of cell r xs table + e → Ran cell r xs table old t m e
  ran {cands} {e} all z q =
      let k = run_all cell r xs table h es w all z in
      record {
        count = run_count cell r xs table h es w all z;
        left = omega (arith, k, q);
        mem = run_mem cell r xs table h es w all z;
        order = omega (arith, z.order, z.all, length_keep (free (looked_by s xs tops table)) cands);
        fits = omega (arith, k, q);
        few = z.few;
        same = z.same;
      }

  module _ (p : plain_of cell r xs ≡ true) where
    pub plain_ran : record { tally = t; mem = m } ≡ list_of (scene_by s xs tops table) (empty_listing old) (all_pairs (atoms_of xs)) → {e : ℕ} → e ≡ rows_below (atoms_of xs) (rows table) → Ran cell r xs table old t m e
    unfolding scene_by
    plain_ran q is =
        ran (plain_cands cell r xs p) (ended (looked_by s xs tops table) old (all_pairs (atoms_of xs)) t m q (plain_ready (looked_by s xs tops table) (atoms_of xs) few))
        (plain_all cell r xs table h p ∙ ap (λ (k : ℕ). checks_of cell r xs table + k) (sym is))

module _ {cell : Option Lattice} {r : Float} {xs : List Float} {table : List ℕ} {g : Grid} {e : ℕ} {starts items : List ℕ} (w : Gridded cell r xs table g e starts items) where
  grid_atoms : pairs_of g (atoms_by g starts items) ≡ pairs_of (grid_of cell r xs) (bin (atoms_of xs) (cell_at cell r xs))
  grid_atoms =
      pairs_agree g (atoms_by g starts items) (bin (atoms_of xs) (cell_at cell r xs)) w.part
      ∙ ap (λ (k : Grid). pairs_of k (bin (atoms_of xs) (cell_at cell r xs))) w.is

  grid_cands : pairs_of g (atoms_by g starts items) ≡ candidates cell r xs
  unfolding candidates
  grid_cands = rw w.wide grid_atoms

  pub grid_swept : Swept g (length xs / 3) starts items
  grid_swept = record { below = λ c k. rw (w.part c k) (bin_less (atoms_of xs) (cell_at cell r xs) c) }

  module _ (few : atoms_of xs ≤ 16384) where
    pub grid_ready : Ready (record { count = 0; checks = 0 }) (length (pairs_of g (atoms_by g starts items)))
    grid_ready =
        rw grid_atoms
        (binned_ready (scene_of cell r xs table) (grid_of cell r xs) (good_grid cell r xs w.wide) (atoms_of xs) (cell_at cell r xs) (placed cell r xs) few)

    pub grid_ran : is_table (rows table) ≡ true → {s : Sight} → s ≡ sight_of cell r → {tops : List ℕ} → Tops table tops → (old : List ℕ) {t : Tally} {m : List ℕ}
        → record { tally = t; mem = m } ≡ list_of (scene_by s xs tops table) (empty_listing old) (pairs_of g (atoms_by g starts items)) → Ran cell r xs table old t m e
    unfolding scene_by touching_rows
    grid_ran h {s} es {tops} v old {t} {m} q =
        ran cell r xs table h few es v old grid_cands
        (ended (looked_by s xs tops table) old (pairs_of g (atoms_by g starts items)) t m q grid_ready)
        (grid_all cell r xs table h w.wide (good_grid cell r xs w.wide) (placed cell r xs) ∙ ap (λ (k : ℕ). checks_of cell r xs table + k) (sym w.counted))

pub shown_is : {a : Listed} {count checks room c k l : ℕ} (fallback : Bool) → a ≡ shown_of count checks room fallback → count ≡ c → checks ≡ k → room ≡ l → a ≡ shown_of c k l fallback
shown_is fallback e p q s = rw (← p, ← q, ← s) e
