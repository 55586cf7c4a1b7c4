-- A run of a build: what the tally and the memory are, by the lists that the outcome names. Assumes nothing.
use Rattle.std.specs.Prelude.{Ok}
use Prim.Native.Nat.{ℕ, ◌+◌, ◌-◌, ◌/◌, ◌≤◌, ◌<◌}
use mathlib.Core.Path.{◌≡◌, sym, ap, ◌∙◌}
use mathlib.Core.Bool.{Bool, true, false, ◌||◌}
use mathlib.Core.List.{List}
use native.Mathlib.Omega.{arith}
use lib.ListN.{length}
use lib.Dec.{eqb, ltb, leb}
use borrow.Author.Tests.{ltb-false, le-ltb, leb-false}
use Rattle.answer.specs.declared.Refusal.TheVariants.{Cells}
use Rattle.answer.specs.Seen.{Seen, refused_by}
use Rattle.lists.specs.Lists.{all_pairs, rows}
use Rattle.lists.proofs.Cases.{or_neither}
use Rattle.bins.proofs.Plans.{planned_plain, planned_many, planned_laid}
use Rattle.bins.specs.declared.Tally.{Tally}
use Rattle.bins.specs.declared.Grid.{Grid}
use Rattle.bins.specs.Axis.{Good}
use Rattle.bins.specs.Edge.{axis_on}
use Rattle.bins.specs.Stencil.{GoodGrid, cells}
use Rattle.bins.specs.Traversal.{pairs_of}
use Rattle.bins.specs.Listing.{Scene, list_of, empty_listing, checked_of, found_of, laid_of, Ready}
use Rattle.bins.proofs.EdgeLaws.{axis_good}
use Rattle.bins.proofs.Found.{plain_checks, binned_checks, binned_ready}
use Rattle.exclusions.specs.Table.{is_table}
use Rattle.exclusions.proofs.Search.{looked_up_lem}
use Rattle.candidates.specs.Checks.{rows_below, rows_touching}
use Rattle.candidates.proofs.Counted.{plain_less, binned_less}
use Rattle.candidates.proofs.Runs.{Ended, ended}
use Rattle.frame.specs.declared.Side.{Side}
use Rattle.frame.specs.declared.Frame.{Frame}
use Rattle.bins.specs.declared.Plan.{Plan}
use Rattle.bins.specs.declared.Plan.TheVariants.{AllPairs, Laid, TooMany}
use Rattle.frame.specs.Distance.{spot_of, near_of}
use Rattle.frame.specs.Laying.{grid_of, cell_at, narrow, plain_of, crowded}
use Rattle.frame.specs.declared.Built.{Built}
use Rattle.frame.specs.Build.{Given, stays, scene_of, candidates, near_pairs, beside, checks_of, shown_of, run_of, after_of, starts_laid, items_laid}
use Rattle.frame.specs.Steps.{Framed, Gridded, looked_by, scene_by, atoms_by, plan_of}
use Rattle.frame.proofs.Tables.{placed}

-- ---- in an exclusion table the lookup is membership, so the loops' scene is the outcome's
pub scene_is : (f : Frame) (xs table : List ℕ) → is_table (rows table) ≡ true → looked_by f xs table ≡ scene_of f xs table
unfolding looked_by scene_of
scene_is f xs table h =
    λ i. record { excluded = λ low high. looked_up_lem table h low high i; near = λ low high. near_of f (spot_of xs low) (spot_of xs high) }

-- ---- the grid is good where it is laid
wide_good : (e : Side) (r : ℕ) → narrow e r ≡ false → Good (axis_on e.round e.edge r)
unfolding narrow
wide_good e r h =
    axis_good e.round e.edge r
    (λ t. let s : ltb (e.edge / r) 3 ≡ false = rw t at h in ltb-false (e.edge / r) 3 s)

pub good_grid : (f : Frame) → plain_of f ≡ false → GoodGrid (grid_of f)
unfolding plain_of grid_of
good_grid f h =
    let r = f.radius in
    let a = or_neither (eqb r 0 || narrow f.x r || narrow f.y r || narrow f.z r) (ltb (cells (grid_of f)) 8) h in
    let b = or_neither (eqb r 0 || narrow f.x r || narrow f.y r) (narrow f.z r) a.0 in
    let c = or_neither (eqb r 0 || narrow f.x r) (narrow f.y r) b.0 in
    let d = or_neither (eqb r 0) (narrow f.x r) c.0 in
    (wide_good f.x r d.1, wide_good f.y r c.1, wide_good f.z r b.1)

-- ---- a run gives the outcome's numbers
module _ (f : Frame) (xs table : List ℕ) (h : is_table (rows table) ≡ true) (old : List ℕ) {t : Tally} {m : List ℕ} where
  module _ (p : plain_of f ≡ true) (z : Ended (looked_by f xs table) old (all_pairs (length xs / 3)) t m) where
    plain_pairs : found_of (looked_by f xs table) (all_pairs (length xs / 3)) ≡ near_pairs f xs table
    unfolding near_pairs candidates
    plain_pairs = rw (p, scene_is f xs table h)

    pub plain_count : t.count ≡ length (near_pairs f xs table)
    plain_count = z.count ∙ ap length plain_pairs

    pub plain_mem : m ≡ laid_of old (near_pairs f xs table)
    plain_mem = z.mem ∙ ap (laid_of old) plain_pairs

    plain_tested : length (checked_of (looked_by f xs table) (all_pairs (length xs / 3))) ≡ checks_of f xs table
    unfolding checks_of beside
    plain_tested = rw (scene_is f xs table h, p) (plain_checks (scene_of f xs table) (length xs / 3))

    plain_all : length (all_pairs (length xs / 3)) ≡ checks_of f xs table + rows_below (length xs / 3) (rows table)
    unfolding checks_of beside scene_of
    plain_all = rw p (plain_less table h (length xs / 3))

    -- the candidates less the rows among them
    module _ {r : ℕ} (is : r ≡ rows_below (length xs / 3) (rows table)) where
      pub plain_room : t.count + r ≤ t.checks
      plain_room = omega (arith, z.order, z.all, plain_tested, plain_all, is)

      pub plain_left : t.checks - r ≡ checks_of f xs table
      plain_left = omega (arith, z.all, plain_all, is)

  module _ (p : plain_of f ≡ false) (framed : Framed f xs) (z : Ended (looked_by f xs table) old (pairs_of (grid_of f) (atoms_by f xs)) t m) where
    grid_pairs : found_of (looked_by f xs table) (pairs_of (grid_of f) (atoms_by f xs)) ≡ near_pairs f xs table
    unfolding near_pairs candidates
    grid_pairs = rw (p, scene_is f xs table h)

    pub grid_count : t.count ≡ length (near_pairs f xs table)
    grid_count = z.count ∙ ap length grid_pairs

    pub grid_mem : m ≡ laid_of old (near_pairs f xs table)
    grid_mem = z.mem ∙ ap (laid_of old) grid_pairs

    grid_tested : length (checked_of (looked_by f xs table) (pairs_of (grid_of f) (atoms_by f xs))) ≡ checks_of f xs table
    unfolding checks_of beside
    grid_tested =
        rw (scene_is f xs table h, p)
        (binned_checks (scene_of f xs table) (grid_of f) (good_grid f p) (length xs / 3) (cell_at f xs) (placed f xs framed))

    grid_all : length (pairs_of (grid_of f) (atoms_by f xs)) ≡ checks_of f xs table + rows_touching (grid_of f) (length xs / 3) (cell_at f xs) (rows table)
    unfolding checks_of beside scene_of
    grid_all = rw p (binned_less table h (length xs / 3) (grid_of f) (good_grid f p) (cell_at f xs) (placed f xs framed))

    module _ {r : ℕ} (is : r ≡ rows_touching (grid_of f) (length xs / 3) (cell_at f xs) (rows table)) where
      pub grid_room : t.count + r ≤ t.checks
      grid_room = omega (arith, z.order, z.all, grid_tested, grid_all, is)

      pub grid_left : t.checks - r ≡ checks_of f xs table
      grid_left = omega (arith, z.all, grid_all, is)

pub grid_ready : (f : Frame) (xs : List ℕ) → plain_of f ≡ false → Framed f xs → length xs / 3 ≤ 16384 → (e : Scene) → Ready (record { count = 0; checks = 0 }) (length (pairs_of (grid_of f) (atoms_by f xs)))
grid_ready f xs p framed few e = binned_ready e (grid_of f) (good_grid f p) (length xs / 3) (cell_at f xs) (placed f xs framed) few

pub shown_is : {a : Seen Built} {count checks room c k r : ℕ} (fallback : Bool) → a ≡ shown_of count checks room fallback → count ≡ c → checks ≡ k → room ≡ r → a ≡ shown_of c k r fallback
shown_is fallback e p q s = rw (← p, ← q, ← s) e

module _ {f : Frame} {g : Grid} {xs : List ℕ} (w : Gridded f g) (framed : Framed f xs) (few : length xs / 3 ≤ 16384) where
  pub sweep_ready : (e : Scene) → Ready (record { count = 0; checks = 0 }) (length (pairs_of g (atoms_by f xs)))
  sweep_ready e = rw w.is (grid_ready f xs w.wide framed few e)

  pub sweep_ended : (table old : List ℕ) (t : Tally) (m : List ℕ) → record { tally = t; mem = m } ≡ list_of (scene_by f xs table) (empty_listing old) (pairs_of g (atoms_by f xs))
      → Ended (looked_by f xs table) old (pairs_of (grid_of f) (atoms_by f xs)) t m
  sweep_ended table old t m q =
      ended (looked_by f xs table) old (pairs_of (grid_of f) (atoms_by f xs)) t m (rw w.is at q) (grid_ready f xs w.wide framed few (scene_by f xs table))

-- ---- what a plan shows
module _ (f : Frame) (starts : ℕ) {p : Plan} (is : p ≡ plan_of f starts) where
  pub plan_plain : p ≡ AllPairs → plain_of f ≡ true
  unfolding plan_of
  plan_plain e = planned_plain (plain_of f) (crowded f starts) (grid_of f) (sym is ∙ e)

  pub plan_crowd : p ≡ TooMany → (plain_of f ≡ false) × (crowded f starts ≡ true)
  unfolding plan_of
  plan_crowd e = planned_many (plain_of f) (crowded f starts) (grid_of f) (sym is ∙ e)

  module _ {g : Grid} (e : p ≡ Laid g) where
    pub plan_grid : (plain_of f ≡ false) × (crowded f starts ≡ false) × (g ≡ grid_of f)
    unfolding plan_of
    plan_grid = planned_laid (plain_of f) (crowded f starts) (grid_of f) g (sym is ∙ e)

    both : (ltb 32768 (cells (grid_of f)) ≡ false) × (leb starts (cells (grid_of f)) ≡ false)
    unfolding crowded
    both = or_neither (ltb 32768 (cells (grid_of f))) (leb starts (cells (grid_of f))) plan_grid.1

    pub plan_gridded : Gridded f g
    plan_gridded =
        record { is = plan_grid.2; wide = plan_grid.0; few = rw plan_grid.2 (ltb-false 32768 (cells (grid_of f)) both.0) }

    pub plan_room : cells g < starts
    plan_room = rw plan_grid.2 (leb-false starts (cells (grid_of f)) both.1)

-- ---- the outcome of a build whose tests have passed, by its cases
module _ (i : Given) (many : 2 ≤ length i.coordinates / 3) where
  pub after_plain : plain_of i.frame ≡ true → {a : Seen Built} {m : List ℕ}
      → a ≡ shown_of (length (near_pairs i.frame i.coordinates i.exclusions)) (checks_of i.frame i.coordinates i.exclusions) (length i.pairs / 2) true
      → m ≡ laid_of i.pairs (near_pairs i.frame i.coordinates i.exclusions)
      → record { answer = a; pairs = m; starts = i.starts; items = i.items } ≡ after_of i (Ok tt)
  unfolding after_of run_of
  after_plain p e q = rw (le-ltb (length i.coordinates / 3) 2 many, p, e, q)

  module _ (w : plain_of i.frame ≡ false) where
    pub after_crowded : crowded i.frame (length i.starts) ≡ true → stays i (refused_by Cells) ≡ after_of i (Ok tt)
    unfolding after_of
    after_crowded c = rw (le-ltb (length i.coordinates / 3) 2 many, w, c)

    pub after_grid : crowded i.frame (length i.starts) ≡ false → {a : Seen Built} {m s t : List ℕ}
        → a ≡ shown_of (length (near_pairs i.frame i.coordinates i.exclusions)) (checks_of i.frame i.coordinates i.exclusions) (length i.pairs / 2) false
        → m ≡ laid_of i.pairs (near_pairs i.frame i.coordinates i.exclusions)
        → s ≡ starts_laid i.frame i.coordinates i.starts → t ≡ items_laid i.frame i.coordinates i.items
        → record { answer = a; pairs = m; starts = s; items = t } ≡ after_of i (Ok tt)
    unfolding after_of run_of
    after_grid c e q es et = rw (le-ltb (length i.coordinates / 3) 2 many, w, c, e, q, es, et)
