-- A block of Coulomb: what its kept places add is what its rows add, and what these add is what their pairs add. Assumes nothing.
use mathlib.Core.Bool.{Bool, true, false, cond, ◌||◌}
use mathlib.Core.Path.{◌≡◌, refl, sym, ap, ◌∙◌, subst}
use mathlib.Core.List.{List, foldl}
use Prim.Native.Nat.{ℕ, ◌+◌, ◌*◌, ◌<◌, ◌≤◌}
use native.Mathlib.Omega.{arith}
use lib.Ieee.{Float, nan}
use lib.ListN.{length, get_or, set}
use lib.Seq.{get_or-set_same, get_or-set_other}
use Rattle.float.specs.Arith.{◌⊗◌, at}
use Rattle.float.specs.Literals.{f0}
use Rattle.lists.specs.Atoms.{atoms_of}
use Rattle.lists.specs.Lists.{up_to}
use Rattle.ranges.specs.Rows.{is_absent}
use Rattle.cell_prepared.specs.declared.Prepared.{Prepared}
use Rattle.potentials_pair.specs.Coulomb.{neutral, coulomb_near}
use Rattle.potentials_pair.specs.Pull.{Total, after, skips}
use Rattle.potentials.proofs.Blocks.{pair_first, pair_second, pair_other}
use Rattle.potentials.proofs.Laid.{upto, picked_begin, picked_turn, kept_sum, absent_skipped, there_way}
use Rattle.potentials.proofs.Places.{coulomb_absent, coulomb_there}
use Rattle.potentials.specs.Steps.{coulomb_step}
use Rattle.potentials.specs.Blocks.{scaled_pull, coulomb_energy, coulomb_slope, Pulled}
use Rattle.potentials.specs.Rows.{ends_of, way_on, square_on, Rowed, kept_step, product_on, is_idle, coulomb_row, coulomb_rowed, ChargesPicked}

-- ---- the rows that are kept
module _ {ke cutoff : Float} {charges : List Float} {table : List ℕ} {from : ℕ} {ways : List Float} where
  pub charges_begin : (kept : List ℕ) (two : List Float) → ChargesPicked ke cutoff charges table from ways 0 kept two 0
  charges_begin kept two =
      record { picked = picked_begin (is_idle cutoff charges table from ways) kept; products = λ m h. absurd (omega arith); squares = λ m h. absurd (omega arith) }

  module _ {kept : List ℕ} {two : List Float} {k c : ℕ} (u : ChargesPicked ke cutoff charges table from ways k kept two c) (l : c < length kept) (w : 2 * c + 1 < length two)
      {i j : ℕ} (ei : i ≡ get_or table (2 * (from + k)) 0) (ej : j ≡ get_or table (2 * (from + k) + 1) 0) {a b : Float} (ea : a ≡ get_or charges i f0) (eb : b ≡ get_or charges j f0)
      {r2 : Float} (er : r2 ≡ square_on ways k) {x y : Bool} (ex : x ≡ neutral a b) (ey : y ≡ skips cutoff r2) where
    abbrev q : Float
    q = ke ⊗ a ⊗ b

    idle_is : (x || y) ≡ is_idle cutoff charges table from ways k
    unfolding is_idle
    idle_is = rw (ex, ey, er, ea, eb, ei, ej)

    product_is : q ≡ product_on ke charges table from k
    unfolding product_on
    product_is = rw (ea, eb, ei, ej)

    abbrev two' : List Float
    two' = set (set two (2 * c) q) (2 * c + 1) r2

    abbrev held' : List ℕ
    held' = set kept c k

    product_below : (m : ℕ) → m < c → at two' (2 * m) ≡ product_on ke charges table from (get_or held' m 0)
    product_below m h =
        pair_other two c q r2 nan (2 * m) (omega arith) ∙ u.products m h
        ∙ ap (product_on ke charges table from) (sym (get_or-set_other kept c m k 0 (λ z. omega (arith, z))))

    square_below : (m : ℕ) → m < c → at two' (2 * m + 1) ≡ square_on ways (get_or held' m 0)
    square_below m h =
        pair_other two c q r2 nan (2 * m + 1) (omega arith) ∙ u.squares m h
        ∙ ap (square_on ways) (sym (get_or-set_other kept c m k 0 (λ z. omega (arith, z))))

    product_upto : (m : ℕ) → m < c + 1 → at two' (2 * m) ≡ product_on ke charges table from (get_or held' m 0)
    product_upto =
        upto {P = λ (m : ℕ). at two' (2 * m) ≡ product_on ke charges table from (get_or held' m 0)} c
        (pair_first two c q r2 nan w ∙ product_is ∙ ap (product_on ke charges table from) (sym (get_or-set_same kept c k 0 l))) product_below

    square_upto : (m : ℕ) → m < c + 1 → at two' (2 * m + 1) ≡ square_on ways (get_or held' m 0)
    square_upto =
        upto {P = λ (m : ℕ). at two' (2 * m + 1) ≡ square_on ways (get_or held' m 0)} c
        (pair_second two c q r2 nan w ∙ er ∙ ap (square_on ways) (sym (get_or-set_same kept c k 0 l))) square_below

    most : (b : Bool) {c' : ℕ} → c' ≡ cond b c (c + 1) → c' ≤ c + 1
    most true e = omega (arith, e)
    most false e = omega (arith, e)

    pub charges_turn : {c' : ℕ} → c' ≡ cond (x || y) c (c + 1) → ChargesPicked ke cutoff charges table from ways (k + 1) held' two' c'
    charges_turn e =
        record {
          picked = picked_turn (is_idle cutoff charges table from ways) u.picked l (x || y) idle_is e;
          products = λ m h. product_upto m (omega (arith, most (x || y) e));
          squares = λ m h. square_upto m (omega (arith, most (x || y) e));
        }

  pub charges_end : {kept : List ℕ} {two : List Float} {k n c : ℕ} → n ≤ k → k ≤ n → ChargesPicked ke cutoff charges table from ways k kept two c → ChargesPicked ke cutoff charges table from ways n kept two c
  charges_end {kept} {two} {c = c} a b u = subst (λ (z : ℕ). ChargesPicked ke cutoff charges table from ways z kept two c) (omega arith) u

  pub charges_sum : {kept : List ℕ} {two pulls : List Float} {n c : ℕ} → ChargesPicked ke cutoff charges table from ways n kept two c → Pulled (coulomb_energy two) (coulomb_slope two) pulls c → (t : Total) {t' : Total}
      → t' ≡ foldl (kept_step table from kept ways pulls) t (up_to c) → t' ≡ foldl (coulomb_rowed ke cutoff charges table from ways) t (up_to n)
  charges_sum {kept} {two} {pulls} {n} {c} u p t e =
      kept_sum (kept_step table from kept ways pulls) (is_idle cutoff charges table from ways) (coulomb_row ke charges table from ways) u.picked
      (λ m h x.
      unfold kept_step in unfold scaled_pull in unfold coulomb_row in unfold coulomb_near in
      rw (p.energy m h, p.slope m h)
      (unfold coulomb_energy in unfold coulomb_slope in rw (u.products m h, u.squares m h)))
      t e
      ∙ (unfold coulomb_rowed in refl)

-- ---- what a row adds is what its pair adds
or_true : (a b : Bool) → b ≡ true → (a || b) ≡ true
or_true true b e = refl
or_true false b e = e

module _ (ke cutoff : Float) (charges : List Float) (table : List ℕ) (from : ℕ) (ways : List Float) (k : ℕ) (t : Total) where
  abbrev a : Float
  a = get_or charges (get_or table (2 * (from + k)) 0) f0

  abbrev b : Float
  b = get_or charges (get_or table (2 * (from + k) + 1) 0) f0

  idle_none : skips cutoff (square_on ways k) ≡ true → coulomb_rowed ke cutoff charges table from ways t k ≡ t
  unfolding coulomb_rowed is_idle
  idle_none h = rw (or_true (neutral a b) (skips cutoff (square_on ways k)) h)

  busy : cond (neutral a b || skips cutoff (square_on ways k)) t (after t (ends_of table (from + k)) (coulomb_near (ke ⊗ a ⊗ b) (way_on ways k) (square_on ways k))) ≡ coulomb_rowed ke cutoff charges table from ways t k
  unfolding coulomb_rowed is_idle coulomb_row product_on
  busy = refl

module _ (ke cutoff : Float) {p : Prepared} (charges : List Float) {xs : List Float} {table : List ℕ} {from n : ℕ} {ways : List Float} (u : Rowed p xs table from n ways) where
  pub coulomb_row_lem : (k : ℕ) → k < n → (t : Total) → coulomb_rowed ke cutoff charges table from ways t k ≡ coulomb_step ke cutoff p charges xs t (ends_of table (from + k))
  coulomb_row_lem k l t = go (is_absent (atoms_of xs) (ends_of table (from + k))) refl
    where
      go : (b : Bool) → is_absent (atoms_of xs) (ends_of table (from + k)) ≡ b → coulomb_rowed ke cutoff charges table from ways t k ≡ coulomb_step ke cutoff p charges xs t (ends_of table (from + k))
      go true h =
          idle_none ke cutoff charges table from ways k t (absent_skipped u k l h cutoff)
          ∙ coulomb_absent ke cutoff p charges xs (get_or table (2 * (from + k)) 0) (get_or table (2 * (from + k) + 1) 0) h t
      go false h =
          sym (coulomb_there ke cutoff p charges xs (get_or table (2 * (from + k)) 0) (get_or table (2 * (from + k) + 1) 0) h refl refl (there_way u k l h) (u.square k l) refl refl t
          ∙ busy ke cutoff charges table from ways k t)
