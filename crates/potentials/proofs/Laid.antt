-- A block of rows side by side: what stands at a row is how its atoms lie, in a box by one axis after the other; and what the kept places of a block add is
-- what its rows add. Assumes nothing.
use mathlib.Core.Bool.{Bool, true, false, cond, ◌&&◌, ◌||◌, false≢true}
use mathlib.Core.Path.{◌≡◌, refl, sym, ap, ap₂, ◌∙◌, subst}
use mathlib.Core.Logic.{⊎_elim}
use mathlib.Core.List.{List, foldl}
use Prim.Native.Nat.{ℕ, suc, zero, ◌+◌, ◌-◌, ◌*◌, ◌/◌, ◌<◌, ◌≤◌}
use native.Mathlib.Nat.{zero-add}
use native.Mathlib.Omega.{arith}
use lib.Dec.{T}
use lib.Ieee.{Float, nan, binary64, fits, lt}
use lib.ListN.{length, get_or, set, drop, length-set}
use lib.Seq.{get_or-set_same, get_or-set_other}
use Rattle.float.specs.Arith.{◌⊗◌, at}
use Rattle.float.specs.Literals.{tiny}
use Rattle.float.specs.Def.{abs_of}
use Rattle.float.proofs.Branches.{both_true}
use Rattle.lists.specs.Atoms.{atoms_of}
use Rattle.lists.specs.Lists.{numbers, up_to, rows}
use Rattle.lists.proofs.Cases.{same_or}
use Rattle.lists.proofs.Rows.{rows_at, length_rows}
use Rattle.lists.proofs.Walks.{fold_next}
use Rattle.ranges.specs.Rows.{is_absent}
use Rattle.cell.specs.declared.Vec3.{Vec3}
use Rattle.cell.specs.Vec.{zero_vec, sub_of, scale_of, norm2_of, position_at}
use Rattle.cell_axis.specs.Image.{NearSays}
use Rattle.cell_prepared.specs.declared.Prepared.{Prepared}
use Rattle.cell_prepared.specs.Facts.{short_axis, is_short, short_image, diff_in, image_in, InnerSays, SettledSays}
use Rattle.cell_prepared.proofs.Law.{near_axis}
use Rattle.virial.specs.declared.Sum.{Sum}
use Rattle.virial.specs.Virial.{sum_with_energy, sum_with_pair, forces_with_pair}
use Rattle.potentials_pair.specs.Pull.{Total, held, skips}
use Rattle.potentials.proofs.Blocks.{folds_agree, fold_last}
use Rattle.potentials.proofs.Folds.{Left}
use Rattle.potentials.specs.Terms.{displaced}
use Rattle.potentials.specs.Blocks.{scaled_pull}
use Rattle.potentials.specs.Rows.{kept_step, RowsThere, way_on, square_on, set_way, set_row, ends_of, way_of, Rowed, RowedSays, Differ, AxisTurned, AxisSays, AllInner, Squared, BoxTurned, Picked}

-- of the numbers up to k, k itself and those before it
pub upto : {P : ℕ → Type 0} (k : ℕ) → P k → ((m : ℕ) → m < k → P m) → (m : ℕ) → m < k + 1 → P m
upto {P} k here there m h = ⊎_elim (λ (q : m ≡ k). subst P (sym q) here) (λ (q : m ≡ k → ⊥). there m (omega (arith, q))) (same_or m k)

-- ---- a row that is written
module _ (ways : List Float) (t : ℕ) (d : Vec3) where
  abbrev one : List Float
  one = set ways t d.x

  abbrev both : List Float
  both = set one (128 + t) d.y

  way_at : (k : ℕ) → (k ≡ t → ⊥) → (k ≡ 128 + t → ⊥) → (k ≡ 256 + t → ⊥) → at (set_way ways t d) k ≡ at ways k
  way_at k p q r = get_or-set_other both (256 + t) k d.z nan r ∙ get_or-set_other one (128 + t) k d.y nan q ∙ get_or-set_other ways t k d.x nan p

  way_length : length (set_way ways t d) ≡ length ways
  way_length = length-set both (256 + t) d.z ∙ length-set one (128 + t) d.y ∙ length-set ways t d.x

  module _ (l : t < 128) (b : length ways ≡ 512) where
    first_here : at (set_way ways t d) t ≡ d.x
    first_here =
        get_or-set_other both (256 + t) t d.z nan (λ q. omega (arith, q)) ∙ get_or-set_other one (128 + t) t d.y nan (λ q. omega (arith, q))
        ∙ get_or-set_same ways t d.x nan (omega arith)

    second_here : at (set_way ways t d) (128 + t) ≡ d.y
    second_here =
        get_or-set_other both (256 + t) (128 + t) d.z nan (λ q. omega (arith, q))
        ∙ get_or-set_same one (128 + t) d.y nan (omega (arith, length-set ways t d.x))

    third_here : at (set_way ways t d) (256 + t) ≡ d.z
    third_here = get_or-set_same both (256 + t) d.z nan (omega (arith, length-set one (128 + t) d.y, length-set ways t d.x))

    way_here : way_on (set_way ways t d) t ≡ d
    way_here = λ i. record { x = first_here i; y = second_here i; z = third_here i }

    way_below : (m : ℕ) → m < t → way_on (set_way ways t d) m ≡ way_on ways m
    way_below m h =
        λ i. record {
          x = way_at m (λ q. omega (arith, q)) (λ q. omega (arith, q)) (λ q. omega (arith, q)) i;
          y = way_at (128 + m) (λ q. omega (arith, q)) (λ q. omega (arith, q)) (λ q. omega (arith, q)) i;
          z = way_at (256 + m) (λ q. omega (arith, q)) (λ q. omega (arith, q)) (λ q. omega (arith, q)) i;
        }

    -- .. with its square
    module _ (r2 : Float) where
      abbrev row : List Float
      row = set_row ways t d r2

      row_at : (k : ℕ) → k < 384 → at row k ≡ at (set_way ways t d) k
      row_at k h = get_or-set_other (set_way ways t d) (384 + t) k r2 nan (λ q. omega (arith, q))

      row_way : (m : ℕ) → m < 128 → way_on row m ≡ way_on (set_way ways t d) m
      row_way m h = λ i. record { x = row_at m (omega arith) i; y = row_at (128 + m) (omega arith) i; z = row_at (256 + m) (omega arith) i }

      row_square : square_on row t ≡ r2
      row_square = get_or-set_same (set_way ways t d) (384 + t) r2 nan (omega (arith, way_length))

      row_square_below : (m : ℕ) → m < t → square_on row m ≡ square_on ways m
      row_square_below m h =
          get_or-set_other (set_way ways t d) (384 + t) (384 + m) r2 nan (λ q. omega (arith, q))
          ∙ way_at (384 + m) (λ q. omega (arith, q)) (λ q. omega (arith, q)) (λ q. omega (arith, q))

-- ---- the differences
module _ {xs : List Float} {table : List ℕ} {from : ℕ} where
  pub differ_begin : (ways : List Float) → Differ xs table from 0 ways
  differ_begin ways = record { there = λ t h. absurd (omega arith); are = λ t h. absurd (omega arith) }

  pub differ_turn : {ways : List Float} {k : ℕ} → Differ xs table from k ways → k < 128 → length ways ≡ 512 → {i j : ℕ} → i ≡ get_or table (2 * (from + k)) 0 → j ≡ get_or table (2 * (from + k) + 1) 0
      → is_absent (atoms_of xs) (i, j) ≡ false → {a b d : Vec3} → a ≡ position_at xs i → b ≡ position_at xs j → d ≡ sub_of a b → Differ xs table from (k + 1) (set_way ways k d)
  differ_turn {ways} {k} u l w {i} {j} ei ej h {a} {b} {d} ea eb ed =
      record {
        there = upto k (ap₂ (λ (x y : ℕ). is_absent (atoms_of xs) (x, y)) (sym ei) (sym ej) ∙ h) u.there;
        are =
            upto k
            (way_here ways k d l w ∙ ed ∙ ap₂ sub_of (ea ∙ ap (position_at xs) ei) (eb ∙ ap (position_at xs) ej))
            (λ m q. way_below ways k d l w m q ∙ u.are m q);
      }

  pub differ_end : {ways : List Float} {k : ℕ} (n : ℕ) → n ≤ k → Differ xs table from k ways → Differ xs table from n ways
  differ_end n h u = record { there = λ t q. u.there t (omega arith); are = λ t q. u.are t (omega arith) }

-- ---- one axis
module _ {len : Float} {o : ℕ} where
  pub inner_begin : (ways : List Float) → AllInner len o 0 ways ways true
  inner_begin ways =
      record {
        added = record { below = λ k h. refl; above = λ k h. refl; settled = λ m h. absurd (omega arith) };
        short = λ e m h. absurd (omega arith);
        image = λ e m h. absurd (omega arith);
      }

  pub inner_turn : {before now : List Float} {k : ℕ} {ok r : Bool} {y : Float} → AllInner len o k before now ok → o + k < length now → InnerSays len (at now (o + k)) r → SettledSays (at now (o + k)) y
      → AllInner len o (k + 1) before (set now (o + k) y) (ok && r)
  inner_turn {before} {now} {k} {ok} {r} {y} u l w v =
      let e : at now (o + k) ≡ at before (o + k) = u.added.above (o + k) (omega arith) in
      let w' : InnerSays len (at before (o + k)) r = subst (λ (z : Float). InnerSays len z r) e w in
      let v' : SettledSays (at before (o + k)) (at (set now (o + k) y) (o + k)) =
      subst (λ (z : Float). SettledSays (at before (o + k)) z) (sym (get_or-set_same now (o + k) y nan l)) (subst (λ (z : Float). SettledSays z y) e v) in
      record {
        added =
            record {
              below = λ m q. get_or-set_other now (o + k) m y nan (λ z. omega (arith, z)) ∙ u.added.below m q;
              above = λ m q. get_or-set_other now (o + k) m y nan (λ z. omega (arith, z)) ∙ u.added.above m (omega arith);
              settled =
                  upto {P = λ (m : ℕ). SettledSays (at before (o + m)) (at (set now (o + k) y) (o + m))} k v'
                  (λ m q.
                  subst (λ (z : Float). SettledSays (at before (o + m)) z) (sym (get_or-set_other now (o + k) (o + m) y nan (λ z. omega (arith, z)))) (u.added.settled m q));
            };
        short = λ t. let p = both_true ok r t in upto k (w'.short p.1) (u.short p.0);
        image = λ t. let p = both_true ok r t in upto k (w'.image p.1) (u.image p.0);
      }

  pub inner_end : {before now : List Float} {k n : ℕ} {ok : Bool} → n ≤ k → k ≤ n → AllInner len o k before now ok → AllInner len o n before now ok
  inner_end {before} {now} {ok = ok} a b u = subst (λ (z : ℕ). AllInner len o z before now ok) (omega arith) u

  pub axis_begin : (ways : List Float) → AxisSays len o 0 ways ways true
  axis_begin ways =
      record {
        turned = λ e. record { below = λ k h. refl; above = λ k h. refl; short = λ m h. absurd (omega arith); image = λ m h. absurd (omega arith) };
      }

  axis_one : {before now : List Float} {k : ℕ} → AxisTurned len o k before now → o + k < length now → {a r : Float} → a ≡ abs_of (at now (o + k)) → lt a len ≡ true → NearSays a len (at now (o + k)) r
      → AxisTurned len o (k + 1) before (set now (o + k) r)
  axis_one {before} {now} {k} u l {a} {r} ea h w =
      let e : at now (o + k) ≡ at before (o + k) = u.above (o + k) (omega arith) in
      record {
        below = λ m q. get_or-set_other now (o + k) m r nan (λ z. omega (arith, z)) ∙ u.below m q;
        above = λ m q. get_or-set_other now (o + k) m r nan (λ z. omega (arith, z)) ∙ u.above m (omega arith);
        short = upto k (ap (λ (z : Float). lt z len) (ap abs_of (sym e) ∙ sym ea) ∙ h) u.short;
        image =
            upto k (get_or-set_same now (o + k) r nan l ∙ near_axis a len (at now (o + k)) r ea h w ∙ ap (short_axis len) e)
            (λ m q. get_or-set_other now (o + k) (o + m) r nan (λ z. omega (arith, z)) ∙ u.image m q);
      }

  pub axis_turn : {before now : List Float} {k : ℕ} {ok : Bool} → AxisSays len o k before now ok → o + k < length now → {a r : Float} → a ≡ abs_of (at now (o + k)) → NearSays (abs_of (at now (o + k))) len (at now (o + k)) r
      → AxisSays len o (k + 1) before (set now (o + k) r) (ok && lt a len)
  axis_turn {before} {now} {k} {ok} u l {a} {r} ea w =
      record {
        turned =
            λ e.
            let p = both_true ok (lt a len) e in
            axis_one (u.turned p.0) l {r = r} refl (ap (λ (z : Float). lt z len) (sym ea) ∙ p.1) w;
      }

  pub axis_end : {before now : List Float} {k n : ℕ} {ok : Bool} → n ≤ k → k ≤ n → AxisSays len o k before now ok → AxisSays len o n before now ok
  axis_end {before} {now} {ok = ok} a b u = subst (λ (z : ℕ). AxisSays len o z before now ok) (omega arith) u

  -- where each is its own image, and where not
  pub axis_still : {before now : List Float} {n : ℕ} {r : Bool} → AllInner len o n before now r → r ≡ true → AxisSays len o n before now true
  axis_still u e =
      record {
        turned = λ z. record { below = u.added.below; above = u.added.above; short = u.short e; image = λ m q. (u.added.settled m q).is ∙ u.image e m q };
      }

  pub axis_settled : T (fits binary64 len) → {before mid now : List Float} {n : ℕ} {q r : Bool} → AllInner len o n before mid q → AxisSays len o n mid now r → AxisSays len o n before now r
  axis_settled F {before} {mid} {now} {n} u w =
      record {
        turned =
            λ e.
            let v = w.turned e in
            let s : (m : ℕ) → m < n → lt (abs_of (at before (o + m))) len ≡ true = λ m h. ap (λ (z : Float). lt z len) (sym (u.added.settled m h).magnitude) ∙ v.short m h in
            record {
              below = λ k h. v.below k h ∙ u.added.below k h;
              above = λ k h. v.above k h ∙ u.added.above k h;
              short = s;
              image = λ m h. v.image m h ∙ (u.added.settled m h).image len F (s m h);
            };
      }

-- ---- the squares
way_kept : (before now : List Float) → ((k : ℕ) → k < 384 → at now k ≡ at before k) → (m : ℕ) → m < 128 → way_on now m ≡ way_on before m
way_kept before now e m h = λ i. record { x = e m (omega arith) i; y = e (128 + m) (omega arith) i; z = e (256 + m) (omega arith) i }

pub squared_begin : (ways : List Float) → Squared 0 ways ways
squared_begin ways = record { below = λ k h. refl; square = λ m h. absurd (omega arith) }

pub squared_turn : {before now : List Float} {k : ℕ} → Squared k before now → k < 128 → length now ≡ 512 → {r2 : Float} → r2 ≡ norm2_of (way_on now k) → Squared (k + 1) before (set now (384 + k) r2)
squared_turn {before} {now} {k} u l b {r2} e =
    record {
      below = λ m q. get_or-set_other now (384 + k) m r2 nan (λ z. omega (arith, z)) ∙ u.below m q;
      square =
          upto k (get_or-set_same now (384 + k) r2 nan (omega (arith, b)) ∙ e ∙ ap norm2_of (way_kept before now u.below k l))
          (λ m q. get_or-set_other now (384 + k) (384 + m) r2 nan (λ z. omega (arith, z)) ∙ u.square m q);
    }

pub squared_end : {before now : List Float} {k : ℕ} (n : ℕ) → n ≤ k → Squared k before now → Squared n before now
squared_end n h u = record { below = u.below; square = λ m q. u.square m (omega arith) }

-- ---- the three axes of a box
module _ (s : Vec3) {n : ℕ} (l : n ≤ 128) {a b c d e : List Float} {x y z : Bool} (X : AxisSays s.x 0 n a b x) (Y : AxisSays s.y 128 n b c y) (Z : AxisSays s.z 256 n c d z) (Q : Squared n d e) where
  pub box_turned : BoxTurned s n a e (x && y && z)
  box_turned =
      record {
        short =
            λ h t q.
            let p = both_true (x && y) z h in
            let r = both_true x y p.0 in
            let tx = X.turned r.0 in
            let ty = Y.turned r.1 in
            let tz = Z.turned p.1 in
            rw (
              sym (ap (λ (k : ℕ). lt (abs_of (at a k)) s.x) (zero-add t)) ∙ tx.short t q,
              ap (λ (v : Float). lt (abs_of v) s.y) (sym (tx.above (128 + t) (omega arith))) ∙ ty.short t q,
              ap (λ (v : Float). lt (abs_of v) s.z) (sym (ty.above (256 + t) (omega arith) ∙ tx.above (256 + t) (omega arith))) ∙ tz.short t q,
            );
        image =
            λ h t q.
            let p = both_true (x && y) z h in
            let r = both_true x y p.0 in
            let tx = X.turned r.0 in
            let ty = Y.turned r.1 in
            let tz = Z.turned p.1 in
            λ i. record {
              x = (Q.below t (omega arith) ∙ tz.below t (omega arith) ∙ ty.below t (omega arith) ∙ ap (at b) (sym (zero-add t)) ∙ tx.image t q ∙ ap (λ (k : ℕ). short_axis s.x (at a k)) (zero-add t)) i;
              y = (Q.below (128 + t) (omega arith) ∙ tz.below (128 + t) (omega arith) ∙ ty.image t q ∙ ap (short_axis s.y) (tx.above (128 + t) (omega arith))) i;
              z = (Q.below (256 + t) (omega arith) ∙ tz.image t q ∙ ap (short_axis s.z) (ty.above (256 + t) (omega arith) ∙ tx.above (256 + t) (omega arith))) i;
            };
        square = λ h t q. Q.square t q ∙ ap norm2_of (sym (way_kept d e Q.below t (omega arith)));
      }

-- ---- the rows
short_way : (p : Prepared) (d : Vec3) → is_short p.short d ≡ true → short_image p.short d ≡ (image_in p d).diff
short_way p d h = unfold image_in in unfold diff_in in sym (rw h)

module _ (p : Prepared) {xs : List Float} {table : List ℕ} {from : ℕ} where
  pub rowed_short : {n : ℕ} {before now : List Float} {r : Bool} → Differ xs table from n before → BoxTurned p.short n before now r → RowedSays p xs table from n now r
  rowed_short u w =
      record {
        rowed =
            λ e. record {
              way =
                  λ t q.
                  w.image e t q ∙ short_way p _ (w.short e t q)
                  ∙ (unfold way_of in unfold displaced in rw (u.there t q, u.are t q));
              square = w.square e;
            };
      }

  pub rowed_not : {n : ℕ} {now : List Float} {r : Bool} → r ≡ false → RowedSays p xs table from n now r
  rowed_not e = record { rowed = λ h. absurd (false≢true (sym e ∙ h)) }

  pub rowed_begin : (ways : List Float) → Rowed p xs table from 0 ways
  rowed_begin ways = record { way = λ t h. absurd (omega arith); square = λ t h. absurd (omega arith) }

  pub rowed_turn : {ways ways' : List Float} {k : ℕ} → Rowed p xs table from k ways → k < 128 → length ways ≡ 512 → {i j : ℕ} → i ≡ get_or table (2 * (from + k)) 0 → j ≡ get_or table (2 * (from + k) + 1) 0
      → {d : Vec3} → d ≡ way_of p xs (i, j) → ways' ≡ set_row ways k d (norm2_of d) → Rowed p xs table from (k + 1) ways'
  rowed_turn {ways} {ways'} {k} u l b {i} {j} ei ej {d} ed ew =
      rw ew
      (record {
        way =
            upto k (row_way ways k d l b (norm2_of d) k l ∙ way_here ways k d l b ∙ ed ∙ ap₂ (λ (x y : ℕ). way_of p xs (x, y)) ei ej)
            (λ m q. row_way ways k d l b (norm2_of d) m (omega arith) ∙ way_below ways k d l b m q ∙ u.way m q);
        square =
            upto k (row_square ways k d l b (norm2_of d) ∙ ap norm2_of (sym (row_way ways k d l b (norm2_of d) k l ∙ way_here ways k d l b)))
            (λ m q.
            row_square_below ways k d l b (norm2_of d) m q ∙ u.square m q
            ∙ ap norm2_of (sym (row_way ways k d l b (norm2_of d) m (omega arith) ∙ way_below ways k d l b m q)));
      })

  pub rowed_end : {ways : List Float} {k : ℕ} (n : ℕ) → n ≤ k → Rowed p xs table from k ways → Rowed p xs table from n ways
  rowed_end n h u = record { way = λ t q. u.way t (omega arith); square = λ t q. u.square t (omega arith) }

-- ---- those that are kept
module _ (skip : ℕ → Bool) where
  pub picked_begin : (kept : List ℕ) → Picked skip 0 kept 0
  unfolding numbers
  picked_begin kept = record { few = omega arith; within = λ m h. absurd (omega arith); same = λ g t. refl }

  module _ {kept : List ℕ} {k c : ℕ} (u : Picked skip k kept c) (l : c < length kept) where
    abbrev kept' : List ℕ
    kept' = set kept c k

    kept_below : (m : ℕ) → m < c → get_or kept' m 0 ≡ get_or kept m 0
    kept_below m h = get_or-set_other kept c m k 0 (λ q. omega (arith, q))

    kept_here : get_or kept' c 0 ≡ k
    kept_here = get_or-set_same kept c k 0 l

    abbrev through : (Total → ℕ → Total) → List ℕ → Total → ℕ → Total
    through g list x m = g x (get_or list m 0)

    abbrev rowwise : (Total → ℕ → Total) → Total → ℕ → Total
    rowwise g x n = cond (skip n) x (g x n)

    so_far : (g : Total → ℕ → Total) (t : Total) → foldl (through g kept') t (up_to c) ≡ foldl (rowwise g) t (up_to k)
    so_far g t = folds_agree {p = through g kept} {p' = through g kept'} c (λ m h x. ap (g x) (kept_below m h)) t ∙ u.same g t

    pub picked_turn : (skipped : Bool) → skipped ≡ skip k → {c' : ℕ} → c' ≡ cond skipped c (c + 1) → Picked skip (k + 1) kept' c'
    picked_turn true e q =
        record {
          few = omega (arith, q, u.few);
          within = λ m h. subst (λ (z : ℕ). z < k + 1) (sym (kept_below m (omega (arith, q)))) (omega (arith, u.within m (omega (arith, q))));
          same =
              λ g t. ap (λ (n : ℕ). foldl (through g kept') t (up_to n)) q ∙ so_far g t
              ∙ ap (λ (b : Bool). cond b (foldl (rowwise g) t (up_to k)) (g (foldl (rowwise g) t (up_to k)) k)) e
              ∙ sym (fold_last (rowwise g) k t);
        }
    picked_turn false e q =
        record {
          few = omega (arith, q, u.few);
          within =
              λ m h. upto {P = λ (z : ℕ). get_or kept' z 0 < k + 1} c (subst (λ (z : ℕ). z < k + 1) (sym kept_here) (omega arith))
              (λ z r. subst (λ (w : ℕ). w < k + 1) (sym (kept_below z r)) (omega (arith, u.within z r))) m (omega (arith, q));
          same =
              λ g t. ap (λ (n : ℕ). foldl (through g kept') t (up_to n)) q ∙ fold_last (through g kept') c t ∙ ap (g (foldl (through g kept') t (up_to c))) kept_here
              ∙ ap (λ (x : Total). g x k) (so_far g t)
              ∙ ap (λ (b : Bool). cond b (foldl (rowwise g) t (up_to k)) (g (foldl (rowwise g) t (up_to k)) k)) e
              ∙ sym (fold_last (rowwise g) k t);
        }

-- ---- the loop over blocks: each row of one adds what the list's row adds
module _ (f : Total → ℕ × ℕ → Total) (table : List ℕ) (g : Total → ℕ → Total) (from : ℕ) where
  rows_from : (k n : ℕ) → from + (k + n) ≤ length table / 2 → ((m : ℕ) → k ≤ m → m < k + n → (t : Total) → g t m ≡ f t (ends_of table (from + m))) → (t : Total)
      → foldl f (foldl g t (numbers k n)) (drop (from + (k + n)) (rows table)) ≡ foldl f t (drop (from + k) (rows table))
  unfolding numbers
  rows_from k zero h e t = let z : from + (k + 0) ≡ from + k = omega arith in ap (λ (i : ℕ). foldl f t (drop i (rows table))) z
  rows_from k (suc n) h e t =
      let y : from + (k + suc n) ≡ from + (k + 1 + n) = omega arith in
      let z : from + (k + 1) ≡ from + k + 1 = omega arith in
      ap (λ (i : ℕ). foldl f (foldl g (g t k) (numbers (k + 1) n)) (drop i (rows table))) y
      ∙ rows_from (k + 1) n (omega arith) (λ m a b. e m (omega arith) (omega arith)) (g t k)
      ∙ ap (λ (x : Total). foldl f x (drop (from + (k + 1)) (rows table))) (e k (omega arith) (omega arith) t ∙ ap (f t) (sym (rows_at table (from + k) (omega arith))))
      ∙ ap (λ (i : ℕ). foldl f (f t (get_or (rows table) (from + k) (0, 0))) (drop i (rows table))) z
      ∙ sym (fold_next (0, 0) (rows table) (from + k) f t (omega (arith, length_rows table)))

  pub rows_turn : {to : ℕ} → from ≤ to → to ≤ length table / 2 → ((m : ℕ) → m < to - from → (t : Total) → g t m ≡ f t (ends_of table (from + m)))
      → {t t' r : Total} → Left f (rows table) from t r → t' ≡ foldl g t (up_to (to - from)) → Left f (rows table) to t' r
  rows_turn {to} a b e {t} {t'} w q =
      let y : to ≡ from + (0 + (to - from)) = omega arith in
      let z : from + 0 ≡ from = omega arith in
      record {
        same =
            ap (λ (x : Total). foldl f x (drop to (rows table))) q
            ∙ ap (λ (i : ℕ). foldl f (foldl g t (up_to (to - from))) (drop i (rows table))) y
            ∙ rows_from 0 (to - from) (omega arith) (λ m h l. e m (omega arith)) t
            ∙ ap (λ (i : ℕ). foldl f t (drop i (rows table))) z
            ∙ w.same;
      }

-- ---- a place added
pub kept_added : (table : List ℕ) (from : ℕ) (kept : List ℕ) (ways pulls : List Float) (sum : Sum) (forces : List Float) (m : ℕ) {i j : ℕ} → i ≡ get_or table (2 * (from + get_or kept m 0)) 0 → j ≡ get_or table (2 * (from + get_or kept m 0) + 1) 0
    → {f : Vec3} {s r : Sum} {after : List Float} → f ≡ scale_of (way_on ways (get_or kept m 0)) (at pulls (2 * m + 1)) → s ≡ sum_with_energy sum (at pulls (2 * m))
    → r ≡ sum_with_pair s (way_on ways (get_or kept m 0)) f → after ≡ forces_with_pair forces i j f
    → held r after ≡ kept_step table from kept ways pulls (held sum forces) m
kept_added table from kept ways pulls sum forces m ei ej ef es er ea = unfold kept_step in unfold scaled_pull in rw (er, ea, es, ef, ei, ej)

-- ---- what the kept places add is what the rows add
pub kept_sum : (p : Total → ℕ → Total) (skip : ℕ → Bool) (g : Total → ℕ → Total) {kept : List ℕ} {n c : ℕ} → Picked skip n kept c → ((m : ℕ) → m < c → (x : Total) → p x m ≡ g x (get_or kept m 0)) → (t : Total) {t' : Total}
    → t' ≡ foldl p t (up_to c) → t' ≡ foldl (λ (x : Total) (k : ℕ). cond (skip k) x (g x k)) t (up_to n)
kept_sum p skip g {kept} {n} {c} u e t q = q ∙ folds_agree {p = λ (x : Total) (m : ℕ). g x (get_or kept m 0)} {p' = p} c e t ∙ u.same g t

pub rows_there : {table : List ℕ} {from : ℕ} {kept : List ℕ} {skip : ℕ → Bool} {n c : ℕ} → Picked skip n kept c → n ≤ 128 → 128 ≤ length kept → from + n ≤ length table / 2 → RowsThere table from kept c
rows_there u a b d =
    record {
      few = omega (arith, u.few);
      room = b;
      small = λ m h. omega (arith, u.within m h);
      there = λ m h. omega (arith, u.within m h);
    }

-- a row with an atom that is not there is skipped
zero_square : lt (norm2_of zero_vec) tiny ≡ true
unfolding lt lib.Ieee.add lib.Ieee.mul lib.Ieee.of_bits norm2_of
zero_square = refl

pub zero_skipped : (cutoff : Float) → skips cutoff (norm2_of zero_vec) ≡ true
unfolding skips
zero_skipped cutoff = go (lt (cutoff ⊗ cutoff) (norm2_of zero_vec))
  where
    go : (b : Bool) → (b || lt (norm2_of zero_vec) tiny) ≡ true
    go true = refl
    go false = zero_square

module _ {p : Prepared} {xs : List Float} {table : List ℕ} {from n : ℕ} {ways : List Float} (u : Rowed p xs table from n ways) (k : ℕ) (l : k < n) where
  pub absent_skipped : is_absent (atoms_of xs) (ends_of table (from + k)) ≡ true → (cutoff : Float) → skips cutoff (square_on ways k) ≡ true
  absent_skipped h cutoff =
      let w : way_of p xs (ends_of table (from + k)) ≡ zero_vec = unfold way_of in rw h in
      ap (skips cutoff) (u.square k l ∙ ap norm2_of (u.way k l ∙ w)) ∙ zero_skipped cutoff

  pub there_way : is_absent (atoms_of xs) (ends_of table (from + k)) ≡ false → way_on ways k ≡ displaced (λ d. image_in p d) xs (ends_of table (from + k))
  there_way h =
      let w : way_of p xs (ends_of table (from + k)) ≡ displaced (λ d. image_in p d) xs (ends_of table (from + k)) = unfold way_of in rw h in
      u.way k l ∙ w
