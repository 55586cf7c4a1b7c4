-- Three axes: a way is three steps, and has a number from 0 to 26 with digits 0, 1, 2 for -1, 0, 1; turning it round takes the number from 26.
-- Row s of the half stencil is the way with the number 13 + s, so of a way and the way back one is a row, and both only at row 0. Assumes nothing.
use Rattle.std.specs.Prelude.{None, Option, Some}
use mathlib.Core.Path.{◌≡◌, refl, sym, ap, ◌∙◌, subst}
use mathlib.Core.Logic.{◌⊎◌, inl, inr, ⊎_elim}
use mathlib.Core.Bool.{Bool, true, false, cond, ◌&&◌}
use Prim.Native.Nat.{ℕ, zero, suc, ◌+◌, ◌-◌, ◌*◌, ◌≤◌, ◌<◌}
use native.Mathlib.Omega.{arith}
use native.Mathlib.Nat.{eq-zero-or-pos, mod-lt}
use borrow.Author.Tests.{eqb-true, leb-true, ltb-true}
use lib.Dec.{eqb, leb, ltb}
use lib.IntN.{ℤ, pos, negsuc, ◌+ℤ◌}
use Rattle.bins.specs.declared.Axis.{Axis}
use Rattle.bins.specs.declared.Grid.{Grid}
use Rattle.bins.specs.declared.Cell.{Cell}
use Rattle.bins.specs.Axis.{stepped, rem_euclid, bin_within}
use Rattle.bins.specs.Stencil.{GoodGrid, InGrid, Row, MetOnce, touching, half_stencil, offset, joined_bins, reached}
use Rattle.lists.specs.Lists.{every, up_to, numbers}
use Rattle.lists.proofs.Cases.{below_or, and_both, both_and}
use Rattle.lists.proofs.Walks.{every_at}
use Rattle.lists.proofs.Exactness.{numbers_at, length_up_to}
use Rattle.bins.proofs.AxisLaws.{off_is, Dir, back, stay, on, sign, turned, Leads, leads_turned, touch_Leads, Leads-touch, only_step, stepped_Leads, Leads-stepped}

-- ---- ways
pub record Way : Type 0 where
  pub x : Dir
  pub y : Dir
  pub z : Dir

abbrev pub round_about : Way → Way
round_about w = record { x = turned w.x; y = turned w.y; z = turned w.z }

digit : Dir → ℕ
digit back = 0
digit stay = 1
digit on = 2

digit_less : (d : Dir) → digit d < 3
unfolding digit
digit_less back = omega arith
digit_less stay = omega arith
digit_less on = omega arith

digit_turned : (d : Dir) → digit d + digit (turned d) ≡ 2
unfolding digit
digit_turned back = refl
digit_turned stay = refl
digit_turned on = refl

dir_of : ℕ → Dir
dir_of zero = back
dir_of (suc zero) = stay
dir_of (suc (suc n)) = on

dir_digit : (d : Dir) → dir_of (digit d) ≡ d
unfolding digit dir_of
dir_digit back = refl
dir_digit stay = refl
dir_digit on = refl

digit_inj : (d e : Dir) → digit d ≡ digit e → d ≡ e
digit_inj d e p = sym (dir_digit d) ∙ ap dir_of p ∙ dir_digit e

code : Way → ℕ
code w = 9 * digit w.x + 3 * digit w.y + digit w.z

code_inj : (v w : Way) → code v ≡ code w → v ≡ w
unfolding code
code_inj v w e =
    let px = digit_less v.x in let py = digit_less v.y in let pz = digit_less v.z in
    let qx = digit_less w.x in let qy = digit_less w.y in let qz = digit_less w.z in
    way_is v w (digit_inj _ _ (omega arith)) (digit_inj _ _ (omega arith)) (digit_inj _ _ (omega arith))
  where
    way_is : (v w : Way) → v.x ≡ w.x → v.y ≡ w.y → v.z ≡ w.z → v ≡ w
    way_is v w p q r = λ i. record { x = p i; y = q i; z = r i }

code_less : (w : Way) → code w < 27
unfolding code
code_less w = omega (arith, digit_less w.x, digit_less w.y, digit_less w.z)

code_turned : (w : Way) → code w + code (round_about w) ≡ 26
unfolding code
code_turned w = omega (arith, digit_turned w.x, digit_turned w.y, digit_turned w.z)

-- ---- the table
as_dir : ℤ → Dir
as_dir (pos zero) = stay
as_dir (pos (suc k)) = on
as_dir (negsuc k) = back

small : ℤ → Bool
small (pos k) = leb k 1
small (negsuc k) = eqb k 0

small_sign : (z : ℤ) → small z ≡ true → sign (as_dir z) ≡ z
unfolding small as_dir
small_sign (pos zero) e = refl
small_sign (pos (suc k)) e = ap pos (omega (arith, leb-true (suc k) 1 e))
small_sign (negsuc k) e = ap negsuc (sym (eqb-true _ _ e))

pub way : ℕ → Way
way s = record { x = as_dir (offset s 0); y = as_dir (offset s 1); z = as_dir (offset s 2) }

right : ℕ → Bool
right s = eqb (code (way s)) (s + 13) && (small (offset s 0) && (small (offset s 1) && small (offset s 2)))

all_right : every right (up_to 14) ≡ true
unfolding every numbers right code digit way as_dir small offset half_stencil
all_right = refl

right_at : (s : ℕ) → s < 14 → right s ≡ true
right_at s h =
    ap right (sym (numbers_at 0 14 s h ∙ omega arith)) ∙ every_at 0 right (up_to 14) all_right s (omega (arith, length_up_to 14))

record RightRow (s : ℕ) : Type 0 where
  number : code (way s) ≡ s + 13
  on_x : sign (way s).x ≡ offset s 0
  on_y : sign (way s).y ≡ offset s 1
  on_z : sign (way s).z ≡ offset s 2

right_row : (s : ℕ) → s < 14 → RightRow s
unfolding right way
right_row s h =
    let a = and_both _ _ (right_at s h) in
    let b = and_both _ _ a.1 in
    let c = and_both _ _ b.1 in
    record {
      number = eqb-true _ _ a.0;
      on_x = small_sign (offset s 0) b.0;
      on_y = small_sign (offset s 1) c.0;
      on_z = small_sign (offset s 2) c.1;
    }

pub row_inj : (s t : ℕ) → s < 14 → t < 14 → way s ≡ way t → s ≡ t
row_inj s t h k e = omega (arith, (right_row s h).number, (right_row t k).number, ap code e)

pub row_turned : (s t : ℕ) → s < 14 → t < 14 → way s ≡ round_about (way t) → (s ≡ 0) × (t ≡ 0)
row_turned s t h k e =
    omega (arith, (right_row s h).number, (right_row t k).number, ap code e, code_turned (way t))

-- of a way and the way back one is a row
pub one_is_row : (w : Way) → ((s : ℕ) × (s < 14) × (way s ≡ w)) ⊎ ((s : ℕ) × (s < 14) × (way s ≡ round_about w))
one_is_row w = ⊎_elim (λ h. inr (row_of (round_about w) (omega (arith, code_turned w)))) (λ h. inl (row_of w h)) (below_or (code w) 13)
  where
    row_of : (v : Way) → 13 ≤ code v → (s : ℕ) × (s < 14) × (way s ≡ v)
    row_of v h =
        let l : code v - 13 < 14 = omega (arith, code_less v) in
        (code v - 13, l, code_inj (way (code v - 13)) v (omega (arith, (right_row (code v - 13) l).number)))

-- ---- what a way leads to
pub LeadsBy : Grid → Way → Cell → Cell → Type 0
LeadsBy g w a b = Leads g.x w.x a.x b.x × Leads g.y w.y a.y b.y × Leads g.z w.z a.z b.z

way_is : (v w : Way) → v.x ≡ w.x → v.y ≡ w.y → v.z ≡ w.z → v ≡ w
way_is v w p q r = λ i. record { x = p i; y = q i; z = r i }

pub cell_is : (a b : Cell) → a.x ≡ b.x → a.y ≡ b.y → a.z ≡ b.z → a ≡ b
cell_is a b p q r = λ i. record { x = p i; y = q i; z = r i }

pub nowhere_to : (c : Cell) → None ≡ Some c → ⊥
nowhere_to c e = let z : ◌≡◌ {A = ℕ} 0 1 = cc in omega arith

pub to_inj : (a b : Cell) → Some a ≡ Some b → a ≡ b
to_inj a b e = cc

joined_to : (p q r : Option ℕ) (c : Cell) → joined_bins p q r ≡ Some c → (p ≡ Some c.x) × (q ≡ Some c.y) × (r ≡ Some c.z)
unfolding joined_bins
joined_to None q r c e = absurd (nowhere_to c e)
joined_to (Some a) None r c e = absurd (nowhere_to c e)
joined_to (Some a) (Some b) None c e = absurd (nowhere_to c e)
joined_to (Some a) (Some b) (Some d) c e =
    let f = to_inj (record { x = a; y = b; z = d }) c e in
    (ap (λ (t : Cell). Some t.x) f, ap (λ (t : Cell). Some t.y) f, ap (λ (t : Cell). Some t.z) f)

to_joined : {p q r : Option ℕ} (c : Cell) → p ≡ Some c.x → q ≡ Some c.y → r ≡ Some c.z → joined_bins p q r ≡ Some c
unfolding joined_bins
to_joined c e f h = rw (e, f, h) refl

module _ (g : Grid) where
  pub back_again : (w : Way) (a b : Cell) → LeadsBy g w a b → LeadsBy g (round_about w) b a
  unfolding LeadsBy
  back_again w a b h =
      (leads_turned g.x w.x _ _ h.0, leads_turned g.y w.y _ _ h.1, leads_turned g.z w.z _ _ h.2)

  pub only_way : GoodGrid g → (v w : Way) (a b : Cell) → LeadsBy g v a b → LeadsBy g w a b → v ≡ w
  unfolding LeadsBy
  only_way k v w a b p q =
      way_is v w (only_step g.x k.0 _ _ _ _ p.0 q.0) (only_step g.y k.1 _ _ _ _ p.1 q.1)
      (only_step g.z k.2 _ _ _ _ p.2 q.2)

  pub touching_way : (a b : Cell) → touching g a b ≡ true → (w : Way) × LeadsBy g w a b
  unfolding touching LeadsBy
  touching_way a b h =
      let p = and_both _ _ h in
      let q = and_both _ _ p.1 in
      let x = touch_Leads g.x a.x b.x p.0 in
      let y = touch_Leads g.y a.y b.y q.0 in
      let z = touch_Leads g.z a.z b.z q.1 in
      (record { x = x.0; y = y.0; z = z.0 }, (x.1, y.1, z.1))

  pub way_touching : (w : Way) (a b : Cell) → LeadsBy g w a b → touching g a b ≡ true
  unfolding touching LeadsBy
  way_touching w a b h =
      both_and _ _ (Leads-touch g.x _ _ w.x h.0)
      (both_and _ _ (Leads-touch g.y _ _ w.y h.1) (Leads-touch g.z _ _ w.z h.2))

  pub reached_way : (a b : Cell) (s : ℕ) → InGrid g a → s < 14 → reached g a s ≡ Some b → LeadsBy g (way s) a b
  unfolding reached LeadsBy
  reached_way a b s k h e =
      let r = right_row s h in
      let t = joined_to _ _ _ b e in (
        stepped_Leads g.x (way s).x _ _ k.0 (rw r.on_x t.0),
        stepped_Leads g.y (way s).y _ _ k.1 (rw r.on_y t.1),
        stepped_Leads g.z (way s).z _ _ k.2 (rw r.on_z t.2),
      )

  pub way_reached : (a b : Cell) (s : ℕ) → InGrid g a → InGrid g b → s < 14 → LeadsBy g (way s) a b → reached g a s ≡ Some b
  unfolding reached LeadsBy
  way_reached a b s k l h e =
      let r = right_row s h in
      to_joined b (rw r.on_x at (Leads-stepped g.x (way s).x _ _ k.0 l.0 e.0))
      (rw r.on_y at (Leads-stepped g.y (way s).y _ _ k.1 l.1 e.1))
      (rw r.on_z at (Leads-stepped g.z (way s).z _ _ k.2 l.2 e.2))

  -- row 0 leads home
  pub stays : (a : Cell) → LeadsBy g (way 0) a a
  unfolding LeadsBy way as_dir offset half_stencil
  stays a = (refl, refl, refl)

  -- only row 0 does
  pub only_home : GoodGrid g → (a : Cell) (s : ℕ) → s < 14 → LeadsBy g (way s) a a → s ≡ 0
  only_home good a s h l = row_inj s 0 h (omega arith) (only_way good (way s) (way 0) a a l (stays a))

  pub only_row : GoodGrid g → (a b : Cell) (s t : ℕ) → s < 14 → t < 14 → LeadsBy g (way s) a b → LeadsBy g (way t) a b → s ≡ t
  only_row good a b s t h k l m = row_inj s t h k (only_way good (way s) (way t) a b l m)

  -- a row there and a row back are both row 0, which leads home
  pub there_and_back : GoodGrid g → (a b : Cell) (s t : ℕ) → s < 14 → t < 14 → LeadsBy g (way s) a b → LeadsBy g (way t) b a → (s ≡ 0) × (t ≡ 0)
  there_and_back good a b s t h k l m = row_turned s t h k (only_way good (way s) (round_about (way t)) a b l (back_again (way t) b a m))

  -- cells that touch: a row leads from one to the other
  pub touching_row : (a b : Cell) → touching g a b ≡ true → ((s : ℕ) × (s < 14) × LeadsBy g (way s) a b) ⊎ ((s : ℕ) × (s < 14) × LeadsBy g (way s) b a)
  touching_row a b h =
      let t = touching_way a b h in
      ⊎_elim (λ r. inl (r.0, r.1, rw r.2 t.1)) (λ r. inr (r.0, r.1, rw r.2 (back_again t.0 a b t.1)))
      (one_is_row t.0)

  pub same_home : (a b : Cell) → LeadsBy g (way 0) a b → a ≡ b
  unfolding LeadsBy way as_dir offset half_stencil
  same_home a b h = cell_is a b h.0 h.1 h.2

  pub touching_turned : (a b : Cell) → touching g a b ≡ true → touching g b a ≡ true
  touching_turned a b h = let t = touching_way a b h in way_touching (round_about t.0) b a (back_again t.0 a b t.1)

-- On good axes, two cells of the grid touch exactly where they are one, or one row leads from one of them to the other.
pub met_once : (g : Grid) → GoodGrid g → (a b : Cell) → InGrid g a → InGrid g b → MetOnce g a b
met_once g good a b ka kb =
    record {
      found = found;
      touches = λ r. way_touching g (way r.0) a b (by a b ka r);
      touches_back = λ r. touching_turned g b a (way_touching g (way r.0) b a (by b a kb r));
      one_row = λ p q. only_row g good a b p.0 q.0 p.2 q.2 (by a b ka p) (by a b ka q);
      one_way =
          λ p q. let z = there_and_back g good a b p.0 q.0 p.2 q.2 (by a b ka p) (by b a kb q) in omega (arith, p.1, z.0);
      apart =
          λ p e.
          let z = only_home g good a p.0 p.2 (subst (λ (t : Cell). LeadsBy g (way p.0) a t) (sym e) (by a b ka p)) in
          omega (arith, p.1);
    }
  where
    by : (c d : Cell) → InGrid g c → (r : Row g c d) → LeadsBy g (way r.0) c d
    by c d k r = reached_way g c d r.0 k r.2 r.3

    row : (c d : Cell) → InGrid g c → InGrid g d → (c ≡ d → ⊥) → ((s : ℕ) × (s < 14) × LeadsBy g (way s) c d) → Row g c d
    row c d kc kd n r =
        ⊎_elim (λ e. absurd (n (same_home g c d (subst (λ (t : ℕ). LeadsBy g (way t) c d) e r.2))))
        (λ h. (r.0, h, r.1, way_reached g c d r.0 kc kd r.1 r.2)) (eq-zero-or-pos r.0)

    found : touching g a b ≡ true → (a ≡ b → ⊥) → Row g a b ⊎ Row g b a
    found h n = ⊎_elim (λ r. inl (row a b ka kb n r)) (λ r. inr (row b a kb ka (λ e. n (sym e)) r)) (touching_row g a b h)

-- each step of a row is -1, 0 or 1
pub offset_dir : (s : ℕ) → s < 14 → (offset s 0 ≡ sign (way s).x) × (offset s 1 ≡ sign (way s).y) × (offset s 2 ≡ sign (way s).z)
offset_dir s h = let r = right_row s h in (sym r.on_x, sym r.on_y, sym r.on_z)

-- ---- for the code: what three steps make of a row
module _ (g : Grid) (c : Cell) (s : ℕ) where
  pub off_x : stepped g.x c.x (offset s 0) ≡ None → None ≡ reached g c s
  unfolding reached joined_bins
  off_x e = rw e refl

  pub off_y : {x : ℕ} → stepped g.x c.x (offset s 0) ≡ Some x → stepped g.y c.y (offset s 1) ≡ None → None ≡ reached g c s
  unfolding reached joined_bins
  off_y e f = rw (e, f) refl

  pub off_z : {x y : ℕ} → stepped g.x c.x (offset s 0) ≡ Some x → stepped g.y c.y (offset s 1) ≡ Some y → stepped g.z c.z (offset s 2) ≡ None → None ≡ reached g c s
  unfolding reached joined_bins
  off_z e f h = rw (e, f, h) refl

  pub to_cell : {x y z : ℕ} → stepped g.x c.x (offset s 0) ≡ Some x → stepped g.y c.y (offset s 1) ≡ Some y → stepped g.z c.z (offset s 2) ≡ Some z → Some (record { x = x; y = y; z = z }) ≡ reached g c s
  unfolding reached joined_bins
  to_cell e f h = rw (e, f, h) refl

-- what is reached is in the grid
rem_less : (v : ℤ) (n : ℕ) → 0 < n → rem_euclid v n < n
unfolding rem_euclid
rem_less (pos k) n h = mod-lt k h
rem_less (negsuc k) n h = omega arith

within_less : (n : ℕ) (v : ℤ) (b : ℕ) → bin_within n v ≡ Some b → b < n
unfolding bin_within
within_less n (pos k) b e = go (ltb k n) refl e
  where
    go : (t : Bool) → ltb k n ≡ t → cond t (Some k) None ≡ Some b → b < n
    go true p q = let r : k ≡ b = cc in omega (arith, ltb-true k n p)
    go false p q = absurd (off_is b q)
within_less n (negsuc k) b e = absurd (off_is b e)

stepped_less : (a : Axis) (c : ℕ) (d : ℤ) (b : ℕ) → stepped a c d ≡ Some b → (c < a.size) × (b < a.size)
unfolding stepped
stepped_less a c d b e = go (ltb c a.size) a.round refl e
  where
    go : (t r : Bool) → ltb c a.size ≡ t → cond t (cond r (Some (rem_euclid (pos c +ℤ d) a.size)) (bin_within a.size (pos c +ℤ d))) None ≡ Some b → (c < a.size) × (b < a.size)
    go false r p q = absurd (off_is b q)
    go true true p q =
        let h = ltb-true c a.size p in
        let r : rem_euclid (pos c +ℤ d) a.size ≡ b = cc in
        (h, omega (arith, rem_less (pos c +ℤ d) a.size (omega arith)))
    go true false p q = (ltb-true c a.size p, within_less a.size (pos c +ℤ d) b q)

-- a row leads only from a cell of the grid, and only to one
pub reached_from : (g : Grid) (a b : Cell) (s : ℕ) → reached g a s ≡ Some b → InGrid g a × InGrid g b
unfolding reached
reached_from g a b s e =
    let t = joined_to _ _ _ b e in
    let x = stepped_less g.x a.x (offset s 0) b.x t.0 in
    let y = stepped_less g.y a.y (offset s 1) b.y t.1 in
    let z = stepped_less g.z a.z (offset s 2) b.z t.2 in
    ((x.0, y.0, z.0), (x.1, y.1, z.1))
