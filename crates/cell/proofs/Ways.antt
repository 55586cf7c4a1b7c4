-- `Ways l` for every upright lattice in range, and a lattice at exactly 1e-9. Assumes nothing.
use mathlib.Core.Path.{◌≡◌, refl, sym, ◌∙◌, subst}
use Prim.Native.Nat.{ℕ, zero, suc, ◌+◌, ◌*◌, ◌^◌}
use mathlib.Core.Bool.{Bool, true, false, cond, ◌&&◌, ◌||◌, true≢false}
use lib.Dec.{ltb}
use lib.Ieee.{Float, nan, inf, fin, Format, binary64, prec, emax, low, add, sum, lt, eq, le, is_nan, round, units, odd, up, down, of_bits}
use lib.Ieee.Fits.{round_is}
use lib.Ieee.Order.{kept, drop}
use Rattle.float.proofs.Branches.{both_true}
use Rattle.float.specs.Arith.{◌⊕◌, bits}
use Rattle.float.specs.Def.{abs_of}
use Rattle.ranges.specs.Ranged.{within}
use Rattle.ranges.proofs.Finite.{Finite, within_finite}
use Rattle.cell.specs.declared.Vec3.{Vec3}
use Rattle.cell.specs.declared.Lattice.{Lattice}
use Rattle.cell.specs.Ranged.{entry_limit, vec_within, lattice_in_range}
use Rattle.cell.specs.Cell.{off_diagonal_of, is_orthorhombic_of, skewed_of, nano}
use Rattle.cell.specs.Ways.{Upright, Ways}
use Rattle.cell.proofs.Order.{lt_not_gt, lt_not_ge, eq_not_lt, compared}

-- ---- the sum of magnitudes is a number
-- no not-a-number, and not negative
abbrev pub Up : Float → Type 0
Up nan = ⊥
Up (inf true) = ⊥
Up (inf false) = Unit {0}
Up (fin true m e) = ⊥
Up (fin false m e) = Unit {0}

up_odd : (d q k l : ℕ) → Up (odd d false q k l)
unfolding odd
up_odd d zero k l = tt
up_odd d (suc q) k l = tt

up_units : (f : Format) (q k : ℕ) → Up (units f false q k)
unfolding units
up_units f q k = go (ltb (q * 2 ^ k) (2 ^ (low f + suc (emax f))))
  where
    go : (b : Bool) → Up (cond b (odd (suc (prec f)) false q k (low f)) (inf false))
    go true = up_odd (suc (prec f)) q k (low f)
    go false = tt

up_round : (a c : ℕ) → Up (round binary64 false a c)
up_round a c =
    let n = a * 2 ^ low binary64 in
    subst Up (sym (round_is binary64 false a c)) (up_units binary64 (kept 53 n c) (drop 53 n c))

up_add : (x y : Float) → Up x → Up y → Up (x ⊕ y)
unfolding add sum
up_add nan y p q = absurd p
up_add (inf true) y p q = absurd p
up_add (inf false) nan p q = absurd q
up_add (inf false) (inf true) p q = absurd q
up_add (inf false) (inf false) p q = tt
up_add (inf false) (fin t n d) p q = tt
up_add (fin true m e) y p q = absurd p
up_add (fin false m e) nan p q = absurd q
up_add (fin false m e) (inf true) p q = absurd q
up_add (fin false m e) (inf false) p q = tt
up_add (fin false m e) (fin true n d) p q = absurd q
up_add (fin false m e) (fin false n d) p q = up_round (m * up e * down d + n * up d * down e) (down e * down d)

up_abs : (x : Float) → Finite x → Up (abs_of x)
unfolding abs_of
up_abs nan f = absurd f
up_abs (inf s) f = absurd f
up_abs (fin s m e) f = tt

up_number : (x : Float) → Up x → is_nan x ≡ false
unfolding is_nan
up_number nan p = absurd p
up_number (inf s) p = refl
up_number (fin s m e) p = refl

entry_finite : Finite entry_limit
unfolding of_bits
entry_finite = tt

up_within : (x : Float) → within entry_limit x ≡ true → Up (abs_of x)
up_within x h = up_abs x (within_finite entry_limit x entry_finite h)

pub record Entries (v : Vec3) : Type 0 where
  pub x : Up (abs_of v.x)
  pub y : Up (abs_of v.y)
  pub z : Up (abs_of v.z)

entries : (v : Vec3) → vec_within entry_limit v ≡ true → Entries v
unfolding vec_within
entries v h =
    let p2 = both_true (within entry_limit v.x && within entry_limit v.y) (within entry_limit v.z) h in
    let p1 = both_true (within entry_limit v.x) (within entry_limit v.y) p2.0 in
    record { x = up_within v.x p1.0; y = up_within v.y p1.1; z = up_within v.z p2.1 }

off_diagonal_number : (l : Lattice) → lattice_in_range l ≡ true → is_nan (off_diagonal_of l) ≡ false
unfolding lattice_in_range off_diagonal_of
off_diagonal_number l h =
    let p2 = both_true (vec_within entry_limit l.a && vec_within entry_limit l.b) (vec_within entry_limit l.c) h in
    let p1 = both_true (vec_within entry_limit l.a) (vec_within entry_limit l.b) p2.0 in
    let a = entries l.a p1.0 in
    let b = entries l.b p1.1 in
    let c = entries l.c p2.1 in
    up_number _ (up_add _ _ (up_add _ _ (up_add _ _ (up_add _ _ (up_add _ _ a.y a.z) b.x) b.z) c.x) c.y)

-- ---- the two tests
nano_number : is_nan nano ≡ false
unfolding is_nan of_bits
nano_number = refl

-- of an upright lattice the sum alone decides the way
skewed_is : (l : Lattice) → Upright l → skewed_of l ≡ lt nano (off_diagonal_of l)
unfolding skewed_of
skewed_is l u =
    rw (lt_not_ge (bits 0) l.a.x u.x, lt_not_ge (bits 0) l.b.y u.y, lt_not_ge (bits 0) l.c.z u.z)
    (or_none (lt nano (off_diagonal_of l)))
  where
    or_none : (b : Bool) → (b || false || false || false) ≡ b
    or_none true = refl
    or_none false = refl

-- two tests that agree are both false, where the one excludes the other
neither : (p q : Bool) → (p ≡ true → q ≡ false) → p ≡ q → (p ≡ false) × (q ≡ false)
neither true true x e = absurd (true≢false (x refl))
neither true false x e = absurd (true≢false e)
neither false q x e = (refl, sym e)

pub ways : (l : Lattice) → Upright l → lattice_in_range l ≡ true → Ways l
unfolding is_orthorhombic_of
ways l u r =
    let s = off_diagonal_of l in
    record {
      below = λ h. (h, skewed_is l u ∙ lt_not_gt s nano h);
      exactly = λ h. ((eq_not_lt s nano h).0, skewed_is l u ∙ (eq_not_lt s nano h).1);
      above = λ h. (lt_not_gt nano s h, skewed_is l u ∙ h);
      only_there = λ h.
          let n = neither (lt s nano) (lt nano s) (lt_not_gt s nano) (h ∙ skewed_is l u) in
          compared s nano (off_diagonal_number l r) nano_number n.0 n.1;
    }

abbrev pub ten : Float
ten = bits 0x4024_0000_0000_0000

-- ---- there is such a lattice: a cube of edge 10 whose first vector leans by 1e-9
abbrev pub leaning : Lattice
leaning =
    record {
      a = record { x = ten; y = nano; z = bits 0 };
      b = record { x = bits 0; y = ten; z = bits 0 };
      c = record { x = bits 0; y = bits 0; z = ten };
      px = true;
      py = true;
      pz = true;
    }

pub at_the_edge : Upright leaning × (lattice_in_range leaning ≡ true) × (eq (off_diagonal_of leaning) nano ≡ true)
unfolding lattice_in_range vec_within within off_diagonal_of abs_of lt le eq add of_bits
at_the_edge = (record { x = refl; y = refl; z = refl }, refl, refl)
