-- The long way on three axes is the source's formula on each: what `box_image` and `round_fraction` found. Assumes nothing.
use mathlib.Core.Path.{◌≡◌, sym, ◌∙◌}
use mathlib.Core.Bool.{Bool, true, ◌&&◌}
use lib.Dec.{T}
use lib.Ieee.{Float, binary64, fits, of_bits}
use Rattle.float.proofs.Branches.{both_true}
use Rattle.float.specs.Def.{abs_of}
use Rattle.cell_axis.specs.Image.{axis_of, in_reach, FarSays}
use Rattle.cell_axis.proofs.Unit.{nearest_one}
use Rattle.cell.specs.Cell.{one, round_axis_of}
use Rattle.cell.specs.General.{box_by, rounded_by}

-- one axis: a is the magnitude of x, t the answer of `in_reach`, r that of `far`
pub record Axis (a len x : Float) (t : Bool) (r : Float) : Type 0 where
  pub magnitude : a ≡ abs_of x
  pub reach : t ≡ in_reach a len
  pub far : FarSays a len x r

on_axis : (p : Bool) (a len x : Float) (t : Bool) (r : Float) → Axis a len x t r → p ≡ true → t ≡ true → r ≡ axis_of p len x
unfolding axis_of
on_axis p a len x t r g h k = rw h (g.far.formula g.magnitude (sym g.reach ∙ k))

on_fraction : (p : Bool) (a x : Float) (t : Bool) (r : Float) → T (fits binary64 x) → Axis a one x t r → p ≡ true → t ≡ true → r ≡ round_axis_of p x
unfolding round_axis_of
on_fraction p a x t r F g h k = rw h (g.far.formula g.magnitude (sym g.reach ∙ k) ∙ unfold of_bits in nearest_one x F)

-- the tests in one
pub record Six (p q r s t u : Bool) : Type 0 where
  pub px : p ≡ true
  pub py : q ≡ true
  pub pz : r ≡ true
  pub tx : s ≡ true
  pub ty : t ≡ true
  pub tz : u ≡ true

six : (px py pz tx ty tz : Bool) → (px && py && pz && (tx && ty && tz)) ≡ true → Six px py pz tx ty tz
six px py pz tx ty tz h =
    let a = both_true (px && py && pz) (tx && ty && tz) h in
    let b = both_true (px && py) pz a.0 in
    let c = both_true px py b.0 in
    let d = both_true (tx && ty) tz a.1 in
    let e = both_true tx ty d.0 in
    record { px = c.0; py = c.1; pz = b.1; tx = e.0; ty = e.1; tz = d.1 }

pub box_far : (px py pz : Bool) (lx ly lz dx dy dz ax ay az : Float) (tx ty tz : Bool) (u v w : Float) → Axis ax lx dx tx u → Axis ay ly dy ty v → Axis az lz dz tz w
    → (px && py && pz && (tx && ty && tz)) ≡ true → record { x = u; y = v; z = w } ≡ box_by px py pz lx ly lz dx dy dz
box_far px py pz lx ly lz dx dy dz ax ay az tx ty tz u v w gx gy gz h =
    let s = six px py pz tx ty tz h in
    λ i. record {
      x = on_axis px ax lx dx tx u gx s.px s.tx i;
      y = on_axis py ay ly dy ty v gy s.py s.ty i;
      z = on_axis pz az lz dz tz w gz s.pz s.tz i;
    }

pub fraction_far : (px py pz : Bool) (x y z ax ay az : Float) (tx ty tz : Bool) (u v w : Float) → T (fits binary64 x) → T (fits binary64 y) → T (fits binary64 z)
    → Axis ax one x tx u → Axis ay one y ty v → Axis az one z tz w → (px && py && pz && (tx && ty && tz)) ≡ true → record { x = u; y = v; z = w } ≡ rounded_by px py pz x y z
fraction_far px py pz x y z ax ay az tx ty tz u v w fx fy fz gx gy gz h =
    let s = six px py pz tx ty tz h in
    λ i. record {
      x = on_fraction px ax x tx u fx gx s.px s.tx i;
      y = on_fraction py ay y ty v fy gy s.py s.ty i;
      z = on_fraction pz az z tz w fz gz s.pz s.tz i;
    }
