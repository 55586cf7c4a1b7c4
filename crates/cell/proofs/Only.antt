-- For each public call: no second answer fits what it says. Nothing is lent. Assumes nothing.
use Rattle.answer.specs.Seen.{seen}
use Rattle.std.specs.Prelude.{Err, None, Ok, Option, Result, Some}
use Rattle.answer.specs.declared.Refusal.{Refusal}
use Rattle.cell.specs.declared.Image.{Image}
use Rattle.std.specs.Prelude.{Bool}
use mathlib.Core.Path.{◌≡◌, refl, sym, ap, ◌∙◌}
use lib.Ieee.{Float}
use Rattle.answer.proofs.Only.{told_back, made, seen_only}
use Rattle.cell.specs.declared.Vec3.{Vec3}
use Rattle.cell.specs.declared.Lattice.{Lattice}
use Rattle.cell.specs.declared.Rows.{Rows}
use Rattle.cell.specs.Calls.{OrthorhombicSays, CubicSays, IsOrthorhombicSays, MatrixSays, VolumeSays, InverseSays, ToFractionalSays, ToCartesianSays, WrapSays, PerpWidthsSays, MinImageSays}

-- ---- the calls
pub orthorhombic_only : (lx : Float) (ly : Float) (lz : Float) (u v : Result Lattice Refusal) → OrthorhombicSays lx ly lz u → OrthorhombicSays lx ly lz v → u ≡ v
orthorhombic_only lx ly lz u v p q = seen_only u v (p ∙ sym q)

pub cubic_only : (l : Float) (u v : Result Lattice Refusal) → CubicSays l u → CubicSays l v → u ≡ v
cubic_only l u v p q = seen_only u v (p ∙ sym q)

pub is_orthorhombic_only : (l : Lattice) (u v : Result Bool Refusal) → IsOrthorhombicSays l u → IsOrthorhombicSays l v → u ≡ v
is_orthorhombic_only l u v p q = seen_only u v (p ∙ sym q)

pub matrix_only : (l : Lattice) (u v : Result Rows Refusal) → MatrixSays l u → MatrixSays l v → u ≡ v
matrix_only l u v p q = seen_only u v (p ∙ sym q)

pub volume_only : (l : Lattice) (u v : Result Float Refusal) → VolumeSays l u → VolumeSays l v → u ≡ v
volume_only l u v p q = seen_only u v (p ∙ sym q)

pub inverse_only : (l : Lattice) (u v : Result (Option Rows) Refusal) → InverseSays l u → InverseSays l v → u ≡ v
inverse_only l u v p q = seen_only u v (p ∙ sym q)

pub to_fractional_only : (l : Lattice) (r : Vec3) (u v : Result Vec3 Refusal) → ToFractionalSays l r u → ToFractionalSays l r v → u ≡ v
to_fractional_only l r u v p q = seen_only u v (p ∙ sym q)

pub to_cartesian_only : (l : Lattice) (s : Vec3) (u v : Result Vec3 Refusal) → ToCartesianSays l s u → ToCartesianSays l s v → u ≡ v
to_cartesian_only l s u v p q = seen_only u v (p ∙ sym q)

pub wrap_only : (l : Lattice) (r : Vec3) (u v : Result Vec3 Refusal) → WrapSays l r u → WrapSays l r v → u ≡ v
wrap_only l r u v p q = seen_only u v (p ∙ sym q)

pub perp_widths_only : (l : Lattice) (u v : Result Vec3 Refusal) → PerpWidthsSays l u → PerpWidthsSays l v → u ≡ v
perp_widths_only l u v p q = seen_only u v (p ∙ sym q)

pub min_image_only : (d : Vec3) (cell : Option Lattice) (u v : Result Image Refusal) → MinImageSays d cell u → MinImageSays d cell v → u ≡ v
min_image_only d cell u v p q = seen_only u v (p ∙ sym q)
