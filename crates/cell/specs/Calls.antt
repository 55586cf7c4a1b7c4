-- What each public call says: one relation a call, the whole of its `ensures`. Each answers by the definition that carries its name, and refuses 3, place 0, exactly where an
-- argument is out of range (01, "Refusal numbers"). proofs/Only.antt shows that no second answer fits.
use Rattle.std.specs.Prelude.{Result, Option, Some, None}
use Rattle.answer.specs.declared.Refusal.{Refusal}
use Rattle.cell.specs.declared.Image.{Image}
use Rattle.std.specs.Prelude.{◌≡◌, Bool, cond, not, ◌&&◌, Float}
use Rattle.answer.specs.Seen.{Seen, answered, refused, seen}
use Rattle.ranges.specs.Ranged.{within}
use Rattle.cell.specs.declared.Vec3.{Vec3}
use Rattle.cell.specs.declared.Lattice.{Lattice}
use Rattle.cell.specs.declared.Rows.{Rows}
use Rattle.cell.specs.Ranged.{entry_limit, other_limit, vec_within, lattice_in_range, cell_in_range}
use Rattle.cell.specs.Matrix.{matrix_of, volume_of, singular_of, inverse_of}
use Rattle.cell.specs.Cell.{orthorhombic_of, cubic_of, is_orthorhombic_of, to_fractional_of, to_cartesian_of, wrap_of, perp_widths_of, image_of}
use Rattle.cell.specs.Seen.{rows_of}

-- a value where all is in range, and else refusal 3
abbrev pub when : {A : Type 0} → Bool → A → Seen A
when ok a = cond ok (answered a) (refused 3 0)

abbrev pub OrthorhombicSays : Float → Float → Float → Result Lattice Refusal → Type 0
OrthorhombicSays lx ly lz r = seen r ≡ when (within entry_limit lx && within entry_limit ly && within entry_limit lz) (orthorhombic_of lx ly lz)

abbrev pub CubicSays : Float → Result Lattice Refusal → Type 0
CubicSays l r = seen r ≡ when (within entry_limit l) (cubic_of l)

abbrev pub IsOrthorhombicSays : Lattice → Result Bool Refusal → Type 0
IsOrthorhombicSays l r = seen r ≡ when (lattice_in_range l) (is_orthorhombic_of l)

abbrev pub MatrixSays : Lattice → Result Rows Refusal → Type 0
MatrixSays l r = seen r ≡ when (lattice_in_range l) (rows_of (matrix_of l))

abbrev pub VolumeSays : Lattice → Result Float Refusal → Type 0
VolumeSays l r = seen r ≡ when (lattice_in_range l) (volume_of l)

-- found or not: 01, "No inverse when |det| <= 1e-12 times the cube of the largest magnitude"
abbrev pub InverseSays : Lattice → Result (Option Rows) Refusal → Type 0
InverseSays l r = seen r ≡ when (lattice_in_range l) (cond (singular_of l) None (Some (rows_of (inverse_of l))))

abbrev pub ToFractionalSays : Lattice → Vec3 → Result Vec3 Refusal → Type 0
ToFractionalSays l r s = seen s ≡ when (lattice_in_range l && vec_within entry_limit r) (to_fractional_of l r)

abbrev pub ToCartesianSays : Lattice → Vec3 → Result Vec3 Refusal → Type 0
ToCartesianSays l s r = seen r ≡ when (lattice_in_range l && vec_within other_limit s) (to_cartesian_of l s)

abbrev pub WrapSays : Lattice → Vec3 → Result Vec3 Refusal → Type 0
WrapSays l r w = seen w ≡ when (lattice_in_range l && vec_within entry_limit r) (wrap_of l r)

abbrev pub PerpWidthsSays : Lattice → Result Vec3 Refusal → Type 0
PerpWidthsSays l r = seen r ≡ when (lattice_in_range l) (perp_widths_of l)

abbrev pub MinImageSays : Vec3 → Option Lattice → Result Image Refusal → Type 0
MinImageSays d cell r = seen r ≡ when (vec_within other_limit d && cell_in_range cell) (image_of d cell)
