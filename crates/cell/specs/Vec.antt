-- The helpers on three floats (cell.rs 175-181, `cross`, and 278-309, `vec3`), over the record Vec3, in the source's order. Definitions only.
use Rattle.std.specs.Prelude.{ℕ, ◌+◌, ◌*◌, List, Float}
use Rattle.float.specs.Arith.{◌⊕◌, ◌⊖◌, ◌⊗◌, bits, at}
use Rattle.float.specs.Def.{root_of}
use Rattle.cell.specs.declared.Vec3.{Vec3}

abbrev pub zero_vec : Vec3
zero_vec = record { x = bits 0; y = bits 0; z = bits 0 }

abbrev pub sub_of : Vec3 → Vec3 → Vec3
sub_of a b = record { x = a.x ⊖ b.x; y = a.y ⊖ b.y; z = a.z ⊖ b.z }

-- also `add_assign`, whose target is handed back
abbrev pub add_of : Vec3 → Vec3 → Vec3
add_of a b = record { x = a.x ⊕ b.x; y = a.y ⊕ b.y; z = a.z ⊕ b.z }

abbrev pub scale_of : Vec3 → Float → Vec3
scale_of a s = record { x = a.x ⊗ s; y = a.y ⊗ s; z = a.z ⊗ s }

abbrev pub dot_of : Vec3 → Vec3 → Float
dot_of a b = a.x ⊗ b.x ⊕ a.y ⊗ b.y ⊕ a.z ⊗ b.z

unfoldable pub norm2_of : Vec3 → Float
norm2_of a = dot_of a a

unfoldable pub norm_of : Vec3 → Float
norm_of a = root_of (norm2_of a)

-- a * b - c * d, the shape of each entry of `cross` and of the adjugate
abbrev pub minor_of : Float → Float → Float → Float → Float
minor_of a b c d = a ⊗ b ⊖ c ⊗ d

unfoldable pub cross_of : Vec3 → Vec3 → Vec3
cross_of a b = record { x = minor_of a.y b.z a.z b.y; y = minor_of a.z b.x a.x b.z; z = minor_of a.x b.y a.y b.x }

-- an atom's position in a list of three floats an atom
unfoldable pub position_at : List Float → ℕ → Vec3
position_at xs i = record { x = at xs (3 * i); y = at xs (3 * i + 1); z = at xs (3 * i + 2) }
