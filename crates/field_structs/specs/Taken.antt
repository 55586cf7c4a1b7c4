-- The argument that a struct from C stands for. Definitions only.
use Rattle.std.specs.Prelude.{None, Option, Some}
use Rattle.potentials.specs.declared.Bond.{Bond}
use Rattle.potentials.specs.declared.coulomb.Coulomb.{Coulomb}
use Rattle.potentials_angle.specs.declared.Angle.{Angle}
use Rattle.verlet.specs.declared.Thermostat.{Thermostat}
use Rattle.std.specs.Prelude.{ℕ, Bool, cond, not, ◌||◌, List, [], ◌∷◌, eqb, Float}
use Rattle.std.specs.Float.Ieee.{neg}
use Rattle.float.specs.Literals.{f1}
use Rattle.cell.specs.declared.Lattice.{Lattice}
use Rattle.cell.specs.declared.Rows.{Rows}
use Rattle.evaluate.specs.declared.Setting.{Setting}
use Rattle.frame.specs.declared.Frame.{Frame}
use Rattle.neighbor.specs.declared.State.{State}
use Rattle.potentials_pair.specs.declared.Lj.{Lj}
use Rattle.potentials_pair.specs.declared.Mixing.{Mixing}
use Rattle.potentials_pair.specs.declared.Mixing.TheVariants.{HalfSum, Geometric}
use Rattle.verlet_step.specs.declared.Pace.{Pace}
use Rattle.field_structs.specs.declared.FlatLattice.{FlatLattice}
use Rattle.field_structs.specs.declared.FlatCell.{FlatCell}
use Rattle.field_structs.specs.declared.FlatState.{FlatState}
use Rattle.field_structs.specs.declared.FlatLj.{FlatLj}
use Rattle.field_structs.specs.declared.FlatLjTerm.{FlatLjTerm}
use Rattle.field_structs.specs.declared.FlatCoulombTerm.{FlatCoulombTerm}
use Rattle.field_structs.specs.declared.FlatAngleTerm.{FlatAngleTerm}
use Rattle.field_structs.specs.declared.FlatBondTerm.{FlatBondTerm}
use Rattle.field_structs.specs.declared.FlatThermostat.{FlatThermostat}
use Rattle.field_structs.specs.declared.FlatSetting.{FlatSetting}
use Rattle.field_structs.specs.declared.FlatPace.{FlatPace}
use Rattle.field_structs.specs.declared.FlatFrame.{FlatFrame}

-- a flag, read as C does in `if (flag)`
abbrev pub is_set : ℕ → Bool
is_set n = not (eqb n 0)

unfoldable pub lattice_of : FlatLattice → Lattice
lattice_of l = record { a = l.a; b = l.b; c = l.c; px = is_set l.px; py = is_set l.py; pz = is_set l.pz }

unfoldable pub cell_of : FlatCell → Option Lattice
cell_of cell = cond (is_set cell.present) (Some (lattice_of cell.lattice)) None

unfoldable pub state_of : FlatState → State
state_of s =
    record {
      cutoff = s.cutoff;
      skin = s.skin;
      pairs = s.pairs;
      references = s.references;
      checks = s.checks;
      fallback = is_set s.fallback;
      builds = s.builds;
      built_in = cell_of s.built_in;
    }

-- 02, No. 10: a job names rule 1 or rule 2. Another number makes the epsilon one that is out of range, so that the call refuses it with 3, in 3's place among its tests
unfoldable pub ruled_of : ℕ → Float → Float
ruled_of rule epsilon = cond (eqb rule 1 || eqb rule 2) epsilon (neg f1)

unfoldable pub mixing_of : ℕ → Mixing
mixing_of rule = cond (eqb rule 2) Geometric HalfSum

unfoldable pub lj_of : FlatLj → Lj
lj_of lj =
    record { epsilon = ruled_of lj.rule lj.epsilon; sigma = lj.sigma; cutoff = lj.cutoff; shift = is_set lj.shift; rule = mixing_of lj.rule }

unfoldable pub lj_term_of : FlatLjTerm → Option Lj
lj_term_of term = cond (is_set term.present) (Some (lj_of term.lj)) None

unfoldable pub coulomb_term_of : FlatCoulombTerm → Option Coulomb
coulomb_term_of term = cond (is_set term.present) (Some (record { cutoff = term.cutoff })) None

unfoldable pub bond_term_of : FlatBondTerm → Option Bond
bond_term_of term = cond (is_set term.present) (Some term.bond) None

unfoldable pub angle_term_of : FlatAngleTerm → Option Angle
angle_term_of term = cond (is_set term.present) (Some term.angle) None

unfoldable pub thermostat_of : FlatThermostat → Option Thermostat
thermostat_of t = cond (is_set t.present) (Some (record { target_k = t.target_k; tau_fs = t.tau_fs })) None

unfoldable pub setting_of : FlatSetting → Setting
setting_of s =
    record { lj = lj_term_of s.lj; coulomb = coulomb_term_of s.coulomb; bond = bond_term_of s.bond; angle = angle_term_of s.angle; units = s.units; cell = cell_of s.cell }

unfoldable pub pace_of : FlatPace → Pace
pace_of p = record { dt = p.dt; thermostat = thermostat_of p.thermostat }

unfoldable pub frame_of : FlatFrame → Frame
frame_of f =
    record {
      x = record { edge = f.ex; round = is_set f.px };
      y = record { edge = f.ey; round = is_set f.py };
      z = record { edge = f.ez; round = is_set f.pz };
      radius = f.radius;
    }

-- a virial by itself
abbrev pub rows_table : Rows → List (List Float)
rows_table m = m.x ∷ m.y ∷ m.z ∷ []
