-- The struct that stands for an answer: a refusal's number and place as 01's table has them, or 0 and 0 and the values; zeros where there is no value. Definitions only.
use Rattle.std.specs.Prelude.{Err, None, Ok, Option, Result, Some}
use Rattle.cell.specs.declared.Image.{Image}
use Rattle.frame.specs.declared.Built.{Built}
use Rattle.std.specs.Prelude.{Float}
use Rattle.virial.specs.declared.Sum.{Sum}
use Rattle.std.specs.Prelude.{ℤ, pos, ℕ, Bool, true, false}
use Rattle.cell.specs.Vec.{zero_vec}
use Rattle.float.specs.Arith.{bits}
use Rattle.answer.specs.Seen.{number_of, place_of}
use Rattle.answer.specs.declared.Refusal.{Refusal}
use Rattle.cell.specs.declared.Lattice.{Lattice}
use Rattle.cell.specs.declared.Vec3.{Vec3}
use Rattle.cell.specs.declared.Triple.{Triple}
use Rattle.cell.specs.declared.Uncounted.{Uncounted}
use Rattle.cell.specs.declared.Uncounted.TheVariants.{NoFit, NoInverse}
use Rattle.cell.specs.declared.Rows.{Rows}
use Rattle.cell.specs.Seen.{zero_rows}
use Rattle.virial.specs.Virial.{zero_sum}
use Rattle.neighbor.specs.declared.State.{State}
use Rattle.neighbor.specs.declared.Updated.{Updated}
use Rattle.sheet.specs.declared.Job.{Job}
use Rattle.potentials_pair.specs.declared.Lj.{Lj}
use Rattle.potentials_pair.specs.declared.Mixing.{Mixing}
use Rattle.potentials_pair.specs.declared.Mixing.TheVariants.{HalfSum, Geometric}
use Rattle.potentials.specs.declared.Bond.{Bond}
use Rattle.evaluate.specs.declared.Evaluated.{Evaluated}
use Rattle.verlet_step.specs.declared.Stepped.{Stepped}
use Rattle.field_structs.specs.declared.FlatDone.{FlatDone}
use Rattle.field_structs.specs.declared.FlatNumber.{FlatNumber}
use Rattle.field_structs.specs.declared.FlatYesNo.{FlatYesNo}
use Rattle.field_structs.specs.declared.FlatWhole.{FlatWhole}
use Rattle.field_structs.specs.declared.FlatVector.{FlatVector}
use Rattle.field_structs.specs.declared.FlatCell.{FlatCell}
use Rattle.field_structs.specs.declared.FlatLattice.{FlatLattice}
use Rattle.field_structs.specs.declared.FlatLatticeAnswer.{FlatLatticeAnswer}
use Rattle.field_structs.specs.declared.FlatImage.{FlatImage}
use Rattle.field_structs.specs.declared.FlatImageAnswer.{FlatImageAnswer}
use Rattle.field_structs.specs.declared.FlatRowsAnswer.{FlatRowsAnswer}
use Rattle.field_structs.specs.declared.FlatInverseAnswer.{FlatInverseAnswer}
use Rattle.field_structs.specs.declared.FlatSummed.{FlatSummed}
use Rattle.field_structs.specs.declared.FlatState.{FlatState}
use Rattle.field_structs.specs.declared.FlatStateAnswer.{FlatStateAnswer}
use Rattle.field_structs.specs.declared.FlatUpdated.{FlatUpdated}
use Rattle.field_structs.specs.declared.FlatBuilt.{FlatBuilt}
use Rattle.field_structs.specs.declared.FlatJob.{FlatJob}
use Rattle.field_structs.specs.declared.FlatSheet.{FlatSheet}
use Rattle.field_structs.specs.declared.FlatLj.{FlatLj}
use Rattle.field_structs.specs.declared.FlatLjAnswer.{FlatLjAnswer}
use Rattle.field_structs.specs.declared.FlatBondAnswer.{FlatBondAnswer}
use Rattle.field_structs.specs.declared.FlatEvaluated.{FlatEvaluated}
use Rattle.field_structs.specs.declared.FlatStepped.{FlatStepped}

abbrev pub flag : Bool → ℕ
flag true = 1
flag false = 0

-- ---- a refusal's number and place, or 0 and 0

abbrev pub well_done : FlatDone
well_done = record { number = 0; place = 0 }

unfoldable pub flat_refusal : Refusal → FlatDone
flat_refusal r = record { number = number_of r; place = place_of r }

unfoldable pub flat_done : Result (Unit {0}) Refusal → FlatDone
flat_done (Ok tt) = well_done
flat_done (Err r) = flat_refusal r

-- ---- plain answers

unfoldable pub flat_number : Result Float Refusal → FlatNumber
flat_number (Ok x) = record { done = well_done; value = x }
flat_number (Err r) = record { done = flat_refusal r; value = bits 0 }

unfoldable pub flat_yes_no : Result Bool Refusal → FlatYesNo
flat_yes_no (Ok b) = record { done = well_done; value = flag b }
flat_yes_no (Err r) = record { done = flat_refusal r; value = 0 }

unfoldable pub flat_whole : Result ℕ Refusal → FlatWhole
flat_whole (Ok n) = record { done = well_done; value = n }
flat_whole (Err r) = record { done = flat_refusal r; value = 0 }

-- ---- cell

unfoldable pub flat_vector : Result Vec3 Refusal → FlatVector
flat_vector (Ok v) = record { done = well_done; value = v }
flat_vector (Err r) = record { done = flat_refusal r; value = zero_vec }

unfoldable pub flat_lattice : Lattice → FlatLattice
flat_lattice l = record { a = l.a; b = l.b; c = l.c; px = flag l.px; py = flag l.py; pz = flag l.pz }

abbrev pub zero_lattice : FlatLattice
zero_lattice = record { a = zero_vec; b = zero_vec; c = zero_vec; px = 0; py = 0; pz = 0 }

-- no cell: not present, and zeros
unfoldable pub flat_cell : Option Lattice → FlatCell
flat_cell None = record { present = 0; lattice = zero_lattice }
flat_cell (Some l) = record { present = 1; lattice = flat_lattice l }

unfoldable pub flat_lattice_answer : Result Lattice Refusal → FlatLatticeAnswer
flat_lattice_answer (Ok l) = record { done = well_done; lattice = flat_lattice l }
flat_lattice_answer (Err r) = record { done = flat_refusal r; lattice = zero_lattice }

-- an image with its counts (kind 0), or the word that there are none and zeros: one does not fit (1), no inverse (2)
abbrev pub image_with : Vec3 → ℕ → ℤ → ℤ → ℤ → FlatImage
image_with v kind x y z = record { diff = v; kind = kind; x = x; y = y; z = z }

unfoldable pub with_boxes : Vec3 → Result Triple Uncounted → FlatImage
with_boxes v (Ok n) = image_with v 0 n.x n.y n.z
with_boxes v (Err NoFit) = image_with v 1 (pos 0) (pos 0) (pos 0)
with_boxes v (Err NoInverse) = image_with v 2 (pos 0) (pos 0) (pos 0)

unfoldable pub flat_image : Result Image Refusal → FlatImageAnswer
flat_image (Ok i) = record { done = well_done; image = with_boxes i.diff i.counts }
flat_image (Err r) = record { done = flat_refusal r; image = image_with zero_vec 0 (pos 0) (pos 0) (pos 0) }

-- zeros where there is no matrix, and where there is no inverse
unfoldable pub flat_rows : Result Rows Refusal → FlatRowsAnswer
flat_rows (Ok w) = record { done = well_done; rows = w }
flat_rows (Err r) = record { done = flat_refusal r; rows = zero_rows }

unfoldable pub flat_inverse : Result (Option Rows) Refusal → FlatInverseAnswer
flat_inverse (Ok (Some w)) = record { done = well_done; found = 1; rows = w }
flat_inverse (Ok None) = record { done = well_done; found = 0; rows = zero_rows }
flat_inverse (Err r) = record { done = flat_refusal r; found = 0; rows = zero_rows }

-- ---- virial

unfoldable pub flat_summed : Result Sum Refusal → FlatSummed
flat_summed (Ok s) = record { done = well_done; sum = s }
flat_summed (Err r) = record { done = flat_refusal r; sum = zero_sum }

-- ---- the pair list. A state comes back in every case

unfoldable pub flat_state : State → FlatState
flat_state s =
    record {
      cutoff = s.cutoff;
      skin = s.skin;
      pairs = s.pairs;
      references = s.references;
      checks = s.checks;
      fallback = flag s.fallback;
      builds = s.builds;
      built_in = flat_cell s.built_in;
    }

abbrev pub zero_state : FlatState
zero_state =
    record {
      cutoff = bits 0;
      skin = bits 0;
      pairs = 0;
      references = 0;
      checks = 0;
      fallback = 0;
      builds = 0;
      built_in = record { present = 0; lattice = zero_lattice };
    }

unfoldable pub flat_state_answer : Result State Refusal → FlatStateAnswer
flat_state_answer (Ok s) = record { done = well_done; state = flat_state s }
flat_state_answer (Err r) = record { done = flat_refusal r; state = zero_state }

unfoldable pub flat_updated : Updated → FlatUpdated
flat_updated u = record { done = flat_done u.done; rebuilt = flag u.rebuilt; state = flat_state u.state }

-- ---- the whole-number frame and the job sheet

unfoldable pub flat_built : Result Built Refusal → FlatBuilt
flat_built (Ok b) = record { done = well_done; pairs = b.pairs; checks = b.checks; fallback = flag b.fallback }
flat_built (Err r) = record { done = flat_refusal r; pairs = 0; checks = 0; fallback = 0 }

unfoldable pub flat_job : Job → FlatJob
flat_job j =
    record {
      atoms = j.atoms;
      ex = j.ex;
      ey = j.ey;
      ez = j.ez;
      px = flag j.px;
      py = flag j.py;
      pz = flag j.pz;
      radius = j.radius;
      count = j.count;
    }

abbrev pub zero_job : FlatJob
zero_job = record { atoms = 0; ex = 0; ey = 0; ez = 0; px = 0; py = 0; pz = 0; radius = 0; count = 0 }

unfoldable pub flat_sheet : Result Job Refusal → FlatSheet
flat_sheet (Ok j) = record { done = well_done; job = flat_job j }
flat_sheet (Err r) = record { done = flat_refusal r; job = zero_job }

-- ---- terms

unfoldable pub flat_rule : Mixing → ℕ
flat_rule HalfSum = 1
flat_rule Geometric = 2

unfoldable pub flat_lj : Lj → FlatLj
flat_lj lj = record { epsilon = lj.epsilon; sigma = lj.sigma; cutoff = lj.cutoff; shift = flag lj.shift; rule = flat_rule lj.rule }

abbrev pub zero_lj : FlatLj
zero_lj = record { epsilon = bits 0; sigma = bits 0; cutoff = bits 0; shift = 0; rule = 0 }

unfoldable pub flat_lj_answer : Result Lj Refusal → FlatLjAnswer
flat_lj_answer (Ok lj) = record { done = well_done; lj = flat_lj lj }
flat_lj_answer (Err r) = record { done = flat_refusal r; lj = zero_lj }

abbrev pub zero_bond : Bond
zero_bond = record { k = bits 0; r0 = bits 0 }

unfoldable pub flat_bond_answer : Result Bond Refusal → FlatBondAnswer
flat_bond_answer (Ok b) = record { done = well_done; bond = b }
flat_bond_answer (Err r) = record { done = flat_refusal r; bond = zero_bond }

unfoldable pub flat_evaluated : Evaluated → FlatEvaluated
flat_evaluated e = record { done = flat_done e.done; rebuilt = flag e.rebuilt; state = flat_state e.state; sum = e.sum }

unfoldable pub flat_stepped : Stepped → FlatStepped
flat_stepped a =
    record { done = flat_done a.done; stopped = flag a.stopped; rebuilt = flag a.rebuilt; state = flat_state a.state; potential = a.potential }
