-- For each export: no second struct and no second contents of everything lent fits its `ensures`. The call's own law shows it. Assumes nothing.
use Rattle.std.specs.Prelude.{Result}
use Rattle.answer.specs.declared.Refusal.{Refusal}
use Prim.Native.Nat.{ℕ}
use mathlib.Core.Path.{◌≡◌, refl, sym, ◌∙◌}
use mathlib.Core.List.{List}
use Rattle.potentials_pair.specs.Species.{Tables}
use Rattle.cell.proofs.Only.{orthorhombic_only, cubic_only, is_orthorhombic_only, matrix_only, volume_only, inverse_only, to_fractional_only, to_cartesian_only, wrap_only, perp_widths_only, min_image_only}
use Rattle.virial.proofs.Only.{zeros_only, merge_only, add_pair_force_only, virial_from_pair_only, scalar_virial_only, pressure_only, pressure_tensor_only, to_gpa_only}
use Rattle.exclusions.proofs.Only.{exclude_only, set_only, asked_only as rows_asked_only}
use Rattle.bins.proofs.Only.{asked_only as atoms_asked_only}
use Rattle.neighbor.proofs.Only.{new_only, search_radius_only, needs_rebuild_only, outdated_only, update_only, listed_asked_only}
use Rattle.neighbor.specs.declared.Question.TheVariants.{Unasked, NeedsRebuild}
use Rattle.potentials.proofs.Only.{monatomic_only, uniform_only, species_row_asked_only, lj_pairs_only, lj_all_only, coulomb_pairs_only, coulomb_all_only, bonds_all_only}
use Rattle.potentials_angle.proofs.Only.{uniform_angles_only, angles_all_only}
use Rattle.evaluate.proofs.Only.{evaluate_only}
use Rattle.verlet.proofs.Only.{kinetic_energy_only, temperature_only, berendsen_only}
use Rattle.fire.proofs.Only.{fire_only}
use Rattle.verlet_step.proofs.Only.{step_only, finish_only}
use Rattle.frame.proofs.Only.{squared_distance_only, build_only}
use Rattle.skin.proofs.Only.{within_skin_only}
use Rattle.shells.proofs.Only.{add_shells_only}
use Rattle.strike.proofs.Only.{strike_only, put_only}
use Rattle.sheet.proofs.Only.{read_only}
use Rattle.sheet_answer.proofs.Only.{solve_only, solve_either_only}
use Rattle.clumps_label.proofs.Only.{label_only}
use Rattle.clumps_answer.proofs.Only.{solve_clumps_only}
use Rattle.sheet_written.proofs.Only.{write_only}
use Rattle.sheet_rewritten.proofs.Only.{rewrite_only}
use Rattle.sheet_either.proofs.Only.{read_either_only}
use Rattle.sheet_moved.proofs.Only.{to_two_only, to_one_only}
use Rattle.field_structs.proofs.Only.{shown_only, shown_alone}
use Rattle.field_structs.specs.Unique.{OneOutcome}
use Rattle.field_structs.specs.declared.FlatPart.{FlatPart}
use Rattle.field_structs.specs.declared.FlatRow.{FlatRow}
use Rattle.field.specs.Parts.{PartSays}
use Rattle.field.specs.Rows.{RowSays}
use Rattle.field.specs.contracts.floats.tyn_root as root_contract
use Rattle.field.proofs.floats.tyn_root as root
use Rattle.field.specs.contracts.floats.tyn_floor as floor_contract
use Rattle.field.proofs.floats.tyn_floor as floor
use Rattle.field.specs.contracts.floats.tyn_trunc as trunc_contract
use Rattle.field.proofs.floats.tyn_trunc as trunc
use Rattle.field.specs.contracts.floats.tyn_round as round_contract
use Rattle.field.proofs.floats.tyn_round as round
use Rattle.field.specs.contracts.floats.tyn_rem_euclid as rem_euclid_contract
use Rattle.field.proofs.floats.tyn_rem_euclid as rem_euclid
use Rattle.field.specs.contracts.floats.tyn_abs as abs_contract
use Rattle.field.proofs.floats.tyn_abs as abs
use Rattle.field.specs.contracts.floats.tyn_min as min_contract
use Rattle.field.proofs.floats.tyn_min as min
use Rattle.field.specs.contracts.floats.tyn_max as max_contract
use Rattle.field.proofs.floats.tyn_max as max
use Rattle.field.specs.contracts.floats.tyn_clamp as clamp_contract
use Rattle.field.proofs.floats.tyn_clamp as clamp
use Rattle.field.specs.contracts.floats.tyn_to_i64 as to_i64_contract
use Rattle.field.proofs.floats.tyn_to_i64 as to_i64
use Rattle.field.specs.contracts.floats.tyn_to_u64 as to_u64_contract
use Rattle.field.proofs.floats.tyn_to_u64 as to_u64
use Rattle.field.specs.contracts.floats.tyn_of_bits as of_bits_contract
use Rattle.field.proofs.floats.tyn_of_bits as of_bits
use Rattle.field.specs.contracts.floats.tyn_to_bits as to_bits_contract
use Rattle.field.proofs.floats.tyn_to_bits as to_bits
use Rattle.field.specs.contracts.cells.tyn_orthorhombic as orthorhombic_contract
use Rattle.field.proofs.cells.tyn_orthorhombic as orthorhombic
use Rattle.field.specs.contracts.cells.tyn_cubic as cubic_contract
use Rattle.field.proofs.cells.tyn_cubic as cubic
use Rattle.field.specs.contracts.cells.tyn_is_orthorhombic as is_orthorhombic_contract
use Rattle.field.proofs.cells.tyn_is_orthorhombic as is_orthorhombic
use Rattle.field.specs.contracts.cells.tyn_matrix as matrix_contract
use Rattle.field.proofs.cells.tyn_matrix as matrix
use Rattle.field.specs.contracts.cells.tyn_volume as volume_contract
use Rattle.field.proofs.cells.tyn_volume as volume
use Rattle.field.specs.contracts.cells.tyn_inverse as inverse_contract
use Rattle.field.proofs.cells.tyn_inverse as inverse
use Rattle.field.specs.contracts.cells.tyn_to_fractional as to_fractional_contract
use Rattle.field.proofs.cells.tyn_to_fractional as to_fractional
use Rattle.field.specs.contracts.cells.tyn_to_cartesian as to_cartesian_contract
use Rattle.field.proofs.cells.tyn_to_cartesian as to_cartesian
use Rattle.field.specs.contracts.cells.tyn_wrap as wrap_contract
use Rattle.field.proofs.cells.tyn_wrap as wrap
use Rattle.field.specs.contracts.cells.tyn_perp_widths as perp_widths_contract
use Rattle.field.proofs.cells.tyn_perp_widths as perp_widths
use Rattle.field.specs.contracts.cells.tyn_min_image as min_image_contract
use Rattle.field.proofs.cells.tyn_min_image as min_image
use Rattle.field.specs.contracts.virials.tyn_zeros as zeros_contract
use Rattle.field.proofs.virials.tyn_zeros as zeros
use Rattle.field.specs.contracts.virials.tyn_merge as merge_contract
use Rattle.field.proofs.virials.tyn_merge as merge
use Rattle.field.specs.contracts.virials.tyn_add_pair_force as add_pair_force_contract
use Rattle.field.proofs.virials.tyn_add_pair_force as add_pair_force
use Rattle.field.specs.contracts.virials.tyn_virial_from_pair as virial_from_pair_contract
use Rattle.field.proofs.virials.tyn_virial_from_pair as virial_from_pair
use Rattle.field.specs.contracts.virials.tyn_scalar_virial as scalar_virial_contract
use Rattle.field.proofs.virials.tyn_scalar_virial as scalar_virial
use Rattle.field.specs.contracts.virials.tyn_pressure as pressure_contract
use Rattle.field.proofs.virials.tyn_pressure as pressure
use Rattle.field.specs.contracts.virials.tyn_pressure_tensor as pressure_tensor_contract
use Rattle.field.proofs.virials.tyn_pressure_tensor as pressure_tensor
use Rattle.field.specs.contracts.virials.tyn_to_gpa as to_gpa_contract
use Rattle.field.proofs.virials.tyn_to_gpa as to_gpa
use Rattle.field.specs.contracts.pairs.tyn_new as new_contract
use Rattle.field.proofs.pairs.tyn_new as new
use Rattle.field.specs.contracts.pairs.tyn_search_radius as search_radius_contract
use Rattle.field.proofs.pairs.tyn_search_radius as search_radius
use Rattle.field.specs.contracts.pairs.tyn_builds_since as builds_since_contract
use Rattle.field.proofs.pairs.tyn_builds_since as builds_since
use Rattle.field.specs.contracts.pairs.tyn_exclude as exclude_contract
use Rattle.field.proofs.pairs.tyn_exclude as exclude
use Rattle.field.specs.contracts.pairs.tyn_set_exclusions as set_exclusions_contract
use Rattle.field.proofs.pairs.tyn_set_exclusions as set_exclusions
use Rattle.field.specs.contracts.pairs.tyn_needs_rebuild as needs_rebuild_contract
use Rattle.field.proofs.pairs.tyn_needs_rebuild as needs_rebuild
use Rattle.field.specs.contracts.boxes.tyn_outdated as outdated_contract
use Rattle.field.proofs.boxes.tyn_outdated as outdated
use Rattle.field.specs.contracts.pairs.tyn_build as build_contract
use Rattle.field.proofs.pairs.tyn_build as build
use Rattle.field.specs.contracts.pairs.tyn_maybe_build as maybe_build_contract
use Rattle.field.proofs.pairs.tyn_maybe_build as maybe_build
use Rattle.field.specs.contracts.parts.tyn_listed as listed_contract
use Rattle.field.proofs.parts.tyn_listed as listed
use Rattle.field.specs.contracts.parts.tyn_excluded_rows as excluded_rows_contract
use Rattle.field.proofs.parts.tyn_excluded_rows as excluded_rows
use Rattle.field.specs.contracts.parts.tyn_atoms_in as atoms_in_contract
use Rattle.field.proofs.parts.tyn_atoms_in as atoms_in
use Rattle.field.specs.contracts.frames.tyn_squared_distance as squared_distance_contract
use Rattle.field.proofs.frames.tyn_squared_distance as squared_distance
use Rattle.field.specs.contracts.frames.tyn_frame_build as frame_build_contract
use Rattle.field.proofs.frames.tyn_frame_build as frame_build
use Rattle.field.specs.contracts.skins.tyn_within_skin as within_skin_contract
use Rattle.field.proofs.skins.tyn_within_skin as within_skin
use Rattle.field.specs.contracts.frames.tyn_read as read_contract
use Rattle.field.proofs.frames.tyn_read as read
use Rattle.field.specs.contracts.frames.tyn_solve as solve_contract
use Rattle.field.proofs.frames.tyn_solve as solve
use Rattle.field.specs.contracts.counts.tyn_add_shells as add_shells_contract
use Rattle.field.proofs.counts.tyn_add_shells as add_shells
use Rattle.field.specs.contracts.clumps.tyn_label as label_contract
use Rattle.field.proofs.clumps.tyn_label as label
use Rattle.field.specs.contracts.clumps.tyn_solve_clumps as solve_clumps_contract
use Rattle.field.proofs.clumps.tyn_solve_clumps as solve_clumps
use Rattle.field.specs.contracts.sheets.tyn_write as write_contract
use Rattle.field.proofs.sheets.tyn_write as write
use Rattle.field.specs.contracts.sheets.tyn_rewrite as rewrite_contract
use Rattle.field.proofs.sheets.tyn_rewrite as rewrite
use Rattle.field.specs.contracts.sheets.tyn_read_either as read_either_contract
use Rattle.field.proofs.sheets.tyn_read_either as read_either
use Rattle.field.specs.contracts.sheets.tyn_to_two as to_two_contract
use Rattle.field.proofs.sheets.tyn_to_two as to_two
use Rattle.field.specs.contracts.sheets.tyn_to_one as to_one_contract
use Rattle.field.proofs.sheets.tyn_to_one as to_one
use Rattle.field.specs.contracts.sheets.tyn_solve_either as solve_either_contract
use Rattle.field.proofs.sheets.tyn_solve_either as solve_either
use Rattle.field.specs.contracts.forces.tyn_monatomic as monatomic_contract
use Rattle.field.proofs.forces.tyn_monatomic as monatomic
use Rattle.field.specs.contracts.forces.tyn_argon as argon_contract
use Rattle.field.proofs.forces.tyn_argon as argon
use Rattle.field.specs.contracts.forces.tyn_uniform as uniform_contract
use Rattle.field.proofs.forces.tyn_uniform as uniform
use Rattle.field.specs.contracts.desks.tyn_species_row as species_row_contract
use Rattle.field.proofs.desks.tyn_species_row as species_row
use Rattle.field.specs.contracts.forces.tyn_lj_pairs as lj_pairs_contract
use Rattle.field.proofs.forces.tyn_lj_pairs as lj_pairs
use Rattle.field.specs.contracts.forces.tyn_lj_all as lj_all_contract
use Rattle.field.proofs.forces.tyn_lj_all as lj_all
use Rattle.field.specs.contracts.forces.tyn_coulomb_pairs as coulomb_pairs_contract
use Rattle.field.proofs.forces.tyn_coulomb_pairs as coulomb_pairs
use Rattle.field.specs.contracts.forces.tyn_coulomb_all as coulomb_all_contract
use Rattle.field.proofs.forces.tyn_coulomb_all as coulomb_all
use Rattle.field.specs.contracts.forces.tyn_bonds_all as bonds_all_contract
use Rattle.field.proofs.forces.tyn_bonds_all as bonds_all
use Rattle.field.specs.contracts.angles.tyn_uniform_angles as uniform_angles_contract
use Rattle.field.proofs.angles.tyn_uniform_angles as uniform_angles
use Rattle.field.specs.contracts.angles.tyn_angles_all as angles_all_contract
use Rattle.field.proofs.angles.tyn_angles_all as angles_all
use Rattle.field.specs.contracts.forces.tyn_evaluate as evaluate_contract
use Rattle.field.proofs.forces.tyn_evaluate as evaluate
use Rattle.field.specs.contracts.speeds.tyn_kinetic_energy as kinetic_energy_contract
use Rattle.field.proofs.speeds.tyn_kinetic_energy as kinetic_energy
use Rattle.field.specs.contracts.speeds.tyn_temperature as temperature_contract
use Rattle.field.proofs.speeds.tyn_temperature as temperature
use Rattle.field.specs.contracts.speeds.tyn_berendsen as berendsen_contract
use Rattle.field.proofs.speeds.tyn_berendsen as berendsen
use Rattle.field.specs.contracts.settlings.tyn_fire as settling_contract
use Rattle.field.proofs.settlings.tyn_fire as settling
use Rattle.field.specs.contracts.strikes.tyn_strike as strike_contract
use Rattle.field.proofs.strikes.tyn_strike as strike
use Rattle.field.specs.contracts.strikes.tyn_put as put_contract
use Rattle.field.proofs.strikes.tyn_put as put
use Rattle.field.specs.contracts.motion.tyn_step as step_contract
use Rattle.field.proofs.motion.tyn_step as step
use Rattle.field.specs.contracts.motion.tyn_finish as finish_contract
use Rattle.field.proofs.motion.tyn_finish as finish

-- a part that is told by its first element and its length
part_only : {asked : Result (Unit {0}) Refusal → Type 0} {first : ℕ} {part table : List ℕ} {r s : FlatPart} → PartSays asked first part table r → PartSays asked first part table s
    → ((a b : Result (Unit {0}) Refusal) → asked a → asked b → a ≡ b) → r ≡ s
part_only p q only =
    let d = shown_alone p.done q.done only in
    let n = p.begins ∙ sym q.begins in
    let k = p.counts ∙ sym q.counts in
    λ i. record { done = d i; start = n i; length = k i }

-- a species' row that is told by its table and its numbers
row_only : {t : Tables} {species : ℕ} {r s : FlatRow} → RowSays t species r → RowSays t species s → r ≡ s
row_only {t} p q =
    let d = shown_alone p.done q.done (species_row_asked_only t) in
    let b = p.table ∙ sym q.table in
    let e = p.epsilon ∙ sym q.epsilon in
    let g = p.sigma ∙ sym q.sigma in
    λ i. record { done = d i; table = b i; epsilon = e i; sigma = g i }

-- ---- helpers on floats
pub tyn_root_only : OneOutcome root_contract.ended root.Reads.Post
tyn_root_only l a r s m n p q = (p ∙ sym q, refl)

pub tyn_floor_only : OneOutcome floor_contract.ended floor.Reads.Post
tyn_floor_only l a r s m n p q = (p ∙ sym q, refl)

pub tyn_trunc_only : OneOutcome trunc_contract.ended trunc.Reads.Post
tyn_trunc_only l a r s m n p q = (p ∙ sym q, refl)

pub tyn_round_only : OneOutcome round_contract.ended round.Reads.Post
tyn_round_only l a r s m n p q = (p ∙ sym q, refl)

pub tyn_rem_euclid_only : OneOutcome rem_euclid_contract.ended rem_euclid.Reads.Post
tyn_rem_euclid_only l a r s m n p q = (p ∙ sym q, refl)

pub tyn_abs_only : OneOutcome abs_contract.ended abs.Reads.Post
tyn_abs_only l a r s m n p q = (p ∙ sym q, refl)

pub tyn_min_only : OneOutcome min_contract.ended min.Reads.Post
tyn_min_only l a r s m n p q = (p ∙ sym q, refl)

pub tyn_max_only : OneOutcome max_contract.ended max.Reads.Post
tyn_max_only l a r s m n p q = (p ∙ sym q, refl)

pub tyn_clamp_only : OneOutcome clamp_contract.ended clamp.Reads.Post
tyn_clamp_only l a r s m n p q = (p ∙ sym q, refl)

pub tyn_to_i64_only : OneOutcome to_i64_contract.ended to_i64.Reads.Post
tyn_to_i64_only l a r s m n p q = (p ∙ sym q, refl)

pub tyn_to_u64_only : OneOutcome to_u64_contract.ended to_u64.Reads.Post
tyn_to_u64_only l a r s m n p q = (p ∙ sym q, refl)

pub tyn_of_bits_only : OneOutcome of_bits_contract.ended of_bits.Reads.Post
tyn_of_bits_only l a r s m n p q = (p ∙ sym q, refl)

pub tyn_to_bits_only : OneOutcome to_bits_contract.ended to_bits.Reads.Post
tyn_to_bits_only l a r s m n p q = (p ∙ sym q, refl)

-- ---- lattices and the minimum image
pub tyn_orthorhombic_only : OneOutcome orthorhombic_contract.ended orthorhombic.Reads.Post
tyn_orthorhombic_only l a r s m n p q = (shown_alone p q (orthorhombic_only _ _ _), refl)

pub tyn_cubic_only : OneOutcome cubic_contract.ended cubic.Reads.Post
tyn_cubic_only l a r s m n p q = (shown_alone p q (cubic_only _), refl)

pub tyn_is_orthorhombic_only : OneOutcome is_orthorhombic_contract.ended is_orthorhombic.Reads.Post
tyn_is_orthorhombic_only l a r s m n p q = (shown_alone p q (is_orthorhombic_only _), refl)

pub tyn_matrix_only : OneOutcome matrix_contract.ended matrix.Reads.Post
tyn_matrix_only l a r s m n p q = (shown_alone p q (matrix_only _), refl)

pub tyn_volume_only : OneOutcome volume_contract.ended volume.Reads.Post
tyn_volume_only l a r s m n p q = (shown_alone p q (volume_only _), refl)

pub tyn_inverse_only : OneOutcome inverse_contract.ended inverse.Reads.Post
tyn_inverse_only l a r s m n p q = (shown_alone p q (inverse_only _), refl)

pub tyn_to_fractional_only : OneOutcome to_fractional_contract.ended to_fractional.Reads.Post
tyn_to_fractional_only l a r s m n p q = (shown_alone p q (to_fractional_only _ _), refl)

pub tyn_to_cartesian_only : OneOutcome to_cartesian_contract.ended to_cartesian.Reads.Post
tyn_to_cartesian_only l a r s m n p q = (shown_alone p q (to_cartesian_only _ _), refl)

pub tyn_wrap_only : OneOutcome wrap_contract.ended wrap.Reads.Post
tyn_wrap_only l a r s m n p q = (shown_alone p q (wrap_only _ _), refl)

pub tyn_perp_widths_only : OneOutcome perp_widths_contract.ended perp_widths.Reads.Post
tyn_perp_widths_only l a r s m n p q = (shown_alone p q (perp_widths_only _), refl)

pub tyn_min_image_only : OneOutcome min_image_contract.ended min_image.Reads.Post
tyn_min_image_only l a r s m n p q = (shown_alone p q (min_image_only _ _), refl)

-- ---- energy, forces and virial
pub tyn_zeros_only : OneOutcome zeros_contract.ended zeros.Reads.Post
tyn_zeros_only l a r s m n p q = shown_only p q (λ u v h k. let b = zeros_only _ u v _ _ h k in (b.0, λ i. (b.1 i, tt)))

pub tyn_merge_only : OneOutcome merge_contract.ended merge.Reads.Post
tyn_merge_only l a r s m n p q = shown_only p q (λ u v h k. let b = merge_only _ u v _ _ _ _ _ h k in (b.0, λ i. (tt, (b.1 i, m.1.1))))

pub tyn_add_pair_force_only : OneOutcome add_pair_force_contract.ended add_pair_force.Reads.Post
tyn_add_pair_force_only l a r s m n p q = shown_only p q (λ u v h k. let b = add_pair_force_only _ u v _ _ _ _ _ _ _ h k in (b.0, λ i. (tt, (b.1 i, m.1.1))))

pub tyn_virial_from_pair_only : OneOutcome virial_from_pair_contract.ended virial_from_pair.Reads.Post
tyn_virial_from_pair_only l a r s m n p q = (shown_alone p q (λ u v. virial_from_pair_only _ u v _ _), refl)

pub tyn_scalar_virial_only : OneOutcome scalar_virial_contract.ended scalar_virial.Reads.Post
tyn_scalar_virial_only l a r s m n p q = (shown_alone p q (λ u v. scalar_virial_only u v _), refl)

pub tyn_pressure_only : OneOutcome pressure_contract.ended pressure.Reads.Post
tyn_pressure_only l a r s m n p q = (shown_alone p q (λ u v. pressure_only u v _ _ _), refl)

pub tyn_pressure_tensor_only : OneOutcome pressure_tensor_contract.ended pressure_tensor.Reads.Post
tyn_pressure_tensor_only l a r s m n p q = (shown_alone p q (λ u v. pressure_tensor_only _ u v _ _ _ _), refl)

pub tyn_to_gpa_only : OneOutcome to_gpa_contract.ended to_gpa.Reads.Post
tyn_to_gpa_only l a r s m n p q = (shown_alone p q (λ u v. to_gpa_only u v _ _), refl)

-- ---- the pair list
pub tyn_new_only : OneOutcome new_contract.ended new.Reads.Post
tyn_new_only l a r s m n p q = (shown_alone p q (new_only _ _), refl)

pub tyn_search_radius_only : OneOutcome search_radius_contract.ended search_radius.Reads.Post
tyn_search_radius_only l a r s m n p q = (shown_alone p q (search_radius_only _), refl)

pub tyn_builds_since_only : OneOutcome builds_since_contract.ended builds_since.Reads.Post
tyn_builds_since_only l a r s m n p q = (p ∙ sym q, refl)

pub tyn_exclude_only : OneOutcome exclude_contract.ended exclude.Reads.Post
tyn_exclude_only l a r s m n p q = shown_only p q (λ u v h k. let b = exclude_only _ _ _ _ u v _ _ h k in (b.0, λ i. (tt, (tt, (tt, (b.1 i, tt))))))

pub tyn_set_exclusions_only : OneOutcome set_exclusions_contract.ended set_exclusions.Reads.Post
tyn_set_exclusions_only l a r s m n p q = shown_only p q (λ u v h k. let b = set_only _ _ u v _ _ h k in (b.0, λ i. (tt, (b.1 i, tt))))

pub tyn_needs_rebuild_only : OneOutcome needs_rebuild_contract.ended needs_rebuild.Reads.Post
tyn_needs_rebuild_only l a r s m n p q = (shown_alone p q (needs_rebuild_only _ _ _ _), refl)

pub tyn_outdated_only : OneOutcome outdated_contract.ended outdated.Reads.Post
tyn_outdated_only l a r s m n p q = (shown_alone p q (outdated_only _ _ _ _), refl)

pub tyn_build_only : OneOutcome build_contract.ended build.Reads.Post
tyn_build_only l a r s m n p q = shown_only p q (λ u v h k. let b = update_only Unasked _ u v _ _ _ _ _ _ _ _ h.0 k.0 in (b.0, λ i. (tt, (tt, (tt, (tt, (b.1 i, (b.2 i, (b.3 i, (b.4 i, tt))))))))))

pub tyn_maybe_build_only : OneOutcome maybe_build_contract.ended maybe_build.Reads.Post
tyn_maybe_build_only l a r s m n p q = shown_only p q (λ u v h k. let b = update_only NeedsRebuild _ u v _ _ _ _ _ _ _ _ h.0 k.0 in (b.0, λ i. (tt, (tt, (tt, (tt, (b.1 i, (b.2 i, (b.3 i, (b.4 i, tt))))))))))

-- ---- parts of lent tables
pub tyn_listed_only : OneOutcome listed_contract.ended listed.Reads.Post
tyn_listed_only l a r s m n p q = (part_only p q (listed_asked_only _ _), refl)

pub tyn_excluded_rows_only : OneOutcome excluded_rows_contract.ended excluded_rows.Reads.Post
tyn_excluded_rows_only l a r s m n p q = (part_only p q (rows_asked_only _ _), refl)

pub tyn_atoms_in_only : OneOutcome atoms_in_contract.ended atoms_in.Reads.Post
tyn_atoms_in_only l a r s m n p q = (part_only p q (atoms_asked_only _ _ _), refl)

-- ---- the whole-number frame, and job sheets
pub tyn_squared_distance_only : OneOutcome squared_distance_contract.ended squared_distance.Reads.Post
tyn_squared_distance_only l a r s m n p q = (shown_alone p q (squared_distance_only _ _ _), refl)

pub tyn_frame_build_only : OneOutcome frame_build_contract.ended frame_build.Reads.Post
tyn_frame_build_only l a r s m n p q = shown_only p q (λ u v h k. let b = build_only _ u v _ _ _ _ _ _ h.0 k.0 in (b.0, λ i. (tt, (tt, (tt, (b.1 i, (b.2 i, (b.3 i, tt))))))))

pub tyn_within_skin_only : OneOutcome within_skin_contract.ended within_skin.Reads.Post
tyn_within_skin_only l a r s m n p q = (shown_alone p q (within_skin_only _ _ _ _), refl)

pub tyn_read_only : OneOutcome read_contract.ended read.Reads.Post
tyn_read_only l a r s m n p q = shown_only p q (λ u v h k. let b = read_only _ _ _ u v _ _ _ _ h k in (b.0, λ i. (tt, (b.1 i, (b.2 i, tt)))))

pub tyn_solve_only : OneOutcome solve_contract.ended solve.Reads.Post
tyn_solve_only l a r s m n p q = shown_only p q (λ u v h k. let b = solve_only _ _ u v _ _ h.0 k.0 in (b.0, λ i. (tt, (b.1 i, tt))))

pub tyn_add_shells_only : OneOutcome add_shells_contract.ended add_shells.Reads.Post
tyn_add_shells_only l a r s m n p q = shown_only p q (λ u v h k. let b = add_shells_only _ u v _ _ _ _ _ _ _ _ h k in (b.0, λ i. (tt, (tt, (tt, (tt, (b.1 i, (b.2 i, (b.3 i, (b.4 i, tt))))))))))

pub tyn_label_only : OneOutcome label_contract.ended label.Reads.Post
tyn_label_only l a r s m n p q = shown_only p q (λ u v h k. let b = label_only _ _ _ u v _ _ h k in (b.0, λ i. (tt, (tt, (b.1 i, tt)))))

pub tyn_solve_clumps_only : OneOutcome solve_clumps_contract.ended solve_clumps.Reads.Post
tyn_solve_clumps_only l a r s m n p q = shown_only p q (λ u v h k. let b = solve_clumps_only _ _ u v _ _ h.0 k.0 in (b.0, λ i. (tt, (b.1 i, tt))))

-- ---- written sheets
pub tyn_write_only : OneOutcome write_contract.ended write.Reads.Post
tyn_write_only l a r s m n p q = shown_only p q (λ u v h k. let b = write_only _ _ _ _ u v _ _ h k in (b.0, λ i. (tt, (tt, (tt, (b.1 i, tt))))))

pub tyn_rewrite_only : OneOutcome rewrite_contract.ended rewrite.Reads.Post
tyn_rewrite_only l a r s m n p q = shown_only p q (λ u v h k. let b = rewrite_only _ _ u v _ _ h k in (b.0, λ i. (tt, (b.1 i, tt))))

pub tyn_read_either_only : OneOutcome read_either_contract.ended read_either.Reads.Post
tyn_read_either_only l a r s m n p q = shown_only p q (λ u v h k. let b = read_either_only _ _ _ _ u v _ _ _ _ _ _ h k in (b.0, λ i. (tt, (b.1 i, (b.2 i, (b.3 i, tt))))))

pub tyn_to_two_only : OneOutcome to_two_contract.ended to_two.Reads.Post
tyn_to_two_only l a r s m n p q = shown_only p q (λ u v h k. let b = to_two_only _ _ u v _ _ h k in (b.0, λ i. (tt, (b.1 i, tt))))

pub tyn_to_one_only : OneOutcome to_one_contract.ended to_one.Reads.Post
tyn_to_one_only l a r s m n p q = shown_only p q (λ u v h k. let b = to_one_only _ _ u v _ _ h k in (b.0, λ i. (tt, (b.1 i, tt))))

pub tyn_solve_either_only : OneOutcome solve_either_contract.ended solve_either.Reads.Post
tyn_solve_either_only l a r s m n p q = shown_only p q (λ u v h k. let b = solve_either_only _ _ u v _ _ h.0 k.0 in (b.0, λ i. (tt, (b.1 i, tt))))

-- ---- the terms over pairs, and the evaluator
pub tyn_monatomic_only : OneOutcome monatomic_contract.ended monatomic.Reads.Post
tyn_monatomic_only l a r s m n p q = (shown_alone p q (monatomic_only _ _ _), refl)

pub tyn_argon_only : OneOutcome argon_contract.ended argon.Reads.Post
tyn_argon_only l a r s m n p q = (p ∙ sym q, refl)

pub tyn_uniform_only : OneOutcome uniform_contract.ended uniform.Reads.Post
tyn_uniform_only l a r s m n p q = (shown_alone p q (uniform_only _ _), refl)

pub tyn_species_row_only : OneOutcome species_row_contract.ended species_row.Reads.Post
tyn_species_row_only l a r s m n p q = (row_only p q, refl)

pub tyn_lj_pairs_only : OneOutcome lj_pairs_contract.ended lj_pairs.Reads.Post
tyn_lj_pairs_only l a r s m n p q = shown_only p q (λ u v h k. let b = lj_pairs_only u v _ _ a.1.1.1.1.1.1.1.0.now a.1.1.1.1.1.1.1.1.1.0.now _ _ _ a.1.1.1.1.1.1.0.now a.1.1.1.1.1.1.1.1.0.now h k in (b.0, λ i. (tt, (tt, (tt, (tt, (tt, (tt, (tt, (tt, (tt, (b.1 i, tt))))))))))))

pub tyn_lj_all_only : OneOutcome lj_all_contract.ended lj_all.Reads.Post
tyn_lj_all_only l a r s m n p q = shown_only p q (λ u v h k. let b = lj_all_only u v _ _ a.1.1.1.1.1.1.1.0.now a.1.1.1.1.1.1.1.1.0.now _ _ _ a.1.1.1.1.1.1.0.now h k in (b.0, λ i. (tt, (tt, (tt, (tt, (tt, (tt, (tt, (tt, (b.1 i, tt)))))))))))

pub tyn_coulomb_pairs_only : OneOutcome coulomb_pairs_contract.ended coulomb_pairs.Reads.Post
tyn_coulomb_pairs_only l a r s m n p q = shown_only p q (λ u v h k. let b = coulomb_pairs_only u v _ _ _ a.1.1.1.1.1.1.0.now _ _ _ _ a.1.1.1.1.1.0.now h k in (b.0, λ i. (tt, (tt, (tt, (tt, (tt, (tt, (b.1 i, tt)))))))))

pub tyn_coulomb_all_only : OneOutcome coulomb_all_contract.ended coulomb_all.Reads.Post
tyn_coulomb_all_only l a r s m n p q = shown_only p q (λ u v h k. let b = coulomb_all_only u v _ _ _ a.1.1.1.1.1.0.now _ _ _ _ h k in (b.0, λ i. (tt, (tt, (tt, (tt, (tt, (b.1 i, tt))))))))

pub tyn_bonds_all_only : OneOutcome bonds_all_contract.ended bonds_all.Reads.Post
tyn_bonds_all_only l a r s m n p q = shown_only p q (λ u v h k. let b = bonds_all_only u v _ _ a.1.1.1.1.1.0.now a.1.1.1.1.1.1.0.now _ _ a.1.1.0.now a.1.1.1.0.now a.1.1.1.1.0.now h k in (b.0, λ i. (tt, (tt, (tt, (tt, (tt, (tt, (b.1 i, tt)))))))))

pub tyn_uniform_angles_only : OneOutcome uniform_angles_contract.ended uniform_angles.Reads.Post
tyn_uniform_angles_only l a r s m n p q = (shown_alone p q (uniform_angles_only _ _), refl)

pub tyn_angles_all_only : OneOutcome angles_all_contract.ended angles_all.Reads.Post
tyn_angles_all_only l a r s m n p q = shown_only p q (λ u v h k. let b = angles_all_only u v _ _ a.1.1.1.1.0.now a.1.1.1.1.1.0.now _ _ a.1.1.0.now a.1.1.1.0.now h k in (b.0, λ i. (tt, (tt, (tt, (tt, (tt, (b.1 i, tt))))))))

pub tyn_evaluate_only : OneOutcome evaluate_contract.ended evaluate.Reads.Post
tyn_evaluate_only l a r s m n p q = shown_only p q (λ u v h k. let b = evaluate_only _ u v _ _ _ _ _ _ _ _ _ _ h.0 k.0 in (b.0, λ i. (tt, (tt, (tt, (tt, (tt, (tt, (tt, (tt, (tt, (tt, (tt, (tt, (tt, (tt, (tt, (b.1 i, (b.2 i, (b.3 i, (b.4 i, (b.5 i, tt))))))))))))))))))))))

-- ---- kinetic energy, temperature, thermostat
pub tyn_kinetic_energy_only : OneOutcome kinetic_energy_contract.ended kinetic_energy.Reads.Post
tyn_kinetic_energy_only l a r s m n p q = (shown_alone p q (kinetic_energy_only _ _ _), refl)

pub tyn_temperature_only : OneOutcome temperature_contract.ended temperature.Reads.Post
tyn_temperature_only l a r s m n p q = (shown_alone p q (λ u v. temperature_only _ _ _ u v _), refl)

pub tyn_berendsen_only : OneOutcome berendsen_contract.ended berendsen.Reads.Post
tyn_berendsen_only l a r s m n p q = shown_only p q (λ u v h k. let b = berendsen_only _ _ _ _ _ _ u v _ _ h k in (b.0, λ i. (tt, (tt, (tt, (tt, (tt, (b.1 i, tt))))))))

-- ---- the step
pub tyn_step_only : OneOutcome step_contract.ended step.Reads.Post
tyn_step_only l a r s m n p q = shown_only p q (λ u v h k. let b = step_only _ _ u v _ _ _ _ _ _ _ _ _ _ _ _ _ _ h.0 k.0 in (b.0, λ i. (tt, (tt, (tt, (tt, (tt, (tt, (tt, (tt, (tt, (tt, (tt, (tt, (tt, (tt, (tt, (tt, (tt, (b.1 i, (b.2 i, (b.3 i, (b.4 i, (b.5 i, (b.6 i, (b.7 i, tt))))))))))))))))))))))))))

pub tyn_finish_only : OneOutcome finish_contract.ended finish.Reads.Post
tyn_finish_only l a r s m n p q = shown_only p q (λ u v h k. let b = finish_only _ _ u v _ _ _ _ _ _ _ _ _ _ _ _ h.0 k.0 in (b.0, λ i. (tt, (tt, (tt, (tt, (tt, (tt, (tt, (tt, (tt, (tt, (tt, (tt, (tt, (tt, (tt, (tt, (tt, (tt, (b.1 i, (b.2 i, (b.3 i, (b.4 i, (b.5 i, (b.6 i, tt))))))))))))))))))))))))))

-- ---- settling
pub tyn_fire_only : OneOutcome settling_contract.ended settling.Reads.Post
tyn_fire_only l a r s m n p q = shown_only p q (λ u v h k. let b = fire_only _ _ u v _ _ _ _ _ _ _ _ _ _ _ _ _ _ h k in (b.0, λ i. (tt, (tt, (tt, (tt, (tt, (tt, (tt, (tt, (tt, (tt, (tt, (tt, (tt, (tt, (tt, (tt, (b.1 i, (b.2 i, (b.3 i, (b.4 i, (b.5 i, (b.6 i, (b.7 i, tt)))))))))))))))))))))))))

-- ---- striking atoms
pub tyn_strike_only : OneOutcome strike_contract.ended strike.Reads.Post
tyn_strike_only l a r s m n p q = shown_only p q (λ u v h k. let b = strike_only _ _ _ _ u v _ _ _ _ h k in (b.0, λ i. (tt, (tt, ((b.1 i).positions, ((b.1 i).velocities, ((b.1 i).masses, ((b.1 i).charges, ((b.1 i).species, ((b.2 i).bonds, ((b.2 i).lengths, ((b.2 i).ks, ((b.2 i).angles, ((b.2 i).per_angle, ((b.2 i).exclusions, tt)))))))))))))))

pub tyn_put_only : OneOutcome put_contract.ended put.Reads.Post
tyn_put_only l a r s m n p q = shown_only p q (λ u v h k. let b = put_only _ _ _ _ u v _ _ h k in (b.0, λ i. (tt, (tt, (tt, ((b.1 i).positions, ((b.1 i).velocities, ((b.1 i).masses, ((b.1 i).charges, ((b.1 i).species, tt))))))))))
