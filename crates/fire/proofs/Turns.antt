-- A relaxation by its parts: the first evaluation, an iteration, the fold over iterations. Assumes nothing.
use Rattle.std.specs.Prelude.{Err, Ok, Result}
use Prim.Native.Nat.{ℕ, zero, suc, ◌+◌, ◌-◌, ◌≤◌, ◌<◌}
use native.Mathlib.Nat.{le_of_eq}
use native.Mathlib.Omega.{arith}
use mathlib.Core.Path.{◌≡◌, refl, sym, ap, ◌∙◌}
use mathlib.Core.Bool.{Bool, true, false, cond}
use mathlib.Core.List.{List}
use lib.Ieee.{Float, lt}
use lib.Dec.{ltb}
use lib.ListN.{length}
use Rattle.answer.specs.Seen.{Seen, answered, refused, seen}
use Rattle.float.specs.Literals.{f0}
use Rattle.evaluate.specs.declared.Evaluated.{Evaluated}
use Rattle.answer.specs.declared.Refusal.{Refusal}
use Rattle.potentials_pair.specs.Species.{rising, look_of}
use Rattle.verlet.specs.Parts.{drifts}
use Rattle.evaluate.specs.Calls.{Job, settled_of}
use Rattle.evaluate.specs.Calls as Evaluation
use Rattle.evaluate.proofs.Settling.{asked_rising, asked_forces, asked_few, settled_is, settled_length}
use Rattle.verlet_step.proofs.Landing.{advanced_is}
use Rattle.evaluate.specs.Steps.{settled_in}
use Rattle.verlet_step.specs.declared.Stepped.{Stepped}
use Rattle.verlet_step.specs.Calls.{Motion, units_of, landed_after, landed_by, moved, advanced_by}
use Rattle.verlet_step.specs.Calls as Step
use Rattle.fire.specs.declared.steer.Gait.{Gait}
use Rattle.fire.specs.declared.kernel.Stage.{Stage}
use Rattle.fire.specs.Steer.{fresh_gait, quickened, slowed, steered_by, steered_of, powers_of}
use Rattle.fire.specs.declared.FireOptions.{FireOptions}
use Rattle.fire.specs.declared.Fired.{Fired}
use Rattle.fire.specs.Calls.{Relaxing, begun_after, begun_by, next_motion, turned_after, turned_by, converged_of, goes_on, relaxed_by, ran_by, settling_asked, ran_unless, ended, fired_of, shown}
use Rattle.fire.specs.Steps.{relaxing_of, Paced, paced, paced_first, paced_after, fired_refused}

-- ---- the first evaluation
module _ (m : Motion) (e : Evaluated) (pairs : List ℕ) (references : List Float) (starts items : List ℕ) (forces : List Float) where
  abbrev seen_first : Paced → Relaxing
  seen_first k = relaxing_of k.stage m.job.given.positions k.velocities pairs references starts items forces

  first_after : (d : Result (Unit {0}) Refusal) → e.done ≡ d
      → seen_first (paced_first m.dt forces m.velocities e d) ≡ begun_after m (seen d) (Evaluation.shown e pairs references starts items forces)
  unfolding paced_first begun_after
  first_after (Ok tt) h = refl
  first_after (Err r) h = refl

  pub begun_by_lem : Evaluation.shown e pairs references starts items forces ≡ settled_in m.job → {r : Stage} {vs : List Float}
      → paced r vs ≡ paced_first m.dt forces m.velocities e e.done
      → relaxing_of r m.job.given.positions vs pairs references starts items forces ≡ begun_by settled_in m
  unfolding begun_by
  begun_by_lem h k = ap seen_first k ∙ first_after e.done refl ∙ ap (λ (o : Evaluation.Outcome). begun_after m o.list.answer o) h

-- ---- an iteration
module _ (dtMax : Float) (s : Stage) (xs : List Float) (vs : List Float) (pairs : List ℕ) (references : List Float) (starts items : List ℕ) (forces : List Float) (r : Stepped) where
  abbrev seen_next : Paced → Relaxing
  seen_next k = relaxing_of k.stage xs k.velocities pairs references starts items forces

  next_after : (d : Result (Unit {0}) Refusal)
      → seen_next (paced_after dtMax s forces vs r d) ≡ turned_after dtMax s.gait s.largest s.iteration (seen d) (Step.shown r xs vs pairs references starts items forces)
  unfolding paced_after turned_after
  next_after (Ok tt) = refl
  next_after (Err why) = refl

  pub turned_by_lem : {o : Step.Outcome} → Step.shown r xs vs pairs references starts items forces ≡ o → {q : Stage} {us : List Float}
      → paced q us ≡ paced_after dtMax s forces vs r r.done
      → relaxing_of q xs us pairs references starts items forces ≡ turned_after dtMax s.gait s.largest s.iteration o.list.answer o
  turned_by_lem h k =
      ap seen_next k ∙ next_after r.done ∙ ap (λ (o : Step.Outcome). turned_after dtMax s.gait s.largest s.iteration o.list.answer o) h

-- ---- counts: an iteration adds one to the iterations, and at most one to the steps since
pub either_way : {A : Type 0} (P : A → Type 0) (b : Bool) {x y : A} → P x → P y → P (cond b x y)
either_way P true p q = p
either_way P false p q = q

module _ (dtMax : Float) (g : Gait) where
  quickened_since : (quickened dtMax g).since ≤ g.since + 1
  unfolding quickened
  quickened_since = either_way (λ (h : Gait). h.since ≤ g.since + 1) (ltb 5 (g.since + 1)) (le_of_eq refl) (le_of_eq refl)

  slowed_since : (slowed g).since ≤ g.since + 1
  unfolding slowed
  slowed_since = omega arith

  steered_since : (fs vs : List Float) → (steered_of dtMax g fs vs).0.since ≤ g.since + 1
  unfolding steered_of steered_by
  steered_since fs vs = either_way (λ (h : Gait × List Float). h.0.since ≤ g.since + 1) (lt f0 (powers_of fs vs).power) quickened_since slowed_since

  pub turned_since : (largest : Float) (i : ℕ) (a : Seen (Unit {0})) (o : Step.Outcome) → (turned_after dtMax g largest i a o).gait.since ≤ g.since + 1
  unfolding turned_after
  turned_since largest i (refused n p) o = omega arith
  turned_since largest i (answered u) o = steered_since o.forces o.velocities

  pub turned_count : (largest : Float) (i : ℕ) (a : Seen (Unit {0})) (o : Step.Outcome) → (turned_after dtMax g largest i a o).iteration ≡ i + 1
  unfolding turned_after
  turned_count largest i (refused n p) o = refl
  turned_count largest i (answered u) o = refl

  pub turned_forces : (largest : Float) (i : ℕ) (a : Seen (Unit {0})) (o : Step.Outcome) → (turned_after dtMax g largest i a o).left.forces ≡ o.forces
  unfolding turned_after
  turned_forces largest i (refused n p) o = refl
  turned_forces largest i (answered u) o = refl

module _ (m : Motion) where
  begun_counts_after : (a : Seen (Unit {0})) (e : Evaluation.Outcome) → ((begun_after m a e).gait.since ≡ 0) × ((begun_after m a e).iteration ≡ 0)
  unfolding begun_after fresh_gait
  begun_counts_after (refused n p) e = (refl, refl)
  begun_counts_after (answered u) e = (refl, refl)

  begun_forces_after : (a : Seen (Unit {0})) (e : Evaluation.Outcome) → (begun_after m a e).left.forces ≡ e.total.forces
  unfolding begun_after
  begun_forces_after (refused n p) e = refl
  begun_forces_after (answered u) e = refl

  pub begun_counts : (ev : Job → Evaluation.Outcome) → ((begun_by ev m).gait.since ≡ 0) × ((begun_by ev m).iteration ≡ 0)
  unfolding begun_by
  begun_counts ev = begun_counts_after (ev m.job).list.answer (ev m.job)

  pub begun_forces : (ev : Job → Evaluation.Outcome) → (begun_by ev m).left.forces ≡ (ev m.job).total.forces
  unfolding begun_by
  begun_forces ev = begun_forces_after (ev m.job).list.answer (ev m.job)

-- ---- the fold: one turn of it, and where it ends
module _ (turn : Relaxing → Relaxing) (tol : Float) where
  relaxed_suc : (n : ℕ) (s : Relaxing) → goes_on tol s.largest s.left.list.answer ≡ true → relaxed_by turn tol (suc n) s ≡ relaxed_by turn tol n (turn s)
  unfolding relaxed_by
  relaxed_suc n s h = rw h

  pub relaxed_stop : (n : ℕ) (s : Relaxing) → goes_on tol s.largest s.left.list.answer ≡ false → relaxed_by turn tol n s ≡ s
  unfolding relaxed_by
  relaxed_stop zero s h = refl
  relaxed_stop (suc n) s h = rw h

  relaxed_zero : (s : Relaxing) → relaxed_by turn tol 0 s ≡ s
  unfolding relaxed_by
  relaxed_zero s = refl

  pub relaxed_out : (limit : ℕ) (s : Relaxing) → limit ≤ s.iteration → relaxed_by turn tol (limit - s.iteration) s ≡ s
  relaxed_out limit s h = let e : limit - s.iteration ≡ 0 = omega arith in ap (λ (n : ℕ). relaxed_by turn tol n s) e ∙ relaxed_zero s

  pub relaxed_turn : (limit : ℕ) (s t : Relaxing) {R : Relaxing} → s.iteration < limit → goes_on tol s.largest s.left.list.answer ≡ true
      → t ≡ turn s → t.iteration ≡ s.iteration + 1 → relaxed_by turn tol (limit - s.iteration) s ≡ R → relaxed_by turn tol (limit - t.iteration) t ≡ R
  relaxed_turn limit s t h g e c r =
      let n : limit - s.iteration ≡ suc (limit - t.iteration) = omega arith in
      ap (λ (z : Relaxing). relaxed_by turn tol (limit - t.iteration) z) e
      ∙ sym (relaxed_suc (limit - t.iteration) s g)
      ∙ sym (ap (λ (k : ℕ). relaxed_by turn tol k s) n)
      ∙ r

-- ---- the loop: so far s, and what is left from there gives what all give from the start
pub record Going (ev : Job → Evaluation.Outcome) (dtMax : Float) (m : Motion) (tol : Float) (limit : ℕ) (start s : Relaxing) : Type 0 where
  pub counted : s.iteration ≤ limit
  pub since : s.gait.since ≤ s.iteration
  pub rest : relaxed_by (turned_by ev dtMax m) tol (limit - s.iteration) s ≡ relaxed_by (turned_by ev dtMax m) tol limit start

pub going_first : (ev : Job → Evaluation.Outcome) (dtMax : Float) (m : Motion) (tol : Float) (limit : ℕ) (s : Relaxing) → s.gait.since ≡ 0 → s.iteration ≡ 0 → Going ev dtMax m tol limit s s
going_first ev dtMax m tol limit s h k =
    let n : limit - s.iteration ≡ limit = omega arith in
    record { counted = omega arith; since = omega arith; rest = ap (λ (z : ℕ). relaxed_by (turned_by ev dtMax m) tol z s) n }

module _ {ev : Job → Evaluation.Outcome} {dtMax : Float} {m : Motion} {tol : Float} {limit : ℕ} {start s : Relaxing} (g : Going ev dtMax m tol limit start s) where
  pub going_stop : goes_on tol s.largest s.left.list.answer ≡ false → s ≡ relaxed_by (turned_by ev dtMax m) tol limit start
  going_stop h = sym (relaxed_stop (turned_by ev dtMax m) tol (limit - s.iteration) s h) ∙ g.rest

  pub going_out : limit ≤ s.iteration → s ≡ relaxed_by (turned_by ev dtMax m) tol limit start
  going_out h = sym (relaxed_out (turned_by ev dtMax m) tol limit s h) ∙ g.rest

-- what `turn` says, from the run before it
abbrev TurnedFrom : (ev : Job → Evaluation.Outcome) (dtMax : Float) (m : Motion) (s t : Relaxing) → Type 0
TurnedFrom ev dtMax m s t = t ≡ turned_after dtMax s.gait s.largest s.iteration (advanced_by ev (next_motion m s)).list.answer (advanced_by ev (next_motion m s))

module _ (ev : Job → Evaluation.Outcome) (dtMax tol : Float) (m : Motion) (limit : ℕ) (start s t : Relaxing) (e : TurnedFrom ev dtMax m s t) where
  turned_turn : t ≡ turned_by ev dtMax m s
  unfolding turned_by
  turned_turn = e

  turned_next : t.iteration ≡ s.iteration + 1
  turned_next =
      ap (λ (z : Relaxing). z.iteration) e
      ∙ turned_count dtMax s.gait s.largest s.iteration (advanced_by ev (next_motion m s)).list.answer (advanced_by ev (next_motion m s))

  turned_pace : t.gait.since ≤ s.gait.since + 1
  turned_pace =
      let k = ap (λ (z : Relaxing). z.gait.since) e in
      omega (arith, k, turned_since dtMax s.gait s.largest s.iteration (advanced_by ev (next_motion m s)).list.answer (advanced_by ev (next_motion m s)))

  turned_going : Going ev dtMax m tol limit start s → s.iteration < limit → goes_on tol s.largest s.left.list.answer ≡ true
      → Going ev dtMax m tol limit start t
  turned_going g h on =
      let c = turned_next in
      let p = turned_pace in
      let q = g.since in
      record {
        counted = omega arith;
        since = omega arith;
        rest = relaxed_turn (turned_by ev dtMax m) tol limit s t h on turned_turn c g.rest;
      }

  turned_less : s.iteration < limit → limit - t.iteration < limit - s.iteration
  turned_less h = let c = turned_next in omega arith

module _ {ev : Job → Evaluation.Outcome} {dtMax tol : Float} {m : Motion} {limit : ℕ} {start s t : Relaxing} (g : Going ev dtMax m tol limit start s) (h : s.iteration < limit) where
  pub going_turn : goes_on tol s.largest s.left.list.answer ≡ true → TurnedFrom ev dtMax m s t → Going ev dtMax m tol limit start t
  going_turn on e = turned_going ev dtMax tol m limit start s t e g h on

  pub going_less : TurnedFrom ev dtMax m s t → limit - t.iteration < limit - s.iteration
  going_less e = turned_less ev dtMax tol m limit start s t e h

-- ---- after passed tests the kernel's evaluation is the contract's
pub turned_next_motion : (ev : Job → Evaluation.Outcome) (dtMax : Float) (m : Motion) (s : Relaxing) → turned_by ev dtMax (next_motion m s) ≡ turned_by ev dtMax m
unfolding turned_by
turned_next_motion ev dtMax m s = refl

landed_length : (m : Motion) (a : Seen (Unit {0})) (e : Evaluation.Outcome) → length e.total.forces ≡ length m.job.forces → length (landed_after m a e).forces ≡ length m.job.forces
unfolding landed_after
landed_length m (refused n p) e h = refl
landed_length m (answered u) e h = h

advanced_length : (m : Motion) → length (advanced_by settled_of m).forces ≡ length m.job.forces
unfolding advanced_by landed_by
advanced_length m =
    either_way (λ (o : Step.Outcome). length o.forces ≡ length m.job.forces)
    (drifts (units_of m) m.dt m.job.forces m.masses m.job.given.positions m.velocities)
    (landed_length (moved m) (settled_of (moved m).job).list.answer (settled_of (moved m).job) (settled_length _ _ (moved m).job))
    refl

module _ (dtMax tol : Float) (m : Motion) (up : (rising m.job.terms.tables.own_ids ≡ true) × (rising m.job.terms.tables.ids ≡ true)) where
  turned_is : (s : Relaxing) → length s.left.forces ≤ 49152 → turned_by settled_in dtMax m s ≡ turned_by settled_of dtMax m s
  unfolding turned_by
  turned_is s few = ap (λ (o : Step.Outcome). turned_after dtMax s.gait s.largest s.iteration o.list.answer o) (advanced_is (next_motion m s) up few)

  turned_length : (s : Relaxing) → length (turned_by settled_of dtMax m s).left.forces ≡ length s.left.forces
  unfolding turned_by
  turned_length s =
      ap length (turned_forces dtMax s.gait s.largest s.iteration (advanced_by settled_of (next_motion m s)).list.answer (advanced_by settled_of (next_motion m s)))
      ∙ advanced_length (next_motion m s)

  relaxed_is : (n : ℕ) (s : Relaxing) → length s.left.forces ≤ 49152 → relaxed_by (turned_by settled_in dtMax m) tol n s ≡ relaxed_by (turned_by settled_of dtMax m) tol n s
  unfolding relaxed_by
  relaxed_is zero s few = refl
  relaxed_is (suc n) s few =
      ap (λ (t : Relaxing). cond (goes_on tol s.largest s.left.list.answer) t s)
      (ap (λ (t : Relaxing). relaxed_by (turned_by settled_in dtMax m) tol n t) (turned_is s few)
      ∙ relaxed_is n (turned_by settled_of dtMax m s) (omega (arith, turned_length s, few)))

module _ (o : FireOptions) (m : Motion) (up : (rising m.job.terms.tables.own_ids ≡ true) × (rising m.job.terms.tables.ids ≡ true)) (few : length m.job.forces ≤ 49152) where
  begun_is : begun_by settled_in m ≡ begun_by settled_of m
  unfolding begun_by
  begun_is = ap (λ (e : Evaluation.Outcome). begun_after m e.list.answer e) (settled_is m.job up few)

  begun_few : length (begun_by settled_of m).left.forces ≤ 49152
  begun_few = omega (arith, ap length (begun_forces m settled_of), settled_length look_of (length m.job.forces) m.job, few)

  ran_is : ran_by settled_in o m ≡ ran_by settled_of o m
  unfolding ran_by
  ran_is =
      ap (λ (s : Relaxing). relaxed_by (turned_by settled_in o.dt_max m) o.force_tol o.max_iters s) begun_is
      ∙ relaxed_is o.dt_max o.force_tol m up o.max_iters (begun_by settled_of m) begun_few

-- ---- the call
module _ (o : FireOptions) (m : Motion) {d : Result (Unit {0}) Refusal} (is : d ≡ settling_asked o m) where
  asked_up : d ≡ Ok tt → (rising m.job.terms.tables.own_ids ≡ true) × (rising m.job.terms.tables.ids ≡ true)
  unfolding settling_asked
  asked_up h = asked_rising _ _ m.job.terms m.job.given (length m.job.forces) (sym is ∙ h)

  asked_room : d ≡ Ok tt → length m.job.forces ≤ 49152
  unfolding settling_asked
  asked_room h =
      let f = asked_forces _ _ m.job.terms m.job.given (length m.job.forces) (sym is ∙ h) in
      let l = asked_few _ _ m.job.terms m.job.given (length m.job.forces) (sym is ∙ h) in
      omega arith

  pub fired_refused_lem : m.potential ≡ f0 → {why : Refusal} → d ≡ Err why → {r : Fired} → r ≡ fired_refused m.job.given.state why
      → shown r m.job.given.positions m.velocities m.job.given.pairs m.job.given.references m.job.given.starts m.job.given.items m.job.forces ≡ fired_of o m
  unfolding fired_of ran_unless converged_of
  fired_refused_lem z h q = rw (← is, h, q, z)

  ran_by_lem : d ≡ Ok tt → (b : Relaxing) → b ≡ begun_by settled_in m → {t : Relaxing}
      → t ≡ relaxed_by (turned_by settled_in o.dt_max (next_motion m b)) o.force_tol o.max_iters b → t ≡ ran_by settled_of o m
  ran_by_lem h b e q =
      q ∙ ap (λ (f : Relaxing → Relaxing). relaxed_by f o.force_tol o.max_iters b) (turned_next_motion settled_in o.dt_max m b)
      ∙ ap (λ (s : Relaxing). relaxed_by (turned_by settled_in o.dt_max m) o.force_tol o.max_iters s) e
      ∙ unfold ran_by in ran_is o m (asked_up h) (asked_room h)

  pub fired_on : d ≡ Ok tt → (b : Relaxing) → b ≡ begun_by settled_in m → {t : Relaxing}
      → t ≡ relaxed_by (turned_by settled_in o.dt_max (next_motion m b)) o.force_tol o.max_iters b → ended o.force_tol t ≡ fired_of o m
  unfolding fired_of ran_unless
  fired_on h b e q = rw (← is, h) (ap (ended o.force_tol) (ran_by_lem h b e q))
