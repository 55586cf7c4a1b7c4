-- A step by its ways: refused, stopped, landed; and that after the tests the kernel's evaluation is the contract's. Assumes nothing.
use Rattle.std.specs.Prelude.{Err, Ok, Option, Result}
use Rattle.verlet.specs.declared.Thermostat.{Thermostat}
use Prim.Native.Nat.{ℕ, ◌≤◌}
use native.Mathlib.Omega.{arith}
use mathlib.Core.Path.{◌≡◌, refl, sym, ap, ◌∙◌}
use mathlib.Core.Bool.{Bool, true, false}
use mathlib.Core.List.{List}
use lib.Ieee.{Float}
use lib.ListN.{length}
use Rattle.answer.specs.declared.Refusal.{Refusal}
use Rattle.answer.specs.declared.Refusal.TheVariants.{Drifted}
use Rattle.answer.specs.Seen.{Seen, answered, refused, seen}
use Rattle.potentials_pair.specs.declared.Lj.{Lj}
use Rattle.potentials_pair.specs.declared.Mixed.{Mixed}
use Rattle.potentials_pair.specs.Species.{Tables, rising}
use Rattle.verlet_kick.specs.Kick.{second_kick_after}
use Rattle.verlet.specs.Parts.{moved_by, drifts}
use Rattle.neighbor.specs.declared.Question.TheVariants.{Outdated}
use Rattle.neighbor.specs.Update as Update
use Rattle.evaluate.specs.declared.Evaluated.{Evaluated}
use Rattle.evaluate.specs.Calls.{Job, after_list, settled_by, settled_of}
use Rattle.evaluate.specs.Calls as Evaluation
use Rattle.evaluate.specs.Steps.{settled_in}
use Rattle.evaluate.proofs.Settling.{asked_rising, asked_forces, asked_few, settled_list, settled_is}
use Rattle.verlet_step.specs.declared.Stepped.{Stepped}
use Rattle.verlet_step.specs.Asked.{step_limit, finish_limit}
use Rattle.verlet_step.specs.Calls.{Motion, Outcome, units_of, landed_after, landed_by, motion_at, moved, advanced_by, cooled_of, cooled, motion_asked, unless, stepped_of, finished_of, shown}
use Rattle.verlet_step.specs.Steps.{landed_in, advanced_in, unmoved_of, kicked, kicked_after, Kicked}

-- ---- an evaluation that is refused leaves the forces
module _ (look : Tables → Lj → ℕ → Mixed) (room : ℕ) (j : Job) where
  module _ {n p : ℕ} where
    after_stays : (a : Seen (Unit {0})) (o : Update.Outcome) → o.answer ≡ a → o.answer ≡ refused n p → (after_list look room j a o).total.forces ≡ j.forces
    unfolding after_list
    after_stays (answered u) o e h = let z : ◌≡◌ {A = ℕ} 0 1 = cc in absurd (omega arith)
    after_stays (refused k q) o e h = refl

    forces_stay : (settled_by look room j).list.answer ≡ refused n p → (settled_by look room j).total.forces ≡ j.forces
    unfolding settled_by
    forces_stay h =
        let o = Update.update_of Outdated j.given in
        after_stays o.answer o refl (sym (ap (λ (x : Update.Outcome). x.answer) (settled_list look room j)) ∙ h)

-- ---- the evaluation and the second kick
module _ (m : Motion) (e : Evaluated) (pairs : List ℕ) (references : List Float) (starts items : List ℕ) (forces : List Float) where
  abbrev evaluation : Evaluation.Outcome
  evaluation = Evaluation.shown e pairs references starts items forces

  abbrev kicked_seen : Kicked → Outcome
  kicked_seen k = shown k.answer m.job.given.positions k.velocities pairs references starts items forces

  landed_after_lem : (d : Result (Unit {0}) Refusal) → ((r : Refusal) → d ≡ Err r → forces ≡ m.job.forces)
      → kicked_seen (kicked_after m.potential (units_of m) m.dt forces m.masses m.velocities e d) ≡ landed_after m (seen d) evaluation
  unfolding kicked_after second_kick_after landed_after
  landed_after_lem (Ok tt) h = refl
  landed_after_lem (Err r) h = rw (h r refl)

  pub landed_by_lem : evaluation ≡ settled_in m.job → {r : Stepped} {vs : List Float}
      → kicked r vs ≡ kicked_after m.potential (units_of m) m.dt forces m.masses m.velocities e e.done
      → shown r m.job.given.positions vs pairs references starts items forces ≡ landed_in m
  unfolding landed_by
  landed_by_lem h k =
      ap kicked_seen k
      ∙ landed_after_lem e.done
      (λ r is. ap (λ (o : Evaluation.Outcome). o.total.forces) h
      ∙ forces_stay _ _ m.job (sym (ap (λ (o : Evaluation.Outcome). o.list.answer) h) ∙ ap seen is))
      ∙ ap (λ (o : Evaluation.Outcome). landed_after m o.list.answer o) h

-- an answer with everything lent as it came, and an outcome at other velocities
abbrev pub as_came : Motion → Stepped → Outcome
as_came m r = shown r m.job.given.positions m.velocities m.job.given.pairs m.job.given.references m.job.given.starts m.job.given.items m.job.forces

abbrev pub at_speeds : Outcome → List Float → Outcome
at_speeds o vs = record { list = o.list; stopped = o.stopped; potential = o.potential; positions = o.positions; velocities = vs; forces = o.forces }

-- ---- the drift before it
module _ (m : Motion) {b : Bool} (is : b ≡ drifts (units_of m) m.dt m.job.forces m.masses m.job.given.positions m.velocities) where
  pub advanced_refused : b ≡ false → {r : Stepped} → r ≡ unmoved_of m.job.given.state m.potential Drifted
      → as_came m r ≡ advanced_in m
  unfolding advanced_by
  advanced_refused h q = rw (← is, h, q)

  pub advanced_on : b ≡ true → {p : List Float × List Float} → p ≡ moved_by (units_of m) m.dt m.job.forces m.masses m.job.given.positions m.velocities
      → {o : Outcome} → o ≡ landed_in (motion_at m p) → o ≡ advanced_in m
  unfolding advanced_by
  advanced_on h e q = rw (← is, h, ← e) q

-- ---- after passed tests the evaluation is the contract's
module _ (m : Motion) (up : (rising m.job.terms.tables.own_ids ≡ true) × (rising m.job.terms.tables.ids ≡ true)) (few : length m.job.forces ≤ 49152) where
  pub landed_is : landed_in m ≡ landed_by settled_of m
  unfolding landed_by
  landed_is = ap (λ (o : Evaluation.Outcome). landed_after m o.list.answer o) (settled_is m.job up few)

pub advanced_is : (m : Motion) → (rising m.job.terms.tables.own_ids ≡ true) × (rising m.job.terms.tables.ids ≡ true) → length m.job.forces ≤ 49152 → advanced_in m ≡ advanced_by settled_of m
unfolding advanced_by
advanced_is m up few = rw (landed_is (moved m) up few)

-- ---- the calls
module _ (limit : Float) (t : Option Thermostat) (m : Motion) {d : Result (Unit {0}) Refusal} (is : d ≡ motion_asked limit t m) where
  pub asked_up : d ≡ Ok tt → (rising m.job.terms.tables.own_ids ≡ true) × (rising m.job.terms.tables.ids ≡ true)
  unfolding motion_asked
  asked_up h = asked_rising _ _ m.job.terms m.job.given (length m.job.forces) (sym is ∙ h)

  pub asked_room : d ≡ Ok tt → length m.job.forces ≤ 49152
  unfolding motion_asked
  asked_room h =
      let f = asked_forces _ _ m.job.terms m.job.given (length m.job.forces) (sym is ∙ h) in
      let l = asked_few _ _ m.job.terms m.job.given (length m.job.forces) (sym is ∙ h) in
      omega arith

  refused_by_lem : {why : Refusal} → d ≡ Err why → {r : Stepped} → r ≡ unmoved_of m.job.given.state m.potential why → (o : Outcome)
      → as_came m r ≡ unless m (motion_asked limit t m) o
  unfolding unless
  refused_by_lem h q o = rw (← is, h, q)

  cooled_by : d ≡ Ok tt → {o o' : Outcome} → o ≡ o' → {vs : List Float} → vs ≡ cooled_of t (units_of m) m.dt m.masses o.list.answer o.velocities
      → at_speeds o vs ≡ unless m (motion_asked limit t m) (cooled t m o')
  unfolding unless
  cooled_by h {o} e q = rw (← is, h) (ap (at_speeds o) q ∙ ap (cooled t m) e)

module _ (t : Option Thermostat) (m : Motion) {d : Result (Unit {0}) Refusal} where
  module _ (is : d ≡ motion_asked step_limit t m) where
    pub stepped_refused : {why : Refusal} → d ≡ Err why → {r : Stepped} → r ≡ unmoved_of m.job.given.state m.potential why → as_came m r ≡ stepped_of t m
    unfolding stepped_of
    stepped_refused h q = refused_by_lem step_limit t m is h q _

    pub stepped_on : d ≡ Ok tt → {o : Outcome} → o ≡ advanced_in m → {vs : List Float} → vs ≡ cooled_of t (units_of m) m.dt m.masses o.list.answer o.velocities
        → at_speeds o vs ≡ stepped_of t m
    unfolding stepped_of
    stepped_on h e q = cooled_by step_limit t m is h (e ∙ advanced_is m (asked_up step_limit t m is h) (asked_room step_limit t m is h)) q

  module _ (is : d ≡ motion_asked finish_limit t m) where
    pub finished_refused : {why : Refusal} → d ≡ Err why → {r : Stepped} → r ≡ unmoved_of m.job.given.state m.potential why → as_came m r ≡ finished_of t m
    unfolding finished_of
    finished_refused h q = refused_by_lem finish_limit t m is h q _

    pub finished_on : d ≡ Ok tt → {o : Outcome} → o ≡ landed_in m → {vs : List Float} → vs ≡ cooled_of t (units_of m) m.dt m.masses o.list.answer o.velocities
        → at_speeds o vs ≡ finished_of t m
    unfolding finished_of
    finished_on h e q = cooled_by finish_limit t m is h (e ∙ landed_is m (asked_up finish_limit t m is h) (asked_room finish_limit t m is h)) q
