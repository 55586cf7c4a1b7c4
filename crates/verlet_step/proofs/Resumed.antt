-- THEOREM. A call that a 7 or 8 stopped, finished with other rooms, is that call with those rooms from the start. Assumes nothing.
use Rattle.std.specs.Prelude.{None, Ok, Option}
use Rattle.verlet.specs.declared.Thermostat.{Thermostat}
use Prim.Native.Nat.{ℕ, ◌*◌, ◌/◌, ◌≤◌}
use native.Mathlib.Omega.{arith}
use mathlib.Core.Path.{◌≡◌, refl, sym, ap, ◌∙◌}
use mathlib.Core.Bool.{true, false}
use mathlib.Core.Logic.{◌⊎◌, inl, inr, ⊎_elim}
use mathlib.Core.List.{List}
use lib.Ieee.{Float, le, of_bits}
use lib.ListN.{length, take}
use borrow.Author.Tests.{ne_eqb}
use Rattle.lists.specs.Atoms.{atoms_of}
use Rattle.answer.specs.Seen.{answered, refused, seen}
use Rattle.float.specs.Arith.{bits}
use Rattle.float.specs.Def.{abs_of, max_of}
use Rattle.lists.proofs.Cases.{and_both, both_and}
use Rattle.ranges.specs.Ranged.{within, between}
use Rattle.cell.specs.Ranged.{entry_limit, cell_in_range}
use Rattle.neighbor.specs.declared.Question.TheVariants.{Outdated}
use Rattle.neighbor.specs.declared.State.{State}
use Rattle.neighbor_asked.specs.Asked.{settings_ok}
use Rattle.neighbor.specs.State.{skin_of, emptied_of}
use Rattle.neighbor.specs.Rebuild.{claims_more, references_ok}
use Rattle.neighbor.specs.Update.{keeps_of, lengths_bad, misnamed, kept_asked}
use Rattle.neighbor.proofs.Asking.{claims_told, claims_made}
use Rattle.evaluate.specs.Calls.{settled_of}
use Rattle.bins.proofs.Laid.{laid_length}
use Rattle.verlet_step.specs.declared.Stepped.{Stepped}
use Rattle.verlet_step.specs.Asked.{step_limit, finish_limit}
use Rattle.verlet_step.specs.Calls.{Motion, Outcome, atoms_stay, landed_by, moved, cooled, motion_asked, stepped_of, finished_of}
use Rattle.verlet_step.specs.Theorems.{Rooms, Carries, rooms_of, left_in, lent_to, resumed, Holds, before, after, Stops, Resumable, StepResumes, FinishResumes, CallsResume}
use Rattle.verlet_step.proofs.Lent.{Passed, asked_told, asked_made, lengths_again, list_fits, list_able, claims_carried, keeps_carried, kept_carried}
use Rattle.verlet_step.proofs.Relisted.{zero_or, found_in, Untouched, Overfull, update_leaves, update_again, overfull_kept}
use Rattle.verlet_step.proofs.Stopping.{updated, Stopped, stopped_told, step_on, Halted, halted_told, finish_asked, finish_on, finish_listed, finish_ends, lands_again, places_length, put_in}
use Rattle.verlet_step.proofs.Moved.{speeds_asked, ranges_told, ranges_made, moved_passed, speeds_small}

-- ---- the state that an 8 leaves passes the tests, in rooms of enough length
zero_within : within entry_limit (bits 0) ≡ true
unfolding within le abs_of of_bits
zero_within = refl

module _ (s : State) where
  settings_emptied : settings_ok s.cutoff s.skin ≡ true → settings_ok (emptied_of s).cutoff (emptied_of s).skin ≡ true
  unfolding settings_ok emptied_of skin_of
  settings_emptied h =
      let cutoff = between (bits 0) entry_limit s.cutoff in
      let p = and_both cutoff (within entry_limit s.skin) h in
      let k : within entry_limit (max_of s.skin (bits 0)) ≡ true = ⊎_elim (λ e. rw e zero_within) (λ e. rw e p.1) (zero_or s.skin) in
      both_and cutoff (within entry_limit (max_of s.skin (bits 0))) p.0 k

  claims_emptied : (pairs refs : ℕ) → claims_more (emptied_of s).built_in (emptied_of s).pairs pairs (emptied_of s).references refs ≡ false
  unfolding emptied_of cell_in_range
  claims_emptied pairs refs = claims_made None 0 pairs 0 refs (omega arith) (omega arith) refl

  kept_emptied : (n : ℕ) (pairs : List ℕ) (refs : List Float) → 2 ≤ n → kept_asked (emptied_of s) n pairs refs ≡ Ok tt
  unfolding kept_asked references_ok misnamed emptied_of
  kept_emptied n pairs refs h = rw (ne_eqb 0 n (λ e. omega arith))

-- ---- a motion whose list was refused, in other rooms
-- finished from the state that is left, it ends as from its own; and its own tests of the list are passed there
pub record Again (t : Option Thermostat) (q : Motion) (r : Rooms) : Type 0 where
  pub same : finished_of t (put_in q r (updated q).state) ≡ cooled t q (landed_by settled_of (put_in q r q.job.given.state))
  pub lengths : lengths_bad (length q.job.given.positions) (length q.job.given.exclusions) (length r.references) (length r.items) ≡ false
  pub claims : claims_more q.job.given.state.built_in q.job.given.state.pairs (length r.pairs / 2) q.job.given.state.references (length r.references / 3) ≡ false
  pub kept : kept_asked q.job.given.state (atoms_of q.job.given.positions) r.pairs r.references ≡ Ok tt

module _ (t : Option Thermostat) (q : Motion) (base : Passed finish_limit t q) (number place : ℕ) (refusal : (updated q).answer ≡ refused number place) where
  leaves : Untouched q.job.given (updated q) ⊎ Overfull q.job.given (updated q)
  leaves = update_leaves q.job.given (list_fits finish_limit t q base) (list_able finish_limit t q base) number place refusal

  reason : Stops (updated q).answer
  reason = ⊎_elim (λ (u : Untouched q.job.given (updated q)). inl u.answer) (λ (o : Overfull q.job.given (updated q)). inr (length (found_in q.job.given), o.answer)) leaves

module _ (t : Option Thermostat) (q : Motion) (r : Rooms) (base : Passed finish_limit t q) (number place : ℕ) (refusal : (updated q).answer ≡ refused number place) where
  abbrev state : State
  state = q.job.given.state

  abbrev places : List Float
  places = q.job.given.positions

  abbrev from : State → Motion
  from s = put_in q r s

  abbrev stop : Outcome
  stop = atoms_stay q true (updated q)

  module _ (done : (finished_of t (from (updated q).state)).list.answer ≡ answered tt) where
    done_from : (s : State) → (updated q).state ≡ s → (finished_of t (from s)).list.answer ≡ answered tt
    done_from s e = ap (λ (x : State). (finished_of t (from x)).list.answer) (sym e) ∙ done

    finished_from : (s : State) → (updated q).state ≡ s → finished_of t (from (updated q).state) ≡ cooled t q (landed_by settled_of (from s))
    finished_from s e = ap (λ (x : State). finished_of t (from x)) e ∙ finish_on t (from s) (finish_asked t (from s) (done_from s e))

    passed_from : (s : State) → (updated q).state ≡ s → Passed finish_limit t (from s)
    passed_from s e = asked_told finish_limit t (from s) (finish_asked t (from s) (done_from s e))

    -- the state as it came
    same_state : (updated q).state ≡ state → Again t q r
    same_state e = let f = passed_from state e in record { same = finished_from state e; lengths = f.lengths; claims = f.claims; kept = f.kept }

    -- the state that an 8 leaves, in rooms that have what `old` had
    module _ (o : Overfull q.job.given (updated q)) (old : Rooms) (c : Carries state old r) (same : old.references ≡ q.job.given.references)
        (claims : claims_more state.built_in state.pairs (length old.pairs / 2) state.references (length old.references / 3) ≡ false)
        (kept : kept_asked state (atoms_of places) old.pairs old.references ≡ Ok tt) where
      asked : keeps_of Outdated state q.job.given.cell places r.references ≡ false
      asked = keeps_carried state old r c claims q.job.given.cell places ∙ ap (keeps_of Outdated state q.job.given.cell places) same ∙ o.asked

      listed : updated (from (emptied_of state)) ≡ updated (from state)
      listed = update_again (from state).job.given o.many asked (finish_listed t (from (emptied_of state)) (done_from (emptied_of state) o.state))

      other_state : Again t q r
      other_state =
          record {
            same = finished_from (emptied_of state) o.state ∙ ap (cooled t q) (lands_again (from state) listed);
            lengths = (passed_from (emptied_of state) o.state).lengths;
            claims = claims_carried state old r c claims;
            kept = kept_carried state old r c claims (atoms_of places) ∙ kept;
          }

    -- as the rooms stood before the call, and as it left them
    by_rooms : Overfull q.job.given (updated q) → Holds q stop r → Again t q r
    by_rooms o (before c) = other_state o (rooms_of q) c refl base.claims base.kept
    by_rooms o (after c) =
        let fit = claims_told state.built_in state.pairs (length q.job.given.pairs / 2) state.references (length q.job.given.references / 3) base.claims in
        let claims : claims_more state.built_in state.pairs (length (updated q).pairs / 2) state.references (length (updated q).references / 3) ≡ false =
        rw (o.pairs, o.references, laid_length q.job.given.pairs (found_in q.job.given)) base.claims in
        let kept : kept_asked state (atoms_of places) (updated q).pairs (updated q).references ≡ (Ok tt) =
        rw (o.pairs, o.references) (overfull_kept q.job.given o.over fit.0 fit.2 base.kept) in
        other_state o (left_in stop) c o.references claims kept

    again : ((updated q).state ≡ state) ⊎ Holds q stop r → Again t q r
    again =
        ⊎_elim same_state
        (λ h.
        ⊎_elim (λ (u : Untouched q.job.given (updated q)). same_state u.state) (λ (o : Overfull q.job.given (updated q)). by_rooms o h)
        (leaves t q base number place refusal))

  -- ---- the finishing call refuses nothing
  module _ (h : Holds q stop r) (references : length places ≤ length r.references) (items : atoms_of places ≤ length r.items) where
    passes : (s : State) → settings_ok s.cutoff s.skin ≡ true → claims_more s.built_in s.pairs (length r.pairs / 2) s.references (length r.references / 3) ≡ false
        → kept_asked s (atoms_of places) r.pairs r.references ≡ Ok tt → motion_asked finish_limit t (from s) ≡ Ok tt
    passes s settings claims kept =
        let u = ranges_told state q.job.given.cell places base.ranges in
        asked_made finish_limit t (from s)
        (record {
          fits = base.fits;
          lengths = lengths_again _ _ _ _ _ _ base.lengths references items;
          few = base.few;
          claims = claims;
          ranges = ranges_made s q.job.given.cell places settings u.1 u.2;
          numbers = base.numbers;
          kept = kept;
          names = base.names;
        })

    settings : settings_ok state.cutoff state.skin ≡ true
    settings = (ranges_told state q.job.given.cell places base.ranges).0

    -- the state as it came: the rooms have the old list
    carried : Untouched q.job.given (updated q) → Holds q stop r → Carries state (rooms_of q) r
    carried u (before c) = c
    carried u (after c) =
        record { pairs = c.pairs ∙ ap (take (2 * state.pairs)) u.pairs; references = c.references ∙ ap (take (3 * state.references)) u.references }

    from_came : Untouched q.job.given (updated q) → motion_asked finish_limit t (from state) ≡ Ok tt
    from_came u =
        let c = carried u h in
        passes state settings (claims_carried state (rooms_of q) r c base.claims) (kept_carried state (rooms_of q) r c base.claims (atoms_of places) ∙ base.kept)

    -- the state that an 8 leaves: nothing of the old list is asked for
    from_emptied : Overfull q.job.given (updated q) → motion_asked finish_limit t (from (emptied_of state)) ≡ Ok tt
    from_emptied o =
        passes (emptied_of state) (settings_emptied state settings) (claims_emptied state (length r.pairs / 2) (length r.references / 3)) (kept_emptied state (atoms_of places) r.pairs r.references o.many)

    ends : ((finished_of t (from (updated q).state)).list.answer ≡ answered tt) ⊎ ((finished_of t (from (updated q).state)).stopped ≡ true)
    ends =
        finish_ends t (from (updated q).state)
        (⊎_elim (λ (u : Untouched q.job.given (updated q)). rw u.state (from_came u)) (λ (o : Overfull q.job.given (updated q)). rw o.state (from_emptied o))
        (leaves t q base number place refusal))

-- ---- a step
module _ (t : Option Thermostat) (m : Motion) (is : Stopped t m) where
  abbrev at_stop : Outcome
  at_stop = atoms_stay (moved m) true (updated (moved m))

  -- its tests: of the rooms and the old list, as given; the rest from the stopped step's
  whole : (r : Rooms) → Again t (moved m) r → finished_of t (resumed m at_stop r) ≡ stepped_of t (lent_to m r)
  whole r g =
      let a = asked_told step_limit t m is.asked in
      let tests =
      asked_made step_limit t (lent_to m r)
      (record {
        fits = a.fits;
        lengths = rw (places_length m) at g.lengths;
        few = a.few;
        claims = g.claims;
        ranges = a.ranges;
        numbers = a.numbers;
        kept = rw (places_length m) at g.kept;
        names = a.names;
      }) in
      g.same ∙ sym (step_on t (lent_to m r) tests is.drift)

  moved_holds : (r : Rooms) → Holds m at_stop r → Holds (moved m) at_stop r
  moved_holds r (before c) = before c
  moved_holds r (after c) = after c

  step_stopped : Resumable t m at_stop (λ r. stepped_of t (lent_to m r))
  step_stopped =
      let base = moved_passed t m is in
      record {
        resumes =
            λ r h done. whole r (again t (moved m) r base is.number is.place is.refusal done (⊎_elim inl (λ k. inr (moved_holds r k)) h));
        why = reason t (moved m) base is.number is.place is.refusal;
        speeds = speeds_small t m is;
        finishes =
            λ r h references items.
            ends t (moved m) r base is.number is.place is.refusal (moved_holds r h) (rw (places_length m) references) (rw (places_length m) items);
      }

pub step_resumes : (t : Option Thermostat) (m : Motion) → StepResumes t m
step_resumes t m h = let is = stopped_told t m h in rw is.is (step_stopped t m is)

-- ---- a finishing call
module _ (t : Option Thermostat) (m : Motion) (is : Halted t m) where
  passed_before : Passed finish_limit t m
  passed_before = asked_told finish_limit t m is.asked

  whole_again : (r : Rooms) → Again t m r → finished_of t (resumed m (atoms_stay m true (updated m)) r) ≡ finished_of t (lent_to m r)
  whole_again r g =
      let a = passed_before in
      let tests =
      asked_made finish_limit t (lent_to m r)
      (record {
        fits = a.fits;
        lengths = g.lengths;
        few = a.few;
        claims = g.claims;
        ranges = a.ranges;
        numbers = a.numbers;
        kept = g.kept;
        names = a.names;
      }) in
      g.same ∙ sym (finish_on t (lent_to m r) tests)

  finish_stopped : Resumable t m (atoms_stay m true (updated m)) (λ r. finished_of t (lent_to m r))
  finish_stopped =
      record {
        resumes = λ r h done. whole_again r (again t m r passed_before is.number is.place is.refusal done h);
        why = reason t m passed_before is.number is.place is.refusal;
        speeds = speeds_asked finish_limit t m passed_before;
        finishes = λ r h references items. ends t m r passed_before is.number is.place is.refusal h references items;
      }

pub finish_resumes : (t : Option Thermostat) (m : Motion) → FinishResumes t m
finish_resumes t m h = let is = halted_told t m h in rw is.is (finish_stopped t m is)

-- over any number of stops: the finishing call before, lent other rooms, is the same finishing call
pub chained : (m : Motion) (o : Outcome) (r r' : Rooms) → lent_to (resumed m o r) r' ≡ resumed m o r'
chained m o r r' = refl

-- ---- the calls; Only.antt has that nothing else fits the contract of `step` with those rooms
module _ (t : Option Thermostat) (m : Motion) (r : Rooms) (a b : Stepped) (xs vs ws : List Float) (pairs pairs' : List ℕ) (references references' : List Float)
    (starts starts' items items' : List ℕ) (forces forces' : List Float) where
  pub calls_resume : CallsResume t m r a b xs vs ws pairs pairs' references references' starts starts' items items' forces forces'
  calls_resume step stopped holds finish done =
      let held = ⊎_elim (λ e. inl (ap (λ (u : Outcome). u.list.state) (sym step) ∙ e)) (λ h. inr (rw step at h)) holds in
      let again = ap (λ (u : Outcome). finished_of t (resumed m u r)) step in
      let all = step_resumes t m (ap (λ (u : Outcome). u.stopped) (sym step) ∙ stopped) in
      finish ∙ again ∙ all.resumes r held (ap (λ (u : Outcome). u.list.answer) (sym (finish ∙ again)) ∙ ap seen done)
