-- What `read_two` answers and leaves, for what is written from it; `to_one` and `to_two` by their cases. Assumes nothing.
use Rattle.std.specs.Prelude.{Result}
use Prim.Native.Nat.{ℕ, ◌*◌, ◌≤◌, ◌<◌}
use mathlib.Core.Path.{◌≡◌, refl, sym, ap, ◌∙◌}
use mathlib.Core.Bool.{true, false, cond}
use mathlib.Core.List.{List}
use native.Mathlib.Omega.{arith}
use lib.ListN.{length, take}
use lib.Dec.{ltb, eqb}
use borrow.Author.Tests.{lt-ltb, le-ltb, ltb-false, eq-eqb, ne_eqb}
use Rattle.answer.specs.Seen.{Seen, answered, refused, refused_by, seen}
use Rattle.answer.specs.declared.Refusal.{Refusal}
use Rattle.answer.specs.declared.Refusal.TheVariants.{Lengths}
use Rattle.lists.specs.Lists.{flat}
use Rattle.lists.proofs.Cases.{by_test, impossible}
use Rattle.lists.proofs.Rows.{length_flat}
use Rattle.frame.specs.declared.Frame.{Frame}
use Rattle.sheet.specs.declared.Job.{Job}
use Rattle.sheet.specs.declared.two.RuledJob.{RuledJob}
use Rattle.sheet.specs.Reading.{Sound, lead_of, sheet_of}
use Rattle.sheet.specs.Read as reading
use Rattle.sheet.specs.ReadTwo.{SoundTwo, sheet_two, OutcomeTwo, handed_two, read_two_of}
use Rattle.sheet_answer.specs.Solve.{frame_for}
use Rattle.sheet_answer.proofs.TellingEither.{full_two}
use Rattle.sheet_written.specs.Write as writing
use Rattle.sheet_written.specs.WrittenTwo.{WriteTwoSays}
use Rattle.sheet_rewritten.specs.Rewrite.{box_of}
use Rattle.sheet_rewritten.proofs.Forms.{front, Handed}
use Rattle.sheet_moved.specs.Moved.{at_rule, back, to_one_of, forth, to_two_of}

-- ---- what `read_two` told
module _ (s co sp ex : List ℕ) (a : 3072 ≤ length co) (b : 1024 ≤ length sp) (c : 2048 ≤ length ex) where
  two_is : read_two_of s co sp ex ≡ cond (ltb 65536 (length s)) (handed_two (refused_by Lengths) co sp ex) (handed_two (sheet_two s) co sp ex)
  unfolding read_two_of
  two_is = rw (le-ltb (length co) 3072 a, le-ltb (length sp) 1024 b, le-ltb (length ex) 2048 c)

  pub record HandedTwo (j : RuledJob) (co' sp' ex' : List ℕ) : Type 0 where
    pub short : length s ≤ 65536
    pub sound : SoundTwo
    pub is : sheet_two s ≡ answered sound
    pub atoms : j.job.atoms ≤ 1024
    pub count : j.job.count ≤ 1024
    pub frame : frame_for j.job ≡ box_of sound.sound
    pub coords : take (3 * j.job.atoms) co' ≡ sound.sound.coords
    pub species : take j.job.atoms sp' ≡ sound.species
    pub pairs : take (2 * j.job.count) ex' ≡ flat sound.sound.rows
    pub rule : j.rule ≡ sound.rule
    pub same : j.job.atoms ≡ sound.sound.head.atoms

  handed_by : (j : RuledJob) (co' sp' ex' : List ℕ) (x : Seen SoundTwo) → length s ≤ 65536 → sheet_two s ≡ x → record { shown = answered j; coordinates = co'; species = sp'; exclusions = ex' } ≡ handed_two x co sp ex → HandedTwo j co' sp' ex'
  unfolding reading.job_for box_of
  handed_by j co' sp' ex' (answered w) sh e p =
      let f = full_two s w e in
      let h : answered j ≡ answered (record { job = reading.job_for w.sound.head (length w.sound.rows); rule = w.rule }) = ap (λ (o : OutcomeTwo). o.shown) p in
      let ji : j ≡ record { job = reading.job_for w.sound.head (length w.sound.rows); rule = w.rule } = cc in
      let ja : j.job.atoms ≡ w.sound.head.atoms = ap (λ (k : RuledJob). k.job.atoms) ji in
      let jc : j.job.count ≡ length w.sound.rows = ap (λ (k : RuledJob). k.job.count) ji in
      record {
        short = sh;
        sound = w;
        is = e;
        atoms = omega (arith, f.sound.atoms);
        count = omega (arith, f.sound.few);
        frame = ap (λ (k : RuledJob). frame_for k.job) ji;
        coords = ap (λ (l : List ℕ). take (3 * j.job.atoms) l) (ap (λ (o : OutcomeTwo). o.coordinates) p) ∙ front w.sound.coords co (3 * j.job.atoms) (omega (arith, f.sound.size)) (omega (arith, f.sound.atoms));
        species = ap (λ (l : List ℕ). take j.job.atoms l) (ap (λ (o : OutcomeTwo). o.species) p) ∙ front w.species sp j.job.atoms (omega (arith, f.species)) (omega (arith, f.sound.atoms));
        pairs = ap (λ (l : List ℕ). take (2 * j.job.count) l) (ap (λ (o : OutcomeTwo). o.exclusions) p) ∙ front (flat w.sound.rows) ex (2 * j.job.count) (omega (arith, length_flat w.sound.rows)) (omega (arith, f.sound.few));
        rule = ap (λ (k : RuledJob). k.rule) ji;
        same = ja;
      }
  handed_by j co' sp' ex' (refused n p) sh e q = let h : answered j ≡ refused n p = ap (λ (o : OutcomeTwo). o.shown) q in impossible (cc)

  pub two_told : (j : RuledJob) (co' sp' ex' : List ℕ) → record { shown = answered j; coordinates = co'; species = sp'; exclusions = ex' } ≡ read_two_of s co sp ex → HandedTwo j co' sp' ex'
  two_told j co' sp' ex' says =
      by_test
      (λ t. ltb 65536 (length s) ≡ t → record { shown = answered j; coordinates = co'; species = sp'; exclusions = ex' } ≡ cond t (handed_two (refused_by Lengths) co sp ex) (handed_two (sheet_two s) co sp ex) → HandedTwo j co' sp' ex')
      (ltb 65536 (length s))
      (λ _ e q. let h : answered j ≡ refused 1 0 = ap (λ (o : OutcomeTwo). o.shown) q in impossible (cc))
      (λ _ e q. handed_by j co' sp' ex' (sheet_two s) (ltb-false 65536 (length s) e) refl q)
      refl
      (says ∙ two_is)

  refused_by_lem : (n p : ℕ) (co' sp' ex' out : List ℕ) (x : Seen SoundTwo) → record { shown = refused n p; coordinates = co'; species = sp'; exclusions = ex' } ≡ handed_two x co sp ex → record { shown = refused n p; out = out } ≡ back x out
  refused_by_lem n p co' sp' ex' out (answered w) q =
      let h : ◌≡◌ {A = Seen RuledJob} (refused n p) (answered (record { job = reading.job_for w.sound.head (length w.sound.rows); rule = w.rule })) = ap (λ (o : OutcomeTwo). o.shown) q in
      impossible (cc)
  refused_by_lem n p co' sp' ex' out (refused k l) q =
      let h : ◌≡◌ {A = Seen RuledJob} (refused n p) (refused k l) = ap (λ (o : OutcomeTwo). o.shown) q in
      let u : n ≡ k = cc in
      let v : p ≡ l = cc in
      rw (u, v)

  pub back_refused : (r : Refusal) (co' sp' ex' out : List ℕ) → record { shown = refused_by r; coordinates = co'; species = sp'; exclusions = ex' } ≡ read_two_of s co sp ex → record { shown = refused_by r; out = out } ≡ to_one_of s out
  unfolding to_one_of
  back_refused r co' sp' ex' out says =
      by_test
      (λ t. record { shown = refused_by r; coordinates = co'; species = sp'; exclusions = ex' } ≡ cond t (handed_two (refused_by Lengths) co sp ex) (handed_two (sheet_two s) co sp ex) → record { shown = refused_by r; out = out } ≡ cond t (record { shown = refused_by Lengths; out = out }) (back (sheet_two s) out))
      (ltb 65536 (length s))
      (λ _ q. refused_by_lem _ _ co' sp' ex' out (refused 1 0) q)
      (λ _ q. refused_by_lem _ _ co' sp' ex' out (sheet_two s) q)
      (says ∙ two_is)

  -- ---- `to_one` after an answered sheet
  module _ (j : RuledJob) (co' sp' ex' out : List ℕ) (h : HandedTwo j co' sp' ex') where
    opened : to_one_of s out ≡ back (answered h.sound) out
    unfolding to_one_of
    opened = rw (le-ltb 65536 (length s) h.short, h.is)

    pub ruled_back : (j.rule ≡ 1 → ⊥) → record { shown = refused 12 at_rule; out = out } ≡ to_one_of s out
    ruled_back n = sym (opened ∙ rw (ne_eqb h.sound.rule 1 (λ e. n (h.rule ∙ e))))

    module _ (one : j.rule ≡ 1) (k : ℕ) (e : k ≡ lead_of 0 (take j.job.atoms sp')) where
      ruled_one : eqb h.sound.rule 1 ≡ true
      ruled_one = eq-eqb h.sound.rule 1 (sym h.rule ∙ one)

      lead_is : lead_of 0 h.sound.species ≡ k
      lead_is = sym (e ∙ ap (λ (l : List ℕ). lead_of 0 l) h.species)

      pub typed_back : k < j.job.atoms → record { shown = refused 12 k; out = out } ≡ to_one_of s out
      typed_back q =
          let t : ltb k h.sound.sound.head.atoms ≡ true = lt-ltb k h.sound.sound.head.atoms (rw h.same at q) in
          sym (opened ∙ rw (ruled_one, lead_is, t))

      pub wrote_back : j.job.atoms ≤ k → (f : Frame) (n m : ℕ) (w : Result ℕ Refusal) (out' : List ℕ) → f ≡ frame_for j.job → n ≡ 3 * j.job.atoms → m ≡ 2 * j.job.count → writing.WriteSays f (take n co') (take m ex') out w out' → record { shown = seen w; out = out' } ≡ to_one_of s out
      wrote_back q f n m w out' p u v says =
          let t : ltb k h.sound.sound.head.atoms ≡ false = le-ltb k h.sound.sound.head.atoms (rw h.same at q) in
          let x : take n co' ≡ h.sound.sound.coords = ap (λ (i : ℕ). take i co') u ∙ h.coords in
          let y : take m ex' ≡ flat h.sound.sound.rows = ap (λ (i : ℕ). take i ex') v ∙ h.pairs in
          (rw (p, h.frame, x, y) at says) ∙ sym (opened ∙ rw (ruled_one, lead_is, t))

-- ---- `to_two` by its cases
module _ (s co ex : List ℕ) (a : 3072 ≤ length co) (b : 2048 ≤ length ex) where
  one_is : reading.read_of s co ex ≡ cond (ltb 65536 (length s)) (reading.handed (refused_by Lengths) co ex) (reading.handed (sheet_of s) co ex)
  unfolding reading.read_of
  one_is = rw (le-ltb (length co) 3072 a, le-ltb (length ex) 2048 b)

  pub wrote_forth : (j : Job) (co' ex' out : List ℕ) → Handed s co ex a b j co' ex' → (f : Frame) (n m : ℕ) (w : Result ℕ Refusal) (out' : List ℕ) → f ≡ frame_for j → n ≡ 3 * j.atoms → m ≡ 2 * j.count → WriteTwoSays f (take n co') (take m ex') out w out' → record { shown = seen w; out = out' } ≡ to_two_of s out
  unfolding to_two_of
  wrote_forth j co' ex' out h f n m w out' p u v says =
      let x : take n co' ≡ h.sound.coords = ap (λ (i : ℕ). take i co') u ∙ h.coords in
      let y : take m ex' ≡ flat h.sound.rows = ap (λ (i : ℕ). take i ex') v ∙ h.pairs in
      let z : cond (ltb 65536 (length s)) (record { shown = refused_by Lengths; out = out }) (forth (sheet_of s) out) ≡ forth (answered h.sound) out = rw (le-ltb 65536 (length s) h.short, h.is) in
      (rw (p, h.frame, x, y) at says) ∙ sym z

  one_refused : (n p : ℕ) (co' ex' out : List ℕ) (x : Seen Sound) → record { shown = refused n p; coordinates = co'; exclusions = ex' } ≡ reading.handed x co ex → record { shown = refused n p; out = out } ≡ forth x out
  one_refused n p co' ex' out (answered w) q =
      let h : refused n p ≡ answered (reading.job_for w.head (length w.rows)) = ap (λ (o : reading.Outcome). o.shown) q in
      impossible (cc)
  one_refused n p co' ex' out (refused k l) q =
      let h : ◌≡◌ {A = Seen Job} (refused n p) (refused k l) = ap (λ (o : reading.Outcome). o.shown) q in
      let u : n ≡ k = cc in
      let v : p ≡ l = cc in
      rw (u, v)

  pub forth_refused : (r : Refusal) (co' ex' out : List ℕ) → record { shown = refused_by r; coordinates = co'; exclusions = ex' } ≡ reading.read_of s co ex → record { shown = refused_by r; out = out } ≡ to_two_of s out
  unfolding to_two_of
  forth_refused r co' ex' out says =
      by_test
      (λ t. record { shown = refused_by r; coordinates = co'; exclusions = ex' } ≡ cond t (reading.handed (refused_by Lengths) co ex) (reading.handed (sheet_of s) co ex) → record { shown = refused_by r; out = out } ≡ cond t (record { shown = refused_by Lengths; out = out }) (forth (sheet_of s) out))
      (ltb 65536 (length s))
      (λ _ q. one_refused _ _ co' ex' out (refused 1 0) q)
      (λ _ q. one_refused _ _ co' ex' out (sheet_of s) q)
      (says ∙ one_is)
