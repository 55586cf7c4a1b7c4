-- Laws of what `read_two` writes after the lines, and `read_two` by its cases. Assumes nothing.
use Prim.Native.Nat.{ℕ, ◌≤◌, ◌<◌}
use mathlib.Core.Path.{◌≡◌, refl, sym, ap}
use mathlib.Core.Bool.{true, false}
use mathlib.Core.List.{List, map}
use lib.ListN.{length}
use lib.Seq.{sets}
use borrow.Author.Tests.{lt-ltb, le-ltb}
use Rattle.answer.specs.Seen.{Seen, answered, refused, refused_by, number_of, place_of}
use Rattle.answer.specs.declared.Refusal.{Refusal}
use Rattle.answer.specs.declared.Refusal.TheVariants.{Lengths}
use Rattle.lists.proofs.Cases.{impossible}
use Rattle.sheet_lines.specs.declared.Head.{Head}
use Rattle.sheet_lines_two.specs.Twos.{told_of, twos_of}
use Rattle.sheet.specs.Meaning.{Meaning}
use Rattle.sheet.specs.Reading.{tested, run, blank, Sound, sound_with, then_tested}
use Rattle.sheet.specs.Read.{Outcome, job_for, handed}
use Rattle.sheet.specs.ReadTwo.{species_in, rule_in, with_species, ran_two, sheet_two, OutcomeTwo, handed_two, read_two_of}
use Rattle.sheet.specs.declared.Job.{Job}
use Rattle.sheet.proofs.Settling.{sound_few}

-- ---- a sheet that is answered has few atoms
few_with : (m : Meaning) (t : Seen Head) → tested m.header m.atoms.marks ≡ t → (a : Sound) → sound_with t m ≡ answered a → a.head.atoms ≤ 1024
few_with m (answered h) e a p =
    let q : a.head ≡ h = sym (ap (λ (x : Seen Sound). head_in x h) p) in
    rw q (sound_few m.header m.atoms.marks h (sym e))
  where
    head_in : Seen Sound → Head → Head
    head_in (answered b) h = b.head
    head_in (refused n p) h = h
few_with m (refused n k) e a p = impossible (cc)

few_atoms : (x : Seen Meaning) (a : Sound) → then_tested x ≡ answered a → a.head.atoms ≤ 1024
few_atoms (answered m) a e = few_with m (tested m.header m.atoms.marks) refl a e
few_atoms (refused n p) a e = impossible (cc)

job_few_of : (y : Seen Sound) → ((a : Sound) → y ≡ answered a → a.head.atoms ≤ 1024) → (j : Job) (co' ex' co ex : List ℕ) → record { shown = answered j; coordinates = co'; exclusions = ex' } ≡ handed y co ex → j.atoms ≤ 1024
unfolding job_for
job_few_of (answered a) f j co' ex' co ex e =
    let s : answered j ≡ answered (job_for a.head (length a.rows)) = ap (λ (o : Outcome). o.shown) e in
    let k : j ≡ job_for a.head (length a.rows) = cc in
    rw k (f a refl)
job_few_of (refused n p) f j co' ex' co ex e = let s : answered j ≡ refused n p = ap (λ (o : Outcome). o.shown) e in impossible (cc)

pub job_few : (m : Meaning) (j : Job) (co' ex' co ex : List ℕ) → record { shown = answered j; coordinates = co'; exclusions = ex' } ≡ handed (then_tested (answered m)) co ex → j.atoms ≤ 1024
job_few m j co' ex' co ex e = job_few_of (then_tested (answered m)) (λ a p. few_atoms (answered m) a p) j co' ex' co ex e

-- ---- what is handed out
module _ (rule : ℕ) (kinds co sp ex : List ℕ) where
  pub settled_two : (y : Seen Sound) (j : Job) (co' sp' ex' : List ℕ) → record { shown = answered j; coordinates = co'; exclusions = ex' } ≡ handed y co ex → sp' ≡ sets sp 0 (species_in j.atoms kinds)
      → record { shown = answered (record { job = j; rule = rule }); coordinates = co'; species = sp'; exclusions = ex' } ≡ handed_two (with_species y rule kinds) co sp ex
  unfolding job_for
  settled_two (answered a) j co' sp' ex' e q =
      let s : answered j ≡ answered (job_for a.head (length a.rows)) = ap (λ (o : Outcome). o.shown) e in
      let k : j ≡ job_for a.head (length a.rows) = cc in
      rw (ap (λ (o : Outcome). o.coordinates) e, ap (λ (o : Outcome). o.exclusions) e, q, k)
  settled_two (refused n p) j co' sp' ex' e q = let s : answered j ≡ refused n p = ap (λ (o : Outcome). o.shown) e in impossible (cc)

  pub unsettled_two : (y : Seen Sound) (r : Refusal) (co' ex' : List ℕ) → record { shown = refused_by r; coordinates = co'; exclusions = ex' } ≡ handed y co ex
      → record { shown = refused_by r; coordinates = co'; species = sp; exclusions = ex' } ≡ handed_two (with_species y rule kinds) co sp ex
  unsettled_two (answered a) r co' ex' e = let s : refused_by r ≡ answered (job_for a.head (length a.rows)) = ap (λ (o : Outcome). o.shown) e in impossible (cc)
  unsettled_two (refused n p) r co' ex' e =
      let s : ◌≡◌ {A = Seen Job} (refused_by r) (refused n p) = ap (λ (o : Outcome). o.shown) e in
      let u : number_of r ≡ n = cc in
      let v : place_of r ≡ p = cc in
      rw (u, v, ap (λ (o : Outcome). o.coordinates) e, ap (λ (o : Outcome). o.exclusions) e)

-- ---- `read_two` by its cases
module _ (s co sp ex : List ℕ) where
  abbrev short : OutcomeTwo
  short = record { shown = refused_by Lengths; coordinates = co; species = sp; exclusions = ex }

  pub long_two : 65536 < length s → short ≡ read_two_of s co sp ex
  unfolding read_two_of
  long_two h = simp (lt-ltb 65536 (length s) h)

  module _ (a : length s ≤ 65536) where
    pub no_room_two : length co < 3072 → short ≡ read_two_of s co sp ex
    unfolding read_two_of
    no_room_two h = simp (le-ltb 65536 (length s) a, lt-ltb (length co) 3072 h)

    module _ (b : 3072 ≤ length co) where
      pub no_species : length sp < 1024 → short ≡ read_two_of s co sp ex
      unfolding read_two_of
      no_species h = simp (le-ltb 65536 (length s) a, le-ltb (length co) 3072 b, lt-ltb (length sp) 1024 h)

      module _ (d : 1024 ≤ length sp) where
        pub no_rows_two : length ex < 2048 → short ≡ read_two_of s co sp ex
        unfolding read_two_of
        no_rows_two h = simp (le-ltb 65536 (length s) a, le-ltb (length co) 3072 b, le-ltb (length sp) 1024 d, lt-ltb (length ex) 2048 h)

        module _ (c : 2048 ≤ length ex) where
          passed : read_two_of s co sp ex ≡ handed_two (sheet_two s) co sp ex
          unfolding read_two_of
          passed = simp (le-ltb 65536 (length s) a, le-ltb (length co) 3072 b, le-ltb (length sp) 1024 d, le-ltb (length ex) 2048 c)

          pub kinds_refused : (r : Refusal) → refused_by r ≡ run (map (told_of true) (twos_of s)) 0 blank → record { shown = refused_by r; coordinates = co; species = sp; exclusions = ex } ≡ read_two_of s co sp ex
          unfolding sheet_two ran_two
          kinds_refused r e = rw passed (rw (← e))

          module _ (k : Meaning) (p : answered k ≡ run (map (told_of true) (twos_of s)) 0 blank) where
            pub two_refused : (r : Refusal) → refused_by r ≡ run (map (told_of false) (twos_of s)) 0 blank → record { shown = refused_by r; coordinates = co; species = sp; exclusions = ex } ≡ read_two_of s co sp ex
            unfolding sheet_two ran_two
            two_refused r e = rw passed (rw (← p, ← e))

            pub two_whole : (m : Meaning) (o : OutcomeTwo) → answered m ≡ run (map (told_of false) (twos_of s)) 0 blank → o ≡ handed_two (with_species (then_tested (answered m)) (rule_in k.header) k.atoms.coords) co sp ex → o ≡ read_two_of s co sp ex
            unfolding sheet_two ran_two
            two_whole m o e q = rw passed (rw (← p, ← e) q)
