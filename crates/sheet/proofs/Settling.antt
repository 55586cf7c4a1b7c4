-- Laws of the tests after the lines, and of what `read` then writes. Assumes nothing.
use Prim.Native.Nat.{ℕ, ◌*◌, ◌/◌, ◌≤◌, ◌<◌}
use mathlib.Core.Path.{◌≡◌, refl, ap}
use mathlib.Core.Bool.{cond}
use mathlib.Core.Option.{Option, none, some}
use mathlib.Core.List.{List}
use native.Mathlib.Omega.{arith}
use lib.ListN.{length, take}
use lib.Seq.{sets}
use lib.Dec.{ltb}
use borrow.Author.Tests.{lt-ltb, le-ltb, ltb-false}
use Rattle.answer.specs.Seen.{answered, refused, refused_by}
use Rattle.answer.specs.declared.Refusal.{Refusal}
use Rattle.answer.specs.declared.Refusal.TheVariants.{Lengths}
use Rattle.lists.proofs.Cases.{by_test, impossible}
use Rattle.exclusions.proofs.Search.{rows_taken}
use Rattle.exclusions.proofs.Storing.{front_flat}
use Rattle.sheet_lines.specs.Reading.{lines_of}
use Rattle.sheet_lines.specs.declared.Head.{Head}
use Rattle.sheet.specs.Meaning.{Meaning}
use Rattle.sheet.specs.Reading.{counted, tested, stray_of, unmarked_of, sound_with, then_tested, run, blank, sheet_of}
use Rattle.sheet.specs.Desk.{header_for, meaning_for, Fit}
use Rattle.sheet.specs.Read.{Outcome, job_for, handed, read_of}
use Rattle.sheet.specs.declared.Job.{Job}
use Rattle.sheet.specs.declared.desk.Desk.{Desk}

-- a header that passes its tests has few atoms
counted_few : (h k : Head) (marks : List ℕ) → answered k ≡ counted h marks → k.atoms ≤ 1024
unfolding counted
counted_few h k marks e =
    by_test
    (λ x. ltb 1024 h.atoms ≡ x → answered k ≡ cond x (refused 2 h.atoms) (cond (ltb (stray_of h.atoms marks) 1024) (refused 4 (stray_of h.atoms marks)) (cond (ltb (unmarked_of marks) h.atoms) (refused 11 (unmarked_of marks)) (answered h))) → k.atoms ≤ 1024)
    (ltb 1024 h.atoms)
    (λ _ q p. impossible (cc))
    (λ _ q p.
    by_test (λ x. answered k ≡ cond x (refused 4 (stray_of h.atoms marks)) (cond (ltb (unmarked_of marks) h.atoms) (refused 11 (unmarked_of marks)) (answered h)) → k.atoms ≤ 1024)
    (ltb (stray_of h.atoms marks) 1024)
    (λ _ u. impossible (cc))
    (λ _ u.
    by_test (λ x. answered k ≡ cond x (refused 11 (unmarked_of marks)) (answered h) → k.atoms ≤ 1024) (ltb (unmarked_of marks) h.atoms)
    (λ _ w. impossible (cc))
    (λ _ w. let same : k ≡ h = cc in omega (arith, ap (λ (g : Head). g.atoms) same, ltb-false 1024 h.atoms q))
    u)
    p)
    refl
    e

pub sound_few : (h : Option Head) (marks : List ℕ) (k : Head) → answered k ≡ tested h marks → k.atoms ≤ 1024
sound_few none marks k e = impossible (cc)
sound_few (some h) marks k e = counted_few h k marks e

-- ---- what is handed out
module _ (d : Desk) (coords marks ta co ex : List ℕ) where
  pub settled : (k : Head) (j : Job) (co' ex' : List ℕ) → Fit d.count ta → answered k ≡ tested (header_for d) marks → j ≡ job_for k d.count → co' ≡ sets co 0 (take (3 * k.atoms) coords) → ex' ≡ sets ex 0 (take (2 * d.count) ta)
      → record { shown = answered j; coordinates = co'; exclusions = ex' } ≡ handed (sound_with (tested (header_for d) marks) (meaning_for d coords marks ta)) co ex
  settled k j co' ex' f e p q r =
      let few : d.count ≤ length ta / 2 = omega (arith, f.size, f.few) in
      rw (← e, p, q, r, rows_taken ta d.count few, front_flat ta d.count few)

  pub unsettled : (r : Refusal) → refused_by r ≡ tested (header_for d) marks → record { shown = refused_by r; coordinates = co; exclusions = ex } ≡ handed (sound_with (tested (header_for d) marks) (meaning_for d coords marks ta)) co ex
  unsettled r e = rw (← e)

-- ---- `read` by its cases
module _ (s co ex : List ℕ) where
  abbrev short : Outcome
  short = record { shown = refused_by Lengths; coordinates = co; exclusions = ex }

  pub too_long : 65536 < length s → short ≡ read_of s co ex
  unfolding read_of
  too_long h = simp (lt-ltb 65536 (length s) h)

  module _ (a : length s ≤ 65536) where
    pub no_room : length co < 3072 → short ≡ read_of s co ex
    unfolding read_of
    no_room h = simp (le-ltb 65536 (length s) a, lt-ltb (length co) 3072 h)

    module _ (b : 3072 ≤ length co) where
      pub no_rows : length ex < 2048 → short ≡ read_of s co ex
      unfolding read_of
      no_rows h = simp (le-ltb 65536 (length s) a, le-ltb (length co) 3072 b, lt-ltb (length ex) 2048 h)

      module _ (c : 2048 ≤ length ex) where
        pub read_whole : (m : Meaning) (o : Outcome) → answered m ≡ run (lines_of s) 0 blank → o ≡ handed (then_tested (answered m)) co ex → o ≡ read_of s co ex
        unfolding read_of sheet_of
        read_whole m o e p = simp (le-ltb 65536 (length s) a, le-ltb (length co) 3072 b, le-ltb (length ex) 2048 c, ← e) p

        pub read_refused : (r : Refusal) → refused_by r ≡ run (lines_of s) 0 blank → record { shown = refused_by r; coordinates = co; exclusions = ex } ≡ read_of s co ex
        unfolding read_of sheet_of
        read_refused r e = simp (le-ltb 65536 (length s) a, le-ltb (length co) 3072 b, le-ltb (length ex) 2048 c, ← e)
