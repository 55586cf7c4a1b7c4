-- Laws of `is_two`, and `read_either` by its cases. Assumes nothing.
use Prim.Native.Nat.{ℕ, zero, suc, ◌+◌, ◌-◌, ◌/◌, ◌%◌, ◌≤◌, ◌<◌}
use mathlib.Core.Path.{◌≡◌, refl, sym, ap, ◌∙◌}
use mathlib.Core.Bool.{Bool, true, false, cond}
use mathlib.Core.List.{List}
use native.Mathlib.Omega.{arith}
use lib.ListN.{length}
use lib.Dec.{ltb}
use borrow.Author.Tests.{lt-ltb, le-ltb}
use Rattle.answer.specs.Seen.{Seen, answered, refused, refused_by}
use Rattle.answer.specs.declared.Refusal.TheVariants.{Lengths}
use Rattle.lists.proofs.Cases.{by_test, impossible}
use Rattle.sheet_lines.specs.declared.Line.{Line}
use Rattle.sheet_lines_two.specs.declared.TwoLine.{TwoLine}
use Rattle.sheet_lines_two.specs.Twos.{two_at, wide_two, width_two, twos_from, twos_of}
use Rattle.sheet.specs.Reading.{Sound, sheet_of}
use Rattle.sheet.specs.Read as one
use Rattle.sheet.specs.ReadTwo.{OutcomeTwo, read_two_of}
use Rattle.sheet.specs.declared.Job.{Job}
use Rattle.sheet.proofs.Sizes.{full}
use Rattle.sheet_either.specs.Either.{says_two, is_two, as_two, as_one, either_of}

-- ---- which form: each exclusion takes 11 bytes
abbrev pub left_two : List ℕ → ℕ → Bool
left_two s at = is_two (twos_from (length s - at / 11) s at)

pub two_start : (s : List ℕ) → left_two s 0 ≡ is_two (twos_of s)
unfolding twos_of
two_start s = let e : length s - 0 / 11 ≡ length s = omega arith in ap (λ (f : ℕ). is_two (twos_from f s 0)) e

pub two_step : (s : List ℕ) (at : ℕ) (t : TwoLine) → at < length s → at % 11 ≡ 0 → t ≡ two_at s at → left_two s at ≡ says_two t.core (is_two (twos_from (length s - (at + 11) / 11) s (at + width_two t)))
two_step s at t h z e =
    let k : length s - at / 11 ≡ suc (length s - (at + 11) / 11) = omega arith in
    ap (λ (f : ℕ). is_two (twos_from f s at)) k ∙ rw e (simp (lt-ltb at (length s) h))

-- the same by what the line says in the first form
pub two_is : (s : List ℕ) (at : ℕ) (t : TwoLine) (l : Line) → at < length s → at % 11 ≡ 0 → t ≡ two_at s at → t.core ≡ l → left_two s at ≡ says_two l (is_two (twos_from (length s - (at + 11) / 11) s (at + wide_two l t.extra)))
two_is s at t l h z e c = two_step s at t h z e ∙ ap (λ (k : Line). says_two k (is_two (twos_from (length s - (at + 11) / 11) s (at + wide_two k t.extra)))) c

pub two_end : (f : ℕ) (s : List ℕ) (at : ℕ) → length s ≤ at → is_two (twos_from f s at) ≡ false
two_end zero s at h = refl
two_end (suc f) s at h = simp (le-ltb at (length s) h)

-- ---- a sheet that `read` answers has at most 1,024 atoms
shown_few : (y : Seen Sound) → ((a : Sound) → y ≡ answered a → a.head.atoms ≤ 1024) → (j : Job) (co ex : List ℕ) → (one.handed y co ex).shown ≡ answered j → j.atoms ≤ 1024
unfolding one.job_for
shown_few (answered a) f j co ex e = let k : one.job_for a.head (length a.rows) ≡ j = cc in rw (← k) (f a refl)
shown_few (refused n p) f j co ex e = impossible (cc)

short_few : (j : Job) (co ex : List ℕ) → (one.handed (refused_by Lengths) co ex).shown ≡ answered j → j.atoms ≤ 1024
short_few j co ex e = impossible (cc)

pub read_few : (s co ex : List ℕ) (j : Job) → (one.read_of s co ex).shown ≡ answered j → j.atoms ≤ 1024
unfolding one.read_of
read_few s co ex j =
    by_test (λ b. (cond b (one.handed (refused_by Lengths) co ex) (cond (ltb (length co) 3072) (one.handed (refused_by Lengths) co ex) (cond (ltb (length ex) 2048) (one.handed (refused_by Lengths) co ex) (one.handed (sheet_of s) co ex)))).shown ≡ answered j → j.atoms ≤ 1024)
    (ltb 65536 (length s))
    (λ _ e. short_few j co ex e)
    (λ _. by_test (λ b. (cond b (one.handed (refused_by Lengths) co ex) (cond (ltb (length ex) 2048) (one.handed (refused_by Lengths) co ex) (one.handed (sheet_of s) co ex))).shown ≡ answered j → j.atoms ≤ 1024)
    (ltb (length co) 3072)
    (λ _ e. short_few j co ex e)
    (λ _. by_test (λ b. (cond b (one.handed (refused_by Lengths) co ex) (one.handed (sheet_of s) co ex)).shown ≡ answered j → j.atoms ≤ 1024)
    (ltb (length ex) 2048)
    (λ _ e. short_few j co ex e)
    (λ _ e. shown_few (sheet_of s) (λ a p. (full s a p).atoms) j co ex e)))

pub told_few : (s co ex co' ex' : List ℕ) (j : Job) → record { shown = answered j; coordinates = co'; exclusions = ex' } ≡ one.read_of s co ex → j.atoms ≤ 1024
told_few s co ex co' ex' j e = read_few s co ex j (sym (ap (λ (o : one.Outcome). o.shown) e))

-- ---- `read_either` by its cases
module _ (s co sp ex : List ℕ) where
  pub no_species : length sp < 1024 → record { shown = refused_by Lengths; coordinates = co; species = sp; exclusions = ex } ≡ either_of s co sp ex
  unfolding either_of
  no_species h = simp (lt-ltb (length sp) 1024 h)

  module _ (a : 1024 ≤ length sp) where
    pub by_two : (o : OutcomeTwo) → is_two (twos_of s) ≡ true → o ≡ read_two_of s co sp ex → as_two o ≡ either_of s co sp ex
    unfolding either_of
    by_two o t e = simp (le-ltb (length sp) 1024 a, t, e)

    pub by_one : (o : one.Outcome) → is_two (twos_of s) ≡ false → o ≡ one.read_of s co ex → as_one o sp ≡ either_of s co sp ex
    unfolding either_of
    by_one o t e = simp (le-ltb (length sp) 1024 a, t, e)
