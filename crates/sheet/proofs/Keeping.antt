-- Laws of one line on the desk: what `exclude` answers is the set with one pair more, and where a line's number lies. Assumes nothing.
use Rattle.std.specs.Prelude.{Err, Ok, Result}
use Prim.Native.Nat.{ℕ, zero, suc, ◌+◌, ◌≤◌, ◌<◌}
use mathlib.Core.Path.{◌≡◌, refl, sym, ap, ◌∙◌}
use mathlib.Core.Bool.{Bool, true, cond}
use mathlib.Core.Option.{none, some}
use mathlib.Core.List.{List, [], ◌∷◌}
use native.Mathlib.Nat.{le_of_suc-le-suc, not-suc-le-zero}
use native.Mathlib.Omega.{arith}
use lib.ListN.{length, get_or, take}
use lib.Dec.{leb}
use borrow.Author.Tests.{le-ltb, leb-true}
use Rattle.answer.specs.Seen.{answered, refused, refused_by}
use Rattle.answer.specs.declared.Refusal.{Refusal}
use Rattle.lists.specs.Lists.{rows}
use Rattle.lists.proofs.Cases.{by_test, impossible}
use Rattle.exclusions.specs.Table.{added, holding, room}
use Rattle.exclusions.specs.Calls.{Outcome, grown, exclude_of, ExcludeSays}
use Rattle.exclusions.proofs.Insertion.{added_table}
use Rattle.exclusions.proofs.Storing.{held_rows, hold_length}
use Rattle.sheet_lines.specs.Reading.{line_at}
use Rattle.sheet_lines.specs.declared.Line.{Line}
use Rattle.sheet_lines.specs.declared.Line.TheVariants.{Header, Atom, Exclusion, Malformed, End}
use Rattle.sheet_lines.proofs.GrammarLaws.{text_line, Sound}
use Rattle.sheet.specs.Meaning.{excluding}
use Rattle.sheet.specs.Desk.{Fit, NumberBelow}

-- within the list the default is not looked at
pub get_d_any : (l : List ℕ) (i d e : ℕ) → i < length l → get_or l i d ≡ get_or l i e
get_d_any [] i d e h = absurd (not-suc-le-zero h)
get_d_any (x ∷ xs) zero d e h = refl
get_d_any (x ∷ xs) (suc i) d e h = get_d_any xs i d e (le_of_suc-le-suc h)

-- ---- `exclude`, of a table that fits
module _ (count a b : ℕ) (t u : List ℕ) (fit : Fit count t) where
  abbrev more : List (ℕ × ℕ)
  more = added a b (take count (rows t))

  is_grown : exclude_of count a b t ≡ grown t more
  unfolding exclude_of
  is_grown = rw (le-ltb (room t) count (omega (arith, fit.size, fit.few)), fit.table)

  half : room t ≡ 1024
  half = omega (arith, fit.size)

  pub record Told (n : ℕ) : Type 0 where
    pub few : n ≤ 1024
    pub is : some (take n (rows u)) ≡ excluding a b (take count (rows t))
    pub fits : Fit n u

  told : (n : ℕ) → leb (length more) (room t) ≡ true → n ≡ length more → u ≡ holding t more → Told n
  unfolding excluding
  told n q e m =
      let le : length more ≤ room t = leb-true (length more) (room t) q in
      let same : take n (rows u) ≡ more = rw (e, m) (held_rows t more) in
      let few' : n ≤ 1024 = omega (arith, half) in
      let q' : leb (length more) 1024 ≡ true = rw half at q in
      record {
        few = few';
        is = rw (same, q');
        fits = record { size = ap length m ∙ (hold_length t more le ∙ fit.size); few = few'; table = rw same (added_table a b (take count (rows t)) fit.table) };
      }

  pub when_answered : (w : Result ℕ Refusal) (n : ℕ) → w ≡ Ok n → ExcludeSays count a b t w u → Told n
  unfolding grown
  when_answered w n e says =
      let s : record { shown = answered n; table = u } ≡ grown t more = (rw e at says) ∙ is_grown in
      by_test
      (λ x. leb (length more) (room t) ≡ x → ◌≡◌ {A = Outcome} (record { shown = answered n; table = u }) (cond x (record { shown = answered (length more); table = holding t more }) (record { shown = refused 8 (room t + 1); table = t })) → Told n)
      (leb (length more) (room t))
      (λ _ q p. let h : answered n ≡ answered (length more) = ap (λ (o : Outcome). o.shown) p in told n q (cc) (ap (λ (o : Outcome). o.table) p))
      (λ _ q p. let h : answered n ≡ refused 8 (room t + 1) = ap (λ (o : Outcome). o.shown) p in impossible (cc))
      refl
      s

  pub when_refused : (w : Result ℕ Refusal) (r : Refusal) → w ≡ Err r → ExcludeSays count a b t w u → none ≡ excluding a b (take count (rows t))
  unfolding grown excluding
  when_refused w r e says =
      let s : record { shown = refused_by r; table = u } ≡ grown t more = (rw e at says) ∙ is_grown in
      by_test
      (λ x. leb (length more) (room t) ≡ x → ◌≡◌ {A = Outcome} (record { shown = refused_by r; table = u }) (cond x (record { shown = answered (length more); table = holding t more }) (record { shown = refused 8 (room t + 1); table = t })) → none ≡ excluding a b (take count (rows t)))
      (leb (length more) (room t))
      (λ _ q p. let h : refused_by r ≡ answered (length more) = ap (λ (o : Outcome). o.shown) p in impossible (cc))
      (λ _ q p. ap (λ (x : Bool). cond x (some more) none) (sym (sym (ap (λ (k : ℕ). leb (length more) k) half) ∙ q)))
      refl
      s

-- ---- an atom line's number is below 1,024
sound_below : (s : List ℕ) (at : ℕ) (l : Line) → Sound s at l → NumberBelow l
sound_below s at (Header h) k = tt
sound_below s at (Atom n x y z) k = k.0.0
sound_below s at (Exclusion a b) k = tt
sound_below s at Malformed k = tt
sound_below s at End k = tt

pub below_line : (s : List ℕ) (at : ℕ) → NumberBelow (line_at s at)
below_line s at = sound_below s at (line_at s at) (text_line s at)
