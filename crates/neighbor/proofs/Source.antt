-- What passed tests show, test by test; and that after them a build is the Rust's own, with no case of which nothing is made. Assumes nothing.
use Rattle.std.specs.Prelude.{Err, Ok, Option, Result}
use Rattle.cell.specs.declared.Lattice.{Lattice}
use Rattle.std.proofs.Common.{◌≡◌, ℕ, ◌/◌, ◌%◌, Bool, true, false, cond, not, ◌||◌, eqb, ltb, leb, ◌⊎◌, List, length, refl, inl, inr}
use lib.Ieee.{Float}
use borrow.Author.Tests.{not-false}
use Rattle.lists.specs.Atoms.{atoms_of}
use Rattle.lists.specs.Lists.{rows}
use Rattle.lists.proofs.Cases.{by_test, impossible, or_neither, neither_or}
use Rattle.answer.specs.declared.Refusal.{Refusal}
use Rattle.answer.specs.declared.Refusal.TheVariants.{Lengths, TooMany, Range, Order, Claims}
use Rattle.answer.specs.Seen.{refused}
use Rattle.answer.proofs.Passed.{pass}
use Rattle.bins.specs.Listing.{laid_of}
use Rattle.exclusions.specs.Table.{is_table}
use Rattle.neighbor_grid.specs.Grid.{plain_of, crowded}
use Rattle.neighbor_grid.specs.Layout.{unfit_of, starts_laid, items_laid}
use Rattle.neighbor_listing.specs.declared.Listed.TheVariants.{Found, Full, Crowded}
use Rattle.neighbor_listing.specs.Found.{near_pairs, checks_of}
use Rattle.neighbor_listing.specs.Listed as Listing
use Rattle.neighbor.specs.declared.Question.{Question}
use Rattle.neighbor.specs.declared.State.{State}
use Rattle.neighbor.specs.State.{radius_of}
use Rattle.neighbor.specs.Rebuild.{claims_more, ranges_ok}
use Rattle.neighbor_asked.specs.Asked.{first_refusal}
use Rattle.neighbor.specs.Update.{Given, Outcome, kept_all, built_all, full_all, listed_all, listed_by, rebuilt_all, unfit, keeps_of, update_of, lengths_bad, first_of, table_asked, list_asked, update_asked, after_of, may_keep, updated_of}
use Rattle.neighbor.specs.Source.{UpdatesBySource}

-- ---- tests in turn
pub passed : (b : Bool) (r : Refusal) → ◌≡◌ {A = Result (Unit {0}) Refusal} (cond b (Ok tt) (Err r)) (Ok tt) → b ≡ true
passed true r e = refl
passed false r e = impossible (cc)

pub both_passed : (a b : Result (Unit {0}) Refusal) → first_refusal a b ≡ Ok tt → (a ≡ Ok tt) × (b ≡ Ok tt)
unfolding first_refusal
both_passed (Ok tt) b e = (refl, e)
both_passed (Err r) b e = impossible (cc)

pub first_told : (s : State) (cell : Option Lattice) (xs : List Float) (table pairs refs items : ℕ) → first_of s cell xs table pairs refs items ≡ Ok tt
    → (lengths_bad (length xs) table refs items ≡ false) × (ltb 16384 (atoms_of xs) ≡ false) × (claims_more s.built_in s.pairs (pairs / 2) s.references (refs / 3) ≡ false) × (ranges_ok s cell xs ≡ true)
unfolding first_of
first_told s cell xs table pairs refs items e =
    let p = pass (lengths_bad (length xs) table refs items) Lengths _ e in
    let q = pass (ltb 16384 (atoms_of xs)) (TooMany (atoms_of xs)) _ p.1 in
    let r = pass (claims_more s.built_in s.pairs (pairs / 2) s.references (refs / 3)) Claims _ q.1 in
    let u = pass (not (ranges_ok s cell xs)) Range _ r.1 in
    (p.0, q.0, r.0, not-false (ranges_ok s cell xs) u.0)

pub lengths_told : (xs table refs items : ℕ) → lengths_bad xs table refs items ≡ false → (not (eqb (xs % 3) 0) || not (eqb (table % 2) 0) ≡ false) × (ltb refs xs ≡ false) × (ltb items (xs / 3) ≡ false)
unfolding lengths_bad
lengths_told xs table refs items h =
    let rows = not (eqb (xs % 3) 0) || not (eqb (table % 2) 0) in
    let p = or_neither (rows || ltb refs xs) (ltb items (xs / 3)) h in
    let q = or_neither rows (ltb refs xs) p.0 in
    (q.0, q.1, p.1)

-- ---- nothing is unfit
module _ (i : Given) (lengths : lengths_bad (length i.positions) (length i.exclusions) (length i.references) (length i.items) ≡ false)
    (few : ltb 16384 (atoms_of i.positions) ≡ false) where
  pub build_fits : unfit (length i.positions) (length i.references) ≡ false
  unfolding unfit
  build_fits = neither_or _ _ (lengths_told _ _ _ _ lengths).1 few

  pub build_able : is_table (rows i.exclusions) ≡ true → Listing.unlisted i.positions i.exclusions i.items ≡ false
  unfolding Listing.unlisted unfit_of
  build_able table = rw (few, (lengths_told _ _ _ _ lengths).2, table)

-- ---- a build
module _ (i : Given) where
  abbrev found : List (ℕ × ℕ)
  found = near_pairs i.cell (radius_of i.state) i.positions i.exclusions

  -- it answers, or is refused 7 or 8
  abbrev Ends : Outcome → Type 0
  Ends o = (n p : ℕ) → o.answer ≡ refused n p → ((n ≡ 7) × (p ≡ 0)) ⊎ ((n ≡ 8) × (p ≡ length found))

  abbrev run : List ℕ → List ℕ → Bool → Listing.Outcome
  run starts items fallback = Listing.run_of i.cell (radius_of i.state) i.positions i.exclusions i.pairs starts items fallback

  run_ends : (starts items : List ℕ) (fallback : Bool) → Ends (listed_by i (run starts items fallback))
  unfolding Listing.run_of Listing.shown_of listed_all built_all full_all
  run_ends starts items fallback =
      by_test (λ t. Ends (listed_all i (cond t (Found (length found) (checks_of i.cell (radius_of i.state) i.positions i.exclusions) fallback) (Full (length found))) (laid_of i.pairs found) starts items))
      (leb (length found) (length i.pairs / 2))
      (λ _ n p h. impossible (cc))
      (λ _ n p h. inr (cc, cc))

  abbrev laid : Bool → Listing.Outcome
  laid t =
      cond t (Listing.outcome Crowded i.pairs i.starts i.items)
      (run (starts_laid i.cell (radius_of i.state) i.positions i.starts) (items_laid i.cell (radius_of i.state) i.positions i.items) false)

  abbrev listed : Bool → Listing.Outcome
  listed t = cond t (run i.starts i.items true) (laid (crowded i.cell (radius_of i.state) i.positions (length i.starts)))

  module _ (able : Listing.unlisted i.positions i.exclusions i.items ≡ false) where
    lists : Listing.listing_of i.cell (radius_of i.state) i.positions i.exclusions i.pairs i.starts i.items ≡ listed (plain_of i.cell (radius_of i.state) i.positions)
    unfolding Listing.listing_of
    lists = rw able

    list_ends : Ends (listed_by i (Listing.listing_of i.cell (radius_of i.state) i.positions i.exclusions i.pairs i.starts i.items))
    unfolding listed_all
    list_ends =
        rw lists
        (by_test (λ t. Ends (listed_by i (listed t))) (plain_of i.cell (radius_of i.state) i.positions) (λ _. run_ends i.starts i.items true)
        (λ _.
        by_test (λ t. Ends (listed_by i (laid t))) (crowded i.cell (radius_of i.state) i.positions (length i.starts)) (λ _ n p h. inl (cc, cc))
        (λ _. run_ends _ _ false)))

    rebuilt_ends : Ends (rebuilt_all i)
    unfolding rebuilt_all built_all
    rebuilt_ends =
        by_test (λ t. Ends (cond t (built_all i 0 0 false i.pairs i.starts i.items) (listed_by i (Listing.listing_of i.cell (radius_of i.state) i.positions i.exclusions i.pairs i.starts i.items))))
        (ltb (atoms_of i.positions) 2)
        (λ _ n p h. impossible (cc))
        (λ _. list_ends)

-- ---- the calls
module _ (question : Question) (i : Given) (e : update_asked (may_keep question) i ≡ Ok tt) where
  first : first_of i.state i.cell i.positions (length i.exclusions) (length i.pairs) (length i.references) (length i.items) ≡ Ok tt
  unfolding list_asked
  first = (both_passed _ _ e).0

  table : is_table (rows i.exclusions) ≡ true
  unfolding list_asked table_asked
  table = passed _ Order (both_passed _ _ (both_passed _ _ e).1).1

  able : Listing.unlisted i.positions i.exclusions i.items ≡ false
  able = let f = first_told _ _ _ _ _ _ _ first in build_able i f.0 f.1 table

  abbrev keeps : Bool
  keeps = keeps_of question i.state i.cell i.positions i.references

  updates : updated_of question i ≡ cond keeps (kept_all i) (rebuilt_all i)
  unfolding updated_of after_of update_of
  updates = let f = first_told _ _ _ _ _ _ _ first in rw (e, build_fits i f.0 f.1)

  ends : Ends i (cond keeps (kept_all i) (rebuilt_all i))
  unfolding kept_all
  ends = by_test (λ t. Ends i (cond t (kept_all i) (rebuilt_all i))) keeps (λ _ n p h. impossible (cc)) (λ _. rebuilt_ends i able)

pub by_source : (question : Question) (i : Given) → UpdatesBySource question i
by_source question i e = record { updates = updates question i e; lists = lists i (able question i e); refuses = rw (updates question i e) (ends question i e) }
