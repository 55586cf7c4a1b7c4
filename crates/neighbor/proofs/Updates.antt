-- The outcome of a build and of the calls by their cases, as the code takes them. Assumes nothing.
use Rattle.std.specs.Prelude.{Err, Ok, Option, Result}
use Rattle.cell.specs.declared.Lattice.{Lattice}
use Rattle.std.proofs.Common.{◌≡◌, ℕ, ◌/◌, ◌<◌, ◌≤◌, Bool, true, false, ltb, List, length, sym, ◌∙◌, ltb-false, le-ltb, lt-ltb}
use lib.Ieee.{Float}
use Rattle.float.specs.Arith.{at}
use Rattle.answer.specs.declared.Refusal.{Refusal}
use Rattle.answer.specs.declared.Refusal.TheVariants.{Lengths, Cells, Room}
use Rattle.lists.specs.Loops.{part_at}
use Rattle.lists.proofs.Cases.{or_neither}
use Rattle.neighbor_listing.specs.declared.Listed.{Listed}
use Rattle.neighbor_listing.specs.declared.Listed.TheVariants.{Found, Full, Crowded, Unfit}
use Rattle.neighbor_listing.specs.Listed.{outcome, listing_of}
use Rattle.neighbor.specs.declared.Question.{Question}
use Rattle.neighbor.specs.declared.State.{State}
use Rattle.neighbor.specs.declared.Updated.{Updated}
use Rattle.neighbor.specs.State.{radius_of, kept_of, built_of, emptied_of}
use Rattle.neighbor.specs.Update.{Given, Outcome, shown, kept_all, built_all, full_all, listed_all, rebuilt_all, unfit, keeps_of, update_of, update_asked, after_of, may_keep, updated_of}

-- the references after a build
abbrev pub referred : Given → List Float
referred i = part_at (λ k _. at i.positions k) (length i.positions) i.references

-- what a build answers where it is answered, and where it is not
abbrev pub answered_by : State → Option Lattice → ℕ → ℕ → ℕ → Bool → Updated
answered_by s cell n count checks fallback = record { done = Ok tt; rebuilt = true; state = built_of s cell n count checks fallback }

abbrev pub refused_by : State → Refusal → Updated
refused_by s r = record { done = Err r; rebuilt = false; state = s }

-- ---- a build
module _ (i : Given) where
  pub rebuilt_few : length i.positions / 3 < 2 → {r : Updated} {refs : List Float} → r ≡ answered_by i.state i.cell (length i.positions / 3) 0 0 false → refs ≡ referred i
      → shown r i.pairs refs i.starts i.items ≡ rebuilt_all i
  unfolding rebuilt_all built_all
  rebuilt_few h e q = rw (lt-ltb (length i.positions / 3) 2 h, e, q)

  module _ (many : 2 ≤ length i.positions / 3) {found : Listed} {radius : Float} (er : radius ≡ radius_of i.state) {p s t : List ℕ}
      (is : outcome found p s t ≡ listing_of i.cell radius i.positions i.exclusions i.pairs i.starts i.items) where
    pub rebuilt_found : {count checks : ℕ} {fallback : Bool} → found ≡ Found count checks fallback → {r : Updated} {refs : List Float}
        → r ≡ answered_by i.state i.cell (length i.positions / 3) count checks fallback → refs ≡ referred i → shown r p refs s t ≡ rebuilt_all i
    unfolding rebuilt_all listed_all built_all
    rebuilt_found f e q = rw (le-ltb (length i.positions / 3) 2 many, ← er, ← is, f, e, q)

    pub rebuilt_full : {count : ℕ} → found ≡ Full count → {r : Updated} → r ≡ record { done = Err (Room count); rebuilt = false; state = emptied_of i.state } → shown r p i.references s t ≡ rebuilt_all i
    unfolding rebuilt_all listed_all full_all
    rebuilt_full f e = rw (le-ltb (length i.positions / 3) 2 many, ← er, ← is, f, e)

    pub rebuilt_crowded : found ≡ Crowded → {r : Updated} → r ≡ refused_by i.state Cells → shown r p i.references s t ≡ rebuilt_all i
    unfolding rebuilt_all listed_all
    rebuilt_crowded f e = rw (le-ltb (length i.positions / 3) 2 many, ← er, ← is, f, e)

    pub rebuilt_unfit : found ≡ Unfit → {r : Updated} → r ≡ refused_by i.state Lengths → shown r p i.references s t ≡ rebuilt_all i
    unfolding rebuilt_all listed_all
    rebuilt_unfit f e = rw (le-ltb (length i.positions / 3) 2 many, ← er, ← is, f, e)

-- ---- the list brought up to date
module _ (question : Question) (i : Given) {u : Bool} (iu : u ≡ unfit (length i.positions) (length i.references)) where
  pub update_unfit : u ≡ true → {r : Updated} → r ≡ refused_by i.state Lengths → shown r i.pairs i.references i.starts i.items ≡ update_of question i
  unfolding update_of
  update_unfit h e = rw (← iu, h, e)

  module _ (h : u ≡ false) where
    fit : (ltb (length i.references) (length i.positions) ≡ false) × (ltb 16384 (length i.positions / 3) ≡ false)
    unfolding unfit
    fit = or_neither (ltb (length i.references) (length i.positions)) (ltb 16384 (length i.positions / 3)) (sym iu ∙ h)

    pub update_room : length i.positions ≤ length i.references
    update_room = ltb-false (length i.references) (length i.positions) fit.0

    pub update_few : length i.positions / 3 ≤ 16384
    update_few = ltb-false 16384 (length i.positions / 3) fit.1

    pub update_kept : {q : Bool} → q ≡ keeps_of question i.state i.cell i.positions i.references → q ≡ true → {s : State} → s ≡ kept_of i.state
        → shown (record { done = Ok tt; rebuilt = false; state = s }) i.pairs i.references i.starts i.items ≡ update_of question i
    unfolding update_of kept_all
    update_kept iq k e = rw (← iu, h, ← iq, k, e)

    pub update_built : {q : Bool} → q ≡ keeps_of question i.state i.cell i.positions i.references → q ≡ false → {o : Outcome} → o ≡ rebuilt_all i → o ≡ update_of question i
    unfolding update_of
    update_built iq k e = rw (← iu, h, ← iq, k) e

-- ---- the calls
module _ (question : Question) (i : Given) {d : Result (Unit {0}) Refusal} (is : d ≡ update_asked (may_keep question) i) where
  pub updated_refused : {why : Refusal} → d ≡ Err why → {r : Updated} → r ≡ refused_by i.state why → shown r i.pairs i.references i.starts i.items ≡ updated_of question i
  unfolding updated_of after_of
  updated_refused h e = rw (← is, h, e)

  pub updated_on : d ≡ Ok tt → {o : Outcome} → o ≡ update_of question i → o ≡ updated_of question i
  unfolding updated_of after_of
  updated_on h e = rw (← is, h) e
