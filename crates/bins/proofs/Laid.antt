-- A run from nothing is what the lists say: the count, the checks and the memory; and the memory's rows are the pairs. Assumes nothing.
use Prim.Native.Nat.{ℕ, suc, ◌+◌, ◌*◌, ◌/◌, ◌≤◌, ◌<◌}
use native.Mathlib.Omega.{arith}
use mathlib.Core.Path.{◌≡◌, refl, sym, ap, ◌∙◌}
use mathlib.Core.Bool.{Bool, true, false}
use mathlib.Core.Logic.{⊎_elim}
use mathlib.Core.List.{List, [], ◌∷◌, ◌++◌, append_assoc, append-nil}
use lib.ListN.{length, take, drop, set, get_or, length-append, length-take, length-drop}
use lib.Seq.{take-nil, take_all, take-append-le, drop-cons, take_at}
use borrow.Author.Tests.{lt-ltb, le-ltb}
use Rattle.lists.specs.Lists.{keep, flat, rows}
use Rattle.lists.proofs.Cases.{below_or}
use Rattle.lists.proofs.Rows.{flat_append, length_flat, two_at, rows_flat}
use Rattle.bins.specs.Listing.{Scene, Listing, pushed, consider_of, list_of, empty_listing, checked_of, found_of, laid_of}

module _ (old : List ℕ) (done : List (ℕ × ℕ)) where
  pub laid_length : length (laid_of old done) ≡ length old
  unfolding laid_of
  laid_length =
      let t : List (ℕ × ℕ) = take (length old / 2) done in
      omega (arith, length-append (flat t) (drop (2 * length t) old), length_flat t, length-drop (2 * length t) old, length-take (length old / 2) done)

  -- where all fit, the rows of the memory's front are the pairs
  pub laid_all : length done ≤ length old / 2 → laid_of old done ≡ flat done ++ drop (2 * length done) old
  unfolding laid_of
  laid_all h = rw (take_all (length old / 2) done h)

  pub laid_rows : length done ≤ length old / 2 → rows (take (2 * length done) (laid_of old done)) ≡ done
  laid_rows h = rw (laid_all h, take_at (flat done) (drop (2 * length done) old) (2 * length done) (length_flat done)) (rows_flat done)

  module _ (low high : ℕ) where
    laid_room : length done < length old / 2 → set (set (laid_of old done) (2 * length done) low) (2 * length done + 1) high ≡ laid_of old (done ++ (low, high) ∷ [])
    unfolding laid_of flat
    laid_room h =
        let more : length (done ++ (low, high) ∷ []) ≡ length done + 1 = length-append done ((low, high) ∷ []) in
        let m : ℕ = 2 * length done in
        let cut : drop m old ≡ get_or old m 0 ∷ get_or old (suc m) 0 ∷ drop (suc (suc m)) old =
        drop-cons old m 0 (omega arith) ∙ ap (λ (t : List ℕ). get_or old m 0 ∷ t) (drop-cons old (suc m) 0 (omega arith)) in
        let next : 2 * length (done ++ (low, high) ∷ []) ≡ suc (suc m) = omega arith in
        rw (
          take_all (length old / 2) done (omega arith),
          take_all (length old / 2) (done ++ (low, high) ∷ []) (omega arith),
          next,
          cut,
          two_at (flat done) (drop (suc (suc m)) old) (get_or old m 0) (get_or old (suc m) 0) low high m (length_flat done),
          flat_append,
          append_assoc,
        )

    laid_full : length old / 2 ≤ length done → laid_of old done ≡ laid_of old (done ++ (low, high) ∷ [])
    unfolding laid_of
    laid_full h = rw (take-append-le (length old / 2) done ((low, high) ∷ []) h)

    laid_push : pushed (laid_of old done) (length done) low high ≡ laid_of old (done ++ (low, high) ∷ [])
    unfolding pushed
    laid_push =
        rw laid_length
        (⊎_elim (λ (h : length done < length old / 2). rw (lt-ltb (length done) (length old / 2) h) (laid_room h))
        (λ (h : length old / 2 ≤ length done). rw (le-ltb (length done) (length old / 2) h) (laid_full h)) (below_or (length done) (length old / 2)))

laid_none : (old : List ℕ) → laid_of old [] ≡ old
unfolding laid_of flat
laid_none old = rw (take-nil {A = ℕ × ℕ} (length old / 2))

-- a state that has listed `done` in so many checks
abbrev state_of : List ℕ → List (ℕ × ℕ) → ℕ → Listing
state_of old done checks = record { tally = record { count = length done; checks = checks }; mem = laid_of old done }

module _ (e : Scene) (old : List ℕ) where
  abbrev Runs : List (ℕ × ℕ) → Type 0
  Runs cands = (done : List (ℕ × ℕ)) (checks : ℕ) → list_of e (state_of old done checks) cands ≡ state_of old (done ++ found_of e cands) (checks + length (checked_of e cands))

  module _ (p : ℕ × ℕ) (ps : List (ℕ × ℕ)) (rest : Runs ps) where
    runs_near : (done : List (ℕ × ℕ)) (checks : ℕ)
        → list_of e (record { tally = record { count = length done + 1; checks = checks + 1 }; mem = pushed (laid_of old done) (length done) p.0 p.1 }) ps
        ≡ state_of old (done ++ p ∷ found_of e ps) (checks + suc (length (checked_of e ps)))
    runs_near done checks =
        let more : length done + 1 ≡ length (done ++ p ∷ []) = sym (length-append done (p ∷ [])) in
        let sum : checks + suc (length (checked_of e ps)) ≡ checks + 1 + length (checked_of e ps) = omega arith in
        rw (laid_push old done p.0 p.1, more, sum, ← append_assoc done (p ∷ []) (found_of e ps)) (rest (done ++ p ∷ []) (checks + 1))

    runs_far : (done : List (ℕ × ℕ)) (checks : ℕ) → list_of e (state_of old done (checks + 1)) ps ≡ state_of old (done ++ found_of e ps) (checks + suc (length (checked_of e ps)))
    runs_far done checks =
        let sum : checks + suc (length (checked_of e ps)) ≡ checks + 1 + length (checked_of e ps) = omega arith in
        rw sum (rest done (checks + 1))

    pick : (x y : Bool) → e.excluded p.0 p.1 ≡ x → e.near p.0 p.1 ≡ y → Runs (p ∷ ps)
    unfolding consider_of keep
    pick true y h k done checks = rw h (rest done checks)
    pick false true h k done checks = rw (h, k) (runs_near done checks)
    pick false false h k done checks = rw (h, k) (runs_far done checks)

  runs : (cands : List (ℕ × ℕ)) → Runs cands
  unfolding keep
  runs [] = λ done checks. let q : checks + 0 ≡ checks = omega arith in rw (append-nil, q)
  runs (p ∷ ps) = pick p ps (runs ps) (e.excluded p.0 p.1) (e.near p.0 p.1) refl refl

  -- from nothing: as many pairs as are found, as many checks as are not excluded, and the memory with the first pairs that fit
  pub listed : (cands : List (ℕ × ℕ))
      → list_of e (empty_listing old) cands
      ≡ record { tally = record { count = length (found_of e cands); checks = length (checked_of e cands) }; mem = laid_of old (found_of e cands) }
  listed cands =
      let sum : 0 + length (checked_of e cands) ≡ length (checked_of e cands) = omega arith in
      ap (λ (m : List ℕ). list_of e (empty_listing m) cands) (sym (laid_none old)) ∙ rw sum at (runs cands [] 0)
