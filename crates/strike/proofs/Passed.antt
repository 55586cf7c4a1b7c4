-- What an answer shows of the tests before it, and what the two calls leave then. Assumes nothing.
use Rattle.std.specs.Prelude.{Err, Ok, Result}
use Prim.Native.Nat.{ℕ, suc, ◌+◌, ◌*◌, ◌/◌, ◌%◌, ◌≤◌, ◌<◌}
use mathlib.Core.Path.{◌≡◌, refl, sym, ◌∙◌}
use mathlib.Core.Bool.{Bool, true, false, cond, not, ◌&&◌}
use mathlib.Core.List.{List, [], ◌∷◌}
use native.Mathlib.Omega.{arith}
use lib.Dec.{eqb, ltb, leb}
use lib.Ieee.{Float}
use lib.ListN.{length, get_or, set}
use lib.Seq.{sets}
use Rattle.float.specs.Arith.{at}
use borrow.Author.Tests.{eqb-true, ltb-false, leb-false, lt-ltb, le-ltb, not-true, not-false}
use Rattle.lists.specs.Atoms.{atoms_of, most_atoms}
use Rattle.lists.specs.Lists.{every}
use Rattle.lists.proofs.Cases.{and_both, impossible}
use Rattle.answer.proofs.Passed.{pass}
use Rattle.answer.specs.Seen.{seen}
use Rattle.answer.specs.declared.Refusal.{Refusal}
use Rattle.answer.specs.declared.Refusal.TheVariants.{Lengths, TooMany, Range}
use Rattle.neighbor.specs.declared.State.{State}
use Rattle.strike.specs.declared.Left.{Left}
use Rattle.strike.specs.declared.NewAtom.{NewAtom}
use Rattle.strike.specs.Closed.{survives, new_number, row_survives, link_survives}
use Rattle.strike.specs.Calls.{LentAtoms, Links, atoms, links, unlisted_of, atoms_fit, links_fit, strike_fits, is_mark, links_asked, strike_asked, atoms_left, names_left, beside_left, links_left, names_many, beside_many, left_of, none_left, strike_of, strike_after, atom_in_range, put_asked, atoms_with, put_of, put_after}
use Rattle.strike.specs.declared.ThreeLeft.{ThreeLeft}
use Rattle.strike.specs.Steps.{Fitting, Closed, Roomy}
use Rattle.strike.specs.Left.{AtomsClosed, BondsClosed, AnglesClosed, LinksClosed}

-- a test that was passed, where it had to be true
pub passed : (t : Bool) (r : Refusal) (rest : Result (Unit {0}) Refusal) → cond t rest (Err r) ≡ Ok tt → (t ≡ true) × (rest ≡ Ok tt)
passed true r rest q = (refl, q)
passed false r rest q = let z : ◌≡◌ {A = ℕ} 0 1 = cc in impossible z

-- tables of the atoms that fit together
module _ (p v m c s : ℕ) (h : atoms_fit p v m c s ≡ true) where
  abbrev A : Bool
  A = eqb (p % 3) 0

  abbrev B : Bool
  B = eqb v p

  abbrev C : Bool
  C = eqb m (p / 3)

  abbrev D : Bool
  D = eqb c (p / 3)

  pub fit_lengths : (p ≡ 3 * (p / 3)) × (v ≡ p) × (m ≡ p / 3) × (c ≡ p / 3) × (s ≡ p / 3)
  unfolding atoms_fit
  fit_lengths =
      let e = and_both (A && B && C && D) (eqb s (p / 3)) h in
      let d = and_both (A && B && C) D e.0 in
      let c' = and_both (A && B) C d.0 in
      let b = and_both A B c'.0 in
      (omega (arith, eqb-true (p % 3) 0 b.0), eqb-true v p b.1, eqb-true m (p / 3) c'.1, eqb-true c (p / 3) d.1, eqb-true s (p / 3) e.1)

-- of an answered strike
module _ (marks : List ℕ) (a : LentAtoms) (l : Links) (h : strike_asked marks a l ≡ Ok tt) where
  abbrev room : ℕ
  room = atoms_of a.positions

  abbrev later : Result (Unit {0}) Refusal
  later = cond (ltb most_atoms room) (Err (TooMany room)) (cond (every is_mark marks) (links_asked room l) (Err Range))

  first : (strike_fits marks a l ≡ true) × (later ≡ Ok tt)
  unfolding strike_asked
  first = passed (strike_fits marks a l) Lengths later h

  few : room ≤ 16384
  few = ltb-false most_atoms room (pass (ltb most_atoms room) (TooMany room) (cond (every is_mark marks) (links_asked room l) (Err Range)) first.1).0

  pub fit_of : Fitting marks a
  unfolding strike_fits
  fit_of =
      let z = and_both (eqb (length marks) room && atoms_fit (length a.positions) (length a.velocities) (length a.masses) (length a.charges) (length a.species)) (links_fit (length l.bonds) (length l.angles) (length l.per_angle) (length l.exclusions)) first.0 in
      let y = and_both (eqb (length marks) room) (atoms_fit (length a.positions) (length a.velocities) (length a.masses) (length a.charges) (length a.species)) z.0 in
      let n : length marks ≡ room = eqb-true (length marks) room y.0 in
      let f = fit_lengths (length a.positions) (length a.velocities) (length a.masses) (length a.charges) (length a.species) y.1 in
      record {
        few = omega (arith, few);
        positions = omega (arith, f.0);
        velocities = omega (arith, f.0, f.1);
        masses = omega (arith, f.2);
        charges = omega (arith, f.3);
        species = omega (arith, f.4);
      }

-- of an answered put
module _ (count : ℕ) (new : NewAtom) (a : LentAtoms) (h : put_asked count new a ≡ Ok tt) where
  abbrev fits : Bool
  fits = atoms_fit (length a.positions) (length a.velocities) (length a.masses) (length a.charges) (length a.species)

  abbrev third : Result (Unit {0}) Refusal
  third = cond (atom_in_range new) (Ok tt) (Err Range)

  abbrev second : Result (Unit {0}) Refusal
  second = cond (ltb most_atoms (count + 1)) (Err (TooMany (count + 1))) third

  pub roomy_of : Roomy count a
  unfolding put_asked
  roomy_of =
      let x = passed fits Lengths (cond (leb (atoms_of a.positions) count) (Err Lengths) second) h in
      let y = pass (leb (atoms_of a.positions) count) Lengths second x.1 in
      let z = pass (ltb most_atoms (count + 1)) (TooMany (count + 1)) third y.1 in
      let f = fit_lengths (length a.positions) (length a.velocities) (length a.masses) (length a.charges) (length a.species) x.0 in
      let u = leb-false (atoms_of a.positions) count y.0 in
      let w = ltb-false most_atoms (count + 1) z.0 in
      record {
        few = omega (arith, w);
        positions = omega (arith, u, f.0);
        velocities = omega (arith, u, f.0, f.1);
        masses = omega (arith, u, f.2);
        charges = omega (arith, u, f.3);
        species = omega (arith, u, f.4);
      }

-- ---- what the calls leave
module _ (marks : List ℕ) (s : State) (a : LentAtoms) (l : Links) where
  pub strike_refused : (r : Refusal) → strike_asked marks a l ≡ Err r → record { shown = seen (Err r); left = none_left; state = s; atoms = a; links = l } ≡ strike_of marks s a l
  unfolding strike_of strike_after
  strike_refused r e = rw e

  pub strike_done : (n : ℕ) (left : Left) (s' : State) (a' : LentAtoms) (l' : Links) → strike_asked marks a l ≡ Ok tt → AtomsClosed marks a n a' → LinksClosed marks n l left l' → s' ≡ unlisted_of s → record { shown = seen (Ok tt); left = left; state = s'; atoms = a'; links = l' } ≡ strike_of marks s a l
  unfolding strike_of strike_after
  strike_done n left s' a' l' e c d u = rw (e, d.count, c.count, u, c.held, d.held)

module _ (count : ℕ) (new : NewAtom) (s : State) (a : LentAtoms) where
  pub put_refused : (r : Refusal) → put_asked count new a ≡ Err r → record { shown = seen (Err r); count = count; state = s; atoms = a } ≡ put_of count new s a
  unfolding put_of put_after
  put_refused r e = rw e

  pub put_done : (s' : State) (p v : List Float) → put_asked count new a ≡ Ok tt → s' ≡ unlisted_of s → p ≡ sets a.positions (3 * count) (new.position.x ∷ new.position.y ∷ new.position.z ∷ []) → v ≡ sets a.velocities (3 * count) (new.velocity.x ∷ new.velocity.y ∷ new.velocity.z ∷ []) → record { shown = seen (Ok tt); count = count + 1; state = s'; atoms = atoms p v (set a.masses count new.mass) (set a.charges count new.charge) (set a.species count new.species) } ≡ put_of count new s a
  unfolding put_of put_after atoms_with
  put_done s' p v e u x y = rw (e, u, x, y)

-- three floats one after the other
pub three_laid : {A : Type 0} (l : List A) (n : ℕ) (x y z : A) → set (set (set l n x) (n + 1) y) (n + 2) z ≡ sets l n (x ∷ y ∷ z ∷ [])
three_laid l n x y z = let e : n + 1 ≡ suc n = omega arith in let f : n + 2 ≡ suc (suc n) = omega arith in rw (e, f)

-- ---- several tables
module _ (marks : List ℕ) where
  pub atoms_closed : (a : LentAtoms) (p v m c : List Float) (s : List ℕ) (i j k o r : ℕ) → Closed (at a.positions) 3 (survives marks) (length marks) a.positions i p → Closed (at a.velocities) 3 (survives marks) (length marks) a.velocities j v → Closed (at a.masses) 1 (survives marks) (length marks) a.masses k m → Closed (at a.charges) 1 (survives marks) (length marks) a.charges o c → Closed (λ e. get_or a.species e 0) 1 (survives marks) (length marks) a.species r s → AtomsClosed marks a r (atoms p v m c s)
  unfolding atoms_left new_number
  atoms_closed a p v m c s i j k o r e f g h t = record { held = rw (e.held, f.held, g.held, h.held, t.held); count = t.count }

  -- a table of one float a row
  beside_one : (w : ℕ) (names : List ℕ) (xs : List Float) {r : ℕ} {after : List Float} → Closed (at xs) 1 (link_survives marks w (length names / w) names) (length xs) xs r after → (after ≡ beside_left marks w names 1 xs) × (r ≡ beside_many marks w names 1 xs)
  unfolding beside_left beside_many
  beside_one w names xs t =
      let e : length xs / 1 ≡ length xs = omega arith in (rw e t.held, rw e t.count)

  pub bonds_closed : (bonds bonds' : List ℕ) (lengths lengths' ks ks' : List Float) (r : ThreeLeft) → Closed (at lengths) 1 (link_survives marks 2 (length bonds / 2) bonds) (length lengths) lengths r.first lengths' → Closed (at ks) 1 (link_survives marks 2 (length bonds / 2) bonds) (length ks) ks r.second ks' → Closed (λ e. new_number marks (get_or bonds e 0)) 2 (row_survives marks 2 bonds) (length bonds / 2) bonds r.names bonds' → BondsClosed marks bonds lengths ks r bonds' lengths' ks'
  unfolding names_left names_many
  bonds_closed bonds bonds' lengths lengths' ks ks' r a b c =
      let x = beside_one 2 bonds lengths a in
      let y = beside_one 2 bonds ks b in
      record { bonds_held = c.held; lengths_held = x.0; ks_held = y.0; bonds_many = c.count; lengths_many = x.1; ks_many = y.1 }

  pub angles_closed : (angles angles' : List ℕ) (per per' : List Float) (r : ThreeLeft) → Closed (at per) 2 (link_survives marks 3 (length angles / 3) angles) (length per / 2) per r.first per' → Closed (λ e. new_number marks (get_or angles e 0)) 3 (row_survives marks 3 angles) (length angles / 3) angles r.names angles' → AnglesClosed marks angles per r angles' per'
  unfolding names_left names_many beside_left beside_many
  angles_closed angles angles' per per' r a c = record { angles_held = c.held; per_held = a.held; angles_many = c.count; per_many = a.count }

  pub links_closed : (n : ℕ) (l : Links) (b c : ThreeLeft) (x : ℕ) (bonds angles exclusions : List ℕ) (lengths ks per : List Float) → BondsClosed marks l.bonds l.lengths l.ks b bonds lengths ks → AnglesClosed marks l.angles l.per_angle c angles per → Closed (λ e. new_number marks (get_or l.exclusions e 0)) 2 (row_survives marks 2 l.exclusions) (length l.exclusions / 2) l.exclusions x exclusions → LinksClosed marks n l (record { atoms = n; bonds = b.names; lengths = b.first; ks = b.second; angles = c.names; per_angle = c.first; exclusions = x }) (links bonds lengths ks angles per exclusions)
  unfolding links_left left_of
  links_closed n l b c x bonds angles exclusions lengths ks per t u v =
      record {
        held = rw (t.bonds_held, t.lengths_held, t.ks_held, u.angles_held, u.per_held, names_held v);
        count = rw (t.bonds_many, t.lengths_many, t.ks_many, u.angles_many, u.per_many, names_many_lem v);
      }
    where
      names_held : Closed (λ e. new_number marks (get_or l.exclusions e 0)) 2 (row_survives marks 2 l.exclusions) (length l.exclusions / 2) l.exclusions x exclusions → exclusions ≡ names_left marks 2 l.exclusions
      names_held v = unfold names_left in v.held

      names_many_lem : Closed (λ e. new_number marks (get_or l.exclusions e 0)) 2 (row_survives marks 2 l.exclusions) (length l.exclusions / 2) l.exclusions x exclusions → x ≡ names_many marks 2 l.exclusions
      names_many_lem v = unfold names_many in v.count

-- ---- the tests of `strike`, one after the other; x and y are what was found of the lengths
module _ (marks : List ℕ) (a : LentAtoms) (l : Links) (x y : Bool) (ex : x ≡ atoms_fit (length a.positions) (length a.velocities) (length a.masses) (length a.charges) (length a.species)) (ey : y ≡ links_fit (length l.bonds) (length l.angles) (length l.per_angle) (length l.exclusions)) where
  found : eqb (length marks) (atoms_of a.positions) && x && y ≡ strike_fits marks a l
  unfolding strike_fits
  found = rw (ex, ey)

  pub asked_lengths : not (eqb (length marks) (atoms_of a.positions) && x && y) ≡ true → Err Lengths ≡ strike_asked marks a l
  unfolding strike_asked
  asked_lengths h = let e : strike_fits marks a l ≡ false = sym found ∙ not-true (eqb (length marks) (atoms_of a.positions) && x && y) h in rw e

  module _ (h : not (eqb (length marks) (atoms_of a.positions) && x && y) ≡ false) where
    fit : strike_fits marks a l ≡ true
    fit = sym found ∙ not-false (eqb (length marks) (atoms_of a.positions) && x && y) h

    pub asked_many : 16384 < atoms_of a.positions → Err (TooMany (atoms_of a.positions)) ≡ strike_asked marks a l
    unfolding strike_asked
    asked_many m = let e = fit in let f : ltb most_atoms (atoms_of a.positions) ≡ true = lt-ltb most_atoms (atoms_of a.positions) m in rw (e, f)

    module _ (m : atoms_of a.positions ≤ 16384) (z : Bool) (ez : z ≡ every is_mark marks) where
      pub asked_marks : not z ≡ true → Err Range ≡ strike_asked marks a l
      unfolding strike_asked
      asked_marks n =
          let e = fit in
          let f : ltb most_atoms (atoms_of a.positions) ≡ false = le-ltb most_atoms (atoms_of a.positions) m in
          let g : every is_mark marks ≡ false = sym ez ∙ not-true z n in rw (e, f, g)

      pub asked_names : not z ≡ false → (d : Result (Unit {0}) Refusal) → d ≡ links_asked (atoms_of a.positions) l → d ≡ strike_asked marks a l
      unfolding strike_asked
      asked_names n d ed =
          let e = fit in
          let f : ltb most_atoms (atoms_of a.positions) ≡ false = le-ltb most_atoms (atoms_of a.positions) m in
          let g : every is_mark marks ≡ true = sym ez ∙ not-false z n in rw (e, f, g) ed
