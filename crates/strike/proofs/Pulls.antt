-- Between survivors every pull is the same, float for float; and an atom that is put stands after the last one. Assumes nothing.
use Rattle.std.specs.Prelude.{None}
use Rattle.std.specs.Prelude.{Ok}
use Prim.Native.Nat.{ℕ, ◌+◌, ◌*◌, ◌/◌, ◌≤◌, ◌<◌}
use mathlib.Core.Path.{◌≡◌, sym, ap, ◌∙◌}
use mathlib.Core.Logic.{◌⊎◌, inl, inr, ⊎_elim}
use mathlib.Core.Bool.{Bool, true, false, cond}
use lib.Dec.{ltb}
use borrow.Author.Tests.{lt-ltb, le-ltb}
use mathlib.Core.List.{List, [], ◌∷◌}
use native.Mathlib.Omega.{arith}
use lib.Ieee.{Float, nan}
use lib.ListN.{length, get_or, take, length-take, get_or-eq_default}
use lib.Seq.{get_or-take, get_or-set_same, get_or-set_other, sets}
use Rattle.lists.specs.Lists.{up_to, how_many}
use Rattle.lists.proofs.Cases.{below_or}
use Rattle.lists.proofs.Walks.{any_default}
use Rattle.float.specs.Arith.{at}
use Rattle.float.specs.Literals.{f0}
use Rattle.cell.specs.declared.Vec3.{Vec3}
use Rattle.cell.specs.declared.Image.{Image}
use Rattle.cell.specs.Vec.{position_at, sub_of}
use Rattle.potentials_pair.specs.Lj.{mix_of, lj_pull}
use Rattle.potentials_pair.specs.Coulomb.{neutral, coulomb_pull}
use Rattle.potentials_pair.specs.Bond.{bond_pull}
use Rattle.potentials_angle.specs.declared.Angle.{Angle}
use Rattle.potentials_angle.specs.Bend.{bend_of}
use Rattle.potentials_angle.specs.Ranged.{angle_row}
use Rattle.potentials_angle.specs.Terms.{angle_at, angle_bend}
use Rattle.strike.specs.declared.NewAtom.{NewAtom}
use Rattle.potentials.specs.Terms.{displaced, lj_pair, coulomb_pair, bond_pair}
use Rattle.strike.specs.Closed.{survives, new_number, row_survives, link_survives}
use Rattle.strike.specs.Calls.{LentAtoms, Links, strike_asked, atoms_left, links_left, beside_many, put_asked, atoms_with}
use Rattle.strike.specs.Steps.{Roomy}
use Rattle.strike.specs.Theorems.{Keeps, AtomsKept, PullsStay, StrikePulls, PutKeeps, PutPuts}
use Rattle.strike.proofs.Passed.{fit_of, roomy_of}
use Rattle.strike.proofs.Turns.{survivor_below, link_there}
use Rattle.strike.proofs.Rows.{many_few, sets_at, sets_before, sets_past}
use Rattle.strike.proofs.Kept.{strike_keeps, rows_go_with, order, many_rises}

module _ (marks : List ℕ) (a : LentAtoms) (l : Links) (h : strike_asked marks a l ≡ Ok tt) where
  abbrev k : AtomsKept marks a (atoms_left marks a)
  k = (strike_keeps marks a l h).0

  -- a survivor's position, species, charge
  position_same : (i : ℕ) → survives marks i ≡ true → position_at (atoms_left marks a).positions (new_number marks i) ≡ position_at a.positions i
  unfolding position_at new_number
  position_same i e =
      let s = k.positions.same i in
      let b = survivor_below marks i e in
      let x = ap (at (atoms_left marks a).positions) (plus (3 * new_number marks i)) ∙ s 0 b e (omega arith) ∙ ap (at a.positions) (sym (plus (3 * i))) in
      λ j. record { x = x j; y = s 1 b e (omega arith) j; z = s 2 b e (omega arith) j }
    where
      plus : (n : ℕ) → n ≡ n + 0
      plus n = omega arith

  one : (n : ℕ) → n ≡ 1 * n + 0
  one n = omega arith

  species_same : (i : ℕ) → survives marks i ≡ true → get_or (atoms_left marks a).species (new_number marks i) 0 ≡ get_or a.species i 0
  unfolding new_number
  species_same i e =
      ap (λ (n : ℕ). get_or (atoms_left marks a).species n 0) (one (new_number marks i)) ∙ k.species.same i 0 (survivor_below marks i e) e (omega arith) ∙ ap (λ (n : ℕ). get_or a.species n 0) (sym (one i))

  charge_same : (i : ℕ) → survives marks i ≡ true → get_or (atoms_left marks a).charges (new_number marks i) f0 ≡ get_or a.charges i f0
  unfolding new_number
  charge_same i e =
      let b = survivor_below marks i e in
      let f = fit_of marks a l h in
      let n = order (survives marks) i (length marks) b e in
      any_default (atoms_left marks a).charges (new_number marks i) f0 nan (omega (arith, k.charges.long, f.charges, n, many_few (survives marks) (length marks)))
      ∙ ap (at (atoms_left marks a).charges) (one (new_number marks i)) ∙ k.charges.same i 0 b e (omega arith) ∙ ap (at a.charges) (sym (one i))
      ∙ any_default a.charges i nan f0 (omega (arith, f.charges))

  displaced_same : (image : Vec3 → Image) (i j : ℕ) → survives marks i ≡ true → survives marks j ≡ true → displaced image (atoms_left marks a).positions (new_number marks i, new_number marks j) ≡ displaced image a.positions (i, j)
  unfolding displaced
  displaced_same image i j e f = λ n. (image (sub_of (position_same i e n) (position_same j f n))).diff

  -- a row beside a bond, in the table cut to its new count; past its end the default before and after
  own : (xs after : List Float) (d : Float) (b : ℕ) → b < length l.bonds / 2 → row_survives marks 2 l.bonds b ≡ true → Keeps nan (λ x. x) 1 (length xs / 1) (link_survives marks 2 (length l.bonds / 2) l.bonds) xs after → get_or (take (beside_many marks 2 l.bonds 1 xs) after) (how_many (row_survives marks 2 l.bonds) (up_to b)) d ≡ get_or xs b d
  unfolding beside_many
  own xs after d b c e t =
      ⊎_elim
      (λ (m : b < length xs).
      let w : b < length xs / 1 = omega arith in
      let u = order q b (length xs / 1) w live in
      rw (sym same)
      (get_or-take (how_many q (up_to (length xs / 1))) after (how_many q (up_to b)) d u
      ∙ any_default after (how_many q (up_to b)) d nan (omega (arith, t.long, u, many_few q (length xs / 1)))
      ∙ ap (at after) (one (how_many q (up_to b))) ∙ t.same b 0 w live (omega arith) ∙ ap (at xs) (sym (one b))
      ∙ any_default xs b nan d m))
      (λ (m : length xs ≤ b).
      let u = many_rises q (length xs / 1) b (omega arith) in
      rw (sym same)
      (get_or-eq_default (take (how_many q (up_to (length xs / 1))) after) d {n = how_many q (up_to b)} (omega (arith, length-take (how_many q (up_to (length xs / 1))) after, u))
      ∙ sym (get_or-eq_default xs d {n = b} m)))
      (below_or b (length xs))
    where
      q : ℕ → Bool
      q = link_survives marks 2 (length l.bonds / 2) l.bonds

      live : link_survives marks 2 (length l.bonds / 2) l.bonds b ≡ true
      live = link_there marks 2 (length l.bonds / 2) l.bonds b c ∙ e

      same : how_many (link_survives marks 2 (length l.bonds / 2) l.bonds) (up_to b) ≡ how_many (row_survives marks 2 l.bonds) (up_to b)
      same = rows_go_with marks 2 l.bonds b c

  -- the same of an angle's two numbers
  own_angle : (t : Angle) (r : ℕ) → r < length l.angles / 3 → row_survives marks 3 l.angles r ≡ true → angle_at (take (2 * beside_many marks 3 l.angles 2 l.per_angle) (links_left marks l).per_angle) (how_many (row_survives marks 3 l.angles) (up_to r)) t ≡ angle_at l.per_angle r t
  unfolding beside_many angle_at angle_row
  own_angle t r c e =
      ⊎_elim
      (λ (w : r < (length l.per_angle / 2)).
      let u = order (link_survives marks 3 (length l.angles / 3) l.angles) r (length l.per_angle / 2) w live in
      let x : ltb (how_many (link_survives marks 3 (length l.angles / 3) l.angles) (up_to r)) (length (take (2 * (how_many (link_survives marks 3 (length l.angles / 3) l.angles) (up_to (length l.per_angle / 2)))) (links_left marks l).per_angle) / 2) ≡ true = lt-ltb (how_many (link_survives marks 3 (length l.angles / 3) l.angles) (up_to r)) (length (take (2 * (how_many (link_survives marks 3 (length l.angles / 3) l.angles) (up_to (length l.per_angle / 2)))) (links_left marks l).per_angle) / 2) (omega (arith, length-take (2 * (how_many (link_survives marks 3 (length l.angles / 3) l.angles) (up_to (length l.per_angle / 2)))) (links_left marks l).per_angle, u, many_few (link_survives marks 3 (length l.angles / 3) l.angles) (length l.per_angle / 2), k₂.long)) in
      let y : ltb r (length l.per_angle / 2) ≡ true = lt-ltb r (length l.per_angle / 2) w in
      let first : at (take (2 * (how_many (link_survives marks 3 (length l.angles / 3) l.angles) (up_to (length l.per_angle / 2)))) (links_left marks l).per_angle) (2 * (how_many (link_survives marks 3 (length l.angles / 3) l.angles) (up_to r))) ≡ at l.per_angle (2 * r) =
      get_or-take (2 * (how_many (link_survives marks 3 (length l.angles / 3) l.angles) (up_to (length l.per_angle / 2)))) (links_left marks l).per_angle (2 * (how_many (link_survives marks 3 (length l.angles / 3) l.angles) (up_to r))) nan (omega (arith, u)) ∙ ap (at (links_left marks l).per_angle) (plus (2 * (how_many (link_survives marks 3 (length l.angles / 3) l.angles) (up_to r)))) ∙ k₂.same r 0 w live (omega arith) ∙ ap (at l.per_angle) (sym (plus (2 * r))) in
      let second : at (take (2 * (how_many (link_survives marks 3 (length l.angles / 3) l.angles) (up_to (length l.per_angle / 2)))) (links_left marks l).per_angle) (2 * (how_many (link_survives marks 3 (length l.angles / 3) l.angles) (up_to r)) + 1) ≡ at l.per_angle (2 * r + 1) =
      get_or-take (2 * (how_many (link_survives marks 3 (length l.angles / 3) l.angles) (up_to (length l.per_angle / 2)))) (links_left marks l).per_angle (2 * (how_many (link_survives marks 3 (length l.angles / 3) l.angles) (up_to r)) + 1) nan (omega (arith, u)) ∙ k₂.same r 1 w live (omega arith) in
      rw (sym same, x, y) (λ j. record { k = first j; rest = second j }))
      (λ (w : (length l.per_angle / 2) ≤ r).
      let u = many_rises (link_survives marks 3 (length l.angles / 3) l.angles) (length l.per_angle / 2) r w in
      let x : ltb (how_many (link_survives marks 3 (length l.angles / 3) l.angles) (up_to r)) (length (take (2 * (how_many (link_survives marks 3 (length l.angles / 3) l.angles) (up_to (length l.per_angle / 2)))) (links_left marks l).per_angle) / 2) ≡ false = le-ltb (how_many (link_survives marks 3 (length l.angles / 3) l.angles) (up_to r)) (length (take (2 * (how_many (link_survives marks 3 (length l.angles / 3) l.angles) (up_to (length l.per_angle / 2)))) (links_left marks l).per_angle) / 2) (omega (arith, length-take (2 * (how_many (link_survives marks 3 (length l.angles / 3) l.angles) (up_to (length l.per_angle / 2)))) (links_left marks l).per_angle, u)) in
      let y : ltb r (length l.per_angle / 2) ≡ false = le-ltb r (length l.per_angle / 2) w in
      rw (sym same, x, y))
      (below_or r (length l.per_angle / 2))
    where
      k₂ : Keeps nan (λ x. x) 2 (length l.per_angle / 2) (link_survives marks 3 (length l.angles / 3) l.angles) l.per_angle (links_left marks l).per_angle
      k₂ = (strike_keeps marks a l h).1.per_angle

      plus : (n : ℕ) → n ≡ n + 0
      plus n = omega arith

      live : (link_survives marks 3 (length l.angles / 3) l.angles) r ≡ true
      live = link_there marks 3 (length l.angles / 3) l.angles r c ∙ e

      same : (how_many (link_survives marks 3 (length l.angles / 3) l.angles) (up_to r)) ≡ how_many (row_survives marks 3 l.angles) (up_to r)
      same = rows_go_with marks 3 l.angles r c

  pulls_stay : PullsStay marks a l
  unfolding lj_pair coulomb_pair bond_pair angle_bend
  pulls_stay =
      record {
        lj = λ image look t i j e f. λ n. lj_pull t (mix_of t.rule (look (species_same i e n)) (look (species_same j f n))) (displaced_same image i j e f n);
        coulomb = λ image ke cutoff i j e f. λ n. cond (neutral (charge_same i e n) (charge_same j f n)) None (coulomb_pull ke cutoff (charge_same i e n) (charge_same j f n) (displaced_same image i j e f n));
        bond = λ image t b i j c s e f. λ n. bond_pull (own l.ks (links_left marks l).ks t.k b c s (strike_keeps marks a l h).1.ks n) (own l.lengths (links_left marks l).lengths t.r0 b c s (strike_keeps marks a l h).1.lengths n) (displaced_same image i j e f n);
        angle = λ image t r c b s x y z. λ n. bend_of (own_angle t r b s n) (displaced_same image c.first c.apex x y n) (displaced_same image c.last c.apex z y n);
      }

pub strike_pulls : (marks : List ℕ) (a : LentAtoms) (l : Links) → StrikePulls marks a l
strike_pulls marks a l h = pulls_stay marks a l h

-- ---- put
module _ (count : ℕ) (new : NewAtom) (a : LentAtoms) (h : put_asked count new a ≡ Ok tt) where
  abbrev room : Roomy count a
  room = roomy_of count new a h

  -- three floats laid at row `count`: they are that row, and every other row is as it was
  laid : (xs : List Float) (v : Vec3) → 3 * count + 2 < length xs → position_at (sets xs (3 * count) (v.x ∷ v.y ∷ v.z ∷ [])) count ≡ v
  unfolding position_at
  laid xs v w =
      let z : 3 * count ≡ 3 * count + 0 = omega arith in
      λ j. record { x = (ap (at (sets xs (3 * count) (v.x ∷ v.y ∷ v.z ∷ []))) z ∙ f 0 (omega arith)) j; y = f 1 (omega arith) j; z = f 2 (omega arith) j }
    where
      f : (c : ℕ) → c < 3 → at (sets xs (3 * count) (v.x ∷ v.y ∷ v.z ∷ [])) (3 * count + c) ≡ get_or (v.x ∷ v.y ∷ v.z ∷ []) c nan
      f c l = sets_at nan (v.x ∷ v.y ∷ v.z ∷ []) xs (3 * count) c l (omega arith)

  aside : (xs : List Float) (v : Vec3) (e : ℕ) → (e < 3 * count) ⊎ (3 * count + 3 ≤ e) → at (sets xs (3 * count) (v.x ∷ v.y ∷ v.z ∷ [])) e ≡ at xs e
  aside xs v e (inl l) = sets_before nan (v.x ∷ v.y ∷ v.z ∷ []) xs (3 * count) e l
  aside xs v e (inr l) = sets_past nan (v.x ∷ v.y ∷ v.z ∷ []) xs (3 * count) e l

  elsewhere : (xs : List Float) (v : Vec3) (i : ℕ) → (i ≡ count → ⊥) → position_at (sets xs (3 * count) (v.x ∷ v.y ∷ v.z ∷ [])) i ≡ position_at xs i
  unfolding position_at
  elsewhere xs v i n = λ j. record { x = aside xs v (3 * i) (side 0 (omega arith) (3 * i) (omega arith)) j; y = aside xs v (3 * i + 1) (side 1 (omega arith) (3 * i + 1) (omega arith)) j; z = aside xs v (3 * i + 2) (side 2 (omega arith) (3 * i + 2) (omega arith)) j }
    where
      side : (c : ℕ) → c < 3 → (e : ℕ) → e ≡ 3 * i + c → (e < 3 * count) ⊎ (3 * count + 3 ≤ e)
      side c l e q = ⊎_elim (λ (x : i < count). inl (omega arith)) (λ (x : count ≤ i). inr (omega (arith, n))) (below_or i count)

  put_keeps : PutKeeps count new a
  unfolding atoms_with
  put_keeps =
      record {
        masses = get_or-set_same a.masses count new.mass nan room.masses;
        charges = get_or-set_same a.charges count new.charge nan room.charges;
        species = get_or-set_same a.species count new.species 0 room.species;
        spot = laid a.positions new.position room.positions;
        speed = laid a.velocities new.velocity room.velocities;
        others = λ i n. (elsewhere a.positions new.position i n, elsewhere a.velocities new.velocity i n, get_or-set_other a.masses count i new.mass nan n, get_or-set_other a.charges count i new.charge nan n, get_or-set_other a.species count i new.species 0 n);
      }

pub put_puts : (count : ℕ) (new : NewAtom) (a : LentAtoms) → PutPuts count new a
put_puts count new a h = put_keeps count new a h
