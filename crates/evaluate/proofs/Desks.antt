-- What a row of a desk's own table changes of an evaluation; that it is gone when it is taken out; that an empty own table is none. Assumes nothing.
use Rattle.std.specs.Prelude.{None, Option, Result, Some}
use Rattle.answer.specs.declared.Refusal.{Refusal}
use Rattle.cell.specs.declared.Lattice.{Lattice}
use mathlib.Core.Path.{◌≡◌, refl, sym, ap, ◌∙◌}
use mathlib.Core.Bool.{false}
use mathlib.Core.List.{List, [], ◌∷◌, ◌++◌}
use Prim.Native.Nat.{ℕ}
use lib.Ieee.{Float}
use lib.ListN.{length}
use Rattle.lists.specs.Exact.{◌∈◌}
use Rattle.lists.specs.Lists.{first_where, rows}
use Rattle.answer.specs.Seen.{Seen, answered, refused}
use Rattle.potentials_pair.specs.declared.Lj.{Lj}
use Rattle.potentials_pair.specs.declared.Mixed.{Mixed}
use Rattle.potentials_pair.specs.Pull.{Total}
use Rattle.potentials_pair.specs.Species.{Tables, tables, row_in, row_of, look_of}
use Rattle.potentials_pair.specs.Desks.{with_row, Places}
use Rattle.potentials_pair.proofs.Desks.{taken_out}
use Rattle.potentials.specs.Desks.{has_atom}
use Rattle.potentials.proofs.Desks.{over_stays}
use Rattle.neighbor.specs.declared.Question.TheVariants.{Outdated}
use Rattle.neighbor.specs.Update.{update_of, listed_of}
use Rattle.neighbor.specs.Update as Update
use Rattle.evaluate.specs.declared.Evaluated.{Evaluated}
use Rattle.evaluate.specs.Terms.{Terms, lj_gives, coulomb_gives, bond_gives, angle_gives, contributions, merged_all}
use Rattle.evaluate.specs.Calls.{Job, total_of, after_list, settled_by, after_asked, evaluated_of}
use Rattle.evaluate.specs.Desks.{with_tables, settled_pairs, house_look, EvaluateStays, EvaluateBack, EvaluateOne}

-- what the terms after Lennard-Jones give: the tables do not enter it
abbrev others : Terms → Option Lattice → List Float → ℕ → List (ℕ × ℕ) → List Total
others t cell xs room l =
    coulomb_gives t.coulomb t.units.ke_coulomb cell t.charges xs room l
    ++ (bond_gives t.bond cell t.bonds t.lengths t.ks xs room
    ++ angle_gives t.angle cell t.angles t.per_angle xs room)

-- two evaluations that differ in their lookup and tables alone, where Lennard-Jones gives the same
module _ (f g : Tables → Lj → ℕ → Mixed) (t u : Tables) (j : Job) (room : ℕ) (l : List (ℕ × ℕ))
    (h : lj_gives (f t) j.terms.lj j.given.cell j.terms.species j.given.positions room l
    ≡ lj_gives (g u) j.terms.lj j.given.cell j.terms.species j.given.positions room l) where
  gives_same : contributions f (with_tables t j).terms j.given.cell j.given.positions room l ≡ contributions g (with_tables u j).terms j.given.cell j.given.positions room l
  unfolding contributions
  gives_same = ap (λ (x : List Total). x ++ others j.terms j.given.cell j.given.positions room l) h

module _ (f g : Tables → Lj → ℕ → Mixed) (t u : Tables) (j : Job) (room : ℕ) where
  after_same : (a : Seen (Unit {0})) (o : Update.Outcome)
      → lj_gives (f t) j.terms.lj j.given.cell j.terms.species j.given.positions room (rows (listed_of o.state o.pairs))
      ≡ lj_gives (g u) j.terms.lj j.given.cell j.terms.species j.given.positions room (rows (listed_of o.state o.pairs))
      → after_list f room (with_tables t j) a o ≡ after_list g room (with_tables u j) a o
  unfolding after_list total_of
  after_same (answered x) o h =
      ap (λ (c : List Total). record { list = o; total = merged_all (length j.forces) c }) (gives_same f g t u j room (rows (listed_of o.state o.pairs)) h)
  after_same (refused n p) o h = refl

  settled_same : lj_gives (f t) j.terms.lj j.given.cell j.terms.species j.given.positions room (settled_pairs j)
      ≡ lj_gives (g u) j.terms.lj j.given.cell j.terms.species j.given.positions room (settled_pairs j)
      → settled_by f room (with_tables t j) ≡ settled_by g room (with_tables u j)
  unfolding settled_by
  settled_same h = after_same (update_of Outdated j.given).answer (update_of Outdated j.given) h

-- ---- a row put into the own table
module _ (k s : ℕ) (epsilon sigma : Float) (t : Tables) (h : Places k t) where
  gives_stay : (term : Option Lj) (cell : Option Lattice) (species : List ℕ) (xs : List Float) (room : ℕ) (l : List (ℕ × ℕ)) → ((p : ℕ × ℕ) → p ∈ l → has_atom s species p ≡ false)
      → lj_gives (look_of (with_row k s epsilon sigma t)) term cell species xs room l ≡ lj_gives (look_of t) term cell species xs room l
  unfolding lj_gives
  gives_stay None cell species xs room l none = refl
  gives_stay (Some lj) cell species xs room l none = ap (λ (x : Total). x ∷ []) (over_stays k s epsilon sigma t h lj cell species xs room l none)

pub evaluate_stays : (k s : ℕ) (epsilon sigma : Float) (t : Tables) (j : Job) (r : Evaluated) (pairs : List ℕ) (references : List Float) (starts items : List ℕ) (forces : List Float)
    → EvaluateStays k s epsilon sigma t j r pairs references starts items forces
unfolding evaluated_of after_asked
evaluate_stays k s epsilon sigma t j r pairs references starts items forces h none a b e =
    e
    ∙ ap (λ (d : Result (Unit {0}) Refusal). after_asked (with_tables (with_row k s epsilon sigma t) j) d) a
    ∙ settled_same look_of look_of (with_row k s epsilon sigma t) t j (length j.forces) (gives_stay k s epsilon sigma t h j.terms.lj j.given.cell j.terms.species j.given.positions (length j.forces) (settled_pairs j) none)
    ∙ sym (ap (λ (d : Result (Unit {0}) Refusal). after_asked (with_tables t j) d) b)

pub evaluate_back : (k s : ℕ) (epsilon sigma : Float) (t : Tables) (j : Job) (r : Evaluated) (pairs : List ℕ) (references : List Float) (starts items : List ℕ) (forces : List Float)
    → EvaluateBack k s epsilon sigma t j r pairs references starts items forces
evaluate_back k s epsilon sigma t j r pairs references starts items forces h e = rw (taken_out k s epsilon sigma t h) at e

-- ---- an empty own table
look_one : (ids : List ℕ) (params : List Float) → ◌≡◌ {A = Lj → ℕ → Mixed} (look_of (tables [] [] ids params)) (house_look (tables [] [] ids params))
unfolding look_of row_of row_in first_where
look_one ids params = refl

pub evaluate_one : (ids : List ℕ) (params : List Float) (j : Job) → EvaluateOne ids params j
evaluate_one ids params j =
    settled_same look_of house_look (tables [] [] ids params) (tables [] [] ids params) j (length j.forces)
    (ap (λ (look : Lj → ℕ → Mixed). lj_gives look j.terms.lj j.given.cell j.terms.species j.given.positions (length j.forces) (settled_pairs j)) (look_one ids params))
