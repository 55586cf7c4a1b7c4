-- A public call's outcome by its two ways, refused and answered; and that an answered call's tables ascend, so that its lookup is the one by membership. Assumes nothing.
use Rattle.std.specs.Prelude.{Err, Ok, Option, Result}
use Rattle.cell.specs.declared.Lattice.{Lattice}
use mathlib.Core.Path.{◌≡◌, refl, sym, ap, ◌∙◌}
use mathlib.Core.Bool.{Bool, true, false, cond}
use mathlib.Core.List.{List, []}
use Prim.Native.Nat.{ℕ}
use native.Mathlib.Omega.{arith}
use lib.Dec.{ltb}
use lib.Ieee.{Float}
use Rattle.answer.specs.declared.Refusal.{Refusal}
use Rattle.answer.specs.declared.Refusal.TheVariants.{Lengths, TooMany, Range, NotThere, Order, HouseOrder}
use Rattle.answer.proofs.Passed.{pass}
use Rattle.virial.specs.declared.Sum.{Sum}
use Rattle.virial.specs.Calls.{few_atoms}
use Rattle.potentials_pair.specs.declared.Lj.{Lj}
use Rattle.potentials_pair.specs.declared.Mixed.{Mixed}
use Rattle.potentials_pair.specs.Pull.{held, Total}
use Rattle.potentials_pair.specs.Species.{Tables, row_by, row_of, look_by, look_of, rising}
use Rattle.potentials_pair.proofs.Lookup.{rows_found, looks_all}
use Rattle.potentials.specs.Terms.{lj_over}
use Rattle.potentials.specs.Calls.{asked_by, order_asked, rows_asked, row_after, lj_asked, outcome_of, left}

module _ {asked done : Result (Unit {0}) Refusal} (A : done ≡ asked) (t : Total) (forces : List Float) where
  pub call_refused : {why : Refusal} → done ≡ Err why → left (Err why) forces ≡ outcome_of asked t forces
  call_refused R = rw (← A, R)

  pub call_answered : {sum : Sum} {after : List Float} → done ≡ Ok tt → held sum after ≡ t → left (Ok sum) after ≡ outcome_of asked t forces
  call_answered R e = rw (← A, R, ← e)

-- ---- where every test passes
differ : (r : Refusal) → ◌≡◌ {A = Result (Unit {0}) Refusal} (Err r) (Ok tt) → ⊥
differ r e = let z : ◌≡◌ {A = ℕ} 0 1 = cc in omega arith

passed : (b : Bool) {d : Result (Unit {0}) Refusal} (r : Refusal) → ◌≡◌ {A = Result (Unit {0}) Refusal} (cond b d (Err r)) (Ok tt) → (b ≡ true) × (d ≡ Ok tt)
passed true r e = (refl, e)
passed false r e = absurd (differ r e)

-- what passed tests show: the lengths agree, the atoms are not too many, every row's atoms are there, the species ascend
pub record Cleared (fits : Bool) (atoms count absent : ℕ) (ordered : Result (Unit {0}) Refusal) : Type 0 where
  pub lengths : fits ≡ true
  pub few : few_atoms atoms ≡ true
  pub there : ltb absent count ≡ false
  pub order : ordered ≡ Ok tt

pub asked_told : (fits : Bool) (atoms : ℕ) (in_range : Bool) (count absent : ℕ) (ordered : Result (Unit {0}) Refusal) → asked_by fits atoms in_range count absent ordered ≡ Ok tt → Cleared fits atoms count absent ordered
unfolding asked_by
asked_told fits atoms in_range count absent ordered e =
    let a = passed fits Lengths e in
    let f = passed (few_atoms atoms) (TooMany atoms) a.1 in
    let b = passed in_range Range f.1 in
    let c = pass (ltb absent count) (NotThere absent) _ b.1 in
    record { lengths = a.0; few = f.0; there = c.0; order = c.1 }

-- both tables ascend
pub order_told : (own_ids ids : List ℕ) → order_asked own_ids ids ≡ Ok tt → (rising own_ids ≡ true) × (rising ids ≡ true)
unfolding order_asked
order_told own_ids ids e =
    let a = passed (rising own_ids) Order e in
    (a.0, (passed (rising ids) HouseOrder a.1).0)

-- the row of a species
module _ (tab : Tables) {done : Result (Unit {0}) Refusal} (A : done ≡ rows_asked tab) where
  pub row_refused : {why : Refusal} → done ≡ Err why → (row : List Float) → [] ≡ row_after (rows_asked tab) row
  row_refused R row = rw (← A, R)

  rows_rising : done ≡ Ok tt → (rising tab.own_ids ≡ true) × (rising tab.ids ≡ true)
  unfolding rows_asked
  rows_rising e = order_told tab.own_ids tab.ids (asked_told _ _ _ _ _ _ (sym A ∙ e)).order

  pub row_answered : done ≡ Ok tt → (z : ℕ) {r : List Float} → r ≡ row_by tab z → r ≡ row_after (rows_asked tab) (row_of tab z)
  row_answered e z h = rw (← A, e) (h ∙ rows_found tab (rows_rising e).0 (rows_rising e).1 z)

module _ (lj : Lj) (cell : Option Lattice) (tab : Tables) (species : ℕ) (xs : List Float) (forces pairs absent : ℕ) {done : Result (Unit {0}) Refusal} where
  both_rising : done ≡ lj_asked lj cell tab species xs forces pairs absent → done ≡ Ok tt → (rising tab.own_ids ≡ true) × (rising tab.ids ≡ true)
  unfolding lj_asked
  both_rising A e = order_told tab.own_ids tab.ids (asked_told _ _ _ _ _ _ (sym A ∙ e)).order

  pub lj_looked : done ≡ lj_asked lj cell tab species xs forces pairs absent → done ≡ Ok tt → (of : List ℕ) (room : ℕ) (l : List (ℕ × ℕ)) {r : Total}
      → r ≡ lj_over (look_by tab lj) lj cell of xs room l → r ≡ lj_over (look_of tab lj) lj cell of xs room l
  lj_looked A e of room l h = h ∙ ap (λ (look : ℕ → Mixed). lj_over look lj cell of xs room l) (looks_all tab (both_rising A e).0 (both_rising A e).1 lj)
