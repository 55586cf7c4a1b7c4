-- A part that is told by its first element and its length is the part. Assumes nothing.
use Rattle.std.specs.Prelude.{Err, Ok, Result}
use Prim.Native.Nat.{ℕ, zero, suc, ◌+◌, ◌*◌, ◌-◌, ◌/◌}
use native.Mathlib.Omega.{arith}
use mathlib.Core.Path.{◌≡◌, refl, sym, ap, ◌∙◌}
use mathlib.Core.Bool.{Bool, true, false, cond}
use mathlib.Core.List.{List, [], ◌∷◌}
use lib.Dec.{ltb}
use lib.ListN.{length, get_or, take, drop}
use Rattle.answer.specs.Seen.{Seen, answered, refused_by, seen}
use Rattle.answer.specs.declared.Refusal.{Refusal}
use Rattle.answer.specs.declared.Refusal.TheVariants.{Lengths}
use Rattle.bins.specs.Sort.{cell_held, part_of, atoms_in, atoms_asked}
use Rattle.exclusions.specs.Calls.{excluded_rows}
use Rattle.exclusions.specs.Table.{room}
use Rattle.neighbor.specs.declared.State.{State}
use Rattle.neighbor.specs.Rebuild.{claims_more}
use Rattle.neighbor.specs.Update.{listed_of}
use Rattle.field_structs.specs.Flat.{flat_done}
use Rattle.field_structs.specs.declared.FlatDone.{FlatDone}
use Rattle.field.specs.Parts.{PartSays, cell_start}

own_part : (n : ℕ) (xs : List ℕ) → take (length (take n xs)) xs ≡ take n xs
own_part zero xs = refl
own_part (suc n) [] = refl
own_part (suc n) (x ∷ xs) = ap {B = List ℕ} (λ r. x ∷ r) (own_part n xs)

first_part : (t : Bool) (n : ℕ) (xs : List ℕ) → take (length (cond t [] (take n xs))) xs ≡ cond t [] (take n xs)
first_part true n xs = refl
first_part false n xs = own_part n xs

later_part : (t : Bool) (n k : ℕ) (xs : List ℕ) → take (length (cond t (take n (drop k xs)) [])) (drop (cond t k 0) xs) ≡ cond t (take n (drop k xs)) []
later_part true n k xs = own_part n (drop k xs)
later_part false n k xs = refl

pub listed_told : (s : State) (pairs : List ℕ) → take (length (listed_of s pairs)) (drop 0 pairs) ≡ listed_of s pairs
unfolding listed_of
listed_told s pairs = first_part (claims_more s.built_in s.pairs (length pairs / 2) 0 0) (2 * s.pairs) pairs

pub excluded_told : (count : ℕ) (table : List ℕ) → take (length (excluded_rows count table)) (drop 0 table) ≡ excluded_rows count table
unfolding excluded_rows
excluded_told count table = first_part (ltb (room table) count) (2 * count) table

pub atoms_told : (cell : ℕ) (starts items : List ℕ) → take (length (atoms_in cell starts items)) (drop (cell_start cell starts items) items) ≡ atoms_in cell starts items
unfolding atoms_in cell_start part_of
atoms_told cell starts items = later_part (cell_held cell starts items) (get_or starts (cell + 1) 0 - get_or starts cell 0) (get_or starts cell 0) items

-- what is handed out, as a start and a length
pub says_part : {asked : Result (Unit {0}) Refusal → Type 0} {first k : ℕ} {part table xs : List ℕ} (a : Result (Unit {0}) Refusal) {d : FlatDone}
    → asked a → first ≡ k → xs ≡ part → take (length part) (drop first table) ≡ part → d ≡ flat_done a → PartSays asked first part table (record { done = d; start = k; length = length xs })
says_part {first} {k} {part} {table} {xs} a s z e t h =
    record {
      done = record { answer = a; handed = h; says = s };
      begins = sym z;
      counts = ap (λ (l : List ℕ). length l) e;
      told = ap (λ (l : List ℕ). take (length l) (drop k table)) e ∙ ap (λ (n : ℕ). take (length part) (drop n table)) (sym z) ∙ t;
    }

by_answer : (t : Bool) → ◌≡◌ {A = Seen (Unit {0})} (answered tt) (cond t (answered tt) (refused_by Lengths)) → t ≡ true
by_answer true p = refl
by_answer false p = let z : ◌≡◌ {A = ℕ} 0 1 = cc in absurd (omega arith)

by_refusal : (t : Bool) (r : Refusal) → ◌≡◌ {A = Seen (Unit {0})} (refused_by r) (cond t (answered tt) (refused_by Lengths)) → t ≡ false
by_refusal false r p = refl
by_refusal true r p = let z : ◌≡◌ {A = ℕ} 0 1 = cc in absurd (omega arith)

module _ (cell : ℕ) (starts items : List ℕ) where
  -- whether the cell is held, from what the call beside the part answers
  pub held_answered : (a : Result (Unit {0}) Refusal) → seen a ≡ atoms_asked cell starts items → a ≡ Ok tt → cell_held cell starts items ≡ true
  unfolding atoms_asked
  held_answered a e k = by_answer (cell_held cell starts items) (sym (ap seen k) ∙ e)

  pub held_refused : (a : Result (Unit {0}) Refusal) (r : Refusal) → seen a ≡ atoms_asked cell starts items → a ≡ Err r → cell_held cell starts items ≡ false
  unfolding atoms_asked
  held_refused a r e k = by_refusal (cell_held cell starts items) r (sym (ap seen k) ∙ e)

  pub start_held : cell_held cell starts items ≡ true → cell_start cell starts items ≡ get_or starts cell 0
  unfolding cell_start
  start_held h = rw h

  pub start_not : cell_held cell starts items ≡ false → cell_start cell starts items ≡ 0
  unfolding cell_start
  start_not h = rw h
