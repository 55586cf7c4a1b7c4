-- What follows for a sheet from its lines in another order follows where some such order is known to be there: a sheet is numbers. Assumes nothing.
use Prim.Native.Nat.{ℕ}
use mathlib.Core.Path.{◌≡◌, refl, sym, ap, ap₂, ◌∙◌, subst}
use mathlib.Core.Bool.{cond}
use mathlib.Core.Logic.{∥∥₁_elim}
use mathlib.Core.List.{List, [], ◌∷◌, Perm, is_set, Permᴰ}
use native.Mathlib.Nat.{ℕ_set}
use lib.ListN.{length, get_or}
use lib.Dec.{eqb}
use Rattle.lists.specs.Lists.{rows, flat}
use Rattle.lists.proofs.Rows.{rows_flat}
use Rattle.answer.specs.Seen.{Seen, answered, refused}
use Rattle.lists.proofs.Cases.{impossible}
use Rattle.sheet_lines.specs.Grammar.{AllWhole, join_all}
use Rattle.sheet_lines.specs.Reading.{lines_of}
use Rattle.sheet_lines.specs.declared.Head.{Head}
use Rattle.sheet.specs.Meaning.{Meaning}
use Rattle.sheet.specs.Reading.{Sound, run, blank, then_tested, sheet_of}
use Rattle.sheet.specs.ReadTwo.{SoundTwo}
use Rattle.sheet.proofs.Order.{ReadWhole, same_sheet}

-- ---- a sheet as lists of numbers, and back

abbrev heads : Seen SoundTwo → List ℕ
heads (answered a) = 0 ∷ a.sound.head.atoms ∷ a.sound.head.ex ∷ a.sound.head.ey ∷ a.sound.head.ez ∷ a.sound.head.mask ∷ a.sound.head.radius ∷ a.rule ∷ []
heads (refused n p) = 1 ∷ n ∷ p ∷ []

abbrev places : Seen SoundTwo → List ℕ
places (answered a) = a.sound.coords
places (refused n p) = []

abbrev pairs : Seen SoundTwo → List ℕ
pairs (answered a) = flat a.sound.rows
pairs (refused n p) = []

abbrev kinds : Seen SoundTwo → List ℕ
kinds (answered a) = a.species
kinds (refused n p) = []

abbrev head_from : List ℕ → Head
head_from l = record { atoms = get_or l 1 0; ex = get_or l 2 0; ey = get_or l 3 0; ez = get_or l 4 0; mask = get_or l 5 0; radius = get_or l 6 0 }

abbrev from : List ℕ → List ℕ → List ℕ → List ℕ → Seen SoundTwo
from l co ex sp = cond (eqb (get_or l 0 0) 0) (answered (record { sound = record { head = head_from l; coords = co; rows = rows ex }; rule = get_or l 7 0; species = sp })) (refused (get_or l 1 0) (get_or l 2 0))

from_it : (x : Seen SoundTwo) → from (heads x) (places x) (pairs x) (kinds x) ≡ x
from_it (answered a) = ap (λ r. answered (record { sound = record { head = a.sound.head; coords = a.sound.coords; rows = r }; rule = a.rule; species = a.species })) (rows_flat a.sound.rows)
from_it (refused n p) = refl

from_same : (x y : Seen SoundTwo) → heads x ≡ heads y → places x ≡ places y → pairs x ≡ pairs y → kinds x ≡ kinds y → x ≡ y
from_same x y a b c d =
    sym (from_it x)
    ∙ (ap₂ (λ (u v : List ℕ). from u v (pairs x) (kinds x)) a b ∙ (ap₂ (λ (u v : List ℕ). from (heads y) (places y) u v) c d ∙ from_it y))

module _ {cs ds : List (List ℕ)} (p : Perm cs ds) where
  same_list : (x y : List ℕ) → (Permᴰ cs ds → x ≡ y) → x ≡ y
  same_list x y f = ∥∥₁_elim p (is_set ℕ_set x y) (λ d. f d)

  pub same_number_lem : (x y : ℕ) → (Permᴰ cs ds → x ≡ y) → x ≡ y
  same_number_lem x y f = ∥∥₁_elim p (ℕ_set x y) (λ d. f d)

  pub same_two : (x y : Seen SoundTwo) → (Permᴰ cs ds → x ≡ y) → x ≡ y
  same_two x y f =
      from_same x y (same_list (heads x) (heads y) (λ d. ap heads (f d))) (same_list (places x) (places y) (λ d. ap places (f d)))
      (same_list (pairs x) (pairs y) (λ d. ap pairs (f d))) (same_list (kinds x) (kinds y) (λ d. ap kinds (f d)))

-- ---- of the first form

abbrev bare : Seen Sound → Seen SoundTwo
bare (answered a) = answered (record { sound = a; rule = 1; species = [] })
bare (refused n p) = refused n p

abbrev unbare : Seen SoundTwo → Seen Sound
unbare (answered a) = answered a.sound
unbare (refused n p) = refused n p

unbare_it : (x : Seen Sound) → unbare (bare x) ≡ x
unbare_it (answered a) = refl
unbare_it (refused n p) = refl

pub same_one : {cs ds : List (List ℕ)} → Perm cs ds → (x y : Seen Sound) → (Permᴰ cs ds → x ≡ y) → x ≡ y
same_one p x y f = sym (unbare_it x) ∙ (ap unbare (same_two p (bare x) (bare y) (λ d. ap bare (f d))) ∙ unbare_it y)

read_whole : (s : List ℕ) (x : Seen Meaning) (a : Sound) → run (lines_of s) 0 blank ≡ x → then_tested x ≡ answered a → ReadWhole s
read_whole s (answered m) a e p = record { meaning = m; read = e }
read_whole s (refused n k) a e p = impossible (cc)

-- the lines of an accepted sheet are all kept
pub one_kept : (s : List ℕ) (a : Sound) → sheet_of s ≡ answered a → ReadWhole s
unfolding sheet_of
one_kept s a e = read_whole s (run (lines_of s) 0 blank) a refl e

-- an accepted sheet, and its whole lines in another order
pub one_order : (s : List ℕ) (a : Sound) → sheet_of s ≡ answered a → (cs ds : List (List ℕ)) → AllWhole cs → s ≡ join_all cs → Perm cs ds → (sheet_of (join_all ds) ≡ sheet_of s) × (length (join_all ds) ≡ length s)
one_order s a e cs ds w j p =
    let k = subst ReadWhole j (one_kept s a e) in (
      same_one p (sheet_of (join_all ds)) (sheet_of s) (λ d. (same_sheet cs ds w d k).0 ∙ ap sheet_of (sym j)),
      same_number_lem p (length (join_all ds)) (length s) (λ d. sym (same_sheet cs ds w d k).1 ∙ ap length (sym j)),
    )
