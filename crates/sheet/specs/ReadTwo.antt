-- A sheet of the second form (02, No. 9 and 10) as a whole, and what `read_two` answers and leaves. Its lines are told in the first form twice: with their coordinates and their
-- radius, and with their species and their rule where these stand; so species belong to atom numbers, and the rule to the header, by the laws of the first form. Definitions only.
use Rattle.std.specs.Prelude.{Result}
use Rattle.answer.specs.declared.Refusal.{Refusal}
use Rattle.std.specs.Prelude.{ℕ, zero, suc, ◌*◌, ◌≡◌, Bool, true, false, cond, List, [], ◌∷◌, ◌++◌, map, length, get_or, ltb}
use Rattle.std.proofs.Math.Option.{Option, none, some}
use Rattle.std.proofs.lemmas.List.Edits.{sets}
use Rattle.answer.specs.Seen.{Seen, answered, refused, refused_by, seen}
use Rattle.answer.specs.declared.Refusal.TheVariants.{Lengths}
use Rattle.lists.specs.Lists.{flat}
use Rattle.sheet_lines.specs.declared.Head.{Head}
use Rattle.sheet_lines_two.specs.Twos.{told_of, twos_of}
use Rattle.sheet.specs.Meaning.{Meaning}
use Rattle.sheet.specs.Reading.{run, blank, Sound, then_tested}
use Rattle.sheet.specs.Read.{job_for}
use Rattle.sheet.specs.declared.two.RuledJob.{RuledJob}

-- the first of an atom's three numbers, of the atoms below n
abbrev pub species_in : ℕ → List ℕ → List ℕ
species_in zero l = []
species_in (suc n) l = species_in n l ++ (get_or l (3 * n) 0 ∷ [])

-- the rule where a header's radius stands; without a header the sheet is refused
abbrev pub rule_in : Option Head → ℕ
rule_in none = 1
rule_in (some h) = h.radius

-- a sound sheet of the second form: what it says in the first, its rule, and the species of its atoms by number
pub record SoundTwo : Type 0 where
  pub sound : Sound
  pub rule : ℕ
  pub species : List ℕ

abbrev pub with_species : Seen Sound → ℕ → List ℕ → Seen SoundTwo
with_species (answered a) r l = answered (record { sound = a; rule = r; species = species_in a.head.atoms l })
with_species (refused n p) r l = refused n p

-- the sheet with its species and rule, then with its coordinates and radius; the two are refused alike, as the same lines act
abbrev pub paired : Seen Meaning → Seen Meaning → Seen SoundTwo
paired (refused n p) m = refused n p
paired (answered k) m = with_species (then_tested m) (rule_in k.header) k.atoms.coords

-- the lines with their coordinates and radius (false) or their species and rule (true), in turn
unfoldable pub ran_two : Bool → List ℕ → Seen Meaning
ran_two kinds s = run (map (told_of kinds) (twos_of s)) 0 blank

-- what a sheet of the second form comes to; each line of the first form is malformed
unfoldable pub sheet_two : List ℕ → Seen SoundTwo
sheet_two s = paired (ran_two true s) (ran_two false s)

-- what is shown, and the three lent rooms as they are left
pub record OutcomeTwo : Type 0 where
  pub shown : Seen RuledJob
  pub coordinates : List ℕ
  pub species : List ℕ
  pub exclusions : List ℕ

-- answered: the first 3 × atoms, atoms and 2 × count numbers are written, nothing else; refused: nothing
abbrev pub handed_two : Seen SoundTwo → List ℕ → List ℕ → List ℕ → OutcomeTwo
handed_two (answered a) co sp ex =
    record {
      shown = answered (record { job = job_for a.sound.head (length a.sound.rows); rule = a.rule });
      coordinates = sets co 0 a.sound.coords;
      species = sets sp 0 a.species;
      exclusions = sets ex 0 (flat a.sound.rows);
    }
handed_two (refused n p) co sp ex = record { shown = refused n p; coordinates = co; species = sp; exclusions = ex }

-- 1: over 65,536 bytes, or rooms under 3,072, 1,024 and 2,048
unfoldable pub read_two_of : List ℕ → List ℕ → List ℕ → List ℕ → OutcomeTwo
read_two_of s co sp ex =
    cond (ltb 65536 (length s)) (handed_two (refused_by Lengths) co sp ex)
    (cond (ltb (length co) 3072) (handed_two (refused_by Lengths) co sp ex)
    (cond (ltb (length sp) 1024) (handed_two (refused_by Lengths) co sp ex)
    (cond (ltb (length ex) 2048) (handed_two (refused_by Lengths) co sp ex) (handed_two (sheet_two s) co sp ex))))

abbrev pub ReadTwoSays : List ℕ → List ℕ → List ℕ → List ℕ → Result RuledJob Refusal → List ℕ → List ℕ → List ℕ → Type 0
ReadTwoSays s co sp ex r co' sp' ex' =
    record { shown = seen r; coordinates = co'; species = sp'; exclusions = ex' } ≡ read_two_of s co sp ex
