-- THEOREMS, under the order of a sheet's lines. proofs/Acts.antt proves the first of every two lines, proofs/OrderTwo.antt the others of every sheet of the second form.
-- Definitions only.
use Rattle.std.specs.Prelude.{ℕ, ◌≤◌, ◌<◌, ◌≡◌, true, false, length}
use Rattle.std.proofs.Math.Option.{Option, none, some}
use mathlib.Core.List.{List, Perm}
use Rattle.answer.specs.Seen.{Seen, answered, refused}
use Rattle.lists.specs.Exact.{◌∈◌}
use Rattle.sheet_lines.specs.Grammar.{AllWhole, join_all}
use Rattle.sheet_lines.specs.declared.Head.{Head}
use Rattle.sheet_lines.specs.declared.Line.{Line}
use Rattle.sheet_lines.specs.declared.Line.TheVariants.{Header}
use Rattle.sheet_lines_two.specs.Twos.{twos_of, rule_of, ruled_head}
use Rattle.sheet.specs.Meaning.{Meaning, and_then, acted, act_of}
use Rattle.sheet.specs.ReadTwo.{SoundTwo, ran_two, sheet_two}

-- Two lines may change places: they come to the same, or one of them is refused either way. So an atom's number, and not its line's place, says which atom it is.
abbrev pub Swaps : Line → Line → Meaning → Type 0
Swaps l k m = and_then (acted (act_of l) m) (acted (act_of k)) ≡ and_then (acted (act_of k) m) (acted (act_of l))

-- the same header but for the radius, in whose place the first has its rule
abbrev pub HeadsAlike : Option Head → Option Head → Type 0
HeadsAlike none none = Unit {0}
HeadsAlike none (some m) = ⊥
HeadsAlike (some k) none = ⊥
HeadsAlike (some k) (some m) = k ≡ ruled_head m k.radius

-- refused in the same way, or not at all and then with one header, the same atom numbers read and the same exclusions
abbrev pub RunAlike : Seen Meaning → Seen Meaning → Type 0
RunAlike (answered k) (answered m) = HeadsAlike k.header m.header × (k.atoms.marks ≡ m.atoms.marks) × (k.rows ≡ m.rows)
RunAlike (answered k) (refused n p) = ⊥
RunAlike (refused n p) x = x ≡ refused n p

-- The lines of a sheet of the second form run with their species and rule, and with their coordinates and radius: the two runs are refused alike.
abbrev pub RunsAlike : List ℕ → Type 0
RunsAlike s = RunAlike (ran_two true s) (ran_two false s)

-- The rule of an accepted sheet (02, No. 10) is what its header's line says: the digit pair, and 1 where none is written. So it is 1 or 2.
pub record RuleSaid (s : List ℕ) (a : SoundTwo) : Type 0 where
  pub pair : ℕ
  pub line : record { core = Header a.sound.head; extra = pair } ∈ twos_of s
  pub valid : pair < 3
  pub is : a.rule ≡ rule_of pair

abbrev pub HeaderSaysRule : List ℕ → Type 0
HeaderSaysRule s = (a : SoundTwo) → sheet_two s ≡ answered a → RuleSaid s a × (1 ≤ a.rule) × (a.rule ≤ 2)

-- An accepted sheet of the second form is whole lines, in one way, and in another order they come to the same, of as many bytes.
pub record TwoInAnyOrder (s : List ℕ) : Type 0 where
  pub lines : List (List ℕ)
  pub whole : AllWhole lines
  pub joined : s ≡ join_all lines
  pub only : (cs : List (List ℕ)) → AllWhole cs → s ≡ join_all cs → cs ≡ lines
  pub same : (ds : List (List ℕ)) → Perm lines ds → (sheet_two (join_all ds) ≡ sheet_two s) × (length (join_all ds) ≡ length s)

abbrev pub AcceptedTwoInAnyOrder : List ℕ → Type 0
AcceptedTwoInAnyOrder s = (a : SoundTwo) → sheet_two s ≡ answered a → TwoInAnyOrder s
