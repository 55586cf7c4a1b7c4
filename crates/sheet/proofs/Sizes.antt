-- A sheet that is read keeps its sizes: three coordinates an atom of at most 1,024, and at most 1,024 exclusions. Assumes nothing.
use Prim.Native.Nat.{ℕ, ◌+◌, ◌*◌, ◌≤◌}
use mathlib.Core.Path.{◌≡◌, refl, sym, ◌∙◌}
use mathlib.Core.Bool.{cond}
use mathlib.Core.Option.{Option, none, some}
use mathlib.Core.List.{List, [], ◌∷◌}
use native.Mathlib.Omega.{arith}
use lib.ListN.{length, set, length-set, length-replicate}
use lib.Seq.{length-take-le}
use lib.Dec.{leb}
use borrow.Author.Tests.{leb-true}
use Rattle.answer.specs.Seen.{Seen, answered, refused}
use Rattle.lists.proofs.Cases.{by_test}
use Rattle.exclusions.specs.Table.{added}
use Rattle.sheet_lines.specs.Reading.{lines_of}
use Rattle.sheet_lines.specs.declared.Head.{Head}
use Rattle.sheet_lines.specs.declared.Line.{Line}
use Rattle.sheet_lines.specs.declared.Line.TheVariants.{Header, Atom, Exclusion, Malformed, End}
use Rattle.sheet.specs.Meaning.{Meaning, and_then, acted, act_of, headed, seated, excluding, fresh, placed}
use Rattle.sheet.specs.Reading.{refusal_for, onward, run, blank, tested, Sound, sound_with, then_tested, sheet_of}
use Rattle.sheet.proofs.Settling.{sound_few}

pub record Sized (m : Meaning) : Type 0 where
  pub size : length m.atoms.coords ≡ 3072
  pub few : length m.rows ≤ 1024

abbrev SizedIf : Option Meaning → Type 0
SizedIf none = Unit {0}
SizedIf (some m) = Sized m

abbrev SizedSeen : Seen Meaning → Type 0
SizedSeen (answered m) = Sized m
SizedSeen (refused n p) = Unit {0}

placed_length : (co : List ℕ) (n x y z : ℕ) → length (placed co n x y z) ≡ length co
unfolding placed
placed_length co n x y z = simp length-set

header_sized : (m : Meaning) (h : Head) (x : Option Head) → Sized m → SizedIf (and_then (headed h x) (λ g. some (record { header = g; atoms = m.atoms; rows = m.rows })))
unfolding headed
header_sized m h none s = record { size = s.size; few = s.few }
header_sized m h (some g) s = tt

act_sized : (l : Line) (m : Meaning) → Sized m → SizedIf (acted (act_of l) m)
unfolding seated excluding
act_sized (Header h) m s = header_sized m h m.header s
act_sized (Atom n x y z) m s =
    by_test
    (λ b. SizedIf (and_then (cond b (some (record { coords = placed m.atoms.coords n x y z; marks = set m.atoms.marks n 1 })) none) (λ a. some (record { header = m.header; atoms = a; rows = m.rows }))))
    (fresh m.atoms.marks n)
    (λ _. record { size = placed_length m.atoms.coords n x y z ∙ s.size; few = s.few })
    (λ _. tt)
act_sized (Exclusion a b) m s =
    by_test
    (λ t. SizedIf (and_then (cond t (some (added a b m.rows)) none) (λ l. some (record { header = m.header; atoms = m.atoms; rows = l }))))
    (leb (length (added a b m.rows)) 1024)
    (λ e. record { size = s.size; few = leb-true (length (added a b m.rows)) 1024 e })
    (λ _. tt)
act_sized Malformed m s = tt
act_sized End m s = tt

step_sized : (o : Option Meaning) (l : Line) (n : ℕ) (f : Meaning → Seen Meaning) → ((m : Meaning) → Sized m → SizedSeen (f m)) → SizedIf o → SizedSeen (onward o (refusal_for l n) f)
step_sized none l n f h s = tt
step_sized (some m) l n f h s = h m s

run_sized : (ls : List Line) (n : ℕ) (m : Meaning) → Sized m → SizedSeen (run ls n m)
run_sized [] n m s = s
run_sized (l ∷ ls) n m s =
    step_sized (acted (act_of l) m) l (n + 1) (λ m'. run ls (n + 1) m') (λ k t. run_sized ls (n + 1) k t) (act_sized l m s)

-- ---- a sound sheet
pub record Full (a : Sound) : Type 0 where
  pub size : length a.coords ≡ 3 * a.head.atoms
  pub atoms : a.head.atoms ≤ 1024
  pub few : length a.rows ≤ 1024

abbrev FullSeen : Seen Sound → Type 0
FullSeen (answered a) = Full a
FullSeen (refused n p) = Unit {0}

with_full : (m : Meaning) (t : Seen Head) → tested m.header m.atoms.marks ≡ t → Sized m → FullSeen (sound_with t m)
with_full m (answered h) e s =
    let few' : h.atoms ≤ 1024 = sound_few m.header m.atoms.marks h (sym e) in
    record { size = length-take-le (3 * h.atoms) m.atoms.coords (omega (arith, s.size)); atoms = few'; few = s.few }
with_full m (refused n p) e s = tt

then_full : (x : Seen Meaning) → SizedSeen x → FullSeen (then_tested x)
then_full (answered m) s = with_full m (tested m.header m.atoms.marks) refl s
then_full (refused n p) s = tt

lines_full : (ls : List Line) → FullSeen (then_tested (run ls 0 blank))
lines_full ls = then_full (run ls 0 blank) (run_sized ls 0 blank (record { size = length-replicate {A = ℕ} 3072 0; few = omega arith }))

-- of the lines of either form
pub run_full : (ls : List Line) (a : Sound) → then_tested (run ls 0 blank) ≡ answered a → Full a
run_full ls a e = rw e at (lines_full ls)

pub full : (s : List ℕ) (a : Sound) → sheet_of s ≡ answered a → Full a
unfolding sheet_of
full s a e = run_full (lines_of s) a e
