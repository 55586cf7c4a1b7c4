-- THEOREM. Two lines may change places: acts on different parts of the meaning always, acts on one part by that part's own law. A new line form needs only the laws
-- of its part. Assumes nothing.
use Prim.Native.Nat.{ℕ, zero, suc, ◌+◌, ◌*◌, ◌≤◌}
use mathlib.Core.Path.{◌≡◌, refl, sym, ap, ◌∙◌}
use mathlib.Core.Logic.{◌≢◌}
use mathlib.Core.Bool.{true}
use mathlib.Core.Option.{Option, none, some}
use mathlib.Core.List.{List, [], ◌∷◌}
use native.Mathlib.Omega.{arith}
use lib.ListN.{length, get_or, set}
use lib.Seq.{set_comm, get_or-set_other}
use lib.Dec.{leb, eqb}
use borrow.Author.Tests.{le-leb, leb-true, eqb-true, eqb-false}
use Rattle.hexadecimal.proofs.Choice.{cases}
use Rattle.exclusions.specs.Table.{added}
use Rattle.exclusions.proofs.Insertion.{longer_added}
use Rattle.sheet_lines.specs.declared.Head.{Head}
use Rattle.sheet_lines.specs.declared.Line.{Line}
use Rattle.sheet_lines.specs.declared.Line.TheVariants.{Header, Atom, Exclusion, Malformed, End}
use Rattle.sheet.specs.Meaning.{Meaning, Atoms, Act, on_header, on_atoms, on_rows, nowhere, and_then, acted, act_of, headed, seated, excluding, fresh, placed}
use Rattle.sheet.specs.Theorems.{Swaps}
use Rattle.sheet.proofs.RowSets.{added_comm}

-- ---- parts

-- by what an act answers
maybe : {A C : Type 0} (o : Option A) → (o ≡ none → C) → ((a : A) → o ≡ some a → C) → C
maybe none f g = f refl
maybe (some a) f g = g a refl

stays_none : {A B : Type 0} (o : Option A) → ◌≡◌ {A = Option B} (and_then o (λ a. none)) none
stays_none none = refl
stays_none (some a) = refl

-- two acts on the same part may change places
abbrev Alike : Act → Act → Type 0
Alike (on_header f) (on_header g) = (x : Option Head) → and_then (f x) g ≡ and_then (g x) f
Alike (on_header f) (on_atoms g) = Unit {0}
Alike (on_header f) (on_rows g) = Unit {0}
Alike (on_header f) nowhere = Unit {0}
Alike (on_atoms f) (on_header g) = Unit {0}
Alike (on_atoms f) (on_atoms g) = (x : Atoms) → and_then (f x) g ≡ and_then (g x) f
Alike (on_atoms f) (on_rows g) = Unit {0}
Alike (on_atoms f) nowhere = Unit {0}
Alike (on_rows f) (on_header g) = Unit {0}
Alike (on_rows f) (on_atoms g) = Unit {0}
Alike (on_rows f) (on_rows g) = (x : List (ℕ × ℕ)) → and_then (f x) g ≡ and_then (g x) f
Alike (on_rows f) nowhere = Unit {0}
Alike nowhere b = Unit {0}

-- two acts of one part, in the whole meaning
module _ {A : Type 0} (put : A → Meaning) where
  through : (o : Option A) (g : A → Option A) (step : Meaning → Option Meaning) → ((a : A) → step (put a) ≡ and_then (g a) (λ b. some (put b)))
      → and_then (and_then o (λ a. some (put a))) step ≡ and_then (and_then o g) (λ a. some (put a))
  through none g step h = refl
  through (some a) g step h = h a

  same_part : (x : A) (f g : A → Option A) (first second : Meaning → Option Meaning) → ((a : A) → first (put a) ≡ and_then (f a) (λ b. some (put b))) → ((a : A) → second (put a) ≡ and_then (g a) (λ b. some (put b)))
      → and_then (f x) g ≡ and_then (g x) f
      → and_then (and_then (f x) (λ a. some (put a))) second ≡ and_then (and_then (g x) (λ a. some (put a))) first
  same_part x f g first second h k e =
      through (f x) g second k ∙ (ap (λ (o : Option A). and_then o (λ a. some (put a))) e ∙ sym (through (g x) f first h))

module _ (m : Meaning) where
  abbrev Swap : Act → Act → Type 0
  Swap a b = and_then (acted a m) (λ m'. acted b m') ≡ and_then (acted b m) (λ m'. acted a m')

  header_atoms : (f : Option Head → Option (Option Head)) (g : Atoms → Option Atoms) → Swap (on_header f) (on_atoms g)
  header_atoms f g =
      maybe (f m.header) (λ p. maybe (g m.atoms) (λ q. simp (p, q)) (λ b q. simp (p, q)))
      (λ a p. maybe (g m.atoms) (λ q. simp (p, q)) (λ b q. simp (p, q)))

  header_rows : (f : Option Head → Option (Option Head)) (g : List (ℕ × ℕ) → Option (List (ℕ × ℕ))) → Swap (on_header f) (on_rows g)
  header_rows f g =
      maybe (f m.header) (λ p. maybe (g m.rows) (λ q. simp (p, q)) (λ b q. simp (p, q)))
      (λ a p. maybe (g m.rows) (λ q. simp (p, q)) (λ b q. simp (p, q)))

  atoms_rows : (f : Atoms → Option Atoms) (g : List (ℕ × ℕ) → Option (List (ℕ × ℕ))) → Swap (on_atoms f) (on_rows g)
  atoms_rows f g =
      maybe (f m.atoms) (λ p. maybe (g m.rows) (λ q. simp (p, q)) (λ b q. simp (p, q)))
      (λ a p. maybe (g m.rows) (λ q. simp (p, q)) (λ b q. simp (p, q)))

  nowhere_any : (b : Act) → Swap nowhere b
  nowhere_any b = sym (stays_none (acted b m))

  swap : (a b : Act) → Alike a b → Swap a b
  swap (on_header f) (on_header g) e =
      same_part (λ h. record { header = h; atoms = m.atoms; rows = m.rows }) m.header f g (λ m'. acted (on_header f) m') (λ m'. acted (on_header g) m') (λ a. refl) (λ a. refl) (e m.header)
  swap (on_header f) (on_atoms g) e = header_atoms f g
  swap (on_header f) (on_rows g) e = header_rows f g
  swap (on_header f) nowhere e = sym (nowhere_any (on_header f))
  swap (on_atoms f) (on_header g) e = sym (header_atoms g f)
  swap (on_atoms f) (on_atoms g) e =
      same_part (λ a. record { header = m.header; atoms = a; rows = m.rows }) m.atoms f g (λ m'. acted (on_atoms f) m') (λ m'. acted (on_atoms g) m') (λ a. refl) (λ a. refl) (e m.atoms)
  swap (on_atoms f) (on_rows g) e = atoms_rows f g
  swap (on_atoms f) nowhere e = sym (nowhere_any (on_atoms f))
  swap (on_rows f) (on_header g) e = sym (header_rows g f)
  swap (on_rows f) (on_atoms g) e = sym (atoms_rows g f)
  swap (on_rows f) (on_rows g) e =
      same_part (λ l. record { header = m.header; atoms = m.atoms; rows = l }) m.rows f g (λ m'. acted (on_rows f) m') (λ m'. acted (on_rows g) m') (λ a. refl) (λ a. refl) (e m.rows)
  swap (on_rows f) nowhere e = sym (nowhere_any (on_rows f))
  swap nowhere b e = nowhere_any b

-- ---- each part's own law

-- the header: a second one is refused, whichever comes first
two_headers : (h k : Head) (x : Option Head) → and_then (headed h x) (headed k) ≡ and_then (headed k x) (headed h)
unfolding headed
two_headers h k none = refl
two_headers h k (some g) = refl

-- an atom's number is a key: at one number the second is refused, at two numbers they do not meet
marked : (marks : List ℕ) (n : ℕ) → get_or (set marks n 1) n 1 ≡ 1
marked [] n = refl
marked (x ∷ xs) zero = refl
marked (x ∷ xs) (suc n) = marked xs n

other : (marks : List ℕ) (n k : ℕ) → n ≢ k → fresh (set marks n 1) k ≡ fresh marks k
other marks n k h = ap (λ (v : ℕ). eqb v 0) (get_or-set_other marks n k 1 1 (λ e. h (sym e)))

set_past : (co : List ℕ) (n x y z p v : ℕ) → 3 * n ≢ p → 3 * n + 1 ≢ p → 3 * n + 2 ≢ p → set (placed co n x y z) p v ≡ placed (set co p v) n x y z
unfolding placed
set_past co n x y z p v h i j =
    set_comm (set (set co (3 * n) x) (3 * n + 1) y) (3 * n + 2) p z v j
    ∙ ap (λ (l : List ℕ). set l (3 * n + 2) z)
    (set_comm (set co (3 * n) x) (3 * n + 1) p y v i ∙ ap (λ (l : List ℕ). set l (3 * n + 1) y) (set_comm co (3 * n) p x v h))

-- the axis c of atom k lies past the three of atom n
past : (co : List ℕ) (n x y z k c t : ℕ) → n ≢ k → c ≤ 2 → set (placed co n x y z) (3 * k + c) t ≡ placed (set co (3 * k + c) t) n x y z
past co n x y z k c t h s = set_past co n x y z (3 * k + c) t (λ e. h (omega arith)) (λ e. h (omega arith)) (λ e. h (omega arith))

placed_comm : (co : List ℕ) (n x y z k u v w : ℕ) → n ≢ k → placed (placed co n x y z) k u v w ≡ placed (placed co k u v w) n x y z
unfolding placed
placed_comm co n x y z k u v w h =
    ap (λ (l : List ℕ). set (set l (3 * k + 1) v) (3 * k + 2) w) (set_past co n x y z (3 * k) u (λ e. h (omega arith)) (λ e. h (omega arith)) (λ e. h (omega arith)))
    ∙ (ap (λ (l : List ℕ). set l (3 * k + 2) w) (past (set co (3 * k) u) n x y z k 1 v h (omega arith)) ∙ past (set (set co (3 * k) u) (3 * k + 1) v) n x y z k 2 w h (omega arith))

two_atoms : (n x y z k u v w : ℕ) (a : Atoms) → and_then (seated n x y z a) (seated k u v w) ≡ and_then (seated k u v w a) (seated n x y z)
unfolding seated
two_atoms n x y z k u v w a =
    cases (eqb n k)
    (λ e.
    let nk : n ≡ k = eqb-true n k e in
    cases (fresh a.marks n)
    (λ p. rw (sym nk) (simp (p, marked a.marks n)))
    (λ p. rw (sym nk) (simp p)))
    (λ e.
    let nk : n ≢ k = eqb-false n k e in
    let kn : k ≢ n = λ q. nk (sym q) in
    cases (fresh a.marks n)
    (λ p.
    cases (fresh a.marks k)
    (λ q. simp (p, q, other a.marks n k nk, other a.marks k n kn)
    (simp (placed_comm a.coords n x y z k u v w nk, set_comm a.marks n k 1 1 nk)))
    (λ q. simp (p, q, other a.marks n k nk)))
    (λ p.
    cases (fresh a.marks k)
    (λ q. simp (p, q, other a.marks k n kn))
    (λ q. simp (p, q))))

-- an exclusion is a key of a set that takes 1,024: again it changes nothing, and whether all fit does not depend on the order
two_exclusions : (a b d e : ℕ) (l : List (ℕ × ℕ)) → and_then (excluding a b l) (excluding d e) ≡ and_then (excluding d e l) (excluding a b)
unfolding excluding
two_exclusions a b d e l =
    let same : added a b (added d e l) ≡ added d e (added a b l) = added_comm a b d e l in
    cases (leb (length (added d e (added a b l))) 1024)
    (λ p.
    let long : length (added d e (added a b l)) ≤ 1024 = leb-true (length (added d e (added a b l))) 1024 p in
    let q : leb (length (added a b l)) 1024 ≡ true = le-leb (length (added a b l)) 1024 (omega (arith, longer_added d e (added a b l))) in
    let r : leb (length (added d e l)) 1024 ≡ true = le-leb (length (added d e l)) 1024 (omega (arith, ap length same, longer_added a b (added d e l))) in
    simp (q, r, same, p))
    (λ p.
    cases (leb (length (added a b l)) 1024)
    (λ q. cases (leb (length (added d e l)) 1024) (λ r. simp (q, r, same, p)) (λ r. simp (q, r, p)))
    (λ q. cases (leb (length (added d e l)) 1024) (λ r. simp (q, r, same, p)) (λ r. simp (q, r))))

alike : (l k : Line) → Alike (act_of l) (act_of k)
alike (Header h) (Header k) = two_headers h k
alike (Header h) (Atom n x y z) = tt
alike (Header h) (Exclusion a b) = tt
alike (Header h) Malformed = tt
alike (Header h) End = tt
alike (Atom n x y z) (Header h) = tt
alike (Atom n x y z) (Atom k u v w) = two_atoms n x y z k u v w
alike (Atom n x y z) (Exclusion a b) = tt
alike (Atom n x y z) Malformed = tt
alike (Atom n x y z) End = tt
alike (Exclusion a b) (Header h) = tt
alike (Exclusion a b) (Atom n x y z) = tt
alike (Exclusion a b) (Exclusion d e) = two_exclusions a b d e
alike (Exclusion a b) Malformed = tt
alike (Exclusion a b) End = tt
alike Malformed k = tt
alike End k = tt

pub swaps : (l k : Line) (m : Meaning) → Swaps l k m
swaps l k m = swap m (act_of l) (act_of k) (alike l k)
