-- THEOREMS. A sheet of the second form is refused alike with its species and with its coordinates, its rule is its header's, and whole lines in another order come to the same. Assumes nothing.
use Prim.Native.Nat.{ℕ, zero, suc, ◌+◌, ◌*◌, ◌≤◌, ◌<◌}
use mathlib.Core.Path.{◌≡◌, refl, sym, ap, ap₂, ◌∙◌, subst}
use mathlib.Core.Bool.{Bool, true, false, cond}
use mathlib.Core.Logic.{⊎_elim}
use mathlib.Core.Option.{Option, none, some}
use mathlib.Core.List.Memᴰ
use mathlib.Core.List.{List, [], ◌∷◌, map, Perm, Permᴰ}
use native.Mathlib.Omega.{arith}
use lib.ListN.{length, take, set}
use lib.Dec.{ltb, leb}
use borrow.Author.Tests.{ne_eqb}
use Rattle.lists.specs.Exact.{◌∈◌}
use Rattle.lists.proofs.Cases.{by_test, impossible}
use Rattle.answer.specs.Seen.{Seen, answered, refused}
use Rattle.exclusions.specs.Table.{added}
use Rattle.sheet_lines.specs.Grammar.{AllWellFormed, AllWhole, join_all}
use Rattle.sheet_lines.specs.declared.Head.{Head}
use Rattle.sheet_lines.specs.declared.Line.{Line}
use Rattle.sheet_lines.specs.declared.Line.TheVariants.{Header, Atom, Exclusion, Malformed, End}
use Rattle.sheet_lines.proofs.AnyForm.{Each, texts_by, one_way}
use Rattle.sheet_lines_two.specs.declared.TwoLine.{TwoLine}
use Rattle.sheet_lines_two.specs.Twos.{rule_of, ruled_head, kind_of, told_of, twos_of}
use Rattle.sheet_lines_two.specs.Grammar.{two_text, ValidTwo, WellTwo}
use Rattle.sheet_lines_two.proofs.WholeTwos.{in_twos, twos_valid, twos_reordered}
use Rattle.sheet.specs.Meaning.{Meaning, and_then, headed, seated, excluding, fresh, placed}
use Rattle.sheet.specs.Reading.{refusal_for, onward, run, blank, stray_of, unmarked_of, counted, tested, sound_with, then_tested}
use Rattle.sheet.specs.ReadTwo.{SoundTwo, species_in, rule_in, with_species, paired, ran_two, sheet_two}
use Rattle.sheet.specs.Theorems.{HeadsAlike, RunAlike, RunsAlike, RuleSaid, HeaderSaysRule, AcceptedTwoInAnyOrder}
use Rattle.sheet.proofs.Order.{run_order, run_well}
use Rattle.sheet.proofs.AnyOrder.{same_number_lem, same_two}

-- ---- the two runs, over what is known of a header's line

abbrev means : Option Head → List ℕ → List ℕ → List (ℕ × ℕ) → Meaning
means h co marks r = record { header = h; atoms = record { coords = co; marks = marks }; rows = r }

-- the header of the run with rules, by the line of which the other run has its header
pub record SaidBy (P : Head → ℕ → Type 0) (k m : Head) : Type 0 where
  pub pair : ℕ
  pub known : P m pair
  pub is : k ≡ ruled_head m (rule_of pair)

abbrev HeadsBy : (Head → ℕ → Type 0) → Option Head → Option Head → Type 0
HeadsBy P none none = Unit {0}
HeadsBy P none (some m) = ⊥
HeadsBy P (some k) none = ⊥
HeadsBy P (some k) (some m) = SaidBy P k m

abbrev RunBy : (Head → ℕ → Type 0) → Seen Meaning → Seen Meaning → Type 0
RunBy P (answered k) (answered m) = HeadsBy P k.header m.header × (k.atoms.marks ≡ m.atoms.marks) × (k.rows ≡ m.rows)
RunBy P (answered k) (refused n p) = ⊥
RunBy P (refused n p) x = x ≡ refused n p

abbrev Known : (Head → ℕ → Type 0) → Line → ℕ → Type 0
Known P (Header h) t = P h t
Known P (Atom n x y z) t = Unit {0}
Known P (Exclusion a b) t = Unit {0}
Known P Malformed t = Unit {0}
Known P End t = Unit {0}

module _ (P : Head → ℕ → Type 0) where
  abbrev Goes : List TwoLine → ℕ → Type 0
  Goes ls n = (h g : Option Head) → HeadsBy P h g → (marks : List ℕ) (r : List (ℕ × ℕ)) (co co' : List ℕ) → RunBy P (run (map (told_of true) ls) n (means h co marks r)) (run (map (told_of false) ls) n (means g co' marks r))

  head_alike : (u : Head) (t : ℕ) (ls : List TwoLine) (n : ℕ) → P u t → Goes ls (n + 1) → (h g : Option Head) → HeadsBy P h g → (marks : List ℕ) (r : List (ℕ × ℕ)) (co co' : List ℕ) → RunBy P (run (Header (ruled_head u (rule_of t)) ∷ map (told_of true) ls) n (means h co marks r)) (run (Header u ∷ map (told_of false) ls) n (means g co' marks r))
  unfolding headed
  head_alike u t ls n p f none none b marks r co co' = f (some (ruled_head u (rule_of t))) (some u) (record { pair = t; known = p; is = refl }) marks r co co'
  head_alike u t ls n p f (some k) (some m) b marks r co co' = refl
  head_alike u t ls n p f none (some m) b marks r co co' = absurd b
  head_alike u t ls n p f (some k) none b marks r co co' = absurd b

  line_alike : (c : Line) (t : ℕ) (ls : List TwoLine) (n : ℕ) → Known P c t → Goes ls (n + 1) → (h g : Option Head) → HeadsBy P h g → (marks : List ℕ) (r : List (ℕ × ℕ)) (co co' : List ℕ) → RunBy P (run (kind_of c t ∷ map (told_of true) ls) n (means h co marks r)) (run (c ∷ map (told_of false) ls) n (means g co' marks r))
  unfolding seated excluding
  line_alike (Header u) t ls n p f h g b marks r co co' = head_alike u t ls n p f h g b marks r co co'
  line_alike (Atom k x y z) t ls n p f h g b marks r co co' =
      by_test
      (λ e. RunBy P (onward (and_then (cond e (some (record { coords = placed co k t 0 0; marks = set marks k 1 })) none) (λ a. some (record { header = h; atoms = a; rows = r }))) (refusal_for (Atom k t 0 0) (n + 1)) (λ m. run (map (told_of true) ls) (n + 1) m)) (onward (and_then (cond e (some (record { coords = placed co' k x y z; marks = set marks k 1 })) none) (λ a. some (record { header = g; atoms = a; rows = r }))) (refusal_for (Atom k x y z) (n + 1)) (λ m. run (map (told_of false) ls) (n + 1) m)))
      (fresh marks k)
      (λ _. f h g b (set marks k 1) r (placed co k t 0 0) (placed co' k x y z))
      (λ _. refl)
  line_alike (Exclusion u v) t ls n p f h g b marks r co co' =
      by_test
      (λ e. RunBy P (onward (and_then (cond e (some (added u v r)) none) (λ l. some (means h co marks l))) (refusal_for (Exclusion u v) (n + 1)) (λ m. run (map (told_of true) ls) (n + 1) m)) (onward (and_then (cond e (some (added u v r)) none) (λ l. some (means g co' marks l))) (refusal_for (Exclusion u v) (n + 1)) (λ m. run (map (told_of false) ls) (n + 1) m)))
      (leb (length (added u v r)) 1024)
      (λ _. f h g b marks (added u v r) co co')
      (λ _. refl)
  line_alike Malformed t ls n p f h g b marks r co co' = refl
  line_alike End t ls n p f h g b marks r co co' = refl

  alike : (ls : List TwoLine) (n : ℕ) → Each (λ l. Known P l.core l.extra) ls → Goes ls n
  alike [] n p h g b marks r co co' = (b, refl, refl)
  alike (l ∷ ls) n p h g b marks r co co' = line_alike l.core l.extra ls n p.0 (alike ls (n + 1) p.1) h g b marks r co co'

-- a header's line of these
abbrev Among : List TwoLine → Head → ℕ → Type 0
Among all h t = ◌∈◌ {A = TwoLine} (record { core = Header h; extra = t }) all

known_in : (all : List TwoLine) (c : Line) (t : ℕ) → ◌∈◌ {A = TwoLine} (record { core = c; extra = t }) all → Known (Among all) c t
known_in all (Header h) t m = m
known_in all (Atom n x y z) t m = tt
known_in all (Exclusion a b) t m = tt
known_in all Malformed t m = tt
known_in all End t m = tt

each_known : (all ls : List TwoLine) → ((l : TwoLine) → l ∈ ls → l ∈ all) → Each (λ l. Known (Among all) l.core l.extra) ls
each_known all [] f = tt
each_known all (l ∷ ls) f = (known_in all l.core l.extra (f l (Memᴰ.head refl)), each_known all ls (λ k m. f k (Memᴰ.tail m)))

runs_by : (s : List ℕ) → RunBy (Among (twos_of s)) (ran_two true s) (ran_two false s)
unfolding ran_two
runs_by s = alike (Among (twos_of s)) (twos_of s) 0 (each_known (twos_of s) (twos_of s) (λ l m. m)) none none tt blank.atoms.marks blank.rows blank.atoms.coords blank.atoms.coords

heads_told : (P : Head → ℕ → Type 0) (h g : Option Head) → HeadsBy P h g → HeadsAlike h g
heads_told P none none b = tt
heads_told P none (some m) b = absurd b
heads_told P (some k) none b = absurd b
heads_told P (some k) (some m) b = rw b.is

runs_told : (P : Head → ℕ → Type 0) (x y : Seen Meaning) → RunBy P x y → RunAlike x y
runs_told P (answered k) (answered m) b = (heads_told P k.header m.header b.0, b.1, b.2)
runs_told P (answered k) (refused n p) b = absurd b
runs_told P (refused n p) y b = b

pub runs_alike : (s : List ℕ) → RunsAlike s
runs_alike s = runs_told (Among (twos_of s)) (ran_two true s) (ran_two false s) (runs_by s)

-- ---- lines that are all kept

-- no refusal 9, 10, 8 in either run
pub record TwosKept (s : List ℕ) : Type 0 where
  pub kinds : Meaning
  pub meaning : Meaning
  pub typed : ran_two true s ≡ answered kinds
  pub read : ran_two false s ≡ answered meaning

tested_kept : (s : List ℕ) (k : Meaning) (y : Seen Meaning) (a : SoundTwo) → ran_two true s ≡ answered k → ran_two false s ≡ y → with_species (then_tested y) (rule_in k.header) k.atoms.coords ≡ answered a → TwosKept s
tested_kept s k (answered m) a e f p = record { kinds = k; meaning = m; typed = e; read = f }
tested_kept s k (refused n q) a e f p = impossible (cc)

paired_kept : (s : List ℕ) (x y : Seen Meaning) (a : SoundTwo) → ran_two true s ≡ x → ran_two false s ≡ y → paired x y ≡ answered a → TwosKept s
paired_kept s (answered k) y a e f p = tested_kept s k y a e f p
paired_kept s (refused n q) y a e f p = impossible (cc)

pub twos_kept : (s : List ℕ) (a : SoundTwo) → sheet_two s ≡ answered a → TwosKept s
unfolding sheet_two
twos_kept s a e = paired_kept s (ran_two true s) (ran_two false s) a refl refl e

each_core : (ls : List TwoLine) → AllWellFormed (map (told_of false) ls) → Each WellTwo ls
each_core [] g = tt
each_core (l ∷ ls) g = (g.0, each_core ls g.1)

pub kept_well : (s : List ℕ) → TwosKept s → Each WellTwo (twos_of s)
unfolding ran_two
kept_well s r = each_core (twos_of s) (run_well (map (told_of false) (twos_of s)) r.meaning r.read)

-- ---- the rule is the header's

member_each : (P : TwoLine → Type 0) (ls : List TwoLine) (l : TwoLine) → Each P ls → l ∈ ls → P l
member_each P [] l p m = absurd (Memᴰ.not-nil m)
member_each P (k ∷ ls) l p m = ⊎_elim (λ (e : l ≡ k). subst P (sym e) p.0) (λ (h : l ∈ ls). member_each P ls l p.1 h) (Memᴰ.cases_cons m)

rule_bounds : (t : ℕ) → t < 3 → (1 ≤ rule_of t) × (rule_of t ≤ 2)
rule_bounds zero h = (omega arith, omega arith)
rule_bounds (suc t) h = rw (ne_eqb (suc t) 0 (λ e. omega arith)) (omega arith, omega arith)

-- the header that passes its tests is the one that was read
passed_on : (b : Bool) (n p : ℕ) (x : Seen Head) (k : Head) → cond b (refused n p) x ≡ answered k → x ≡ answered k
passed_on true n p x k e = impossible (cc)
passed_on false n p x k e = e

counted_same : (h k : Head) (marks : List ℕ) → counted h marks ≡ answered k → h ≡ k
unfolding counted
counted_same h k marks e =
    let p = passed_on (ltb 1024 h.atoms) 2 h.atoms _ k e in
    let q = passed_on (ltb (stray_of h.atoms marks) 1024) 4 (stray_of h.atoms marks) _ k p in
    let r : answered h ≡ answered k = passed_on (ltb (unmarked_of marks) h.atoms) 11 (unmarked_of marks) (answered h) k q in
    cc

sound_is : (t : Seen Head) (m : Meaning) (r : ℕ) (l : List ℕ) (a : SoundTwo) → with_species (sound_with t m) r l ≡ answered a → (t ≡ answered a.sound.head) × (a.rule ≡ r)
sound_is (answered h) m r l a e =
    let q : record { sound = record { head = h; coords = take (3 * h.atoms) m.atoms.coords; rows = m.rows }; rule = r; species = species_in h.atoms l } ≡ a = cc in
    (ap (λ (x : SoundTwo). answered x.sound.head) q, sym (ap (λ (x : SoundTwo). x.rule) q))
sound_is (refused n p) m r l a e = impossible (cc)

rule_said : (s : List ℕ) (h g : Option Head) (marks : List ℕ) (m : Meaning) (l : List ℕ) (a : SoundTwo) → Each ValidTwo (twos_of s) → HeadsBy (Among (twos_of s)) h g → with_species (sound_with (tested g marks) m) (rule_in h) l ≡ answered a → RuleSaid s a × (1 ≤ a.rule) × (a.rule ≤ 2)
rule_said s none none marks m l a v b e = impossible (cc)
rule_said s (some k) none marks m l a v b e = absurd b
rule_said s none (some g) marks m l a v b e = absurd b
rule_said s (some k) (some g) marks m l a v b e =
    let p = sound_is (counted g marks) m k.radius l a e in
    let q : g ≡ a.sound.head = counted_same g a.sound.head marks p.0 in
    let r : a.rule ≡ rule_of b.pair = p.1 ∙ ap (λ (x : Head). x.radius) b.is in
    let w = (member_each ValidTwo (twos_of s) (record { core = Header g; extra = b.pair }) v b.known).1 in
    let z = rule_bounds b.pair w in
    (record { pair = b.pair; line = subst (λ (x : Head). Among (twos_of s) x b.pair) q b.known; valid = w; is = r }, rw r z.0, rw r z.1)

pub kept_is : (s : List ℕ) (r : TwosKept s) → sheet_two s ≡ with_species (then_tested (answered r.meaning)) (rule_in r.kinds.header) r.kinds.atoms.coords
unfolding sheet_two
kept_is s r = rw (r.typed, r.read)

pub header_says_rule : (s : List ℕ) → HeaderSaysRule s
header_says_rule s a e =
    let r = twos_kept s a e in
    let b : RunBy (Among (twos_of s)) (answered r.kinds) (answered r.meaning) = rw (r.typed, r.read) at (runs_by s) in
    rule_said s r.kinds.header r.meaning.header r.meaning.atoms.marks r.meaning r.kinds.atoms.coords a (twos_valid s (kept_well s r)) b.0 (sym (kept_is s r) ∙ e)

-- ---- in another order

map_order : (f : TwoLine → Line) {ls ms : List TwoLine} → Permᴰ ls ms → Permᴰ (map f ls) (map f ms)
map_order f Permᴰ.nil = Permᴰ.nil
map_order f (Permᴰ.cons e p) = Permᴰ.cons (ap f e) (map_order f p)
map_order f (Permᴰ.swap e g) = Permᴰ.swap (ap f e) (ap f g)
map_order f (Permᴰ.trans p q) = Permᴰ.trans (map_order f p) (map_order f q)

ran_order : (b : Bool) (s t : List ℕ) (m : Meaning) → Permᴰ (twos_of s) (twos_of t) → ran_two b s ≡ answered m → ran_two b t ≡ ran_two b s
unfolding ran_two
ran_order b s t m p e = run_order blank m (map_order (told_of b) p) e ∙ sym e

-- Whole lines that are all kept come, in any other order, to the same sheet, of as many bytes.
pub same_twos : (cs ds : List (List ℕ)) → AllWhole cs → Permᴰ cs ds → TwosKept (join_all cs) → (sheet_two (join_all ds) ≡ sheet_two (join_all cs)) × (length (join_all cs) ≡ length (join_all ds))
unfolding sheet_two
same_twos cs ds w p r =
    let q = twos_reordered cs ds w p (kept_well (join_all cs) r) in
    (ap₂ paired (ran_order true (join_all cs) (join_all ds) r.kinds q.0 r.typed) (ran_order false (join_all cs) (join_all ds) r.meaning q.0 r.read), q.1)

-- an accepted sheet, and its whole lines in another order
pub two_order : (s : List ℕ) (a : SoundTwo) → sheet_two s ≡ answered a → (cs ds : List (List ℕ)) → AllWhole cs → s ≡ join_all cs → Perm cs ds → (sheet_two (join_all ds) ≡ sheet_two s) × (length (join_all ds) ≡ length s)
two_order s a e cs ds w j p =
    let k = subst TwosKept j (twos_kept s a e) in (
      same_two p (sheet_two (join_all ds)) (sheet_two s) (λ d. (same_twos cs ds w d k).0 ∙ ap sheet_two (sym j)),
      same_number_lem p (length (join_all ds)) (length s) (λ d. sym (same_twos cs ds w d k).1 ∙ ap length (sym j)),
    )

pub accepted_two_in_any_order : (s : List ℕ) → AcceptedTwoInAnyOrder s
accepted_two_in_any_order s a e =
    let parts = in_twos s (kept_well s (twos_kept s a e)) in
    record {
      lines = texts_by two_text (twos_of s);
      whole = parts.0;
      joined = parts.1;
      only = λ cs w f. one_way cs (texts_by two_text (twos_of s)) w parts.0 (sym f ∙ parts.1);
      same = λ ds p. two_order s a e (texts_by two_text (twos_of s)) ds parts.0 parts.1 p;
    }
