-- THEOREMS. A sheet that one form's reader accepts is of that form, and its whole lines in another order are read alike. Assumes nothing.
use Prim.Native.Nat.{ℕ, zero, suc, ◌+◌, ◌^◌, ◌≤◌, ◌<◌}
use mathlib.Core.Path.{◌≡◌, refl, sym, ap, ◌∙◌}
use mathlib.Core.Bool.{Bool, true, false, cond}
use mathlib.Core.Option.{Option, none, some}
use mathlib.Core.List.{List, [], ◌∷◌, map, Perm}
use native.Mathlib.Omega.{arith}
use lib.ListN.{length}
use lib.Dec.{ltb, leb, eqb}
use borrow.Author.Tests.{lt-ltb, ne_eqb, eqb-true, ltb-true, ltb-false}
use Rattle.lists.proofs.Cases.{by_test, impossible}
use Rattle.answer.specs.Seen.{Seen, answered, refused, refused_by}
use Rattle.answer.specs.declared.Refusal.TheVariants.{Lengths}
use Rattle.exclusions.specs.Table.{added}
use Rattle.hexadecimal.specs.Digits.{byte_at, hex2, hex4}
use Rattle.hexadecimal.proofs.Choice.{cases}
use Rattle.sheet_lines.specs.Grammar.{WellFormed, AllWellFormed, AllWhole, join_all}
use Rattle.sheet_lines.specs.Reading.{exclusion_of, line_at, line_width, lines_from, lines_of}
use Rattle.sheet_lines.specs.declared.Head.{Head}
use Rattle.sheet_lines.specs.declared.Line.{Line}
use Rattle.sheet_lines.specs.declared.Line.TheVariants.{Header, Atom, Exclusion, Malformed, End}
use Rattle.sheet_lines_two.specs.declared.TwoLine.{TwoLine}
use Rattle.sheet_lines_two.specs.Twos.{plain_two, ruled_two, end_two, header_two, two_at, wide_two, width_two, twos_from, twos_of, told_of}
use Rattle.sheet.specs.declared.Job.{Job}
use Rattle.sheet.specs.declared.two.RuledJob.{RuledJob}
use Rattle.sheet.specs.Meaning.{Meaning, and_then, excluding}
use Rattle.sheet.specs.Reading.{Sound, refusal_for, onward, run, blank, tested, sound_with, sheet_of}
use Rattle.sheet.specs.Read as one
use Rattle.sheet.specs.ReadTwo.{SoundTwo, rule_in, with_species, ran_two, sheet_two, OutcomeTwo, handed_two, read_two_of}
use Rattle.sheet.proofs.Order.{read_well}
use Rattle.sheet.proofs.AnyOrder.{one_kept, one_order}
use Rattle.sheet.proofs.OrderTwo.{twos_kept, kept_is, header_says_rule, two_order}
use Rattle.sheet_either.specs.declared.Formed.{Formed}
use Rattle.sheet_either.specs.Either.{says_two, is_two, formed_one, formed_two, Outcome, as_two, zeroed, as_one, either_of}
use Rattle.sheet_either.specs.Theorems.{FirstForm, SecondForm, OtherMalformed, RuleAnswered, EitherInAnyOrder}
use Rattle.sheet_either.proofs.Either.{by_two, by_one}

-- ---- a line of the other form

pub other_malformed : (s : List ℕ) (at : ℕ) → OtherMalformed s at
unfolding line_at two_at header_two end_two ruled_two
other_malformed s at h =
    record {
      header_two = λ e. simp (lt-ltb at (length s) h, e);
      atom_two = λ e. simp (lt-ltb at (length s) h, e);
      header_one = λ e. simp (lt-ltb at (length s) h, e);
      atom_one = λ e. simp (lt-ltb at (length s) h, e);
      other_pair = λ e a b c. simp (lt-ltb at (length s) h, e, ne_eqb (byte_at s (at + 40)) 10 a, ne_eqb (hex2 s (at + 40)) 1 b, ne_eqb (hex2 s (at + 40)) 2 c);
    }

-- ---- a sheet of the first form is not of the second

abbrev Out : Line → Type 0
Out (Header h) = ⊥
Out (Atom n x y z) = ⊥
Out (Exclusion a b) = Unit {0}
Out Malformed = Unit {0}
Out End = ⊥

out_if : (b : Bool) (x y : Line) → Out x → Out y → Out (cond b x y)
out_if true x y f g = f
out_if false x y f g = g

out_exclusion : (a b z : ℕ) → Out (exclusion_of a b z)
unfolding exclusion_of
out_exclusion a b z = out_if (ltb a (2 ^ 16)) _ _ (out_if (ltb b (2 ^ 16)) _ _ (out_if (eqb z 10) _ _ tt tt) tt) tt

third_is : (s : List ℕ) (at : ℕ) → at < length s → hex2 s at ≡ 3 → (line_at s at ≡ exclusion_of (hex4 s (at + 2)) (hex4 s (at + 6)) (byte_at s (at + 10))) × (two_at s at ≡ plain_two (exclusion_of (hex4 s (at + 2)) (hex4 s (at + 6)) (byte_at s (at + 10))))
unfolding line_at two_at
third_is s at h e = (simp (lt-ltb at (length s) h, e), simp (lt-ltb at (length s) h, e))

none_here : (s : List ℕ) (at : ℕ) → at < length s → eqb (hex2 s at) 1 ≡ false → eqb (hex2 s at) 2 ≡ false → eqb (hex2 s at) 3 ≡ false → line_at s at ≡ Malformed
unfolding line_at
none_here s at h p q r = simp (lt-ltb at (length s) h, p, q, r)

-- read as the second form, a line that is one of the first form's three is an exclusion or malformed
pub data Other (l : Line) (t : TwoLine) : Type 0 where
  other : t ≡ plain_two Malformed → Other l t
  exclusion : Out l → t ≡ plain_two l → Other l t

exclusion_here : (s : List ℕ) (at : ℕ) → at < length s → hex2 s at ≡ 3 → Other (line_at s at) (two_at s at)
exclusion_here s at h e =
    let k = third_is s at h e in
    rw k.0 (exclusion (out_exclusion (hex4 s (at + 2)) (hex4 s (at + 6)) (byte_at s (at + 10))) k.1)

kind_here : (s : List ℕ) (at : ℕ) → at < length s → WellFormed (line_at s at) → Other (line_at s at) (two_at s at)
kind_here s at h g =
    cases (eqb (hex2 s at) 1)
    (λ p. other ((other_malformed s at h).header_one (eqb-true (hex2 s at) 1 p)))
    (λ p. cases (eqb (hex2 s at) 2)
    (λ q. other ((other_malformed s at h).atom_one (eqb-true (hex2 s at) 2 q)))
    (λ q. cases (eqb (hex2 s at) 3)
    (λ r. exclusion_here s at h (eqb-true (hex2 s at) 3 r))
    (λ r. absurd (rw (none_here s at h p q r) at g))))

line_not : (l : Line) (f : ℕ) (s : List ℕ) (at : ℕ) → Out l → WellFormed l → AllWellFormed (lines_from f s (at + line_width l)) → ((k : ℕ) → AllWellFormed (lines_from f s k) → is_two (twos_from f s k) ≡ false) → says_two l (is_two (twos_from f s (at + wide_two l 0))) ≡ false
line_not (Header h) f s at o g a r = absurd o
line_not (Atom n x y z) f s at o g a r = absurd o
line_not (Exclusion b c) f s at o g a r = r (at + 11) a
line_not Malformed f s at o g a r = refl
line_not End f s at o g a r = refl

rest_not : (l : Line) (t : TwoLine) (f : ℕ) (s : List ℕ) (at : ℕ) → Other l t → WellFormed l → AllWellFormed (lines_from f s (at + line_width l)) → ((k : ℕ) → AllWellFormed (lines_from f s k) → is_two (twos_from f s k) ≡ false) → says_two t.core (is_two (twos_from f s (at + width_two t))) ≡ false
rest_not l t f s at (other e) g a r = ap (λ (x : TwoLine). says_two x.core (is_two (twos_from f s (at + width_two x)))) e
rest_not l t f s at (exclusion o e) g a r = ap (λ (x : TwoLine). says_two x.core (is_two (twos_from f s (at + width_two x)))) e ∙ line_not l f s at o g a r

not_two : (f : ℕ) (s : List ℕ) (at : ℕ) → AllWellFormed (lines_from f s at) → is_two (twos_from f s at) ≡ false
not_two zero s at = λ g. refl
not_two (suc f) s at =
    cases (ltb at (length s))
    (λ p. simp p (λ g. rest_not (line_at s at) (two_at s at) f s at (kind_here s at (ltb-true at (length s) p) g.0) g.0 g.1 (λ k a. not_two f s k a)))
    (λ p. simp p (λ g. refl))

pub one_not_two : (s : List ℕ) (a : Sound) → sheet_of s ≡ answered a → is_two (twos_of s) ≡ false
unfolding lines_of twos_of
one_not_two s a e = not_two (length s) s 0 (read_well s (one_kept s a e))

-- ---- a sheet of the second form has a line that says so

line_stays : (c : Line) (ls : List TwoLine) (n : ℕ) (m r : Meaning) → ((k : Meaning) → is_two ls ≡ false → run (map (told_of false) ls) (n + 1) k ≡ answered r → r.header ≡ k.header) → says_two c (is_two ls) ≡ false → run (c ∷ map (told_of false) ls) n m ≡ answered r → r.header ≡ m.header
unfolding excluding
line_stays (Header h) ls n m r f t = λ e. impossible (cc)
line_stays (Atom k x y z) ls n m r f t = λ e. impossible (cc)
line_stays (Exclusion a b) ls n m r f t =
    by_test
    (λ q. onward (and_then (cond q (some (added a b m.rows)) none) (λ l. some (record { header = m.header; atoms = m.atoms; rows = l }))) (refusal_for (Exclusion a b) (n + 1)) (λ k. run (map (told_of false) ls) (n + 1) k) ≡ answered r → r.header ≡ m.header)
    (leb (length (added a b m.rows)) 1024)
    (λ _ e. f (record { header = m.header; atoms = m.atoms; rows = added a b m.rows }) t e)
    (λ _ e. impossible (cc))
line_stays Malformed ls n m r f t = λ e. impossible (cc)
line_stays End ls n m r f t = λ e. impossible (cc)

header_stays : (ls : List TwoLine) (n : ℕ) (m r : Meaning) → is_two ls ≡ false → run (map (told_of false) ls) n m ≡ answered r → r.header ≡ m.header
header_stays [] n m r t e = let h : m ≡ r = cc in ap (λ (k : Meaning). k.header) (sym h)
header_stays (l ∷ ls) n m r t e = line_stays l.core ls n m r (λ k u p. header_stays ls (n + 1) k r u p) t e

no_head : (h : Option Head) (m : Meaning) (r : ℕ) (sp : List ℕ) (a : SoundTwo) → h ≡ none → with_species (sound_with (tested h m.atoms.marks) m) r sp ≡ answered a → ⊥
no_head none m r sp a q e = impossible (cc)
no_head (some h) m r sp a q e = impossible (cc)

ran_stays : (s : List ℕ) (m : Meaning) → is_two (twos_of s) ≡ false → ran_two false s ≡ answered m → m.header ≡ none
unfolding ran_two
ran_stays s m t e = header_stays (twos_of s) 0 blank m t e

pub two_is_two : (s : List ℕ) (a : SoundTwo) → sheet_two s ≡ answered a → is_two (twos_of s) ≡ true
two_is_two s a e =
    cases (is_two (twos_of s)) (λ p. p)
    (λ p.
    let r = twos_kept s a e in
    absurd (no_head r.meaning.header r.meaning (rule_in r.kinds.header) r.kinds.atoms.coords a (ran_stays s r.meaning p r.read) (sym (kept_is s r) ∙ e)))

-- ---- what is answered was sound

peel_one : (b : Bool) (x : one.Outcome) (co ex : List ℕ) (j : Job) → (cond b (one.handed (refused_by Lengths) co ex) x).shown ≡ answered j → (b ≡ false) × (x.shown ≡ answered j)
peel_one true x co ex j e = impossible (cc)
peel_one false x co ex j e = (refl, e)

peel_two : (b : Bool) (x : OutcomeTwo) (co sp ex : List ℕ) (j : RuledJob) → (cond b (handed_two (refused_by Lengths) co sp ex) x).shown ≡ answered j → (b ≡ false) × (x.shown ≡ answered j)
peel_two true x co sp ex j e = impossible (cc)
peel_two false x co sp ex j e = (refl, e)

handed_sound : (y : Seen Sound) (co ex : List ℕ) (j : Job) → (one.handed y co ex).shown ≡ answered j → (a : Sound) × (y ≡ answered a)
handed_sound (answered a) co ex j e = (a, refl)
handed_sound (refused n p) co ex j e = impossible (cc)

handed_two_lem : (y : Seen SoundTwo) (co sp ex : List ℕ) (j : RuledJob) → (handed_two y co sp ex).shown ≡ answered j → (a : SoundTwo) × (y ≡ answered a) × (j.rule ≡ a.rule)
handed_two_lem (answered a) co sp ex j e =
    let k : record { job = one.job_for a.sound.head (length a.sound.rows); rule = a.rule } ≡ j = cc in
    (a, refl, sym (ap (λ (x : RuledJob). x.rule) k))
handed_two_lem (refused n p) co sp ex j e = impossible (cc)

pub one_sound : (s co ex : List ℕ) (j : Job) → (one.read_of s co ex).shown ≡ answered j → (a : Sound) × (sheet_of s ≡ answered a)
unfolding one.read_of
one_sound s co ex j e =
    let p = peel_one (ltb 65536 (length s)) _ co ex j e in
    let q = peel_one (ltb (length co) 3072) _ co ex j p.1 in
    let r = peel_one (ltb (length ex) 2048) _ co ex j q.1 in
    handed_sound (sheet_of s) co ex j r.1

pub two_sound : (s co sp ex : List ℕ) (j : RuledJob) → (read_two_of s co sp ex).shown ≡ answered j → ((a : SoundTwo) × (sheet_two s ≡ answered a) × (j.rule ≡ a.rule)) × (1024 ≤ length sp)
unfolding read_two_of
two_sound s co sp ex j e =
    let p = peel_two (ltb 65536 (length s)) _ co sp ex j e in
    let q = peel_two (ltb (length co) 3072) _ co sp ex j p.1 in
    let r = peel_two (ltb (length sp) 1024) _ co sp ex j q.1 in
    let t = peel_two (ltb (length ex) 2048) _ co sp ex j r.1 in
    (handed_two_lem (sheet_two s) co sp ex j t.1, ltb-false (length sp) 1024 r.0)

-- ---- the form's own reading

pub first_form : (s co sp ex : List ℕ) → FirstForm s co sp ex
first_form s co sp ex h j e =
    let a = one_sound s co ex j e in
    sym (by_one s co sp ex h (one.read_of s co ex) (one_not_two s a.0 a.1) refl)
    ∙ ap (λ (x : Seen Job). record { shown = formed_one x; coordinates = (one.read_of s co ex).coordinates; species = zeroed x sp; exclusions = (one.read_of s co ex).exclusions }) e

pub second_form : (s co sp ex : List ℕ) → SecondForm s co sp ex
second_form s co sp ex j e =
    let a = two_sound s co sp ex j e in
    sym (by_two s co sp ex a.1 (read_two_of s co sp ex) (two_is_two s a.0.0 a.0.1) refl)

-- ---- in another order

same_read : (s t co ex : List ℕ) → sheet_of t ≡ sheet_of s → length t ≡ length s → one.read_of t co ex ≡ one.read_of s co ex
unfolding one.read_of
same_read s t co ex e h = rw (e, h)

same_read_two : (s t co sp ex : List ℕ) → sheet_two t ≡ sheet_two s → length t ≡ length s → read_two_of t co sp ex ≡ read_two_of s co sp ex
unfolding read_two_of
same_read_two s t co sp ex e h = rw (e, h)

unformed_one : (x : Seen Job) (f : Formed) → formed_one x ≡ answered f → (j : Job) × (x ≡ answered j) × (record { job = j; form = 1; rule = 1 } ≡ f)
unformed_one (answered j) f e = (j, refl, cc)
unformed_one (refused n p) f e = impossible (cc)

unformed_two : (x : Seen RuledJob) (f : Formed) → formed_two x ≡ answered f → (j : RuledJob) × (x ≡ answered j) × (record { job = j.job; form = 2; rule = j.rule } ≡ f)
unformed_two (answered j) f e = (j, refl, cc)
unformed_two (refused n p) f e = impossible (cc)

peel_either : (b : Bool) (x : Outcome) (co sp ex : List ℕ) (f : Formed) → (cond b (record { shown = refused_by Lengths; coordinates = co; species = sp; exclusions = ex }) x).shown ≡ answered f → (b ≡ false) × (x.shown ≡ answered f)
peel_either true x co sp ex f e = impossible (cc)
peel_either false x co sp ex f e = (refl, e)

roomy : (s co sp ex : List ℕ) (f : Formed) → (either_of s co sp ex).shown ≡ answered f → 1024 ≤ length sp
unfolding either_of
roomy s co sp ex f e = ltb-false (length sp) 1024 (peel_either (ltb (length sp) 1024) _ co sp ex f e).0

-- ---- the rule
pub rule_answered : (s co sp ex : List ℕ) → RuleAnswered s co sp ex
rule_answered s co sp ex f e =
    let h = roomy s co sp ex f e in
    cases (is_two (twos_of s))
    (λ t.
    let j = unformed_two (read_two_of s co sp ex).shown f (ap (λ (o : Outcome). o.shown) (by_two s co sp ex h (read_two_of s co sp ex) t refl) ∙ e) in
    let a = (two_sound s co sp ex j.0 j.1).0 in
    let r = header_says_rule s a.0 a.1 in
    let k : f.rule ≡ a.0.rule = sym (ap (λ (x : Formed). x.rule) j.2) ∙ a.2 in
    let n : f.form ≡ 2 = sym (ap (λ (x : Formed). x.form) j.2) in
    (λ q. absurd (omega arith), omega (arith, k, r.1), omega (arith, k, r.2)))
    (λ t.
    let j = unformed_one (one.read_of s co ex).shown f (ap (λ (o : Outcome). o.shown) (by_one s co sp ex h (one.read_of s co ex) t refl) ∙ e) in
    let k : f.rule ≡ 1 = sym (ap (λ (x : Formed). x.rule) j.2) in
    (λ _. k, omega (arith, k), omega (arith, k)))

module _ (s co sp ex : List ℕ) (f : Formed) (e : (either_of s co sp ex).shown ≡ answered f) (cs ds : List (List ℕ)) (w : AllWhole cs) (g : s ≡ join_all cs) (p : Perm cs ds) where
  order_two : is_two (twos_of s) ≡ true → either_of (join_all ds) co sp ex ≡ either_of s co sp ex
  order_two t =
      let h = roomy s co sp ex f e in
      let b = by_two s co sp ex h (read_two_of s co sp ex) t refl in
      let j = unformed_two (read_two_of s co sp ex).shown f (ap (λ (o : Outcome). o.shown) b ∙ e) in
      let a = (two_sound s co sp ex j.0 j.1).0 in
      let q = two_order s a.0 a.1 cs ds w g p in
      sym (by_two (join_all ds) co sp ex h (read_two_of (join_all ds) co sp ex) (two_is_two (join_all ds) a.0 (q.0 ∙ a.1)) refl)
      ∙ (ap as_two (same_read_two s (join_all ds) co sp ex q.0 q.1) ∙ b)

  order_one : is_two (twos_of s) ≡ false → either_of (join_all ds) co sp ex ≡ either_of s co sp ex
  order_one t =
      let h = roomy s co sp ex f e in
      let b = by_one s co sp ex h (one.read_of s co ex) t refl in
      let j = unformed_one (one.read_of s co ex).shown f (ap (λ (o : Outcome). o.shown) b ∙ e) in
      let a = one_sound s co ex j.0 j.1 in
      let q = one_order s a.0 a.1 cs ds w g p in
      sym (by_one (join_all ds) co sp ex h (one.read_of (join_all ds) co ex) (one_not_two (join_all ds) a.0 (q.0 ∙ a.1)) refl)
      ∙ (ap (λ (o : one.Outcome). as_one o sp) (same_read s (join_all ds) co ex q.0 q.1) ∙ b)

pub either_in_any_order : (s co sp ex : List ℕ) → EitherInAnyOrder s co sp ex
either_in_any_order s co sp ex f e cs ds w g p =
    cases (is_two (twos_of s)) (λ t. order_two s co sp ex f e cs ds w g p t) (λ t. order_one s co sp ex f e cs ds w g p t)
