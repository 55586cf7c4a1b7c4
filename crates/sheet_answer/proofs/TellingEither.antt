-- What `read_either` and `build` told is the list of a sheet of either form, and its text is what is printed. Assumes nothing.
use Rattle.std.specs.Prelude.{Err, Ok, Result}
use Rattle.sheet_answer.specs.declared.SheetList.{SheetList}
use Prim.Native.Nat.{ℕ, ◌≤◌, ◌<◌}
use mathlib.Core.Path.{◌≡◌, refl, sym, ap, ◌∙◌}
use mathlib.Core.Bool.{Bool, true, false, cond}
use mathlib.Core.List.{List, map, Perm}
use native.Mathlib.Omega.{arith}
use lib.ListN.{length, take, replicate}
use lib.Seq.{sets, length-sets}
use lib.Dec.{ltb}
use borrow.Author.Tests.{le-ltb, lt-ltb, ltb-false}
use Rattle.answer.specs.Seen.{Seen, answered, refused, refused_by, number_of, place_of, seen}
use Rattle.answer.specs.declared.Refusal.{Refusal}
use Rattle.answer.specs.declared.Refusal.TheVariants.{Lengths}
use Rattle.lists.proofs.Cases.{by_test, impossible}
use Rattle.sheet_lines.specs.Grammar.{AllWhole, join_all}
use Rattle.sheet_lines_two.specs.Twos.{told_of, twos_of}
use Rattle.sheet_printed.specs.Printed.{refusal_line}
use Rattle.sheet_printed.proofs.Parts.{length_refusal}
use Rattle.sheet.specs.declared.Job.{Job}
use Rattle.sheet.specs.Meaning.{Meaning}
use Rattle.sheet.specs.Reading.{Sound, then_tested, sheet_of}
use Rattle.sheet.specs.Read as reading
use Rattle.sheet.specs.ReadTwo.{SoundTwo, species_in, rule_in, with_species, paired, ran_two, sheet_two, handed_two, read_two_of}
use Rattle.sheet.proofs.Sizes.{Full, full, run_full}
use Rattle.sheet.proofs.AnyOrder.{one_order}
use Rattle.sheet.proofs.OrderTwo.{two_order}
use Rattle.sheet.proofs.TurnsTwo.{species_length}
use Rattle.sheet_either.specs.declared.Formed.{Formed}
use Rattle.sheet_either.specs.Either as formed
use Rattle.sheet_either.proofs.Forms.{one_not_two, two_is_two}
use Rattle.sheet_answer.specs.Solve.{Outcome, answer_text, printed}
use Rattle.sheet_answer.specs.List.{list_for}
use Rattle.sheet_answer.specs.Either.{untyped, either_sound, either_list_of, EitherListSays, printed_either, solve_either_of, SolveEitherSays, FitsEither, EitherFits}
use Rattle.sheet_answer.specs.Theorems.{EitherPrints, FirstPrints}
use Rattle.sheet_answer.specs.Steps.{list_text}
use Rattle.sheet_answer.proofs.Telling.{told, front, Handed, handed_answered, handed_refused, text_of, sheet_text}
use Rattle.sheet_answer.proofs.Fitting.{sheet_fits}

-- ---- a sound sheet of the second form has its sizes
pub record FullTwo (a : SoundTwo) : Type 0 where
  pub sound : Full a.sound
  pub species : length a.species ≡ a.sound.head.atoms

with_full : (y : Seen Sound) (r : ℕ) (l : List ℕ) (a : SoundTwo) → ((b : Sound) → y ≡ answered b → Full b) → with_species y r l ≡ answered a → FullTwo a
with_full (answered b) r l a f e =
    let h : record { sound = b; rule = r; species = species_in b.head.atoms l } ≡ a = cc in
    rw (← h) (record { sound = f b refl; species = species_length b.head.atoms l })
with_full (refused n p) r l a f e = impossible (cc)

paired_full : (k m : Seen Meaning) (a : SoundTwo) → ((b : Sound) → then_tested m ≡ answered b → Full b) → paired k m ≡ answered a → FullTwo a
paired_full (refused n p) m a f e = impossible (cc)
paired_full (answered k) m a f e = with_full (then_tested m) (rule_in k.header) k.atoms.coords a f e

pub full_two : (s : List ℕ) (a : SoundTwo) → sheet_two s ≡ answered a → FullTwo a
unfolding sheet_two ran_two
full_two s a e = paired_full (ran_two true s) (ran_two false s) a (λ b p. run_full (map (told_of false) (twos_of s)) b p) e

-- ---- of either form
untyped_full : (y : Seen SoundTwo) (w : Sound) → ((a : SoundTwo) → y ≡ answered a → FullTwo a) → untyped y ≡ answered w → Full w
untyped_full (answered a) w f e = let h : a.sound ≡ w = cc in rw (← h) (f a refl).sound
untyped_full (refused n p) w f e = impossible (cc)

pub full_either : (s : List ℕ) (w : Sound) → either_sound s ≡ answered w → Full w
unfolding either_sound
full_either s w =
    by_test (λ t. cond t (untyped (sheet_two s)) (sheet_of s) ≡ answered w → Full w) (formed.is_two (twos_of s))
    (λ _ e. untyped_full (sheet_two s) w (full_two s) e)
    (λ _ e. full s w e)

-- ---- what `read_either` told, without the species
abbrev unformed : Seen Formed → Seen Job
unformed (answered f) = answered f.job
unformed (refused n p) = refused n p

abbrev bare : formed.Outcome → reading.Outcome
bare o = told (unformed o.shown) o.coordinates o.exclusions

module _ (s co sp ex : List ℕ) (a : 3072 ≤ length co) (b : 1024 ≤ length sp) (c : 2048 ≤ length ex) where
  by_form : (t u : Bool) (y : Seen SoundTwo) (x : Seen Sound) → bare (cond t (formed.as_two (cond u (handed_two (refused_by Lengths) co sp ex) (handed_two y co sp ex))) (formed.as_one (cond u (reading.handed (refused_by Lengths) co ex) (reading.handed x co ex)) sp)) ≡ cond u (reading.handed (refused_by Lengths) co ex) (reading.handed (cond t (untyped y) x) co ex)
  by_form true true y x = refl
  by_form true false (answered w) x = refl
  by_form true false (refused n p) x = refl
  by_form false true y x = refl
  by_form false false y (answered w) = refl
  by_form false false y (refused n p) = refl

  either_is : bare (formed.either_of s co sp ex) ≡ cond (ltb 65536 (length s)) (reading.handed (refused_by Lengths) co ex) (reading.handed (either_sound s) co ex)
  unfolding formed.either_of either_sound read_two_of reading.read_of
  either_is =
      rw (le-ltb (length sp) 1024 b, le-ltb (length co) 3072 a, le-ltb (length ex) 2048 c) (by_form (formed.is_two (twos_of s)) (ltb 65536 (length s)) (sheet_two s) (sheet_of s))

  pub either_answered : (r : Result Formed Refusal) (f : Formed) (co' sp' ex' : List ℕ) → r ≡ Ok f → formed.EitherSays s co sp ex r co' sp' ex' → Handed co ex a c (either_sound s) (full_either s) co' ex' f.job × ((pairs : List ℕ) → list_for (either_sound s) pairs ≡ either_list_of s pairs)
  unfolding either_list_of
  either_answered r f co' sp' ex' e says =
      let q : record { shown = answered f; coordinates = co'; species = sp'; exclusions = ex' } ≡ formed.either_of s co sp ex = rw e at says in
      handed_answered co ex a c (either_sound s) (full_either s) co' ex' (ltb 65536 (length s)) f.job (ap bare q ∙ either_is)

  pub either_refused : (r : Result Formed Refusal) (w : Refusal) (co' sp' ex' : List ℕ) → r ≡ Err w → formed.EitherSays s co sp ex r co' sp' ex' → (pairs : List ℕ) → record { shown = refused_by w; pairs = pairs } ≡ either_list_of s pairs
  unfolding either_list_of
  either_refused r w co' sp' ex' e says pairs =
      let q : record { shown = refused_by w; coordinates = co'; species = sp'; exclusions = ex' } ≡ formed.either_of s co sp ex = rw e at says in
      handed_refused co ex a c (either_sound s) (full_either s) co' ex' (ltb 65536 (length s)) (number_of w) (place_of w) (ap bare q ∙ either_is) pairs

-- ---- the text
either_text : (s : List ℕ) → text_of (either_list_of s (replicate 16384 0)) ≡ printed_either s
unfolding either_list_of printed_either
either_text s =
    by_test (λ t. text_of (cond t (record { shown = refused_by Lengths; pairs = replicate 16384 0 }) (list_for (either_sound s) (replicate 16384 0))) ≡ cond t (refusal_line 1 0) (answer_text (either_sound s)))
    (ltb 65536 (length s)) (λ _. refl) (λ _. sheet_text (either_sound s))

pub either_listed : (s : List ℕ) (x : Result SheetList Refusal) (ps : List ℕ) → EitherListSays s (replicate 16384 0) x ps → list_text (seen x) ps ≡ printed_either s
either_listed s x ps says = ap text_of says ∙ either_text s

-- ---- `solve_either` by its cases
pub either_small : (s out : List ℕ) → length out < 90133 → record { shown = refused_by Lengths; out = out } ≡ solve_either_of s out
unfolding solve_either_of
either_small s out h = simp (lt-ltb (length out) 90133 h)

pub either_solved : (s out out' t : List ℕ) (n : ℕ) → 90133 ≤ length out → t ≡ printed_either s → n ≡ length t → out' ≡ sets out 0 t → record { shown = answered n; out = out' } ≡ solve_either_of s out
unfolding solve_either_of
either_solved s out out' t n h e p q = simp (le-ltb (length out) 90133 h) (rw (p, q, e))

pub printed_either_fits : (s : List ℕ) → length (printed_either s) ≤ 90133
unfolding printed_either
printed_either_fits s =
    by_test (λ t. length (cond t (refusal_line 1 0) (answer_text (either_sound s))) ≤ 90133) (ltb 65536 (length s))
    (λ _. omega (arith, length_refusal 1 0))
    (λ _. sheet_fits (either_sound s))

fits_by : (s out out' : List ℕ) (n : ℕ) → 90133 ≤ length out → n ≡ length (printed_either s) → out' ≡ sets out 0 (printed_either s) → FitsEither s n out'
fits_by s out out' n h e q =
    let m = printed_either_fits s in
    let long : length out' ≡ length out = ap length q ∙ length-sets out 0 (printed_either s) in
    record {
      most = omega arith;
      room = omega arith;
      text = ap (λ (l : List ℕ). take n l) q ∙ front (printed_either s) out n (sym e) (omega arith);
    }

pub either_fits : (s out : List ℕ) (r : Result ℕ Refusal) (out' : List ℕ) → SolveEitherSays s out r out' → EitherFits s r out'
unfolding solve_either_of
either_fits s out r out' says n a =
    by_test
    (λ t. ◌≡◌ {A = Outcome} (record { shown = seen r; out = out' }) (cond t (record { shown = refused_by Lengths; out = out }) (record { shown = answered (length (printed_either s)); out = sets out 0 (printed_either s) })) → FitsEither s n out')
    (ltb (length out) 90133)
    (λ _ q. let h : answered n ≡ refused 1 0 = sym a ∙ ap (λ (o : Outcome). o.shown) q in impossible (cc))
    (λ e q. let h : answered n ≡ answered (length (printed_either s)) = sym a ∙ ap (λ (o : Outcome). o.shown) q in
    let k : n ≡ length (printed_either s) = cc in
    fits_by s out out' n (ltb-false (length out) 90133 e) k (ap (λ (o : Outcome). o.out) q))
    says

-- ---- in another order
either_two : (s : List ℕ) → formed.is_two (twos_of s) ≡ true → either_sound s ≡ untyped (sheet_two s)
unfolding either_sound
either_two s t = rw t

either_one : (s : List ℕ) → formed.is_two (twos_of s) ≡ false → either_sound s ≡ sheet_of s
unfolding either_sound
either_one s t = rw t

typed_back : (y : Seen SoundTwo) (a : Sound) → untyped y ≡ answered a → (b : SoundTwo) × (y ≡ answered b)
typed_back (answered b) a e = (b, refl)
typed_back (refused n p) a e = impossible (cc)

module _ (s : List ℕ) (a : Sound) (e : either_sound s ≡ answered a) (cs ds : List (List ℕ)) (w : AllWhole cs) (g : s ≡ join_all cs) (p : Perm cs ds) where
  order_two : formed.is_two (twos_of s) ≡ true → (either_sound (join_all ds) ≡ either_sound s) × (length (join_all ds) ≡ length s)
  order_two t =
      let b = typed_back (sheet_two s) a (sym (either_two s t) ∙ e) in
      let q = two_order s b.0 b.1 cs ds w g p in
      (either_two (join_all ds) (two_is_two (join_all ds) b.0 (q.0 ∙ b.1)) ∙ (ap untyped q.0 ∙ sym (either_two s t)), q.1)

  order_one : formed.is_two (twos_of s) ≡ false → (either_sound (join_all ds) ≡ either_sound s) × (length (join_all ds) ≡ length s)
  order_one t =
      let b = sym (either_one s t) ∙ e in
      let q = one_order s a b cs ds w g p in
      (either_one (join_all ds) (one_not_two (join_all ds) a (q.0 ∙ b)) ∙ (q.0 ∙ sym (either_one s t)), q.1)

  order_either : (either_sound (join_all ds) ≡ either_sound s) × (length (join_all ds) ≡ length s)
  order_either = by_test (λ t. (either_sound (join_all ds) ≡ either_sound s) × (length (join_all ds) ≡ length s)) (formed.is_two (twos_of s)) order_two order_one

pub either_prints : (s : List ℕ) → EitherPrints s
unfolding printed_either
either_prints s a e cs ds w g p = let q = order_either s a e cs ds w g p in rw (q.0, q.1)

pub first_prints : (s : List ℕ) → FirstPrints s
unfolding printed_either printed
first_prints s a e = rw (either_one s (one_not_two s a e))
