-- What `read_twos` tells of each line of the second form, in the first form; an atom's number is below 1,024; the species of one atom more. Assumes nothing.
use Rattle.std.specs.Prelude.{None, Option, Some}
use Prim.Native.Nat.{ℕ, zero, suc, ◌+◌, ◌*◌, ◌≤◌, ◌^◌}
use mathlib.Core.Path.{◌≡◌, refl, sym, ap, ◌∙◌}
use mathlib.Core.Bool.{Bool, true, false, cond}
use mathlib.Core.List.{List, [], ◌∷◌, ◌++◌, map}
use native.Mathlib.Nat.{zero-add}
use native.Mathlib.Numerals.{add-one}
use native.Mathlib.Omega.{arith}
use lib.ListN.{length, get_or, set, length-append}
use lib.Seq.{sets}
use lib.Dec.{ltb, eqb}
use borrow.Author.Tests.{lt-ltb, le-ltb, ltb-true}
use Rattle.lists.proofs.Cases.{by_test}
use Rattle.hexadecimal.specs.Digits.{byte_at, hex2, hex4, hex8}
use Rattle.hexadecimal.proofs.Writing.{put_put}
use Rattle.sheet_lines.specs.Grammar.{WellFormed}
use Rattle.sheet_lines.specs.Reading.{three_at, header_of, atom_of, exclusion_of}
use Rattle.sheet_lines.specs.declared.Line.{Line}
use Rattle.sheet_lines.specs.declared.Line.TheVariants.{Header, Atom, Exclusion, Malformed, End}
use Rattle.sheet_lines_two.specs.declared.TwoLine.{TwoLine}
use Rattle.sheet_lines_two.specs.Twos.{plain_two, typed_two, ruled_two, end_two, header_two, two_at, wide_two, width_two, twos_from, kind_of, told_of}
use Rattle.sheet.specs.Desk.{LineTold, LinesBy, NumberBelow}
use Rattle.sheet.specs.ReadTwo.{species_in}

abbrev pub told_from : Bool → ℕ → List ℕ → ℕ → List Line
told_from b f s at = map (told_of b) (twos_from f s at)

-- ---- how far a line goes

least_two : (b : Bool) (c : Line) (t : ℕ) → WellFormed (cond b (kind_of c t) c) → 11 ≤ wide_two c t
least_two b (Header h) t g = by_test (λ e. 11 ≤ cond e 41 43) (eqb t 0) (λ _. omega arith) (λ _. omega arith)
least_two b (Atom n x y z) t g = omega arith
least_two b (Exclusion d e) t g = omega arith
least_two true Malformed t g = absurd g
least_two false Malformed t g = absurd g
least_two true End t g = absurd g
least_two false End t g = absurd g

most_two : (c : Line) (t : ℕ) → wide_two c t ≤ 43
most_two (Header h) t = by_test (λ e. cond e 41 43 ≤ 43) (eqb t 0) (λ _. omega arith) (λ _. omega arith)
most_two (Atom n x y z) t = omega arith
most_two (Exclusion a b) t = omega arith
most_two Malformed t = omega arith
most_two End t = omega arith

told_end : (b : Bool) (f : ℕ) (s : List ℕ) (at : ℕ) → length s ≤ at → told_from b f s at ≡ []
told_end b zero s at h = refl
told_end b (suc f) s at h = simp (le-ltb at (length s) h)

-- ---- an atom line's number is below 1,024

below_if : (b : Bool) (x y : Line) → (b ≡ true → NumberBelow x) → NumberBelow y → NumberBelow (cond b x y)
below_if true x y f g = f refl
below_if false x y f g = g

below_header : (a : ℕ) (t : Option (ℕ × ℕ × ℕ)) (m r z : ℕ) → NumberBelow (header_of a t m r z)
unfolding header_of
below_header a None m r z = tt
below_header a (Some (x, y, w)) m r z =
    below_if (ltb a (2 ^ 16)) _ _ (λ _. below_if (ltb m 8) _ _ (λ _. below_if (ltb r (2 ^ 32)) _ _ (λ _. below_if (eqb z 10) _ _ (λ _. tt) tt) tt) tt) tt

below_atom : (n : ℕ) (t : Option (ℕ × ℕ × ℕ)) (z : ℕ) → NumberBelow (atom_of n t z)
unfolding atom_of
below_atom n None z = tt
below_atom n (Some (x, y, w)) z = below_if (ltb n 1024) _ _ (λ p. below_if (eqb z 10) _ _ (λ _. ltb-true n 1024 p) tt) tt

below_exclusion : (a b z : ℕ) → NumberBelow (exclusion_of a b z)
unfolding exclusion_of
below_exclusion a b z = below_if (ltb a (2 ^ 16)) _ _ (λ _. below_if (ltb b (2 ^ 16)) _ _ (λ _. below_if (eqb z 10) _ _ (λ _. tt) tt) tt) tt

core_if : (b : Bool) (x y : TwoLine) → NumberBelow x.core → NumberBelow y.core → NumberBelow (cond b x y).core
core_if true x y f g = f
core_if false x y f g = g

below_typed : (l : Line) (t : ℕ) → NumberBelow l → NumberBelow (typed_two l t).core
unfolding typed_two
below_typed l t h = core_if (ltb t (2 ^ 32)) (record { core = l; extra = t }) (plain_two Malformed) h tt

below_ruled : (l : Line) (r : ℕ) → NumberBelow l → NumberBelow (ruled_two l r).core
unfolding ruled_two
below_ruled l r h = core_if (eqb r 1) (record { core = l; extra = 1 }) _ h (core_if (eqb r 2) (record { core = l; extra = 2 }) (plain_two Malformed) h tt)

below_head : (s : List ℕ) (at : ℕ) → NumberBelow (header_two s at).core
unfolding header_two end_two
below_head s at =
    core_if (eqb (byte_at s (at + 40)) 10) _ _ (below_header (hex4 s (at + 2)) (three_at s (at + 6)) (hex2 s (at + 30)) (hex8 s (at + 32)) (byte_at s (at + 40)))
    (below_ruled (header_of (hex4 s (at + 2)) (three_at s (at + 6)) (hex2 s (at + 30)) (hex8 s (at + 32)) (byte_at s (at + 40 + 2))) (hex2 s (at + 40)) (below_header (hex4 s (at + 2)) (three_at s (at + 6)) (hex2 s (at + 30)) (hex8 s (at + 32)) (byte_at s (at + 40 + 2))))

below_core : (s : List ℕ) (at : ℕ) → NumberBelow (two_at s at).core
unfolding two_at
below_core s at =
    core_if (ltb at (length s)) _ _
    (core_if (eqb (hex2 s at) 17) _ _ (below_head s at)
    (core_if (eqb (hex2 s at) 18) _ _ (below_typed (atom_of (hex4 s (at + 2)) (three_at s (at + 6)) (byte_at s (at + 38))) (hex8 s (at + 30)) (below_atom (hex4 s (at + 2)) (three_at s (at + 6)) (byte_at s (at + 38))))
    (core_if (eqb (hex2 s at) 3) _ _ (below_exclusion (hex4 s (at + 2)) (hex4 s (at + 6)) (byte_at s (at + 10))) tt)))
    tt

below_kind : (c : Line) (t : ℕ) → NumberBelow c → NumberBelow (kind_of c t)
below_kind (Header h) t b = tt
below_kind (Atom n x y z) t b = b
below_kind (Exclusion d e) t b = tt
below_kind Malformed t b = tt
below_kind End t b = tt

pub below_two : (b : Bool) (s : List ℕ) (at : ℕ) → NumberBelow (told_of b (two_at s at))
below_two true s at = below_kind (two_at s at).core (two_at s at).extra (below_core s at)
below_two false s at = below_core s at

-- ---- what `read_twos` tells of each line

abbrev pub TwoAt : Bool → List ℕ → ℕ → Line → ℕ → Type 0
TwoAt b s at l w = ◌≡◌ {A = Line × ℕ} (l, w) (told_of b (two_at s at), width_two (two_at s at))

pub two_told : (b : Bool) (s : List ℕ) (at : ℕ) (l : Line) (w : ℕ) → TwoAt b s at l w → LineTold l w
two_told b s at l w e =
    let here : l ≡ told_of b (two_at s at) = ap (λ (x : Line × ℕ). x.0) e in
    let wide : w ≡ width_two (two_at s at) = ap (λ (x : Line × ℕ). x.1) e in
    record { below = rw here (below_two b s at); least = λ g. rw wide (least_two b (two_at s at).core (two_at s at).extra (rw here at g)); most = rw wide (most_two (two_at s at).core (two_at s at).extra) }

pub twos_by : (b : Bool) (s : List ℕ) (told : ℕ → Line × ℕ → Type 0) → ((at : ℕ) (l : Line) (w : ℕ) → told at (l, w) → TwoAt b s at l w) → LinesBy told (length s) (λ f at. told_from b f s at)
twos_by b s told by =
    record {
      past = λ f at h. told_end b f s at h;
      first = λ f at l w h t. rw (ap (λ (x : Line × ℕ). x.1) (by at l w t), ap (λ (x : Line × ℕ). x.0) (by at l w t)) (simp (lt-ltb at (length s) h));
    }

-- ---- the species

pub species_length : (n : ℕ) (l : List ℕ) → length (species_in n l) ≡ n
species_length zero l = refl
species_length (suc n) l = omega (arith, species_length n l, length-append (species_in n l) (get_or l (3 * n) 0 ∷ []))

pub one_species : (from l m : List ℕ) (i : ℕ) → m ≡ sets l 0 (species_in i from) → set m i (get_or from (3 * i) 0) ≡ sets l 0 (species_in (i + 1) from)
one_species from l m i e =
    let more : species_in (i + 1) from ≡ species_in i from ++ (get_or from (3 * i) 0 ∷ []) = rw add-one refl in
    put_put i (species_in i from) (get_or from (3 * i) 0 ∷ []) l m (set m i (get_or from (3 * i) 0)) 0 (species_length i from) e
    (ap (λ (k : ℕ). set m k (get_or from (3 * i) 0)) (sym (zero-add i)))
    ∙ ap (λ (x : List ℕ). sets l 0 x) (sym more)
