-- `solve_clumps` by its cases, from what `list` promises: the text, its length, and what is printed. Assumes nothing.
use Rattle.std.specs.Prelude.{Ok, Result}
use Rattle.answer.specs.declared.Refusal.{Refusal}
use Rattle.sheet_answer.specs.declared.SheetList.{SheetList}
use Prim.Native.Nat.{ℕ, ◌+◌, ◌*◌, ◌≤◌, ◌<◌}
use mathlib.Core.Path.{◌≡◌, refl, sym, ap, ◌∙◌}
use mathlib.Core.List.{List, ◌++◌}
use native.Mathlib.Omega.{arith}
use lib.ListN.{length, take, drop, replicate}
use lib.Seq.{sets, sets-eq, take_at, length-sets}
use borrow.Author.Tests.{lt-ltb, le-ltb}
use Rattle.answer.specs.Seen.{Seen, answered, refused, refused_by, seen}
use Rattle.answer.specs.declared.Refusal.TheVariants.{Lengths}
use Rattle.lists.specs.Lists.{rows}
use Rattle.sheet_printed.proofs.Parts.{length_refusal}
use Rattle.sheet_answer.specs.List.{ListOutcome, sheet_list_of, ListSays, ListFits}
use Rattle.clumps_label.specs.Label.{labels_of}
use Rattle.clumps_label.proofs.Labels.{clumped}
use Rattle.clumps_answer.specs.Clumps.{clump_rows, clumps_text, clumps_printed, solve_clumps_of, SolveClumpsSays, SolveClumpsFits}
use Rattle.clumps_answer.specs.Theorems.{ClumpsOf, SolveClumpsPrints}
use Rattle.clumps_answer.specs.Steps.{RowsAmong}
use Rattle.clumps_answer.proofs.Lines.{length_lines, few_rows}
use Rattle.clumps_answer.proofs.Sizes.{clumps_are, few_digits}

pub too_small : (s out : List ℕ) → length out < 11264 → record { shown = refused_by Lengths; out = out } ≡ solve_clumps_of s out
unfolding solve_clumps_of
too_small s out h = simp (lt-ltb (length out) 11264 h)

-- the numbers handed out stand at the front of the room
front : (xs room : List ℕ) (n : ℕ) → length xs ≡ n → n ≤ length room → take n (sets room 0 xs) ≡ xs
front xs room n e h =
    let s : sets room 0 xs ≡ take 0 room ++ xs ++ drop (0 + length xs) room = sets-eq xs room 0 (omega arith) in
    ap (λ (l : List ℕ). take n l) s ∙ take_at xs (drop (0 + length xs) room) n e

-- what `list` promises of a sheet
module _ (s : List ℕ) (x : Result SheetList Refusal) (ps : List ℕ) (says : ListSays s (replicate 16384 0) x ps) (fit : ListFits x ps) where
  pub within : (c : SheetList) → x ≡ Ok c → RowsAmong c.atoms c.built.pairs ps
  within c e =
      let w = fit c (ap seen e) in
      record { few = w.few; room = w.room; two = w.two }

  text_is : clumps_text (seen x) ps ≡ clumps_printed s
  unfolding clumps_printed
  text_is = ap (λ (o : ListOutcome). clumps_text o.shown o.pairs) says

  most_by : (a : Seen SheetList) → seen x ≡ a → length (clumps_text a ps) ≤ 11264
  unfolding clumps_text
  most_by (answered c) e =
      let l = rows (take (2 * c.built.pairs) ps) in
      omega (arith, length_lines (clump_rows (labels_of c.atoms l)), few_rows (labels_of c.atoms l), (clumped c.atoms l).long, (fit c e).few)
  most_by (refused n p) e = omega (arith, length_refusal n p)

  most : length (clumps_printed s) ≤ 11264
  most = omega (arith, ap length text_is, most_by (seen x) refl)

  prints : (c : SheetList) → (sheet_list_of s (replicate 16384 0)).shown ≡ answered c → ClumpsOf s c
  unfolding clumps_printed clumps_text
  prints c e =
      let l = rows (take (2 * c.built.pairs) (sheet_list_of s (replicate 16384 0)).pairs) in
      let few = (fit c (ap (λ (o : ListOutcome). o.shown) says ∙ e)).few in
      record {
        clumps = clump_rows (labels_of c.atoms l);
        text = ap (λ (a : Seen SheetList). clumps_text a (sheet_list_of s (replicate 16384 0)).pairs) e;
        are = clumps_are c.atoms l;
        digits = few_digits c.atoms l few;
      }

  -- the text t of the list y is written, n bytes
  pub solved : (y : Result SheetList Refusal) → x ≡ y → (out out' : List ℕ) (n : ℕ) → 11264 ≤ length out → n ≡ length (clumps_text (seen y) ps) → out' ≡ sets out 0 (clumps_text (seen y) ps)
      → SolveClumpsSays s out (Ok n) out' × (SolveClumpsFits s (Ok n) out' × SolveClumpsPrints s (Ok n))
  unfolding solve_clumps_of
  solved y e out out' n h p q =
      let t : clumps_text (seen y) ps ≡ clumps_printed s = ap (λ (z : Result SheetList Refusal). clumps_text (seen z) ps) (sym e) ∙ text_is in
      let size : n ≡ length (clumps_printed s) = p ∙ ap length t in
      let wrote : out' ≡ sets out 0 (clumps_printed s) = q ∙ ap (λ (l : List ℕ). sets out 0 l) t in
      let long : length out' ≡ length out = ap length wrote ∙ simp length-sets in (
        simp (le-ltb (length out) 11264 h) (rw (size, wrote)),
        (
          λ k a. let same : n ≡ k = cc in
              record {
                most = omega (arith, most);
                room = omega (arith, most);
                text = ap (λ (l : List ℕ). take k l) wrote ∙ front (clumps_printed s) out k (sym size ∙ same) (omega (arith, most));
              },
          λ k a. prints,
        ),
      )
