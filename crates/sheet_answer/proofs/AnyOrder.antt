-- THEOREM. An accepted sheet is whole lines in one way, and in another order they print the same. Assumes nothing.
use Prim.Native.Nat.{ℕ, ◌≤◌}
use mathlib.Core.Path.{◌≡◌, sym, ap, ◌∙◌, subst}
use mathlib.Core.Logic.{∥∥₁_elim}
use mathlib.Core.List.{List, Perm, is_set, Permᴰ}
use native.Mathlib.Nat.{ℕ_set}
use native.Mathlib.Omega.{arith}
use lib.ListN.{length}
use borrow.Author.Tests.{le-ltb}
use Rattle.sheet_lines.specs.Reading.{lines_of}
use Rattle.sheet_lines.specs.Grammar.{AllWhole, join_all}
use Rattle.sheet_lines.proofs.AnyForm.{one_way}
use Rattle.sheet_lines.proofs.WholeLines.{texts, in_lines}
use Rattle.sheet.proofs.Order.{ReadWhole, read_well, same_sheet}
use Rattle.sheet.proofs.AnyOrder.{one_kept}
use Rattle.sheet_answer.specs.Solve.{printed, answer_text, solve_of}
use Rattle.sheet_answer.specs.Theorems.{Accepted, AcceptedInAnyOrder}

in_order_lem : (cs ds : List (List ℕ)) → AllWhole cs → Permᴰ cs ds → length (join_all cs) ≤ 65536 → ReadWhole (join_all cs) → printed (join_all ds) ≡ printed (join_all cs)
unfolding printed
in_order_lem cs ds w p h r =
    let q = same_sheet cs ds w p r in
    simp (le-ltb 65536 (length (join_all cs)) h, le-ltb 65536 (length (join_all ds)) (omega (arith, q.1))) (ap answer_text q.0)

-- Whole lines of which none is refused (no 1, 9, 10, 8) print the same in any order; also where the sheet is refused later.
pub whole_lines_in_any_order : (cs ds : List (List ℕ)) → AllWhole cs → Perm cs ds → length (join_all cs) ≤ 65536 → ReadWhole (join_all cs) → printed (join_all ds) ≡ printed (join_all cs)
whole_lines_in_any_order cs ds w p h r =
    ∥∥₁_elim p (is_set ℕ_set (printed (join_all ds)) (printed (join_all cs))) (λ d. in_order_lem cs ds w d h r)

-- ---- an accepted sheet

module _ (s : List ℕ) (a : Accepted s) where
  read : ReadWhole s
  read = one_kept s a.sound a.is

  parts : AllWhole (texts (lines_of s)) × (s ≡ join_all (texts (lines_of s)))
  parts = in_lines s (read_well s read)

  prints : (ds : List (List ℕ)) → Perm (texts (lines_of s)) ds → printed (join_all ds) ≡ printed s
  prints ds p =
      let joined = parts.1 in
      whole_lines_in_any_order (texts (lines_of s)) ds parts.0 p (subst (λ (z : List ℕ). length z ≤ 65536) joined a.short) (subst ReadWhole joined read) ∙ ap printed (sym joined)

  solves : (ds : List (List ℕ)) → Perm (texts (lines_of s)) ds → (out : List ℕ) → solve_of (join_all ds) out ≡ solve_of s out
  unfolding solve_of
  solves ds p out = rw (prints ds p)

pub accepted_in_any_order : (s : List ℕ) → AcceptedInAnyOrder s
accepted_in_any_order s a =
    record {
      lines = texts (lines_of s);
      whole = (parts s a).0;
      joined = (parts s a).1;
      only = λ cs w e. one_way cs (texts (lines_of s)) w (parts s a).0 (sym e ∙ (parts s a).1);
      prints = prints s a;
      solves = solves s a;
    }
