-- With room for the longest sheet the writer's 8 never occurs. Assumes nothing.
use Rattle.std.specs.Prelude.{Err, Ok, Result}
use Rattle.answer.specs.declared.Refusal.{Refusal}
use Prim.Native.Nat.{ℕ, ◌≤◌}
use mathlib.Core.Path.{◌≡◌, refl, sym}
use mathlib.Core.Bool.{Bool, true, false, cond}
use mathlib.Core.List.{List}
use native.Mathlib.Omega.{arith}
use lib.ListN.{length}
use lib.Dec.{ltb, eqb}
use borrow.Author.Tests.{le-ltb}
use Rattle.answer.specs.Seen.{Seen, answered, refused}
use Rattle.lists.specs.Lists.{flat}
use Rattle.sheet.specs.Reading.{lead_of, Sound, sheet_of}
use Rattle.sheet.specs.ReadTwo.{SoundTwo, sheet_two}
use Rattle.sheet_written.specs.Written.{written_text}
use Rattle.sheet_written.specs.WrittenTwo.{written_two, write_two_of}
use Rattle.sheet_written.specs.Write.{Outcome, write_asked, laid_in, write_after, write_of}
use Rattle.sheet_written.proofs.Cases.{fine}
use Rattle.sheet_written.proofs.Back.{bytes_few, two_few}
use Rattle.sheet_rewritten.specs.Rewrite.{box_of}
use Rattle.sheet_moved.specs.Moved.{back, to_one_of, forth, to_two_of}
use Rattle.sheet_moved.specs.Whole.{seen_text, forth_text, moved_two, back_text, moved_one, laid_whole, TwoWhole, OneWhole}

module _ (out : List ℕ) where
  laid : (text : List ℕ) → length text ≤ length out → laid_in text out ≡ laid_whole (answered text) out
  unfolding laid_in
  laid text h = rw (le-ltb (length out) (length text) h)

  after : (d : Result (Unit {0}) Refusal) (text : List ℕ) → (d ≡ Ok tt → length text ≤ length out) → write_after d text out ≡ laid_whole (seen_text d text) out
  after (Err r) text h = refl
  after (Ok tt) text h = laid text (h refl)

  -- of two outcomes
  either : (b : Bool) (x x' : Outcome) (y y' : Seen (List ℕ)) → x ≡ laid_whole y out → x' ≡ laid_whole y' out → cond b x x' ≡ laid_whole (cond b y y') out
  either true x x' y y' p q = p
  either false x x' y y' p q = q

  forth_whole : 51243 ≤ length out → (x : Seen Sound) → forth x out ≡ laid_whole (forth_text x) out
  unfolding write_two_of
  forth_whole h (answered a) =
      after (write_asked (box_of a) a.coords (flat a.rows)) (written_two (box_of a) a.coords (flat a.rows))
      (λ e. omega (arith, h, two_few (box_of a) a.coords (flat a.rows) (fine (box_of a) a.coords (flat a.rows) (sym e))))
  forth_whole h (refused n p) = refl

  back_whole : 43049 ≤ length out → (x : Seen SoundTwo) → back x out ≡ laid_whole (back_text x) out
  unfolding write_of
  back_whole h (answered a) =
      let wrote = after (write_asked (box_of a.sound) a.sound.coords (flat a.sound.rows)) (written_text (box_of a.sound) a.sound.coords (flat a.sound.rows)) (λ e. omega (arith, h, bytes_few (box_of a.sound) a.sound.coords (flat a.sound.rows) (fine (box_of a.sound) a.sound.coords (flat a.sound.rows) (sym e)))) in
      either (eqb a.rule 1) _ _ _ _ (either (ltb (lead_of 0 a.species) a.sound.head.atoms) _ _ _ _ refl wrote) refl
  back_whole h (refused n p) = refl

pub two_whole : (s out : List ℕ) → TwoWhole s out
unfolding to_two_of moved_two
two_whole s out h = either out (ltb 65536 (length s)) _ _ _ _ refl (forth_whole out h (sheet_of s))

pub one_whole : (s out : List ℕ) → OneWhole s out
unfolding to_one_of moved_one
one_whole s out h = either out (ltb 65536 (length s)) _ _ _ _ refl (back_whole out h (sheet_two s))
