-- What the machine's tests of an i32 say of a step, which is -1, 0 or 1. Assumes nothing.
use Rattle.std.specs.Prelude.{Option}
use mathlib.Core.Path.{◌≡◌, refl, sym, ap, ◌∙◌, subst}
use mathlib.Core.Logic.{◌⊎◌, inl, inr, ⊎_elim}
use mathlib.Core.List.{List, []}
use mathlib.Core.Bool.{Bool, true, false, true≢false, false≢true}
use Prim.Native.Nat.{ℕ, zero, suc, ◌≤◌, ◌<◌}
use native.Mathlib.Omega.{arith}
use lib.Dec.{leb}
use lib.ListN.{length, get_or, get_or-eq_default}
use borrow.Author.Tests.{leb-true}
use Rattle.lists.specs.Lists.{every}
use Rattle.lists.proofs.Cases.{below_or}
use Rattle.lists.proofs.Walks.{every_at}
use lib.IntN.{ℤ, pos, negsuc}
use lib.Signed.{lt_z}
use mir.Syntax.{w32}
use mir.Val.{to_z, of_z}
use Rattle.bins.specs.declared.Axis.{Axis}
use Rattle.bins.specs.Axis.{stepped}
use Rattle.bins.specs.Stencil.{offset, half_stencil, UnitStep}
use Rattle.bins.proofs.AxisLaws.{Dir, back, stay, on, sign}
use Rattle.bins.proofs.StencilLaws.{way, offset_dir}

pub is_stay : (d : ℤ) → UnitStep d → of_z w32 d ≡ 0 → d ≡ pos 0
is_stay d (inl e) h = let z : ◌≡◌ {A = ℕ} 4294967295 0 = sym (ap (of_z w32) e) ∙ h in absurd (omega arith)
is_stay d (inr (inl e)) h = e
is_stay d (inr (inr e)) h = let z : ◌≡◌ {A = ℕ} 1 0 = sym (ap (of_z w32) e) ∙ h in absurd (omega arith)

test : ℤ → Bool
test d = lt_z (to_z w32 (of_z w32 d)) (pos 0)

pub is_back : (d : ℤ) → UnitStep d → lt_z (to_z w32 (of_z w32 d)) (pos 0) ≡ true → d ≡ negsuc 0
unfolding test
is_back d (inl e) h = e
is_back d (inr (inl e)) h = absurd (false≢true (sym (ap test e) ∙ h))
is_back d (inr (inr e)) h = absurd (false≢true (sym (ap test e) ∙ h))

pub is_on : (d : ℤ) → UnitStep d → (of_z w32 d ≡ 0 → ⊥) → lt_z (to_z w32 (of_z w32 d)) (pos 0) ≡ false → d ≡ pos 1
unfolding test
is_on d (inl e) n h = absurd (true≢false (sym (ap test e) ∙ h))
is_on d (inr (inl e)) n h = absurd (n (ap (of_z w32) e))
is_on d (inr (inr e)) n h = e

-- a step, as an i32 holds it
pub same_i32 : (d : ℤ) → UnitStep d → to_z w32 (of_z w32 d) ≡ d
same_i32 d (inl e) = ap (λ (t : ℤ). to_z w32 (of_z w32 t)) e ∙ sym e
same_i32 d (inr (inl e)) = ap (λ (t : ℤ). to_z w32 (of_z w32 t)) e ∙ sym e
same_i32 d (inr (inr e)) = ap (λ (t : ℤ). to_z w32 (of_z w32 t)) e ∙ sym e

small_dir : (d : Dir) (z : ℤ) → z ≡ sign d → UnitStep z
small_dir back z e = inl e
small_dir stay z e = inr (inl e)
small_dir on z e = inr (inr e)

-- past the rows, or past an axis, there is no step
short : List ℤ → Bool
short r = leb (length r) 3

rows_short : (s : ℕ) → length (get_or half_stencil s []) ≤ 3
unfolding half_stencil every short
rows_short s =
    ⊎_elim (λ (h : s < 14). leb-true (length (get_or half_stencil s [])) 3 (every_at [] short half_stencil refl s h))
    (λ (h : 14 ≤ s). rw (get_or-eq_default half_stencil [] {n = s} h) (omega arith)) (below_or s 14)

pub offset_past : (s k : ℕ) → (14 ≤ s) ⊎ (3 ≤ k) → offset s k ≡ pos 0
unfolding offset half_stencil
offset_past s k (inl h) = rw (get_or-eq_default half_stencil [] {n = s} h)
offset_past s k (inr h) = get_or-eq_default (get_or half_stencil s []) (pos 0) (omega (arith, rows_short s))

row_small : (s k : ℕ) → s < 14 → UnitStep (offset s k)
row_small s zero h = small_dir (way s).x (offset s 0) (offset_dir s h).0
row_small s (suc zero) h = small_dir (way s).y (offset s 1) (offset_dir s h).1
row_small s (suc (suc zero)) h = small_dir (way s).z (offset s 2) (offset_dir s h).2
row_small s (suc (suc (suc k))) h = inr (inl (offset_past s (suc (suc (suc k))) (inr (omega arith))))

pub offset_small : (s k : ℕ) → UnitStep (offset s k)
offset_small s k = ⊎_elim (λ h. row_small s k h) (λ h. inr (inl (offset_past s k (inl h)))) (below_or s 14)

-- the step that `step_of` gave, as `step_on` takes it
pub passed : (s k : ℕ) {r : ℤ} → r ≡ offset s k → to_z w32 (of_z w32 r) ≡ offset s k
passed s k e = ap (λ (t : ℤ). to_z w32 (of_z w32 t)) e ∙ same_i32 (offset s k) (offset_small s k)

pub passed_small : (s k : ℕ) {r : ℤ} → r ≡ offset s k → UnitStep (to_z w32 (of_z w32 r))
passed_small s k e = subst (λ (t : ℤ). UnitStep t) (sym (passed s k e)) (offset_small s k)

pub step_is : (a : Axis) (c s k : ℕ) {r : ℤ} {b o : Option ℕ} → r ≡ offset s k → b ≡ stepped a c (to_z w32 (of_z w32 r)) → b ≡ o → stepped a c (offset s k) ≡ o
step_is a c s k e f g = ap (λ (t : ℤ). stepped a c t) (sym (passed s k e)) ∙ sym f ∙ g
