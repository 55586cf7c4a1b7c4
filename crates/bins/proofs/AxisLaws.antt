-- One axis: touching is being one step of -1, 0 or 1 apart, and the step is the only one. Assumes nothing.
use Rattle.std.specs.Prelude.{Option, None, Some}
use mathlib.Core.Path.{◌≡◌, refl, sym, ap, ◌∙◌, subst}
use mathlib.Core.Logic.{◌⊎◌, inl, inr, ⊎_elim}
use mathlib.Core.Bool.{Bool, true, false, cond, ◌&&◌, false≢true}
use Prim.Native.Nat.{ℕ, ◌+◌, ◌-◌, ◌%◌, ◌≤◌, ◌<◌}
use native.Mathlib.Omega.{arith}
use native.Mathlib.Nat.{mod-eq_of_lt, mod_self, zero-mod, add-zero}
use borrow.Author.Tests.{eqb-true, lt-ltb, le-ltb, eq-eqb}
use lib.Dec.{eqb, ltb}
use lib.IntN.{ℤ, pos, negsuc}
use Rattle.bins.specs.declared.Axis.{Axis}
use Rattle.bins.specs.Axis.{Good, touch, rem_euclid, bin_within, stepped, follows}
use Rattle.lists.proofs.Cases.{below_or, or_cases, or_left, or_right, and_both, both_and}

-- the three steps
pub data Dir : Type 0 where
  back : Dir
  stay : Dir
  on : Dir

abbrev pub sign : Dir → ℤ
sign back = negsuc 0
sign stay = pos 0
sign on = pos 1

abbrev pub turned : Dir → Dir
turned back = on
turned stay = stay
turned on = back

-- b is the bin follows a
abbrev pub After : Axis → ℕ → ℕ → Type 0
After ax a b = (b ≡ a + 1) ⊎ ((ax.round ≡ true) × (a + 1 ≡ ax.size) × (b ≡ 0))

-- the step d leads from a to b
abbrev pub Leads : Axis → Dir → ℕ → ℕ → Type 0
Leads ax back a b = After ax b a
Leads ax stay a b = a ≡ b
Leads ax on a b = After ax a b

pub leads_turned : (ax : Axis) (d : Dir) (a b : ℕ) → Leads ax d a b → Leads ax (turned d) b a
leads_turned ax back a b h = h
leads_turned ax stay a b h = sym h
leads_turned ax on a b h = h

-- ---- the tests
pub after_After : (ax : Axis) (a b : ℕ) → follows ax a b ≡ true → After ax a b
unfolding follows
after_After ax a b h =
    ⊎_elim (λ e. inl (eqb-true b (a + 1) e))
    (λ e.
    let p = and_both ax.round (eqb (a + 1) ax.size && eqb b 0) e in
    let q = and_both (eqb (a + 1) ax.size) (eqb b 0) p.1 in
    inr (p.0, eqb-true _ _ q.0, eqb-true _ _ q.1))
    (or_cases (eqb b (a + 1)) _ h)

pub After-after : (ax : Axis) (a b : ℕ) → After ax a b → follows ax a b ≡ true
unfolding follows
After-after ax a b (inl e) = or_left _ _ (eq-eqb b (a + 1) e)
After-after ax a b (inr e) = or_right (eqb b (a + 1)) _ (both_and _ _ e.0 (both_and _ _ (eq-eqb _ _ e.1) (eq-eqb _ _ e.2)))

pub touch_Leads : (ax : Axis) (a b : ℕ) → touch ax a b ≡ true → (d : Dir) × Leads ax d a b
unfolding touch
touch_Leads ax a b h =
    ⊎_elim (λ e. (stay, eqb-true a b e))
    (λ e. ⊎_elim (λ f. (on, after_After ax a b f)) (λ f. (back, after_After ax b a f)) (or_cases (follows ax a b) _ e))
    (or_cases (eqb a b) _ h)

pub Leads-touch : (ax : Axis) (a b : ℕ) (d : Dir) → Leads ax d a b → touch ax a b ≡ true
unfolding touch
Leads-touch ax a b back h = or_right (eqb a b) _ (or_right (follows ax a b) _ (After-after ax b a h))
Leads-touch ax a b stay h = or_left _ _ (eq-eqb a b h)
Leads-touch ax a b on h = or_right (eqb a b) _ (or_left _ (follows ax b a) (After-after ax a b h))

-- ---- the only step
off : (ax : Axis) → Good ax → (a b : ℕ) → After ax a b → a ≡ b → ⊥
off ax g a b (inl p) e = omega arith
off ax g a b (inr p) e = let s = g.1 p.0 in omega arith

apart : (ax : Axis) → Good ax → (a b : ℕ) → After ax a b → After ax b a → ⊥
apart ax g a b (inl p) (inl q) = omega arith
apart ax g a b (inl p) (inr q) = let s = g.1 q.0 in omega arith
apart ax g a b (inr p) (inl q) = let s = g.1 p.0 in omega arith
apart ax g a b (inr p) (inr q) = let s = g.1 p.0 in omega arith

pub only_step : (ax : Axis) → Good ax → (a b : ℕ) (d e : Dir) → Leads ax d a b → Leads ax e a b → d ≡ e
only_step ax g a b back back p q = refl
only_step ax g a b back stay p q = absurd (off ax g b a p (sym q))
only_step ax g a b back on p q = absurd (apart ax g a b q p)
only_step ax g a b stay back p q = absurd (off ax g b a q (sym p))
only_step ax g a b stay stay p q = refl
only_step ax g a b stay on p q = absurd (off ax g a b q p)
only_step ax g a b on back p q = absurd (apart ax g a b p q)
only_step ax g a b on stay p q = absurd (off ax g a b p q)
only_step ax g a b on on p q = refl

-- ---- where a step leads
pub off_is : (b : ℕ) → None ≡ Some b → ⊥
off_is b e = let z : ◌≡◌ {A = ℕ} 0 1 = cc in omega arith

abbrev axis : ℕ → Bool → Axis
axis n r = record { size = n; round = r }

either : (t : Bool) → ◌≡◌ {A = Option ℕ} (cond t None None) None
either true = refl
either false = refl

module _ (n a : ℕ) where
  on_in : (r : Bool) → a + 1 < n → stepped (axis n r) a (pos 1) ≡ Some (a + 1)
  unfolding stepped rem_euclid bin_within
  on_in true h = rw (lt-ltb a n (omega arith)) (ap Some (mod-eq_of_lt h))
  on_in false h = rw (lt-ltb a n (omega arith), lt-ltb (a + 1) n h) refl

  on_last : a + 1 ≡ n → stepped (axis n true) a (pos 1) ≡ Some 0
  unfolding stepped rem_euclid
  on_last e = rw (lt-ltb a n (omega arith)) (ap Some (ap (λ (k : ℕ). k % n) e ∙ mod_self n))

  on_out : n ≤ a + 1 → stepped (axis n false) a (pos 1) ≡ None
  unfolding stepped bin_within
  on_out h = rw (le-ltb (a + 1) n h) (either (ltb a n))

  stay_in : (r : Bool) → a < n → stepped (axis n r) a (pos 0) ≡ Some a
  unfolding stepped rem_euclid bin_within
  stay_in true h = rw (lt-ltb a n h) (ap Some (rw (add-zero a) (mod-eq_of_lt h)))
  stay_in false h = rw (lt-ltb a n h) (rw (add-zero a) (rw (lt-ltb a n h) refl))

  back_in : (r : Bool) → 1 ≤ a → a < n → stepped (axis n r) a (negsuc 0) ≡ Some (a - 1)
  unfolding stepped rem_euclid bin_within
  back_in true p h = rw (lt-ltb a n h) (rw (le-ltb a 1 p) (ap Some (mod-eq_of_lt (omega arith))))
  back_in false p h = rw (lt-ltb a n h) (rw (le-ltb a 1 p) (rw (lt-ltb (a - 1) n (omega arith)) refl))

back_first : (n a : ℕ) → a < n → a ≡ 0 → stepped (axis n true) a (negsuc 0) ≡ Some (n - 1)
unfolding stepped rem_euclid
back_first n a h e = rw (lt-ltb a n h) (rw e (ap Some (omega (arith, zero-mod n))))

back_out : (n a : ℕ) → a ≡ 0 → stepped (axis n false) a (negsuc 0) ≡ None
unfolding stepped bin_within
back_out n a e = rw e (either (ltb 0 n))

-- a step leads to b exactly where `stepped` says so
pub stepped_Leads : (ax : Axis) (d : Dir) (a b : ℕ) → a < ax.size → stepped ax a (sign d) ≡ Some b → Leads ax d a b
stepped_Leads ax d a b h e = go ax.size ax.round d a b h e
  where
    on_go : (n : ℕ) (r : Bool) (a b : ℕ) → a < n → (a + 1 < n) ⊎ (n ≤ a + 1) → stepped (axis n r) a (pos 1) ≡ Some b → After (axis n r) a b
    on_go n r a b h (inl k) e = let f = on_in n a r k in inl (cc)
    on_go n true a b h (inr k) e = let f = on_last n a (omega arith) in inr (refl, omega arith, cc)
    on_go n false a b h (inr k) e = let f = on_out n a k in absurd (off_is b (sym f ∙ e))

    back_go : (n : ℕ) (r : Bool) (a b : ℕ) → a < n → (0 < a) ⊎ (a ≤ 0) → stepped (axis n r) a (negsuc 0) ≡ Some b → After (axis n r) b a
    back_go n r a b h (inl k) e = let f = back_in n a r k h in let g : b ≡ a - 1 = cc in inl (omega arith)
    back_go n true a b h (inr k) e = let f = back_first n a h (omega arith) in let g : b ≡ n - 1 = cc in inr (refl, omega arith, omega arith)
    back_go n false a b h (inr k) e = absurd (off_is b (sym (back_out n a (omega arith)) ∙ e))

    go : (n : ℕ) (r : Bool) (d : Dir) (a b : ℕ) → a < n → stepped (axis n r) a (sign d) ≡ Some b → Leads (axis n r) d a b
    go n r back a b h e = back_go n r a b h (below_or 0 a) e
    go n r stay a b h e = let f = stay_in n a r h in (cc)
    go n r on a b h e = on_go n r a b h (below_or (a + 1) n) e

pub Leads-stepped : (ax : Axis) (d : Dir) (a b : ℕ) → a < ax.size → b < ax.size → Leads ax d a b → stepped ax a (sign d) ≡ Some b
Leads-stepped ax d a b h k l = go ax.size ax.round d a b h k l
  where
    go : (n : ℕ) (r : Bool) (d : Dir) (a b : ℕ) → a < n → b < n → Leads (axis n r) d a b → stepped (axis n r) a (sign d) ≡ Some b
    go n r back a b h k (inl e) = back_in n a r (omega arith) h ∙ ap Some (omega arith)
    go n true back a b h k (inr e) = back_first n a h e.2 ∙ ap Some (omega arith)
    go n false back a b h k (inr e) = absurd (false≢true e.0)
    go n r stay a b h k e = stay_in n a r h ∙ ap Some e
    go n r on a b h k (inl e) = on_in n a r (omega arith) ∙ ap Some (sym e)
    go n true on a b h k (inr e) = on_last n a e.1 ∙ ap Some (sym e.2)
    go n false on a b h k (inr e) = absurd (false≢true e.0)

-- ---- the eight ways of a step, for the code
module _ (a : Axis) (c : ℕ) where
  pub step_stay : c < a.size → stepped a c (pos 0) ≡ Some c
  step_stay h = stay_in a.size c a.round h

  pub step_on : c + 1 < a.size → stepped a c (pos 1) ≡ Some (c + 1)
  step_on h = on_in a.size c a.round h

  pub step_on_last : c < a.size → a.size ≤ c + 1 → a.round ≡ true → stepped a c (pos 1) ≡ Some 0
  step_on_last h k t = subst (λ (r : Bool). stepped (axis a.size r) c (pos 1) ≡ Some 0) (sym t) (on_last a.size c (omega arith))

  pub step_on_off : a.size ≤ c + 1 → a.round ≡ false → stepped a c (pos 1) ≡ None
  step_on_off k t = subst (λ (r : Bool). stepped (axis a.size r) c (pos 1) ≡ None) (sym t) (on_out a.size c k)

  pub step_back : 0 < c → c < a.size → stepped a c (negsuc 0) ≡ Some (c - 1)
  step_back k h = back_in a.size c a.round k h

  pub step_back_first : c < a.size → c ≤ 0 → a.round ≡ true → stepped a c (negsuc 0) ≡ Some (a.size - 1)
  step_back_first h k t = subst (λ (r : Bool). stepped (axis a.size r) c (negsuc 0) ≡ Some (a.size - 1)) (sym t) (back_first a.size c h (omega arith))

  pub step_back_off : c ≤ 0 → a.round ≡ false → stepped a c (negsuc 0) ≡ None
  step_back_off k t = subst (λ (r : Bool). stepped (axis a.size r) c (negsuc 0) ≡ None) (sym t) (back_out a.size c (omega arith))

  pub step_none : a.size ≤ c → (d : ℤ) → stepped a c d ≡ None
  unfolding stepped
  step_none h d = rw (le-ltb c a.size h) refl
