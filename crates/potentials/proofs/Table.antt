-- The remembered numbers: a row that is read is what its key's species give (`hit`), a row that is made anew keeps the table right (`renewed`), and a table of the one key 0 is right (`begun`). Assumes nothing.
use Rattle.std.specs.Prelude.{Option}
use Rattle.potentials_pair.specs.Pull.{Pull}
use mathlib.Core.Path.{◌≡◌, refl, sym, ap, ap₂, ◌∙◌, subst}
use mathlib.Core.Logic.{⊎_elim}
use mathlib.Core.List.{List}
use Prim.Native.Nat.{ℕ, ◌+◌, ◌*◌, ◌^◌, ◌<◌, ◌≤◌}
use native.Mathlib.Omega.{arith}
use lib.Ieee.{Float, nan}
use lib.ListN.{length, get_or, set, length-set}
use lib.Seq.{get_or-set_same, get_or-set_other}
use Rattle.float.specs.Arith.{at}
use Rattle.lists.proofs.Cases.{same_or}
use Rattle.lists.proofs.Rows.{set_three, three_length, three_first, three_second, three_third, three_other}
use Rattle.cell.specs.declared.Vec3.{Vec3}
use Rattle.potentials_pair.specs.declared.Lj.{Lj}
use Rattle.potentials_pair.specs.declared.Numbers.{Numbers}
use Rattle.potentials_pair.specs.Lj.{mix_of, lj_near}
use Rattle.potentials_pair.specs.Once.{near_by}
use Rattle.potentials_pair.specs.Species.{Tables, look_by}
use Rattle.potentials_pair.proofs.Once.{near_numbers}
use Rattle.potentials.specs.Steps.{numbers_for, slot_of, row_on, Kept, Renewed, BlankKeys, FirstRow}

-- two species have one key
same_key : (y z y' z' : ℕ) → z < 2 ^ 32 → z' < 2 ^ 32 → y * 2 ^ 32 + z ≡ y' * 2 ^ 32 + z' → (y ≡ y') × (z ≡ z')
same_key y z y' z' a b e = (omega arith, omega arith)

module _ (lj : Lj) (tab : Tables) where
  module _ (atoms : List ℕ) (room : List Float) (K : Kept lj tab atoms room) (y z s k : ℕ) (a : y < 2 ^ 32) (b : z < 2 ^ 32) (l : s ≡ slot_of y z) (h : k ≡ y * 2 ^ 32 + z) where
    pub hit : get_or atoms (128 + s) 0 ≡ k → row_on room s ≡ numbers_for lj tab y z
    hit e = subst (λ (i : ℕ). row_on room i ≡ numbers_for lj tab y z) (sym l) (K.right y z a b (ap (λ (i : ℕ). get_or atoms (128 + i) 0) (sym l) ∙ e ∙ h))

    module _ (n : Numbers) (e : n ≡ numbers_for lj tab y z) where
      abbrev atoms' : List ℕ
      atoms' = set atoms (128 + s) k

      abbrev room' : List Float
      room' = set_three room (171 + s) n.depth n.square n.shift

      here : row_on room' s ≡ n
      here =
          let w : 3 * (171 + s) + 2 < length room = omega (arith, K.block.room561, l) in
          rw (
            three_first nan room (171 + s) n.depth n.square n.shift w,
            three_second nan room (171 + s) n.depth n.square n.shift w,
            three_third nan room (171 + s) n.depth n.square n.shift w,
          )

      other : (j : ℕ) → (j ≡ s → ⊥) → row_on room' j ≡ row_on room j
      other j w =
          rw (
            three_other nan room (171 + s) n.depth n.square n.shift (3 * (171 + j)) (λ q. w (omega (arith, q))) (λ q. omega (arith, q)) (λ q. omega (arith, q)),
            three_other nan room (171 + s) n.depth n.square n.shift (3 * (171 + j) + 1) (λ q. omega (arith, q)) (λ q. w (omega (arith, q))) (λ q. omega (arith, q)),
            three_other nan room (171 + s) n.depth n.square n.shift (3 * (171 + j) + 2) (λ q. omega (arith, q)) (λ q. omega (arith, q)) (λ q. w (omega (arith, q))),
          )

      at_row : (y' z' : ℕ) → y' < 2 ^ 32 → z' < 2 ^ 32 → get_or atoms' (128 + slot_of y' z') 0 ≡ y' * 2 ^ 32 + z' → row_on room' (slot_of y' z') ≡ numbers_for lj tab y' z'
      at_row y' z' p q r =
          ⊎_elim
          (λ (w : slot_of y' z' ≡ s).
          let m : y * 2 ^ 32 + z ≡ y' * 2 ^ 32 + z' = sym h ∙ sym (get_or-set_same atoms (128 + s) k 0 (omega (arith, K.block.atoms144, l))) ∙ ap (λ (i : ℕ). get_or atoms' (128 + i) 0) (sym w) ∙ r in
          let same = same_key y z y' z' b q m in
          ap (λ (i : ℕ). row_on room' i) w ∙ here ∙ e ∙ ap₂ (λ (i j : ℕ). numbers_for lj tab i j) same.0 same.1)
          (λ (w : slot_of y' z' ≡ s → ⊥).
          other (slot_of y' z') w ∙ K.right y' z' p q (sym (get_or-set_other atoms (128 + s) (128 + slot_of y' z') k 0 (λ i. w (omega (arith, i)))) ∙ r))
          (same_or (slot_of y' z') s)

      pub renewed : Renewed lj tab atoms atoms' room room'
      renewed =
          record {
            kept =
                record {
                  block =
                      record {
                        atoms144 = length-set atoms (128 + s) k ∙ K.block.atoms144;
                        room561 = three_length nan room (171 + s) n.depth n.square n.shift ∙ K.block.room561;
                      };
                  right = at_row;
                };
            same_atoms = λ j p. get_or-set_other atoms (128 + s) j k 0 (λ q. omega (arith, q, p));
            same_room = λ j p. three_other nan room (171 + s) n.depth n.square n.shift j (λ q. omega (arith, q, p)) (λ q. omega (arith, q, p)) (λ q. omega (arith, q, p));
          }

  pub unchanged : (atoms : List ℕ) (room : List Float) → Kept lj tab atoms room → Renewed lj tab atoms atoms room room
  unchanged atoms room K = record { kept = K; same_atoms = λ k p. refl; same_room = λ k p. refl }

  -- keys and rows as they were
  pub kept_as : {atoms atoms' : List ℕ} {room room' : List Float} → Kept lj tab atoms room → length atoms' ≡ length atoms → length room' ≡ length room
      → ((k : ℕ) → 128 ≤ k → get_or atoms' k 0 ≡ get_or atoms k 0) → ((k : ℕ) → 513 ≤ k → at room' k ≡ at room k) → Kept lj tab atoms' room'
  kept_as K x y f g =
      record {
        block = record { atoms144 = x ∙ K.block.atoms144; room561 = y ∙ K.block.room561 };
        right =
            λ i j p q e. rw (
              g (3 * (171 + slot_of i j)) (omega arith),
              g (3 * (171 + slot_of i j) + 1) (omega arith),
              g (3 * (171 + slot_of i j) + 2) (omega arith),
            )
            (K.right i j p q (sym (f (128 + slot_of i j) (omega arith)) ∙ e));
      }

  -- what is remembered of two species gives the formula over their mixed numbers
  pub near_for : (y z : ℕ) {n : Numbers} → n ≡ numbers_for lj tab y z → (d : Vec3) (r2 : Float) {r : Option Pull} → r ≡ near_by lj.shift n d r2 → r ≡ lj_near lj (mix_of lj.rule (look_by tab lj y) (look_by tab lj z)) d r2
  unfolding numbers_for
  near_for y z e d r2 q = q ∙ ap (λ (a : Numbers). near_by lj.shift a d r2) e ∙ near_numbers lj (mix_of lj.rule (look_by tab lj y) (look_by tab lj z)) d r2

  pub first_row : (room : List Float) → length room ≡ 561 → {n : Numbers} → n ≡ numbers_for lj tab 0 0 → FirstRow lj tab (set_three room 171 n.depth n.square n.shift)
  first_row room l {n} e =
      let w : 3 * 171 + 2 < length room = omega (arith, l) in
      record {
        room561 = three_length nan room 171 n.depth n.square n.shift ∙ l;
        right =
            rw (
              three_first nan room 171 n.depth n.square n.shift w,
              three_second nan room 171 n.depth n.square n.shift w,
              three_third nan room 171 n.depth n.square n.shift w,
            )
            e;
      }

  pub begun : (atoms : List ℕ) (room : List Float) → BlankKeys atoms → FirstRow lj tab room → Kept lj tab atoms room
  begun atoms room A R =
      record {
        block = record { atoms144 = A.atoms144; room561 = R.room561 };
        right =
            λ y z p q e.
            let m : y * 2 ^ 32 + z ≡ 0 = sym e ∙ A.zero (128 + slot_of y z) (omega arith) in
            let ey : 0 ≡ y = omega (arith, m) in
            let ez : 0 ≡ z = omega (arith, m) in
            subst (λ (i : ℕ). row_on room (slot_of i z) ≡ numbers_for lj tab i z) ey (subst (λ (j : ℕ). row_on room (slot_of 0 j) ≡ numbers_for lj tab 0 j) ez R.right);
      }
