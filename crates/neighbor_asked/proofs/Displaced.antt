-- Whether an atom has strayed, by the squares of its displacement's images on the axes of a box. Assumes nothing.
use Prim.Native.Nat.{ℕ, ◌+◌, ◌-◌, ◌*◌, ◌<◌}
use native.Mathlib.Omega.{arith}
use mathlib.Core.Path.{◌≡◌, refl, sym, ap, ◌∙◌, subst}
use mathlib.Core.Bool.{Bool, true, false, not, ◌&&◌, true≢false}
use mathlib.Core.List.{List, [], ◌∷◌}
use lib.Ieee.{Float, lt, le}
use borrow.Author.Tests.{not-true}
use Rattle.lists.specs.Lists.{every, some, numbers}
use Rattle.lists.proofs.Cases.{neither_or}
use Rattle.lists.proofs.Walks.{every_at, none_at}
use Rattle.lists.proofs.Exactness.{numbers_at, length_numbers}
use Rattle.float.specs.Arith.{◌⊕◌, ◌⊖◌, ◌⊗◌, at}
use Rattle.float.specs.Def.{abs_of}
use Rattle.float.proofs.Branches.{both_true}
use Rattle.ranges.specs.Ranged.{within}
use Rattle.cell_axis.specs.Image.{nearest_of}
use Rattle.cell_axis.proofs.Law.{bounded}
use Rattle.cell_square.specs.Square.{square, SideSays}
use Rattle.cell_square.proofs.Least.{Gapped, sums_keep}
use Rattle.cell.specs.declared.Vec3.{Vec3}
use Rattle.cell.specs.Vec.{sub_of, norm2_of, position_at}
use Rattle.cell.proofs.Order.{lt_not_ge}
use Rattle.cell_prepared.specs.declared.Prepared.{Prepared}
use Rattle.cell_prepared.specs.Facts.{huge, short_axis, is_short, short_image, diff_in, image_in}
use Rattle.neighbor_asked.proofs.Nearby.{unless}
use Rattle.neighbor_asked.specs.Strays.{strayed, in_box, still, Held, RoomySays, SmallEnough, EnoughSays}

squared : (len x : Float) → lt len huge ≡ true → nearest_of len x ⊗ nearest_of len x ≡ short_axis len x ⊗ short_axis len x
unfolding short_axis
squared len x h = rw (bounded len huge h)

norm2_by : (u v : Vec3) → u.x ⊗ u.x ≡ v.x ⊗ v.x → u.y ⊗ u.y ≡ v.y ⊗ v.y → u.z ⊗ u.z ≡ v.z ⊗ v.z → norm2_of u ≡ norm2_of v
unfolding norm2_of
norm2_by u v p q r = λ i. p i ⊕ q i ⊕ r i

strays_short : (p : Prepared) (limit : Float) (a b : Vec3) → is_short p.short (sub_of a b) ≡ true → lt limit (norm2_of (short_image p.short (sub_of a b))) ≡ strayed p limit a b
unfolding strayed image_in diff_in
strays_short p limit a b h = rw h

pub strays_in_box : (p : Prepared) (limit : Float) (a b : Vec3) {r : Bool} {x y z q : Float} → r ≡ in_box p.short a b → r ≡ true
    → SideSays p.short.x a.x b.x x → SideSays p.short.y a.y b.y y → SideSays p.short.z a.z b.z z → q ≡ norm2_of (record { x = x; y = y; z = z }) → lt limit q ≡ strayed p limit a b
strays_in_box p limit a b {r} {x} {y} {z} {q} e t nx ny nz n =
    let l : Vec3 = p.short in
    let p3 = both_true ((lt l.x huge && lt l.y huge && lt l.z huge) && lt (abs_of (a.x ⊖ b.x)) l.x && lt (abs_of (a.y ⊖ b.y)) l.y) (lt (abs_of (a.z ⊖ b.z)) l.z) (sym e ∙ t) in
    let p2 = both_true ((lt l.x huge && lt l.y huge && lt l.z huge) && lt (abs_of (a.x ⊖ b.x)) l.x) (lt (abs_of (a.y ⊖ b.y)) l.y) p3.0 in
    let p1 = both_true ((lt l.x huge && lt l.y huge && lt l.z huge)) (lt (abs_of (a.x ⊖ b.x)) l.x) p2.0 in
    let f2 = both_true (lt l.x huge && lt l.y huge) (lt l.z huge) p1.0 in
    let f1 = both_true (lt l.x huge) (lt l.y huge) f2.0 in
    let s : is_short l (sub_of a b) ≡ true = rw (p1.1, p2.1, p3.1) in
    ap (λ (v : Float). lt limit v)
    (n
    ∙ norm2_by (record { x = x; y = y; z = z }) (short_image l (sub_of a b))
    (nx.image true p1.1 (bounded l.x huge f1.0) ∙ squared l.x (a.x ⊖ b.x) f1.0)
    (ny.image true p2.1 (bounded l.y huge f1.1) ∙ squared l.y (a.y ⊖ b.y) f1.1)
    (nz.image true p3.1 (bounded l.z huge f2.1) ∙ squared l.z (a.z ⊖ b.z) f2.1))
    ∙ strays_short p limit a b s

-- ---- the walk without a branch
where_true : (r : Bool) {s t : Bool} → (r ≡ true → s ≡ t) → (r && s) ≡ (r && t)
where_true true f = f refl
where_true false f = refl

pub still_in_box : (p : Prepared) (limit : Float) (a b : Vec3) {r : Bool} {x y z q : Float} → r ≡ in_box p.short a b
    → SideSays p.short.x a.x b.x x → SideSays p.short.y a.y b.y y → SideSays p.short.z a.z b.z z → q ≡ norm2_of (record { x = x; y = y; z = z }) → (r && not (lt limit q)) ≡ still p limit a b
still_in_box p limit a b {r} e nx ny nz n =
    where_true r (λ t. ap not (strays_in_box p limit a b e t nx ny nz n)) ∙ ap (λ (v : Bool). v && not (strayed p limit a b)) e

module _ (p : Prepared) (limit : Float) (a b : ℕ → Vec3) where
  none_of : (l : List ℕ) → every (λ k. still p limit (a k) (b k)) l ≡ true → some (λ k. strayed p limit (a k) (b k)) l ≡ false
  unfolding every some
  none_of [] h = refl
  none_of (k ∷ l) h =
      let u = both_true (still p limit (a k) (b k)) (every (λ k. still p limit (a k) (b k)) l) h in
      let v = both_true (in_box p.short (a k) (b k)) (not (strayed p limit (a k) (b k))) u.0 in
      neither_or (strayed p limit (a k) (b k)) (some (λ k. strayed p limit (a k) (b k)) l) (not-true (strayed p limit (a k) (b k)) v.1) (none_of l u.1)

  pub none_strays : (l : List ℕ) {r : Bool} → r ≡ every (λ k. still p limit (a k) (b k)) l → r ≡ true → false ≡ some (λ k. strayed p limit (a k) (b k)) l
  none_strays l e t = sym (none_of l (sym e ∙ t))

-- ---- without a norm
axis_up_to : (len t x : Float) → lt len huge ≡ true → Held len t x → Gapped (short_axis len x) t
unfolding short_axis
axis_up_to len t x h w = rw (bounded len huge h) (record { least = w.least; most = w.most })

kept : {g h i : Float} (t limit : Float) → Gapped g t → Gapped h t → Gapped i t → le (square t ⊕ square t ⊕ square t) limit ≡ true → le (square g ⊕ square h ⊕ square i) limit ≡ true
kept {g} {h} {i} t limit a b c e = go (le (square g ⊕ square h ⊕ square i) limit) refl
  where
    go : (o : Bool) → le (square g ⊕ square h ⊕ square i) limit ≡ o → o ≡ true
    go true q = refl
    go false q = absurd (true≢false (sym e ∙ sums_keep limit a b c q))

module _ (p : Prepared) (limit t : Float) where
  image_kept : (d : Vec3) → Gapped (short_axis p.short.x d.x) t → Gapped (short_axis p.short.y d.y) t → Gapped (short_axis p.short.z d.z) t
      → le (norm2_of (record { x = t; y = t; z = t })) limit ≡ true → le (norm2_of (short_image p.short d)) limit ≡ true
  unfolding norm2_of
  image_kept d x y z e = kept t limit x y z e

  not_strayed : (a b : Vec3) → lt p.short.x huge ≡ true → lt p.short.y huge ≡ true → lt p.short.z huge ≡ true
      → Held p.short.x t (a.x ⊖ b.x) → Held p.short.y t (a.y ⊖ b.y) → Held p.short.z t (a.z ⊖ b.z)
      → le (norm2_of (record { x = t; y = t; z = t })) limit ≡ true → strayed p limit a b ≡ false
  not_strayed a b fx fy fz x y z e =
      let l : Vec3 = p.short in
      let s : is_short l (sub_of a b) ≡ true = rw (x.short, y.short, z.short) in
      let k = image_kept (sub_of a b) (axis_up_to l.x t (a.x ⊖ b.x) fx x) (axis_up_to l.y t (a.y ⊖ b.y) fy y) (axis_up_to l.z t (a.z ⊖ b.z) fz z) e in
      sym (strays_short p limit a b s) ∙ unless (lt limit (norm2_of (short_image l (sub_of a b)))) (λ q. true≢false (sym k ∙ lt_not_ge limit (norm2_of (short_image l (sub_of a b))) q))

  pub enough_says : {rx ry rz : Bool} {most : Float} → RoomySays p.short.x t rx → RoomySays p.short.y t ry → RoomySays p.short.z t rz → most ≡ norm2_of (record { x = t; y = t; z = t })
      → EnoughSays p limit t (rx && ry && rz && le most limit)
  enough_says {rx} {ry} {rz} {most} x y z m =
      record {
        is = rw (x.is, y.is, z.is, m);
        so =
            λ q.
            let q3 = both_true (rx && ry && rz) (le most limit) q in
            let q2 = both_true (rx && ry) rz q3.0 in
            let q1 = both_true rx ry q2.0 in
            let l : Vec3 = p.short in
            record {
              each =
                  λ a b hx hy hz.
                  not_strayed a b (both_true (lt l.x huge) (lt t l.x) (sym x.is ∙ q1.0)).0 (both_true (lt l.y huge) (lt t l.y) (sym y.is ∙ q1.1)).0 (both_true (lt l.z huge) (lt t l.z) (sym z.is ∙ q2.1)).0
                  (x.each q1.0 a.x b.x hx) (y.each q1.1 a.y b.y hy) (z.each q2.1 a.z b.z hz) (rw (← m) q3.1);
            };
      }

-- the walk over the numbers
every_number : (q : ℕ → Bool) (f c : ℕ) → every q (numbers f c) ≡ true → (k : ℕ) → k < c → q (f + k) ≡ true
every_number q f c h k l = subst (λ (z : ℕ). q z ≡ true) (numbers_at f c k l) (every_at 0 q (numbers f c) h k (subst (λ (z : ℕ). k < z) (sym (length_numbers f c)) l))

no_number : (q : ℕ → Bool) (f c : ℕ) → ((k : ℕ) → k < c → q (f + k) ≡ false) → some q (numbers f c) ≡ false
no_number q f c h =
    none_at 0 q (numbers f c) (λ k l.
    let below : k < c = subst (λ (z : ℕ). k < z) (length_numbers f c) l in
    subst (λ (z : ℕ). q z ≡ false) (sym (numbers_at f c k below)) (h k below))

pub none_far : (p : Prepared) (limit t : Float) (xs refs : List Float) (from to : ℕ) → SmallEnough p limit t → {r : Bool} → r ≡ every (λ k. within t (at xs k ⊖ at refs k)) (numbers (3 * from) (3 * to - 3 * from)) → r ≡ true
    → false ≡ some (λ k. strayed p limit (position_at xs k) (position_at refs k)) (numbers from (to - from))
unfolding position_at
none_far p limit t xs refs from to w e q =
    sym (no_number (λ k. strayed p limit (position_at xs k) (position_at refs k)) from (to - from) (λ k l.
    w.each (position_at xs (from + k)) (position_at refs (from + k))
    (near (3 * (from + k)) (3 * k) (omega arith) (omega arith)) (near (3 * (from + k) + 1) (3 * k + 1) (omega arith) (omega arith)) (near (3 * (from + k) + 2) (3 * k + 2) (omega arith) (omega arith))))
  where
    near : (k j : ℕ) → 3 * from + j ≡ k → j < 3 * to - 3 * from → within t (at xs k ⊖ at refs k) ≡ true
    near k j i l = subst (λ (z : ℕ). within t (at xs z ⊖ at refs z) ≡ true) i (every_number (λ k. within t (at xs k ⊖ at refs k)) (3 * from) (3 * to - 3 * from) (sym e ∙ q) j l)
