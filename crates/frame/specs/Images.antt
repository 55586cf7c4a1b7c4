-- The images of an atom in a frame, and what an accepted frame promises of them: 02, No. 3, "past half a periodic edge an atom sees a second image
-- of its partner, and the list can name it only once". Definitions only.
use Rattle.std.specs.Prelude.{Result}
use Rattle.answer.specs.declared.Refusal.{Refusal}
use Rattle.frame.specs.declared.Built.{Built}
use Rattle.std.specs.Prelude.{ℕ, ◌+◌, ◌*◌, ◌≤◌, ◌<◌, ◌≡◌, true, false, List, ◌⊎◌, take, ℤ, pos, negsuc}
use Rattle.std.proofs.Math.IntN.{suc_ℤ}
use Rattle.answer.specs.Seen.{answered, seen}
use Rattle.lists.specs.Atoms.{atoms_of}
use Rattle.lists.specs.Exact.{Exactly}
use Rattle.lists.specs.Lists.{rows, Two}
use Rattle.bins.specs.Edge.{gap}
use Rattle.exclusions.specs.Table.{is_row}
use Rattle.frame.specs.declared.Side.{Side}
use Rattle.frame.specs.declared.Frame.{Frame}
use Rattle.frame.specs.declared.Spot.{Spot}
use Rattle.frame.specs.Distance.{spot_of, square_of, squared_of}
use Rattle.frame.specs.Build.{Given}

-- An image of an atom: how many boxes further it lies on each axis.
pub record Shift : Type 0 where
  pub x : ℤ
  pub y : ℤ
  pub z : ℤ

-- on an open axis there is only the atom itself
pub record Shifts (f : Frame) (k : Shift) : Type 0 where
  pub x : f.x.round ≡ false → k.x ≡ pos 0
  pub y : f.y.round ≡ false → k.y ≡ pos 0
  pub z : f.z.round ≡ false → k.z ≡ pos 0

-- along an axis, from an atom at a to the image k boxes further of one at b: |a - (b + k × edge)|
unfoldable pub away : ℕ → ℕ → ℕ → ℤ → ℕ
away edge a b (pos k) = gap a (b + k * edge)
away edge a b (negsuc k) = gap (a + (k + 1) * edge) b

abbrev pub away_on : Side → ℕ → ℕ → ℤ → ℕ
away_on e a b k = away e.edge a b k

unfoldable pub image_squared : Frame → Spot → Spot → Shift → ℕ
image_squared f a b k =
    square_of (away_on f.x a.x b.x k.x) + square_of (away_on f.y a.y b.y k.y) + square_of (away_on f.z a.z b.z k.z)

-- the image is within the radius
pub record Sees (f : Frame) (a b : Spot) (k : Shift) : Type 0 where
  pub shifts : Shifts f k
  pub near : image_squared f a b k ≤ square_of f.radius

-- Two images that are opposite on an axis: its edge is exactly twice the radius, one image is the next one's, and each is exactly the radius away.
pub record Opposite (e : Side) (radius a b : ℕ) (k l : ℤ) : Type 0 where
  pub round : e.round ≡ true
  pub edge : e.edge ≡ 2 * radius
  pub next : (l ≡ suc_ℤ k) ⊎ (k ≡ suc_ℤ l)
  pub first : away_on e a b k ≡ radius
  pub second : away_on e a b l ≡ radius

-- on another axis they are one, and no way off
pub record Level (e : Side) (a b : ℕ) (k l : ℤ) : Type 0 where
  pub same : k ≡ l
  pub none : away_on e a b k ≡ 0

-- opposite on just one axis
abbrev pub Opposed : Frame → Spot → Spot → Shift → Shift → Type 0
Opposed f a b k l =
    (Opposite f.x f.radius a.x b.x k.x l.x × Level f.y a.y b.y k.y l.y × Level f.z a.z b.z k.z l.z)
    ⊎ ((Level f.x a.x b.x k.x l.x × Opposite f.y f.radius a.y b.y k.y l.y × Level f.z a.z b.z k.z l.z)
    ⊎ (Level f.x a.x b.x k.x l.x × Level f.y a.y b.y k.y l.y × Opposite f.z f.radius a.z b.z k.z l.z))

-- No two images of one atom are within the radius of another, but two that are opposite at exactly half an edge.
abbrev pub Single : Frame → Type 0
Single f = (a b : Spot) (k l : Shift) → Sees f a b k → Sees f a b l → (k ≡ l) ⊎ Opposed f a b k l

-- The frame's distance is that of the nearest image, so that a pair is near where some image is within the radius.
pub record Nearest (f : Frame) (a b : Spot) : Type 0 where
  pub least : (k : Shift) → Shifts f k → squared_of f a b ≤ image_squared f a b k
  pub reached : (k : Shift) × Shifts f k × (image_squared f a b k ≡ squared_of f a b)

-- What the rule keeps out: two places of an axis of which one sees two images of the other, not opposite ones, its own and the one a box before.
pub record Hidden (e : Side) (radius : ℕ) : Type 0 where
  pub here : ℕ
  pub there : ℕ
  pub inside : (here < e.edge) × (there < e.edge)
  pub own : away_on e here there (pos 0) < radius
  pub before : away_on e here there (negsuc 0) ≤ radius

-- ---- of an answered call
-- the pairs that are not excluded and of which an image is within the radius
abbrev pub InSight : Given → ℕ × ℕ → Type 0
InSight i p =
    Two (atoms_of i.coordinates) p
    × (is_row p (rows i.exclusions) ≡ false)
    × ((k : Shift) × Sees i.frame (spot_of i.coordinates p.0) (spot_of i.coordinates p.1) k)

-- a build lists these, once each, and no second image hides behind a row
pub record Sighted (i : Given) (c : Built) (pairs : List ℕ) : Type 0 where
  pub exactly : Exactly (InSight i) (rows (take (2 * c.pairs) pairs))
  pub single : Single i.frame

abbrev pub BuildSights : Given → Result Built Refusal → List ℕ → Type 0
BuildSights i r pairs = (c : Built) → seen r ≡ answered c → Sighted i c pairs

abbrev pub SquaredSights : Frame → Spot → Spot → Result ℕ Refusal → Type 0
SquaredSights f a b r = (d : ℕ) → seen r ≡ answered d → Nearest f a b × Single f
