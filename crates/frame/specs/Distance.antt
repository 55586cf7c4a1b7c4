-- The exact distance of two atoms of a whole-number frame, and which numbers a frame takes: 01, "Whole-number frame", and 02, No. 3. Definitions only.
use Rattle.std.specs.Prelude.{Result}
use Rattle.answer.specs.declared.Refusal.{Refusal}
use Rattle.std.specs.Prelude.{ℕ, ◌+◌, ◌*◌, ◌≡◌, Bool, cond, not, ◌&&◌, ◌||◌, List, get_or, ltb, leb}
use Rattle.answer.specs.Seen.{Seen, answered, refused, seen}
use Rattle.bins.specs.Edge.{distance}
use Rattle.frame.specs.declared.Side.{Side}
use Rattle.frame.specs.declared.Frame.{Frame}
use Rattle.frame.specs.declared.Spot.{Spot}

-- an atom's three coordinates
unfoldable pub spot_of : List ℕ → ℕ → Spot
spot_of xs i = record { x = get_or xs (3 * i) 0; y = get_or xs (3 * i + 1) 0; z = get_or xs (3 * i + 2) 0 }

-- "Axis distance: |d|, or on a periodic axis the smaller of |d| and edge - |d|"
abbrev pub along : Side → ℕ → ℕ → ℕ
along e a b = distance e.round e.edge a b

abbrev pub square_of : ℕ → ℕ
square_of d = d * d

-- "the sum of squares"
unfoldable pub squared_of : Frame → Spot → Spot → ℕ
squared_of f a b = square_of (along f.x a.x b.x) + square_of (along f.y a.y b.y) + square_of (along f.z a.z b.z)

-- "Listed when the sum of squares is at most radius²"
unfoldable pub near_of : Frame → Spot → Spot → Bool
near_of f a b = leb (squared_of f a b) (square_of f.radius)

-- "Edges 1 to 2^20; 0 <= coordinate < edge; radius 0 to 2^20"
unfoldable pub edge_ok : ℕ → Bool
edge_ok e = ltb 0 e && leb e 1048576

-- 02, No. 3: "Twice the radius may equal a periodic edge but not pass it. Open axes keep the old rule."
unfoldable pub side_ok : Side → ℕ → Bool
side_ok e radius = edge_ok e.edge && (not e.round || leb (2 * radius) e.edge)

-- what an accepted frame is
unfoldable pub frame_ok : Frame → Bool
frame_ok f = side_ok f.x f.radius && side_ok f.y f.radius && side_ok f.z f.radius && leb f.radius 1048576

unfoldable pub spot_ok : Frame → Spot → Bool
spot_ok f a = ltb a.x f.x.edge && ltb a.y f.y.edge && ltb a.z f.z.edge

-- What `squared_distance` answers: the sum of squares, or 3 where a number is out of range.
unfoldable pub squared_seen : Frame → Spot → Spot → Seen ℕ
squared_seen f a b = cond (frame_ok f && spot_ok f a && spot_ok f b) (answered (squared_of f a b)) (refused 3 0)

abbrev pub SquaredSays : Frame → Spot → Spot → Result ℕ Refusal → Type 0
SquaredSays f a b r = seen r ≡ squared_seen f a b
