-- The state of a list: its settings, its radius, and the three states that are made (01, "Pair list rules", "Refusal numbers"; neighbor.rs, `new`, `search_radius`, `build`).
-- Definitions only.
use Rattle.std.specs.Prelude.{Err, None, Ok, Option, Result, Some}
use Rattle.answer.specs.declared.Refusal.{Refusal}
use Rattle.cell.specs.declared.Lattice.{Lattice}
use Rattle.std.specs.Prelude.{◌≡◌, ℕ, ◌+◌, ◌-◌, ◌%◌, Bool, false, cond, Float}
use Rattle.float.specs.Arith.{◌⊕◌, bits}
use Rattle.float.specs.Def.{max_of}
use Rattle.answer.specs.Seen.{Seen, answered, refused, refused_by, seen}
use Rattle.neighbor_asked.specs.Asked.{settings_ok}
use Rattle.neighbor.specs.declared.State.{State}

-- `new`: "a negative one becoming 0" (63-69)
unfoldable pub fresh_of : Float → Float → State
fresh_of cutoff skin =
    record {
      cutoff = cutoff;
      skin = max_of skin (bits 0);
      pairs = 0;
      references = 0;
      checks = 0;
      fallback = false;
      builds = 0;
      built_in = None;
    }

-- every call reads the skin so
unfoldable pub skin_of : State → Float
skin_of s = max_of s.skin (bits 0)

-- `search_radius` (73-75): "Radius = cutoff + skin"
unfoldable pub radius_of : State → Float
radius_of s = s.cutoff ⊕ skin_of s

-- a list that is kept
unfoldable pub kept_of : State → State
kept_of s =
    record {
      cutoff = s.cutoff;
      skin = skin_of s;
      pairs = s.pairs;
      references = s.references;
      checks = s.checks;
      fallback = s.fallback;
      builds = s.builds;
      built_in = s.built_in;
    }

-- after an answered build: "comes round to zero after 2^32 - 1"; 02, No. 6: "remember the nine cell numbers and three flags, or none, of its last answered build"
unfoldable pub built_of : State → Option Lattice → ℕ → ℕ → ℕ → Bool → State
built_of s cell atoms pairs checks fallback =
    record {
      cutoff = s.cutoff;
      skin = skin_of s;
      pairs = pairs;
      references = atoms;
      checks = checks;
      fallback = fallback;
      builds = (s.builds + 1) % 4294967296;
      built_in = cell;
    }

-- after an 8: "no pairs, no references, no checks, no fallback and the old build count"; 02, No. 6: "An 8 from a build leaves no remembered cell"
unfoldable pub emptied_of : State → State
emptied_of s =
    record {
      cutoff = s.cutoff;
      skin = skin_of s;
      pairs = 0;
      references = 0;
      checks = 0;
      fallback = false;
      builds = s.builds;
      built_in = None;
    }

-- "the span since an earlier reading is a wrapped difference"
unfoldable pub since_of : State → ℕ → ℕ
since_of s earlier = (s.builds + (4294967296 - earlier)) % 4294967296

unfoldable pub new_seen : Float → Float → Seen State
new_seen cutoff skin = cond (settings_ok cutoff skin) (answered (fresh_of cutoff skin)) (refused 3 0)

abbrev pub NewSays : Float → Float → Result State Refusal → Type 0
NewSays cutoff skin r = seen r ≡ new_seen cutoff skin

unfoldable pub radius_seen : State → Seen Float
radius_seen s = cond (settings_ok s.cutoff s.skin) (answered (radius_of s)) (refused 3 0)

abbrev pub RadiusSays : State → Result Float Refusal → Type 0
RadiusSays s r = seen r ≡ radius_seen s
