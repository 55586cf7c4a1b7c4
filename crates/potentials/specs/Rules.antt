-- THEOREMS (02, No. 10): of a Lennard-Jones call the mixed sigma alone asks the rule. Its tests don't, and what a pair adds is one formula over the mixed numbers. Each is proved
-- of every input in proofs/Rules.antt. Definitions only.
use Rattle.std.specs.Prelude.{Option}
use Rattle.cell.specs.declared.Lattice.{Lattice}
use Rattle.std.specs.Prelude.{◌≡◌, List, ℕ, Float, get_or}
use Rattle.cell.specs.declared.Vec3.{Vec3}
use Rattle.cell.specs.declared.Image.{Image}
use Rattle.potentials_pair.specs.declared.Lj.{Lj}
use Rattle.potentials_pair.specs.declared.Mixing.{Mixing}
use Rattle.potentials_pair.specs.Lj.{mix_of, lj_pull}
use Rattle.potentials_pair.specs.Species.{Tables, look_of}
use Rattle.potentials_pair.specs.Rules.{with_rule}
use Rattle.potentials.specs.Terms.{displaced, lj_pair}
use Rattle.potentials.specs.Calls.{lj_asked}

-- which refusal, if any
abbrev pub AskedAlike : Lj → Type 0
AskedAlike lj =
    (rule : Mixing) (cell : Option Lattice) (tab : Tables) (species : ℕ) (xs : List Float) (forces pairs absent : ℕ)
    → lj_asked (with_rule rule lj) cell tab species xs forces pairs absent ≡ lj_asked lj cell tab species xs forces pairs absent

-- what a pair adds (the calls' own fold of it is Terms.lj_over, by Source.LjPairsBySource the Rust's loop)
abbrev pub PairByRule : Lj → Type 0
PairByRule lj =
    (rule : Mixing) (image : Vec3 → Image) (tab : Tables) (species : List ℕ) (xs : List Float) (p : ℕ × ℕ)
    → lj_pair image (look_of tab (with_rule rule lj)) (with_rule rule lj) species xs p
    ≡ lj_pull lj (mix_of rule (look_of tab lj (get_or species p.0 0)) (look_of tab lj (get_or species p.1 0))) (displaced image xs p)
