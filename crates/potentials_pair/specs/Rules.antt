-- THEOREMS (02, No. 10): what the mixing rule changes, and that a pair's force over the mixed numbers doesn't ask it. Each is proved of every input in proofs/Rules.antt; crate
-- `potentials` says it of a call's tests and of its pairs. Definitions only.
use Rattle.std.specs.Prelude.{◌≡◌, ℕ}
use Rattle.float.specs.Literals.{half}
use Rattle.float.specs.Arith.{◌⊕◌, ◌⊗◌}
use Rattle.float.specs.Def.{root_of}
use Rattle.cell.specs.declared.Vec3.{Vec3}
use Rattle.potentials_pair.specs.declared.Lj.{Lj}
use Rattle.potentials_pair.specs.declared.Mixed.{Mixed}
use Rattle.potentials_pair.specs.declared.Mixing.{Mixing}
use Rattle.potentials_pair.specs.declared.Mixing.TheVariants.{HalfSum, Geometric}
use Rattle.potentials_pair.specs.Lj.{mix_of, lj_pull}
use Rattle.potentials_pair.specs.Species.{Tables, look_of}

-- the same term with another rule
abbrev pub with_rule : Mixing → Lj → Lj
with_rule rule lj = record { epsilon = lj.epsilon; sigma = lj.sigma; cutoff = lj.cutoff; shift = lj.shift; rule = rule }

-- "the Rust for rule 1": line 121, ((ei * ej).sqrt(), 0.5 * (si + sj))
abbrev pub RuleOneMixes : Mixed → Mixed → Type 0
RuleOneMixes a b = mix_of HalfSum a b ≡ record { epsilon = root_of (a.epsilon ⊗ b.epsilon); sigma = half ⊗ (a.sigma ⊕ b.sigma) }

-- "the written rule for rule 2": "mix sigma by the geometric mean, root of the product", "Epsilon mixes as before"
abbrev pub RuleTwoMixes : Mixed → Mixed → Type 0
RuleTwoMixes a b = mix_of Geometric a b ≡ record { epsilon = (mix_of HalfSum a b).epsilon; sigma = root_of (a.sigma ⊗ b.sigma) }

-- the numbers of one species don't ask the rule
abbrev pub LooksAlike : Tables → Lj → Type 0
LooksAlike tab lj = (rule : Mixing) (z : ℕ) → look_of tab (with_rule rule lj) z ≡ look_of tab lj z

-- "The shared facts about a pair's force are shown once over the mixed numbers": these given, no rule is asked
abbrev pub PullsAlike : Lj → Type 0
PullsAlike lj = (rule : Mixing) (m : Mixed) (d : Vec3) → lj_pull (with_rule rule lj) m d ≡ lj_pull lj m d
