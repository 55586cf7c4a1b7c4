-- What the kernel and the private functions say of themselves: nobody has to believe it. Definitions only.
use Rattle.std.specs.Prelude.{Err, Ok, Option, Result}
use Rattle.answer.specs.declared.Refusal.{Refusal}
use Rattle.cell.specs.declared.Lattice.{Lattice}
use Rattle.std.specs.Prelude.{ℕ, min, ◌≡◌, List, Float, length}
use Rattle.lists.specs.Lists.{rows}
use Rattle.virial.specs.declared.Sum.{Sum}
use Rattle.virial.specs.Virial.{zero_sum}
use Rattle.potentials_pair.specs.Pull.{Total, held}
use Rattle.potentials_pair.specs.Species.{look_by}
use Rattle.neighbor.specs.declared.State.{State}
use Rattle.neighbor.specs.declared.Updated.{Updated}
use Rattle.neighbor.specs.Update.{listed_of}
use Rattle.evaluate.specs.declared.Evaluated.{Evaluated}
use Rattle.evaluate.specs.Terms.{Terms, contributions, merged_all}
use Rattle.evaluate.specs.Calls.{Job, Outcome, settled_by, shown}

-- the floats of the scratch that a term is computed in
abbrev pub scratch_length : ℕ
scratch_length = 49152

-- the lookup is by halving, and a term's own forces go as far as the scratch does; after the tests this is settledOf
abbrev pub settled_in : Job → Outcome
settled_in j = settled_by look_by (min (length j.forces) scratch_length) j

abbrev pub evaluated_from : Updated → Sum → Evaluated
evaluated_from u sum = record { done = u.done; rebuilt = u.rebuilt; state = u.state; sum = sum }

-- the terms over listed pairs, merged into so many forces; `room` is how many floats a term's own forces have
abbrev pub terms_over : Terms → Option Lattice → (xs : List Float) → (pairs : List ℕ) → (room forces : ℕ) → Total
terms_over t cell xs pairs room forces = merged_all forces (contributions look_by t cell xs room (rows pairs))

-- sum and forces after the list: zero and as they came where it was refused
unfoldable pub total_after : Terms → Option Lattice → (xs : List Float) → (pairs : List ℕ) → (forces : List Float) → Result (Unit {0}) Refusal → State → Total
total_after t cell xs pairs forces (Err r) s = held zero_sum forces
total_after t cell xs pairs forces (Ok tt) s =
    terms_over t cell xs (listed_of s pairs) (min (length forces) scratch_length) (length forces)

-- the sum and the forces `after` are those, and the answer is the list's with that sum
abbrev pub AfterListSays : Updated → Terms → Option Lattice → (xs : List Float) → (pairs : List ℕ) → (forces : List Float) → Evaluated → (after : List Float) → Type 0
AfterListSays u t cell xs pairs forces r after = (held r.sum after ≡ total_after t cell xs pairs forces u.done u.state) × (r ≡ evaluated_from u r.sum)

-- what `settle` answers, and what everything lent holds at exit
abbrev pub SettleSays : Job → Evaluated → (pairs : List ℕ) → (references : List Float) → (starts items : List ℕ) → (forces : List Float) → Type 0
SettleSays j r pairs references starts items forces = shown r pairs references starts items forces ≡ settled_in j
