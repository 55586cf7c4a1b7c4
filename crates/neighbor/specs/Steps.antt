-- What private functions say of themselves: nobody has to believe it. Definitions only.
use Rattle.std.specs.Prelude.{Ok, Option}
use Rattle.cell.specs.declared.Lattice.{Lattice}
use Rattle.std.specs.Prelude.{◌≡◌, ℕ, ◌/◌, ◌%◌, Bool, true, false, not, ◌&&◌, ◌||◌, List, ◌==◌, nat_lt, Float}
use Rattle.lists.specs.Atoms.{most_atoms}
use Rattle.cell.specs.Ranged.{cell_in_range}
use Rattle.neighbor_asked.specs.Asked.{settings_ok}
use Rattle.neighbor.specs.declared.State.{State}
use Rattle.neighbor.specs.Rebuild.{needs_of, claims_more, question_of}

-- what a question asks beside the numbers of so many positions and references, and that the references are these atoms'
unfoldable pub plain_of : State → Option Lattice → ℕ → ℕ → Bool
plain_of s cell xs refs =
    not (((not (xs % 3 == 0) || nat_lt refs xs) || nat_lt most_atoms (xs / 3)) || claims_more s.built_in 0 0 s.references (refs / 3))
    && s.references == xs / 3 && (settings_ok s.cutoff s.skin && cell_in_range cell)

-- where it says so, the question is answered, and the list need not be built anew
pub record RestSays (s : State) (cell : Option Lattice) (xs refs : List Float) (r : Bool) : Type 0 where
  pub asked : r ≡ true → question_of s cell xs refs ≡ Ok tt
  pub kept : r ≡ true → needs_of s cell xs refs ≡ false
