use Rattle.virial.specs.Virial.{with_atom}
use Rattle.virial.proofs.tensors.with_atom.Goals as goal

pub returns : goal.returns
unfolding with_atom
returns c = simp (c.row_with_atom.ensures, c.row_with_atom-2.ensures, c.row_with_atom-3.ensures)
