use Rattle.frame.proofs.Plans.{cell_made}
use Rattle.frame.proofs.laying.cell_of.Goals as goal

pub returns : goal.returns
returns c = cell_made _ _ c.requires.g_value c.bin_on.ensures c.bin_on-2.ensures c.bin_on-3.ensures
