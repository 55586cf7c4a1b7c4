use Rattle.neighbor.specs.Steps.{plain_of}
use Rattle.neighbor.proofs.rebuild.is_plain.Goals as goal

pub returns : goal.returns
returns c = unfold plain_of in rw (c.claims_more.ensures, c.is_same.ensures, c.settings_ok.ensures, c.cell_in_range.ensures)
