use Rattle.frame.specs.Distance.{frame_ok}
use Rattle.frame.proofs.asked.frame_ok.Goals as goal

pub returns : goal.returns
unfolding frame_ok
returns c = simp (c.side_ok.ensures, c.side_ok-2.ensures, c.side_ok-3.ensures)
