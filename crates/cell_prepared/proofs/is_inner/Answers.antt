use Rattle.cell_prepared.proofs.Inner.{inner_short, inner_image}
use Rattle.float.proofs.Branches.{yes}
use lib.Ieee.{Float, lt}
use mathlib.Core.Path.{sym, ap, ◌∙◌}
use Rattle.cell_prepared.proofs.is_inner.Goals as goal

pub returns : goal.returns
returns c = let g = c.well_formed in
    let e = c.abs.ensures in
    record {
      is = ap (λ (z : Float). lt z c.args.len) e;
      short = λ h. inner_short _ _ (yes g.0.1) (ap (λ (z : Float). lt z c.args.len) (sym e) ∙ h);
      image = λ h. inner_image _ _ (yes g.0.1) (yes g.1.0.1) (ap (λ (z : Float). lt z c.args.len) (sym e) ∙ h);
    }
