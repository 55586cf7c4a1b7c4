use Rattle.strike.specs.Calls.{put_asked}
use borrow.Author.Tests.{lt-ltb, le-ltb, le-leb, lt-leb, not-true, not-false}
use mathlib.Core.Path.{sym, ◌∙◌}
use Rattle.std.proofs.Common.{ap, not}
use Rattle.strike.proofs.asked.put.Goals as goal

pub returns-then-not-atoms_fit : goal.returns-then-not-atoms_fit
returns-then-not-atoms_fit c = unfold put_asked in simp (sym c.atoms_fit.ensures ∙ not-true _ (ap not c.if-not-atoms_fit.true))

pub returns-then-positions-at : goal.returns-then-positions-at
returns-then-positions-at c = unfold put_asked in simp (sym c.atoms_fit.ensures ∙ not-false _ (ap not c.if-not-atoms_fit.false), le-leb _ _ c.if-positions-at.true)

pub returns-then-at-gt16384 : goal.returns-then-at-gt16384
returns-then-at-gt16384 c = unfold put_asked in simp (sym c.atoms_fit.ensures ∙ not-false _ (ap not c.if-not-atoms_fit.false), lt-leb _ _ c.if-positions-at.false, lt-ltb _ _ c.if-at-gt16384.true)

pub returns-then-not-atom_in_range : goal.returns-then-not-atom_in_range
returns-then-not-atom_in_range c = unfold put_asked in simp (sym c.atoms_fit.ensures ∙ not-false _ (ap not c.if-not-atoms_fit.false), lt-leb _ _ c.if-positions-at.false, le-ltb _ _ c.if-at-gt16384.false, sym c.atom_in_range.ensures ∙ not-true _ (ap not c.if-not-atom_in_range.true))

pub returns : goal.returns
returns c = unfold put_asked in simp (sym c.atoms_fit.ensures ∙ not-false _ (ap not c.if-not-atoms_fit.false), lt-leb _ _ c.if-positions-at.false, le-ltb _ _ c.if-at-gt16384.false, sym c.atom_in_range.ensures ∙ not-false _ (ap not c.if-not-atom_in_range.false))
