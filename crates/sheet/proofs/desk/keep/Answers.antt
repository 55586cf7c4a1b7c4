use Rattle.sheet.proofs.Arms.{header_again, header_kept, atom_again, atom_kept, exclusion_over, exclusion_kept, malformed_line, end_line}
use mathlib.Core.Path.{sym, ◌∙◌}
use Rattle.sheet.proofs.desk.keep.Goals as goal

pub returns-in-Some : goal.returns-in-Some
returns-in-Some c = record { table_after = header_again c.args.line c.args.n c.args.desk c.args.coords.now c.args.seen.now c.args.table.now _ _ c.in-Header.is c.in-Some.is; fit_kept = tt }

pub keep_atom-requires : goal.keep_atom-requires
keep_atom-requires c = rw c.in-Atom.is at c.requires.0

pub returns-then-keep_atom : goal.returns-then-keep_atom
returns-then-keep_atom c = record { table_after = atom_kept c.args.line c.args.n c.args.desk c.args.coords.now c.args.seen.now c.args.table.now _ _ _ _ c.in-Atom.is c.keep_atom.new.coords c.keep_atom.new.seen (sym c.keep_atom.ensures.value ∙ c.if-keep_atom.true) c.keep_atom.ensures.coords_after c.keep_atom.ensures.seen_after; fit_kept = c.requires.1 }

pub returns-in_default : goal.returns-in_default
returns-in_default c = record { table_after = exclusion_over c.args.line c.args.n c.args.desk c.args.coords.now c.args.seen.now c.args.table.now _ _ c.in-Exclusion.is (rw c.in_default.is at c.keep_exclusion-held.ensures.table_after); fit_kept = tt }

pub returns-in-None : goal.returns-in-None
returns-in-None c = record { table_after = header_kept c.args.line c.args.n c.args.desk c.args.coords.now c.args.seen.now c.args.table.now _ c.in-Header.is c.in-None.is; fit_kept = c.requires.1 }

pub returns-else-keep_atom : goal.returns-else-keep_atom
returns-else-keep_atom c = record { table_after = atom_again c.args.line c.args.n c.args.desk c.args.coords.now c.args.seen.now c.args.table.now _ _ _ _ c.in-Atom.is (sym c.keep_atom.ensures.value ∙ c.if-keep_atom.false); fit_kept = tt }

pub returns-in-Some-held : goal.returns-in-Some-held
returns-in-Some-held c = record { table_after = exclusion_kept c.args.line c.args.n c.args.desk c.args.coords.now c.args.seen.now c.args.table.now _ _ c.in-Exclusion.is _ (rw c.in-Some-held.is at c.keep_exclusion-held.ensures.table_after); fit_kept = rw c.in-Some-held.is at c.keep_exclusion-held.ensures.fit_count }

pub returns-in-Malformed : goal.returns-in-Malformed
returns-in-Malformed c = record { table_after = malformed_line c.args.line c.args.n c.args.desk c.args.coords.now c.args.seen.now c.args.table.now c.in-Malformed.is; fit_kept = tt }

pub returns-in-End : goal.returns-in-End
returns-in-End c = record { table_after = end_line c.args.line c.args.n c.args.desk c.args.coords.now c.args.seen.now c.args.table.now c.in-End.is; fit_kept = tt }
