use Rattle.field.proofs.desks.tyn_species_row.Goals as goal

pub returns : goal.returns
returns c = record { done = record { answer = c.species_row_asked.result; handed = c.from-done.ensures; says = c.species_row_asked.ensures }; table = rw (← c.species_row-own.ensures, ← c.species_row-row.ensures) c.table_of.ensures; epsilon = rw (← c.species_row-row.ensures) c.number_at.ensures; sigma = rw (← c.species_row-row.ensures) c.number_at-2.ensures }
