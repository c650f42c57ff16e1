use Rattle.river_road.proofs.road.fetch_program.Goals as goal

pub returns-clause-passes : goal.returns-clause-passes
returns-clause-passes g c = rw c.as_slice-file.ensures at c.fetch_turn.ensures.passes
