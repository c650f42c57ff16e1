use Rattle.river_road.proofs.fetched.fetch_one.Goals as goal

pub returns-clause-passes : goal.returns-clause-passes
returns-clause-passes g c = rw (c.as_slice-2.ensures, c.as_slice-3.ensures, c.in_ok-large.ensures, c.as_slice.ensures) at c.fetch_turn.ensures.passes
