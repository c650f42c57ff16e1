use Rattle.river_road.proofs.loading.load_compiled.Goals as goal

pub returns : goal.returns
returns g c = rw c.in_ok-text.ensures.text at c.compile.ensures
