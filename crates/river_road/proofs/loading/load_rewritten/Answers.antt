use Rattle.river_road.proofs.loading.load_rewritten.Goals as goal

pub returns : goal.returns
returns c caps source is = (rw c.in_ok-text.ensures.text at c.applied.ensures) caps source is
