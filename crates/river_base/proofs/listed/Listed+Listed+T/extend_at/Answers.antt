use Rattle.river_base.proofs.PlaceLemmas.{append_at_by, same_at_by, on_err}
use Rattle.river_base.proofs.listed.Listed+Listed+T.extend_at.Goals as goal

pub returns-clause-ok : goal.returns-clause-ok
returns-clause-ok g c = append_at_by _ _ _ _ _ _ c.self.view_is c.requires c.index_mut-inner.ensures.value c.in_ok-append.ensures.ok

pub returns-in_err-append-clause-err : goal.returns-in_err-append-clause-err
returns-in_err-append-clause-err g c = on_err _ (same_at_by _ _ _ _ _ c.self.view_is c.requires c.index_mut-inner.ensures.value c.in_err-append.ensures.err)
