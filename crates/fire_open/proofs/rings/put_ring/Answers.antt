use Rattle.std.proofs.Common.{◌<◌, ◌∙◌, length, get_or, subst, ap, sym, arith, get_or-set_other}
use Rattle.std.specs.Prelude.{slice_get, slice_set}
use Rattle.std.proofs.lemmas.List.{length-set}
use Rattle.fire_tasks.specs.declared.task.Task.{Task}
use Rattle.fire_open.specs.Links.{Put}
use Rattle.fire_open.specs.Settling.{with_in}
use Rattle.fire_open.proofs.RingLemmas.{put_is}
use Rattle.fire_open.proofs.rings.put_ring.Goals as goal

pub put_inlet-requires-clause-reader : goal.put_inlet-requires-clause-reader
put_inlet-requires-clause-reader c =
    let l = ap length c.put_outlet.ensures.2 ∙ length-set c.args.tasks.now c.args.link.writer _ in
    let r = c.requires.reader in
    omega (arith, l, r)

pub put_inlet-requires-clause-port : goal.put_inlet-requires-clause-port
put_inlet-requires-clause-port c = λ d.
    let o = c.requires.order in
    subst (λ (y : Task). c.args.link.port < length y.ins)
    (sym (get_or-set_other c.args.tasks.now c.args.link.writer c.args.link.reader _ d (λ e. omega (arith, e, o)))
    ∙ sym (ap (λ ts. get_or ts c.args.link.reader d) c.put_outlet.ensures.2))
    (c.requires.port d)

pub returns : goal.returns
returns c =
    let w = c.put_outlet.ensures in
    let r = c.put_inlet.ensures in
    subst (λ ts. Put c.args.cap c.args.tasks.now ts c.args.link)
    (sym (r.2 ∙ ap (λ ts. slice_set ts c.args.link.reader (with_in r.0 c.args.link.port c.in_ok-outlet.inlet)) w.2))
    (put_is c.args.cap c.args.tasks.now c.args.link c.in_ok-outlet.outlet c.in_ok-outlet.inlet w.0 r.0 w.1
    (r.1 ∙ ap (λ ts. get_or ts c.args.link.reader r.0) w.2)
    c.requires.order c.requires.reader c.in_ok-outlet.ensures.ring
    (λ d rows. sym (ap (λ (y : Task). slice_get y.kinds c.args.link.port) (c.at.ensures d)) ∙ c.in_ok-outlet.ensures.fits rows))
