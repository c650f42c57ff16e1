use Rattle.std.proofs.Common.{◌+◌, ◌∙◌, length, get_or, refl, sym, subst, arith, ap, Some}
use Rattle.std.proofs.lemmas.Option.{slice_get_read}
use Rattle.river_plan.specs.Forms.{OpForm}
use Rattle.fire_open.specs.Sources.{LinkReaders}
use Rattle.fire_open.proofs.SourceLemmas.{port_at, read_below, link_more, link_none, links_op}
use Rattle.fire_open.proofs.links.add_links.Goals as goal
use Rattle.fire_open.proofs.links.add_links.Goals.{in-Some+in_ok-push-in-Some, in-None}

pub at-requires : goal.at-requires
at-requires c =
    let ps = c.reads_of-places.result.now in
    read_below c.args.plan.now c.args.reader c.loop-port.port (get_or ps c.loop-port.port 0) (length c.args.sources.now) c.requires.valid
    (port_at c.args.plan.now (λ (op : OpForm). op.reads) c.args.reader c.loop-port.port
    (get_or ps c.loop-port.port 0) 0 ps c.requires.there c.reads_of-places.ensures (omega arith) refl) c.requires.sources.many

pub loop-port-preserved : goal.loop-port-preserved
loop-port-preserved c =
    let ps = c.reads_of-places.result.now in
    let n = get_or ps c.loop-port.port 0 in
    let a = port_at c.args.plan.now (λ (op : OpForm). op.reads) c.args.reader c.loop-port.port n 0 ps c.requires.there c.reads_of-places.ensures
    (omega arith) refl in
    let lt = read_below c.args.plan.now c.args.reader c.loop-port.port n (length c.args.sources.now) c.requires.valid a c.requires.sources.many in
    let o = c.at.result.now in
    let g = slice_get_read c.args.sources.now (length c.args.sources.now) n o refl lt (c.at.ensures o) in
    elim c.match-at.branch [
      | in-Some+in_ok-push-in-Some w ↦ subst (LinkReaders c.args.plan.now c.args.reader (c.loop-port.port + 1)) (sym w.links-is)
          (link_more c.args.plan.now c.requires.valid c.args.sources.now c.requires.sources c.args.reader c.loop-port.port n a c.loop-port.links
          c.loop-port.invariant w.in-Some.source w.push.new.self (g ∙ ap Some w.in-Some.is) w.in_ok-push-in-Some.ensures.ok)
      | in-None w ↦ subst (LinkReaders c.args.plan.now c.args.reader (c.loop-port.port + 1)) (sym w.links-is)
          (link_none c.args.plan.now c.requires.valid c.args.sources.now c.requires.sources c.args.reader c.loop-port.port n a c.loop-port.links
          c.loop-port.invariant (g ∙ ap Some w.in-None.is))
    ]

pub returns : goal.returns
returns c = links_op c.args.plan.now c.args.reader c.loop-port.port c.loop-port.links c.reads_of-places.result.now c.requires.there c.reads_of-places.ensures
    (omega arith) c.loop-port.invariant
