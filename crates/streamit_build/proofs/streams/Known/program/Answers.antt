use Rattle.std.proofs.Common.{[], length, sym, ap, ◌∙◌, subst}
use Rattle.std.proofs.lemmas.List.{length-map}
use Rattle.streamit_text.specs.Program.{unit_form, unit_forms}
use Rattle.streamit_build.specs.Knowing.{Knows}
use Rattle.streamit_build.proofs.LastUnit.{last_known, planned, took}
use Rattle.streamit_build.proofs.streams.Known.program.Goals as goal

pub plan_last-requires : goal.plan_last-requires
plan_last-requires c =
    let r = c.in_ok-units.ensures {u = tt} [] c.requires.nothing in
    let l = last_known c.args.units.now c.index-units-count.result r.0 c.requires.some r.1 in
    (l.0, l.1, subst (Knows c.units.new.self) l.2 r.2)

pub returns : goal.returns
returns c =
    let units = c.args.units.now in
    let r = c.in_ok-units.ensures {u = tt} [] c.requires.nothing in
    let l = last_known units c.index-units-count.result r.0 c.requires.some r.1 in
    planned c.plan_last.result (unit_forms units) (length units) _ l.0 l.1 (r.1 ∙ ap took l.2) (sym (length-map units unit_form))
    (c.plan_last.ensures l.0 l.1 (subst (Knows c.units.new.self) l.2 r.2))
