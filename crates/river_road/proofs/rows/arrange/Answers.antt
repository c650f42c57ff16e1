use Rattle.std.proofs.Common.{◌≡◌, ◌++◌, List, sym, ap, ◌∙◌, arith}
use Rattle.river_plan.specs.declared.plan.Decl.{Decl}
use Rattle.river_road.specs.Inputs.{contents_in_order}
use Rattle.river_road.specs.declared.content.FileContent.{FileContent}
use Rattle.river_road.proofs.Arranged.{arranged-next, arranged-all}
use Rattle.river_road.proofs.rows.arrange.Goals as goal

pub loop-place-init : goal.loop-place-init
loop-place-init c = record {
  count = c.requires.count;
  arranged = ap (λ (l : List FileContent). l ++ contents_in_order c.args.decls.now c.args.ins.now c.args.all.now) c.new-files.ensures;
}

pub loop-place-preserved : goal.loop-place-preserved
loop-place-preserved c =
    let named : c.as_slice.result.now ≡ c.index-decls-place.result.name = c.as_slice.ensures.bytes ∙ ap (λ (d : Decl). d.name) (sym c.index-decls-place.is) in
    record {
      count = let n = c.take_named.ensures.count in let m = c.loop-place.invariant.count in omega (arith, n, m);
      arranged =
          arranged-next c.args.decls.now c.args.ins.now c.loop-place.all c.take_named.new.all c.loop-place.files c.push.new.self
          (contents_in_order c.args.decls.now c.args.ins.now c.args.all.now)
          c.loop-place.place c.index-decls-place.result c.take_named.result c.loop-place-test.true c.index-decls-place.is c.requires.apart
          (rw named at c.take_named.ensures.taken) (rw named at c.take_named.ensures.others) c.loop-place.invariant.arranged c.in_ok-push.ensures.ok;
    }

pub returns : goal.returns
returns c =
    arranged-all c.args.decls.now c.args.ins.now c.loop-place.all c.loop-place.files
    (contents_in_order c.args.decls.now c.args.ins.now c.args.all.now) c.loop-place.place c.loop-place-test.false c.loop-place.invariant.arranged
