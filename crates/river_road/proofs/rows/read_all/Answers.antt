use Rattle.std.proofs.Common.{arith, ◌+◌, List, [], ◌∷◌, length, drop, ap, ◌∙◌}
use Rattle.std.proofs.lemmas.List.{length-append}
use Rattle.std.proofs.lemmas.Result.{err_from_is_err_and}
use Rattle.river_road.specs.Inputs.{content_reader, all_read}
use Rattle.river_road.proofs.Inputs.{put_before, before-all, read-more, read-fault, read-whole}
use Rattle.river_road.specs.declared.content.FileContent.{FileContent}
use Rattle.river_road.proofs.rows.read_all.Goals as goal

pub loop-place-init : goal.loop-place-init
loop-place-init c =
    let whole = all_read (content_reader c.args.decls.now c.args.layout) c.args.ins.now c.args.files.now in
    record {
      count = ap length c.new-all.ensures;
      read = ap (λ (l : List FileContent). put_before l whole) c.new-all.ensures ∙ before-all whole;
    }

pub returns-in_err-read_one-clause-answers : goal.returns-in_err-read_one-clause-answers
returns-in_err-read_one-clause-answers c =
    let p = err_from_is_err_and c.from_residual.result c.from_residual.ensures.1 in
    rw (p.1, p.2) (read-fault
    (content_reader c.args.decls.now c.args.layout) c.args.ins.now c.args.files.now c.loop-place.place c.index-ins-place.result c.index-files-place.result
    c.loop-place.all c.in_err-read_one.field-0.0
    c.loop-place-test.true c.requires.count c.index-ins-place.is c.index-files-place.is c.in_err-read_one.ensures c.loop-place.invariant.read)

pub loop-place-preserved : goal.loop-place-preserved
loop-place-preserved c =
    let n = ap length c.in_ok-push.ensures.ok in
    let m = length-append c.loop-place.all (c.in_ok-read_one.field-0 ∷ []) in
    let reader = content_reader c.args.decls.now c.args.layout in
    let whole = all_read reader c.args.ins.now c.args.files.now in
    let later = all_read reader (drop (c.loop-place.place + 1) c.args.ins.now) (drop (c.loop-place.place + 1) c.args.files.now) in
    record {
      count = omega (arith, n, m, c.loop-place.invariant.count);
      read = ap (λ (l : List FileContent). put_before l later) c.in_ok-push.ensures.ok
          ∙ read-more reader c.args.ins.now c.args.files.now c.loop-place.place c.index-ins-place.result c.index-files-place.result c.loop-place.all
          c.in_ok-read_one.field-0 whole
          c.loop-place-test.true c.requires.count c.index-ins-place.is c.index-files-place.is c.in_ok-read_one.ensures c.loop-place.invariant.read;
    }

pub returns-clause-answers : goal.returns-clause-answers
returns-clause-answers c =
    let reader = content_reader c.args.decls.now c.args.layout in
    read-whole reader c.args.ins.now c.args.files.now c.loop-place.place c.loop-place.all
    (all_read reader c.args.ins.now c.args.files.now) c.loop-place-test.false c.loop-place.invariant.read
