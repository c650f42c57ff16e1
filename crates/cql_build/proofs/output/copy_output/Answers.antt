use Rattle.std.proofs.Common.{◌++◌, ap, ◌∙◌}
use Rattle.cql_model.specs.Plan.{decls_of}
use Rattle.cql_build.proofs.Growing.{on_ok_then, copied_output, copies_few_more}
use Rattle.cql_build.proofs.output.copy_output.Goals as goal

pub copy-requires-clause-few : goal.copy-requires-clause-few
copy-requires-clause-few c =
    copies_few_more c.args.query c.args.query c.args.uses c.in_ok-writes.writes c.in_ok-made.made c.append.new.to c.in_ok-writes.ensures c.in_ok-made.ensures
    (c.in_ok-append.ensures ∙ ap (λ l. c.in_ok-writes.writes ++ l) c.as_slice-2.ensures) c.requires.few

pub returns : goal.returns
returns c =
    on_ok_then c.copy.result
    (copied_output c.args.raw.now c.copy.new.raw c.push.new.self c.declare.new.to c.args.query c.args.from c.args.uses c.args.kind c.in_ok-writes.writes
    c.in_ok-made.made c.append.new.to
    c.in_ok-push.ensures.ok (c.in_ok-declare.ensures ∙ ap (λ l. c.push.new.self ++ decls_of l c.args.kind) c.as_slice.ensures) c.in_ok-writes.ensures
    (c.in_ok-append.ensures ∙ ap (λ l. c.in_ok-writes.writes ++ l) c.as_slice-2.ensures) c.in_ok-made.ensures)
    c.copy.ensures
