use Rattle.std.proofs.Common.{◌≤◌, ◌++◌, length, ap, ◌∙◌, arith}
use Rattle.river_plan.specs.Names.{count}
use Rattle.cql_model.specs.Plan.{copy_names, decls_of}
use Rattle.cql_build.proofs.Growing.{on_ok_then, copied_input, copies_few, count_few}
use Rattle.cql_build.proofs.output.copy_input.Goals as goal

pub copy-requires-clause-few : goal.copy-requires-clause-few
copy-requires-clause-few c =
    let e = c.count-count.ensures in
    let f = count_few c.args.registered.now.name c.args.uses.now.all c.requires.few in
    copies_few c.args.registered.now.name c.count-count.result c.in_ok-writes.writes c.in_ok-writes.ensures (omega (arith, e, f))

pub returns : goal.returns
returns c =
    let r = c.args.registered.now in
    let n = count r.name c.args.uses.now.all in
    let made = c.in_ok-writes.ensures ∙ ap (copy_names r.name 0) c.count-count.ensures in
    let two : 2 ≤ n = let a = c.if-count-lt2.false in let b = c.count-count.ensures in omega (arith, a, b) in
    on_ok_then c.copy.result
    (copied_input c.args.raw.now c.copy.new.raw c.declare.new.to r.name (length r.fields.items) n c.carried-kind.result c.in_ok-writes.writes
    (c.in_ok-declare.ensures ∙ ap (λ l. c.args.raw.now.queues ++ decls_of l c.carried-kind.result) c.as_slice.ensures) c.carried-kind.ensures made two)
    c.copy.ensures
