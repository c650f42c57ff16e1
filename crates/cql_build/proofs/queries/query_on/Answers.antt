use Rattle.std.proofs.Common.{◌<◌, List, [], length, ap, subst, ◌∙◌, arith, drop}
use Rattle.cql_text.specs.declared.tree.Source.{Source}
use Rattle.cql_model.specs.Plan.{queues_of_uses, window_ops, window_decls, cross_ops, cross_last, w_name}
use Rattle.cql_model.specs.Program.{streams_of}
use Rattle.cql_build.specs.Grown.{Grew, product_decls}
use Rattle.cql_text.specs.Tree.{query_of, sources_of}
use Rattle.cql_build.specs.Views.{scope}
use Rattle.cql_build.proofs.Growing.{on_ok_then, count_few}
use Rattle.cql_build.proofs.Querying.{query_made, sources_length}
use Rattle.cql_build.proofs.queries.query_on.Goals as goal

pub tail-requires-clause-few : goal.tail-requires-clause-few
tail-requires-clause-few c =
    let e = c.count-used.ensures in let f = count_few c.args.query.now.name c.args.uses.now.all c.requires.few in omega (arith, e, f)

pub returns-clause-grew : goal.returns-clause-grew
returns-clause-grew c = λ ks e.
    let q = query_of c.args.query.now in
    let u = c.args.uses.now in
    let is = scope c.args.items.now in
    let v = c.as_slice-sources.ensures.value in
    let some : 0 < length q.items = let l = sources_length c.args.query.now.items.items in let s = c.requires.some in let a = c.requires.each in
    omega (arith, l, s, a) in
    let g = subst (λ (l : List Source). Grew c.args.raw.now c.windows.new.raw [] (window_decls q.name 1 is)
    (window_ops q.name 1 (sources_of l) (queues_of_uses u.inputs u.all u.past (streams_of (sources_of l))))) v c.in_ok-windows.ensures.grew in
    let h = subst (λ (l : List Source). Grew c.windows.new.raw c.crosses.new.raw [] (product_decls q.name is)
    (cross_ops q.name (w_name q.name 1) 2 (drop 1 (sources_of l)))) v c.in_ok-last.ensures.grew in
    let last = c.in_ok-last.ensures.last ∙ ap (λ (l : List Source). cross_last q.name (w_name q.name 1) 2 (drop 1 (sources_of l))) v in
    on_ok_then c.tail.result
    (query_made c.args.raw.now c.windows.new.raw c.crosses.new.raw c.tail.new.raw q.name q.kind q.columns q.items q.condition ks u.inputs u.all u.past is
    c.in_ok-last.last c.count-used.result
    e some c.count-used.ensures last g h)
    c.tail.ensures
