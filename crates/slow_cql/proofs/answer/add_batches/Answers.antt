use Rattle.std.proofs.Common.{◌≡◌, ◌<◌, ℤ, pos, [], ◌∷◌, ◌++◌, length, get_or, subst, rules, arith, to_z, of_z, w64}
use Rattle.std.proofs.lemmas.List.{get_or_default}
use Rattle.river_base.specs.Row.{in_order}
use Rattle.cql_model.specs.Streams.{changed, item_at}
use Rattle.cql_text.specs.Tree.{query_of}
use Rattle.slow_cql.specs.Contents.{content_over}
use Rattle.slow_cql.proofs.Answers.{last_more, batch_more}
use Rattle.slow_cql.proofs.answer.add_batches.Goals as goal

pub loop-at-preserved : goal.loop-at-preserved
loop-at-preserved c =
    let ts = c.args.instants.now in
    let n = c.loop-at.at-index in
    let t = get_or ts n (pos 0) in
    let k = c.args.query.now.kind in
    let r = content_over c.args.inputs.now (query_of c.args.query.now) in
    let lt : n < length ts = omega arith in
    let is : t ≡ get_or ts n t = get_or_default ts n (pos 0) t lt in
    let e : to_z w64 (of_z w64 t) ≡ t = search rules in
    let before : c.add_batch.new.before ≡ r t = subst (λ (z : ℤ). c.add_batch.new.before ≡ r z) e c.in_ok-add_batch.ensures.before in
    let items : c.add_batch.new.items ≡ c.loop-at.items ++ item_at t (in_order (changed k c.loop-at.before (r t))) ∷ [] =
    subst (λ (z : ℤ). c.add_batch.new.items ≡ c.loop-at.items ++ item_at z
    (in_order (changed k c.loop-at.before (r z))) ∷ []) e c.in_ok-add_batch.ensures.items in
    record {
      before = last_more ts r n t c.add_batch.new.before lt is before;
      items =
          batch_more k ts r n t c.loop-at.before c.loop-at.items c.add_batch.new.items c.requires.rises lt is c.loop-at.invariant.before
          c.loop-at.invariant.items items;
    }
