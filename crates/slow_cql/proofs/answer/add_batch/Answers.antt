use Rattle.std.proofs.Common.{◌≡◌, ℤ, All, sym, subst, to_z, of_z, w64}
use Rattle.std.proofs.lemmas.Int.{to_z-of_z}
use Rattle.cql_text.specs.Tree.{columns_of}
use Rattle.slow_cql.specs.Kept.{input_scope}
use Rattle.slow_cql.specs.Contents.{product_at, IsNarrowTuple}
use Rattle.slow_cql.proofs.answer.add_batch.Goals as goal

pub content-requires-clause-narrow : goal.content-requires-clause-narrow
content-requires-clause-narrow c =
    let at = c.args.at in
    let inputs = c.args.inputs.now in
    let e : to_z w64 (of_z w64 at) ≡ at = to_z-of_z w64 at c.ranges.at in
    subst (λ (z : ℤ). All (IsNarrowTuple (input_scope inputs) (columns_of c.args.query.now.columns)) (product_at z inputs)) (sym e) c.requires.narrow
