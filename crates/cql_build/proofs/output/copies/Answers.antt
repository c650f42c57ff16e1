use Rattle.std.proofs.Common.{◌+◌, ◌-◌, [], ◌∷◌, ◌++◌, sym, ap, ◌∙◌, append_assoc}
use Rattle.cql_model.specs.Plan.{copy_names}
use Rattle.cql_build.proofs.Growing.{copies_next}
use Rattle.cql_build.proofs.output.copies.Goals as goal

pub loop-k-preserved : goal.loop-k-preserved
loop-k-preserved c =
    let b = c.args.base in
    let k = c.loop-k.k in
    let names = c.loop-k.names in
    let x = c.in_ok-marked.field-0 in
    let rest = copy_names b (k + 1) (c.args.count - (k + 1)) in
    c.loop-k.invariant
    ∙ ap (λ l. names ++ l) (copies_next b k c.args.count c.loop-k-test.true)
    ∙ ap (λ y. names ++ (y ∷ rest)) (sym c.in_ok-marked.ensures)
    ∙ sym (append_assoc names (x ∷ []) rest)
    ∙ ap (λ l. l ++ rest) (sym c.in_ok-push.ensures.ok)
