use Rattle.std.proofs.Common.{◌≡◌, ◌+◌, take, ◌++◌, ◌∷◌, [], ap, sym, ◌∙◌, rules}
use Rattle.std.proofs.lemmas.List.{take_more}
use Rattle.fire_tasks.proofs.ports.next_kept.Goals as goal

pub returns-clause-taken : goal.returns-clause-taken
returns-clause-taken c =
    let e : c.in-Some.next ≡ c.args.kept.now.taken + 1 = search rules in
    ap (λ n. take n c.args.kept.now.line) e
    ∙ take_more c.args.kept.now.line c.args.kept.now.taken c.in_ok-item.item c.requires
    ∙ ap (λ y. take c.args.kept.now.taken c.args.kept.now.line ++ y ∷ []) (sym (c.in_ok-item.ensures c.in_ok-item.item))
