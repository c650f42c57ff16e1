use Rattle.std.proofs.Common.{Vec, Global, [], ◌∷◌, ◌++◌, take, sym, ap, ◌∙◌, ◌-◌, ◌≡◌, arith}
use Rattle.std.specs.Vec.{vec_len}
use Rattle.kern_tables.specs.declared.kept.Aggregate.{Aggregate}
use Rattle.fire_run.proofs.SortLemmas.{at_here, at_same, at_other}
use Rattle.fire_run.proofs.sorting.take_last.Goals as goal

pub unreachable-requires : goal.unreachable-requires
unreachable-requires c =
    let v = c.at_mut.result.now in
    let none = c.in-None.ensures in
    let z = none.cases.0 in
    let few : vec_len v - 1 ≡ 0 = omega (arith, z) in
    c.requires.some (at_here c.args.lists.now c.args.class v c.requires.there ∙ ap (λ (w : Vec Aggregate Global). w.items) (sym (c.at_mut.ensures.value v))
    ∙ none.items ∙ ap (λ l. l ++ []) (none.rest ∙ ap (λ n. take n v.items) few))

pub returns-clause-last : goal.returns-clause-last
returns-clause-last c =
    let v = c.at_mut.result.now in
    at_here c.args.lists.now c.args.class v c.requires.there ∙ ap (λ (w : Vec Aggregate Global). w.items) (sym (c.at_mut.ensures.value v)) ∙ c.in-Some.ensures.items
    ∙ ap (λ l. l ++ c.in-Some.table ∷ []) (sym (at_same c.args.lists.now c.args.class c.pop.new.self c.requires.there))

pub returns-clause-others : goal.returns-clause-others
returns-clause-others c = λ e ne. at_other c.args.lists.now c.args.class e c.pop.new.self ne
