use Rattle.std.proofs.Common.{rules, w64, ◌≡◌, ℕ, ℤ, List, [], ◌∷◌, ◌++◌, ◌+◌, ◌<◌, ◌≤◌, length, map, take, get_or, sym, ap, ◌∙◌, arith, append_assoc}
use Rattle.std.proofs.lemmas.Int.{to_z-of_z}
use Rattle.std.proofs.lemmas.List.{take-map, map-append, take_all, length-map}
use Rattle.river_base.proofs.Lists.{map_more}
use Rattle.river_base.proofs.LoopLemmas.{grew_by_map}
use Rattle.work_code.specs.declared.calc.Calc.{Calc}
use Rattle.work_code.specs.Calcs.{calc_term}
use Rattle.work_code.specs.Term.{Term}
use Rattle.work_code.specs.Value.{val, IsWithin}
use Rattle.work_code.proofs.Running.{within_each, on_err}
use Rattle.work_code.proofs.emitted.add_values.Goals as goal

-- one more tree
trees-next : (es : List Calc) (i : ℕ) (e : Calc) → i < length es → e ≡ get_or es i e → take (i + 1) (map calc_term es) ≡ take i (map calc_term es) ++ calc_term e ∷ []
trees-next es i e lt is = take-map calc_term (i + 1) es ∙ map_more calc_term es i e lt is ∙ ap (λ ts. ts ++ calc_term e ∷ []) (sym (take-map calc_term i es))

-- and one more value
values-next : (f : Term → ℤ) (old now next : List ℤ) (es : List Calc) (i : ℕ) (e : Calc) → i < length es → e ≡ get_or es i e
    → now ≡ old ++ map f (take i (map calc_term es)) → next ≡ now ++ f (calc_term e) ∷ [] → next ≡ old ++ map f (take (i + 1) (map calc_term es))
values-next f old now next es i e lt is n g =
    g ∙ ap (λ vs. vs ++ f (calc_term e) ∷ []) n ∙ append_assoc old (map f (take i (map calc_term es))) (f (calc_term e) ∷ [])
    ∙ ap (λ vs. old ++ vs) (sym (ap (map f) (trees-next es i e lt is) ∙ map-append f (take i (map calc_term es)) (calc_term e ∷ [])))

-- all values
values-end : (f : Term → ℤ) (old now : List ℤ) (es : List Calc) (i : ℕ) → length es ≤ i → now ≡ old ++ map f (take i (map calc_term es))
    → now ≡ old ++ map f (map calc_term es)
values-end f old now es i le n = n ∙ ap (λ ts. old ++ map f ts) (take_all i (map calc_term es) (omega (arith, le, length-map es calc_term)))

pub value_of-requires : goal.value_of-requires
value_of-requires c =
    within_each calc_term (IsWithin (length c.args.input.now) (length c.args.slots.now)) c.args.row.now c.loop-e.e-index c.e-item.result c.requires
    (omega arith) c.e-item.is

pub loop-e-preserved : goal.loop-e-preserved
loop-e-preserved c =
    values-next (λ t. val t c.args.input.now c.args.slots.now) c.args.values.now.items c.loop-e.values.items c.push.new.self.items
    c.args.row.now c.loop-e.e-index c.e-item.result (omega arith) c.e-item.is c.loop-e.invariant
    (c.in_ok-push.ensures.items ∙ ap (λ v. c.loop-e.values.items ++ v ∷ []) (to_z-of_z w64 c.value_of.result (search rules) ∙ c.value_of.ensures))

pub returns-in_err-push-clause-err : goal.returns-in_err-push-clause-err
returns-in_err-push-clause-err c =
    let f : Term → ℤ = λ t. val t c.args.input.now c.args.slots.now in
    on_err c.from_residual.result (grew_by_map f c.args.values.now.items c.push.new.self.items (map calc_term c.args.row.now) c.loop-e.e-index
    (c.in_err-push.ensures.items ∙ c.loop-e.invariant))

pub returns-clause-ok : goal.returns-clause-ok
returns-clause-ok c =
    let f : Term → ℤ = λ t. val t c.args.input.now c.args.slots.now in
    values-end f c.args.values.now.items c.loop-e.values.items c.args.row.now c.loop-e.e-index (omega arith) c.loop-e.invariant
