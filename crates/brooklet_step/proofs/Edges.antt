-- Inputs and outputs of a valid plan carry rows or a stream: their queues hold items as they are.
use Rattle.std.proofs.Common.{◌≡◌, ◌<◌, List, [], ◌∷◌, ◌++◌, sym, ap, ◌∙◌, subst, arith, ⊎_elim}
use Rattle.std.specs.Prelude.{All, Some, unwrap_or}
use Rattle.std.proofs.lemmas.List.Elements.{All-head, All-tail, All-nil, All-cons}
use Rattle.river_base.proofs.PlaceLemmas.{if_true, if_false}
use Rattle.river_base.specs.declared.item.Item as item
use Rattle.river_base.specs.declared.kind.FlatType.TheVariants.{Rows, Stream, Relation}
use Rattle.river_base.specs.declared.kind.QueueType.{QueueType}
use Rattle.river_base.specs.declared.kind.QueueType.TheVariants.{Flat as FlatOf, Pack as PackOf}
use Rattle.river_base.specs.Held.{held, HasType, IsHeld, IsPlain}
use Rattle.river_base.specs.Name.{name_eq}
use Rattle.river_base.specs.Places.{list_at}
use Rattle.river_base.proofs.HeldLemmas.{held-nil, held-plain}
use Rattle.river_kernels.specs.Fits.{rows}
use Rattle.river_plan.specs.declared.plan.Decl.{Decl}
use Rattle.river_plan.specs.Faults.{IsOuter, IsRowsOrStream}
use Rattle.river_plan.specs.Forms.{Name, PlanForm, decl_names, all_decls}
use Rattle.river_plan.specs.Kinds.{kind_in, kind_of}
use Rattle.river_plan.specs.Names.{one_if, count}
use Rattle.river_plan.specs.Valid.{IsPlan}
use Rattle.river_plan.proofs.NameLemmas.{cases_name, count-append, more_or_zero}
use Rattle.brooklet_model.specs.Histories.{inputs_of}
use Rattle.brooklet_model.specs.Typed.{AreInputs}
use Rattle.brooklet_model.proofs.Solutions.{written_out}
use Rattle.brooklet_model.proofs.TypedPlan.{kind_front, kind_back, inputs_typed}
use Rattle.brooklet_step.proofs.HeldLaws.{plain_law}

outer_plain : (t : QueueType) → IsRowsOrStream t → IsPlain t
outer_plain (FlatOf (Rows w)) h = tt
outer_plain (FlatOf (Stream w)) h = tt
outer_plain (FlatOf (Relation w)) h = absurd h
outer_plain (PackOf t) h = absurd h

-- so it is with each that is declared in such a list
found_plain : (ds : List Decl) (q : Name) → All IsOuter ds → 0 < count q (decl_names ds) → IsPlain (unwrap_or (kind_in ds q) (rows 0))
found_plain [] q h lt = absurd (omega (arith, lt))
found_plain (d ∷ ds) q h lt = ⊎_elim
    (λ c. subst (λ o. IsPlain (unwrap_or o (rows 0))) (sym (if_true (name_eq d.name q) (Some d.kind) (kind_in ds q) c.1))
    (outer_plain d.kind (All-head IsOuter d ds h).1))
    (λ c. subst (λ o. IsPlain (unwrap_or o (rows 0))) (sym (if_false (name_eq d.name q) (Some d.kind) (kind_in ds q) c.1))
    (found_plain ds q (All-tail IsOuter d ds h) (let e = ap one_if c.1 in omega (arith, e, lt))))
    (cases_name d.name q)

-- an output is no relation
pub output_plain : (p : PlanForm) → IsPlan p → (q : Name) → 0 < count q (decl_names p.outputs) → IsPlain (kind_of (all_decls p) q)
output_plain p v q lt =
    subst (λ k. IsPlain (unwrap_or k (rows 0))) (sym (kind_front p.outputs (p.inputs ++ p.queues) q lt)) (found_plain p.outputs q v.outputs_typed lt)

-- nor is an input
pub input_plain : (p : PlanForm) → IsPlan p → (q : Name) → 0 < count q (decl_names p.inputs) → IsPlain (kind_of (all_decls p) q)
input_plain p v q lt =
    let o = v.queues_once q in
    let s = count-append q (decl_names p.outputs) (decl_names p.inputs ++ decl_names p.queues) in
    let t = count-append q (decl_names p.inputs) (decl_names p.queues) in
    let is = kind_back p.outputs (p.inputs ++ p.queues) q (omega (arith, o, s, t, lt)) ∙ kind_front p.inputs p.queues q lt in
    subst (λ k. IsPlain (unwrap_or k (rows 0))) (sym is) (found_plain p.inputs q v.inputs_typed lt)

-- what the queue of an output holds is its history
pub output_held : (p : PlanForm) → IsPlan p → (q : Name) → 0 < count q (decl_names p.outputs) → (past xs : List item.Item)
    → held (kind_of (all_decls p) q) past xs ≡ xs
output_held p v q lt past xs = held-plain (kind_of (all_decls p) q) past xs (output_plain p v q lt)

-- what is there of the inputs is held as it is, in each queue
pub inputs_held : (p : PlanForm) → IsPlan p → (inputs : List (List item.Item)) (q : Name)
    → held (kind_of (all_decls p) q) [] (inputs_of (decl_names p.inputs) (list_at inputs) q) ≡ inputs_of (decl_names p.inputs) (list_at inputs) q
inputs_held p v inputs q = ⊎_elim
    (λ lt. held-plain (kind_of (all_decls p) q) [] (inputs_of (decl_names p.inputs) (list_at inputs) q) (input_plain p v q lt))
    (λ z. let e = written_out (decl_names p.inputs) (list_at inputs) (λ n. []) q z in
    ap (held (kind_of (all_decls p) q) []) e ∙ held-nil (kind_of (all_decls p) q) [] ∙ sym e)
    (more_or_zero (count q (decl_names p.inputs)))

all_typed_plain : (t : QueueType) (xs : List item.Item) → IsPlain t → All (HasType t) xs → All (IsHeld t) xs
all_typed_plain t [] h a = All-nil (IsHeld t)
all_typed_plain t (x ∷ xs) h a =
    All-cons (IsHeld t) x xs ((plain_law t x h).1 (All-head (HasType t) x xs a)) (all_typed_plain t xs h (All-tail (HasType t) x xs a))

-- and is what the queue may hold
pub inputs_may : (p : PlanForm) → IsPlan p → (inputs : List (List item.Item)) → AreInputs p.inputs inputs → (q : Name)
    → All (IsHeld (kind_of (all_decls p) q)) (inputs_of (decl_names p.inputs) (list_at inputs) q)
inputs_may p v inputs a q = ⊎_elim
    (λ lt. all_typed_plain (kind_of (all_decls p) q) (inputs_of (decl_names p.inputs) (list_at inputs) q) (input_plain p v q lt) (inputs_typed p v inputs a q))
    (λ z. subst (All (IsHeld (kind_of (all_decls p) q))) (sym (written_out (decl_names p.inputs) (list_at inputs) (λ n. []) q z))
    (All-nil (IsHeld (kind_of (all_decls p) q))))
    (more_or_zero (count q (decl_names p.inputs)))
