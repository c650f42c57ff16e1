-- The plan of a program, or why it has none.
use Rattle.std.proofs.Common.{◌≡◌, ℕ, zero, suc, ◌+◌, ◌<◌, ◌≤◌, Bool, true, false, Result, Ok, Err, Option, Some, None, List, [], ◌∷◌, ◌++◌, length, drop, get_or}
use Rattle.std.proofs.Common.{refl, sym, ap, ◌∙◌, subst, arith, append_assoc, append-nil, length-append}
use Rattle.std.specs.Prelude.{IsTrue, IfErr, if◌then◌else◌}
use Rattle.std.specs.List.{AllByRecursion}
use Rattle.std.specs.Option.{is_some}
use Rattle.std.proofs.lemmas.List.Elements.{All-head}
use Rattle.std.proofs.lemmas.List.{drop_all}
use Rattle.river_base.proofs.Lists.{drop_next}
use Rattle.river_kernels.specs.Formed.{is_width}
use Rattle.river_kernels.specs.declared.limit.Limit.TheVariants.{Operators}
use Rattle.river_plan.specs.Forms.{Name, PlanForm, plan_form, op_forms, empty_form}
use Rattle.river_plan.specs.Uses.{all_vars}
use Rattle.river_plan.specs.Valid.{FirstFault, IsJudged}
use Rattle.river_plan.specs.declared.fault.PlanFault.{PlanFault}
use Rattle.river_plan.specs.declared.fault.PlanFault.TheVariants.{P1, P2, P3, P4, P5, P6, P7, P8, P9, NoMemory}
use Rattle.river_plan.specs.declared.plan.Decl.{Decl}
use Rattle.river_plan.specs.declared.plan.RawPlan.{RawPlan}
use Rattle.cql_model.specs.Plannable.{IsPlannable, AreQueries, exceeds, declared_names}
use Rattle.cql_model.specs.Judged.{IsShortName, HaveShortNames, first_fault, then_refusal, refusal_of}
use Rattle.cql_text.specs.Tree as tree
use Rattle.cql_model.specs.Program.{registered, all_uses}
use Rattle.cql_text.specs.Tree.{Register, AQuery, Program}
use Rattle.cql_model.specs.Scopes.{Named}
use Rattle.cql_model.specs.Plan.{input_decls, input_copies, input_ops, output_decls, queries_decls, queries_ops, ops_of, query_named, plan_of}
use Rattle.cql_model.specs.declared.fault.Refusal as model
use Rattle.cql_model.proofs.OnlyLimits.{only_limits, within_where}
use Rattle.cql_model.proofs.Valid.{length-uses}
use Rattle.cql_text.specs.declared.tree.Unit as code_unit
use Rattle.cql_build.specs.declared.uses.StreamUses.{StreamUses}
use Rattle.cql_build.specs.declared.planning.Refused.{Refused}
use Rattle.cql_build.specs.declared.planning.Refused.TheVariants as refused
use Rattle.cql_build.specs.Grown.{Grew}
use Rattle.cql_build.specs.Planned.{IsWhyRefused, IsLimited, limit_of, refused_of, unit_inputs, unit_copies, unit_copying, IsShortRegistered, IsNarrow}
use Rattle.cql_text.specs.Tree.{unit_form, unit_forms}
use Rattle.cql_build.proofs.Growing.{Left, left_start, left_next, left_is, left_end}

-- WHAT THE CHECK SAYS

-- a fault is told of it exactly where it exceeds a limit
abbrev pub OnlyLimited : PlanForm → Type 0
OnlyLimited p = (o : Option PlanFault) → FirstFault p o → exceeds p ≡ is_some o

-- so every fault is one
pub refused_is : (p : PlanForm) (f : PlanFault) (unit : ℕ) → OnlyLimited p → IsJudged p (Err f) → IsLimited p unit (refused_of f unit)
refused_is p (P1 n) unit l h = (l (Some (P1 n)) h, refl)
refused_is p (P2 n) unit l h = (l (Some (P2 n)) h, refl)
refused_is p (P3 n) unit l h = (l (Some (P3 n)) h, refl)
refused_is p (P4 n) unit l h = (l (Some (P4 n)) h, refl)
refused_is p (P5 n) unit l h = (l (Some (P5 n)) h, refl)
refused_is p (P6 n) unit l h = (l (Some (P6 n)) h, refl)
refused_is p (P7 n) unit l h = (l (Some (P7 n)) h, refl)
refused_is p (P8 k n) unit l h = (l (Some (P8 k n)) h, refl)
refused_is p (P9 n) unit l h = (l (Some (P9 n)) h, refl)
refused_is p NoMemory unit l h = tt

-- where a call gave an error, what follows from it
pub if_err_then : {A E : Type 0} (r : Result A E) (P Q : E → Type 0) → ((e : E) → P e → Q e) → IfErr r P → IfErr r Q
if_err_then (Ok x) P Q f h = tt
if_err_then (Err e) P Q f h = f e h

-- REFUSALS

parts_length : (parts : List code_unit.Unit) → length (unit_forms parts) ≡ length parts
parts_length [] = refl
parts_length (p ∷ ps) = let m = parts_length ps in omega (arith, m)

-- a program of more than 256 items has too many operators
pub many_exceed : (p : Program) → 256 < length (all_uses p) → exceeds (plan_of p) ≡ true
many_exceed p lt = step (exceeds (plan_of p)) refl where
  step : (b : Bool) → exceeds (plan_of p) ≡ b → b ≡ true
  step true e = refl
  step false e = absurd
      (let h = All-head (λ (n : ℕ). n ≤ 256) (length (ops_of p)) [] (within_where (plan_of p) e Operators) in
      let a = length-append (input_ops (all_uses p) p) (queries_ops (registered p) (all_uses p) [] [] p) in
      let b = length-uses (registered p) (all_uses p) [] [] p in
      omega (arith, h, a, b, lt))

-- of the plan of a program a fault is told exactly where it exceeds a limit
pub told_limit : (p : Program) (form : PlanForm) → IsPlannable p → form ≡ plan_of p → (o : Option PlanFault) → FirstFault form o → exceeds form ≡ is_some o
told_limit p form a e o h = ap exceeds e ∙ (only_limits p o a (subst (λ (x : PlanForm). FirstFault x o) e h)).1

or_none : (a b : Option model.Refusal) → a ≡ None → then_refusal a b ≡ b
or_none a b e = ap (λ x. then_refusal x b) e

-- a program without a fault whose plan exceeds no limit
pub unrefused : (p : Program) → first_fault [] 0 1 p ≡ None → exceeds (plan_of p) ≡ false → refusal_of p ≡ None
unrefused p n e = or_none (first_fault [] 0 1 p) _ n ∙ ap (λ b. if b then Some (limit_of (length p)) else None) e

-- and one whose plan exceeds a limit
pub over_limit : (parts : List code_unit.Unit) → first_fault [] 0 1 (unit_forms parts) ≡ None → exceeds (plan_of (unit_forms parts)) ≡ true
    → refusal_of (unit_forms parts) ≡ Some (limit_of (length parts))
over_limit parts n e =
    or_none (first_fault [] 0 1 (unit_forms parts)) _ n ∙ ap (λ b. if b then Some (limit_of (length (unit_forms parts))) else None) e
    ∙ ap (λ m. Some (limit_of m)) (parts_length parts)

-- what is told of the plan is told of the program
pub limited_refused : (parts : List code_unit.Unit) (form : PlanForm) (r : Refused) → first_fault [] 0 1 (unit_forms parts) ≡ None → form ≡ plan_of (unit_forms parts)
    → IsLimited form (length parts) r → IsWhyRefused (unit_forms parts) r
limited_refused parts form (refused.Program x) n e h = over_limit parts n (sym (ap exceeds e) ∙ h.0) ∙ ap Some (sym h.1)
limited_refused parts form refused.NoMemory n e h = tt

-- INPUTS

-- the streams of a program of which a plan can be made are narrow
pub narrow_all : (ks : List Named) (ps : Program) → AreQueries ks ps → AllByRecursion IsNarrow ps
narrow_all ks [] h = tt
narrow_all ks (Register name fields ∷ ps) h = (at_most (length fields) h.0, narrow_all (record { name = name; fields = fields } ∷ ks) ps h.1) where
  at_most : (n : ℕ) → IsTrue (is_width n) → n ≤ 16
  at_most n e = grind (arith, e)
narrow_all ks (AQuery q ∷ ps) h = (tt, narrow_all (query_named ks q ∷ ks) ps h.1)

-- each stream of a narrow program is narrow
pub narrow_at : (parts : List code_unit.Unit) (i : ℕ) (p : code_unit.Unit) → AllByRecursion IsNarrow (unit_forms parts) → i < length parts → p ≡ get_or parts i p
    → IsNarrow (unit_form p)
narrow_at [] i p h lt e = absurd (omega (arith, lt))
narrow_at (q ∷ qs) zero p h lt e = subst (λ (x : code_unit.Unit). IsNarrow (unit_form x)) (sym e) h.0
narrow_at (q ∷ qs) (suc i) p h lt e = narrow_at qs i p h.1 (omega (arith, lt)) e

pub inputs_next : (parts : List code_unit.Unit) (i : ℕ) (p : code_unit.Unit) (start now later : List Decl)
    → start ++ input_decls (unit_forms parts) ≡ now ++ input_decls (unit_forms (drop i parts)) → i < length parts → p ≡ get_or parts i p
    → later ≡ now ++ unit_inputs (unit_form p) → start ++ input_decls (unit_forms parts) ≡ later ++ input_decls (unit_forms (drop (i + 1) parts))
inputs_next parts i p start now later h lt e g =
    h ∙ ap (λ l. now ++ input_decls (unit_forms l)) (drop_next parts i p lt e) ∙ ap (λ l. now ++ l) (one (unit_form p) (unit_forms (drop (i + 1) parts)))
    ∙ sym (append_assoc now (unit_inputs (unit_form p)) (input_decls (unit_forms (drop (i + 1) parts))))
    ∙ ap (λ l. l ++ input_decls (unit_forms (drop (i + 1) parts))) (sym g)
  where
    one : (p : tree.UnitForm) (ps : Program) → input_decls (p ∷ ps) ≡ unit_inputs p ++ input_decls ps
    one (Register name fields) ps = refl
    one (AQuery q) ps = refl

-- COPIES

-- how far the copies of the inputs have come, at one unit
pub record Copying (old now : RawPlan) (all : List Name) (parts : List code_unit.Unit) (i : ℕ) : Type 0 where
  pub left : Left old now [] [] (input_copies all (unit_forms parts)) (input_copies all (unit_forms (drop i parts))) (input_ops all (unit_forms parts))
      (input_ops all (unit_forms (drop i parts)))
  pub names : AllByRecursion IsShortName (declared_names (unit_forms (drop i parts)))

pub copying_start : (raw : RawPlan) (all : List Name) (parts : List code_unit.Unit) → HaveShortNames (unit_forms parts) → Copying raw raw all parts 0
copying_start raw all parts s = record { left = left_start raw _ _ _; names = s.names }

short_one : (p : tree.UnitForm) (ps : Program) → AllByRecursion IsShortName (declared_names (p ∷ ps))
    → IsShortRegistered p × AllByRecursion IsShortName (declared_names ps)
short_one (Register name fields) ps h = (h.0, h.1)
short_one (AQuery q) ps h = (tt, h.1)

pub copying_short : (old now : RawPlan) (all : List Name) (parts : List code_unit.Unit) (i : ℕ) (p : code_unit.Unit) → Copying old now all parts i → i < length parts
    → p ≡ get_or parts i p → IsShortRegistered (unit_form p)
copying_short old now all parts i p c lt e =
    (short_one (unit_form p) (unit_forms (drop (i + 1) parts))
    (subst (λ (l : List code_unit.Unit). AllByRecursion IsShortName (declared_names (unit_forms l))) (drop_next parts i p lt e) c.names)).0

pub copying_next : (old now next : RawPlan) (all : List Name) (parts : List code_unit.Unit) (i : ℕ) (p : code_unit.Unit) → Copying old now all parts i → i < length parts
    → p ≡ get_or parts i p
    → Grew now next [] (unit_copies all (unit_form p)) (unit_copying all (unit_form p)) → Copying old next all parts (i + 1)
copying_next old now next all parts i p c lt e g =
    let d = drop_next parts i p lt e in
    let rest = unit_forms (drop (i + 1) parts) in
    record {
      left = left_next old now next _ [] _ _ (unit_copies all (unit_form p)) _ _ (unit_copying all (unit_form p)) _
          (left_is old now _ _ [] _ _ (unit_copies all (unit_form p) ++ input_copies all rest) _ _
          (unit_copying all (unit_form p) ++ input_ops all rest) c.left refl
          (ap (λ l. input_copies all (unit_forms l)) d ∙ copies_one (unit_form p) rest) (ap (λ l. input_ops all (unit_forms l)) d ∙ ops_one (unit_form p) rest)) g;
      names = (short_one (unit_form p) rest (subst (λ (l : List code_unit.Unit). AllByRecursion IsShortName (declared_names (unit_forms l))) d c.names)).1;
    }
  where
    copies_one : (p : tree.UnitForm) (ps : Program) → input_copies all (p ∷ ps) ≡ unit_copies all p ++ input_copies all ps
    copies_one (Register name fields) ps = refl
    copies_one (AQuery q) ps = refl

    ops_one : (p : tree.UnitForm) (ps : Program) → input_ops all (p ∷ ps) ≡ unit_copying all p ++ input_ops all ps
    ops_one (Register name fields) ps = refl
    ops_one (AQuery q) ps = refl

pub copying_end : (old now : RawPlan) (all : List Name) (parts : List code_unit.Unit) (i : ℕ) → Copying old now all parts i → length parts ≤ i
    → Grew old now [] (input_copies all (unit_forms parts)) (input_ops all (unit_forms parts))
copying_end old now all parts i c le =
    let d = drop_all i parts le in
    left_end old now _ _ _
    (left_is old now _ _ [] _ _ [] _ _ [] c.left refl (ap (λ l. input_copies all (unit_forms l)) d) (ap (λ l. input_ops all (unit_forms l)) d))

-- ALL LISTS

-- inputs, copies, queries and variables, in lists that were empty
pub all_filled : (parts : List code_unit.Unit) (raw copied asked : RawPlan) (inputs : List Decl) (vars : List Name) (uses : StreamUses) → plan_form raw ≡ empty_form
    → uses.inputs ≡ registered (unit_forms parts) → uses.all ≡ all_uses (unit_forms parts) → uses.past ≡ []
    → inputs ≡ raw.inputs ++ input_decls (unit_forms parts)
    → Grew (record raw { inputs = inputs }) copied [] (input_copies uses.all (unit_forms parts)) (input_ops uses.all (unit_forms parts))
    → Grew copied asked (output_decls [] (unit_forms parts)) (queries_decls uses.all [] (unit_forms parts))
    (queries_ops uses.inputs uses.all [] uses.past (unit_forms parts))
    → vars ≡ asked.vars ++ all_vars (op_forms asked.ops) → plan_form (record asked { vars = vars }) ≡ plan_of (unit_forms parts)
all_filled parts raw copied asked inputs vars uses em ui ua up ei g h ev =
    let p = unit_forms parts in
    let outs : asked.outputs ≡ output_decls [] p = h.outputs
    ∙ ap (λ l. l ++ output_decls [] p) (g.outputs ∙ append-nil raw.outputs ∙ ap (λ (x : PlanForm). x.outputs) em) in
    let ins : asked.inputs ≡ input_decls p = h.inputs ∙ g.inputs ∙ ei ∙ ap (λ l. l ++ input_decls p) (ap (λ (x : PlanForm). x.inputs) em) in
    let qs : asked.queues ≡ input_copies (all_uses p) p ++ queries_decls (all_uses p) [] p =
    h.queues ∙ ap (λ l. l ++ queries_decls uses.all [] p) (g.queues ∙ ap (λ l. l ++ input_copies uses.all p) (ap (λ (x : PlanForm). x.queues) em))
    ∙ ap (λ u. input_copies u p ++ queries_decls u [] p) ua in
    let os : op_forms asked.ops ≡ ops_of p =
    h.ops ∙ ap (λ l. l ++ queries_ops uses.inputs uses.all [] uses.past p) (g.ops ∙ ap (λ l. l ++ input_ops uses.all p) (ap (λ (x : PlanForm). x.ops) em))
    ∙ ap (λ u. input_ops u p ++ queries_ops uses.inputs u [] uses.past p) ua
    ∙ ap (λ n. input_ops (all_uses p) p ++ queries_ops n (all_uses p) [] uses.past p) ui
    ∙ ap (λ n. input_ops (all_uses p) p ++ queries_ops (registered p) (all_uses p) [] n p) up in
    let ts : asked.tables ≡ [] = h.tables ∙ g.tables ∙ ap (λ (x : PlanForm). x.tables) em in
    let vs : vars ≡ all_vars (ops_of p) = ev ∙ ap (λ l. l ++ all_vars (op_forms asked.ops)) (h.vars ∙ g.vars ∙ ap (λ (x : PlanForm). x.vars) em)
    ∙ ap all_vars os in
    λ i. record { outputs = outs i; inputs = ins i; queues = qs i; tables = ts i; vars = vs i; ops = os i }
