-- The tables among an operator's variables: their places and widths.
use Rattle.std.proofs.Common.{◌≡◌, ℕ, suc, ◌+◌, ◌<◌, Bool, true, false, Some, List, [], ◌∷◌, ◌++◌, length, map, filter, refl, sym, ap, ◌∙◌, subst, arith}
use Rattle.std.proofs.Common.{nat_lt, ⊎_elim}
use Rattle.std.specs.Prelude.{if◌then◌else◌, slice_get, unwrap_or}
use Rattle.std.proofs.lemmas.Bool.{cases_lt}
use Rattle.std.proofs.lemmas.List.{length-map}
use Rattle.std.proofs.lemmas.Option.{same_Some}
use Rattle.river_plan.proofs.DeclLemmas.{private_there, no_table}
use Rattle.brooklet_model.proofs.WideAdds.{widths_length}
use Rattle.river_base.proofs.PlaceLemmas.{if_lt, if_ge, if_true, if_false}
use Rattle.river_base.specs.Name.{name_eq}
use Rattle.kern_tables.specs.Tables.{table_width}
use Rattle.river_kernels.specs.declared.types.VarKind.TheVariants.{Private, Table}
use Rattle.river_kernels.specs.Limits.{either}
use Rattle.river_plan.specs.declared.plan.TableDecl.{TableDecl}
use Rattle.river_plan.specs.Forms.{Name, OpForm, PlanForm, table_names, variable_names}
use Rattle.river_plan.specs.Kinds.{table_in, private_in, var_kind}
use Rattle.river_plan.specs.Names.{count, one_if}
use Rattle.river_plan.specs.Places.{place, places}
use Rattle.river_plan.specs.Uses.{vars_it}
use Rattle.river_plan.specs.Valid.{IsPlan}
use Rattle.river_plan.proofs.NameLemmas.{cases_name, name_same, count-append}
use Rattle.river_plan.proofs.PlaceLemmas.{place_below, place_front, place_back}
use Rattle.brooklet_model.specs.Fire.{tabs}
use Rattle.brooklet_model.specs.Histories.{tables_of}
use Rattle.brooklet_model.specs.Typed.{widths_in}
use Rattle.brooklet_model.proofs.Ports.{counts}
use Rattle.brooklet_model.proofs.Traces.{at_most}
use Rattle.brooklet_model.proofs.TypedPlan.{op_fits}
use Rattle.brooklet_step.specs.Tables.{table_places}

-- those of these variables that are tables
abbrev among : List Name → List Name → List Name
among names vs = filter (λ v. nat_lt 0 (count v names)) vs

-- THEIR PLACES

-- they are declared
pub among_known : (names vs : List Name) (n : Name) → 0 < count n (among names vs) → 0 < count n names
among_known names [] n h = absurd (omega (arith, h))
among_known names (v ∷ vs) n h = ⊎_elim
    (λ lt. ⊎_elim
    (λ c. subst (λ x. 0 < count x names) c.0 lt)
    (λ c. among_known names vs n
    (let e = ap (count n) (if_lt 0 (count v names) (v ∷ among names vs) (among names vs) lt) in let o = ap one_if c.1 in omega (arith, e, o, h)))
    (cases_name v n))
    (λ ge. among_known names vs n (let e = ap (count n) (if_ge 0 (count v names) (v ∷ among names vs) (among names vs) ge) in omega (arith, e, h)))
    (cases_lt 0 (count v names))

-- among all variables the tables stand first
places_are : (names others vs : List Name) → table_places (length names) (places (names ++ others) vs) ≡ places names (among names vs)
places_are names others [] = refl
places_are names others (v ∷ vs) =
    let p = place (names ++ others) v in
    let rest = table_places (length names) (places (names ++ others) vs) in
    ⊎_elim
    (λ lt.
    let at = place_front names others v lt in
    let b = place_below names v lt in
    if_lt p (length names) (p ∷ rest) rest (omega (arith, at, b))
    ∙ (λ i. at i ∷ places_are names others vs i)
    ∙ ap (places names) (sym (if_lt 0 (count v names) (v ∷ among names vs) (among names vs) lt)))
    (λ ge.
    let at = place_back names others v (omega (arith, ge)) in
    if_ge p (length names) (p ∷ rest) rest (omega (arith, at))
    ∙ places_are names others vs
    ∙ ap (places names) (sym (if_ge 0 (count v names) (v ∷ among names vs) (among names vs) ge)))
    (cases_lt 0 (count v names))

-- the places of an operator's tables among all tables
pub table_places_are : (p : PlanForm) (op : OpForm) (n : ℕ) → n ≡ length p.tables
    → table_places n (places (variable_names p) op.vars) ≡ places (table_names p.tables) (tables_of (table_names p.tables) op)
table_places_are p op n e =
    ap (λ k. table_places k (places (variable_names p) op.vars)) (e ∙ sym (length-map p.tables (λ (t : TableDecl). t.name)))
    ∙ places_are (table_names p.tables) p.vars op.vars

-- THEIR WIDTHS

-- the width of a table by name
abbrev pub width_at : List TableDecl → Name → ℕ
width_at [] v = 0
width_at (t ∷ ts) v = if name_eq t.name v then table_width t.kind else width_at ts v

-- it is that of the declaration at the name's place
pub width_there : (ts : List TableDecl) (v : Name) (t : TableDecl) → slice_get ts (place (table_names ts) v) ≡ Some t → width_at ts v ≡ table_width t.kind
width_there [] v t g = absurd (cc g)
width_there (u ∷ us) v t g =
    let at : (b : Bool) → name_eq u.name v ≡ b
    → slice_get (u ∷ us) (if b then 0 else suc (place (table_names us) v)) ≡ Some t =
    λ b e. ap (λ c. slice_get (u ∷ us) (if c then 0 else suc (place (table_names us) v))) (sym e) ∙ g in
    ⊎_elim
    (λ c. if_true (name_eq u.name v) (table_width u.kind) (width_at us v) c.1 ∙ ap (λ (x : TableDecl). table_width x.kind) (same_Some u t (at true c.1)))
    (λ c. if_false (name_eq u.name v) (table_width u.kind) (width_at us v) c.1 ∙ width_there us v t (at false c.1))
    (cases_name u.name v)

table_there : (ts : List TableDecl) (v : Name) → 0 < count v (table_names ts) → table_in ts v ≡ Some (Table (width_at ts v))
table_there [] v h = absurd (omega (arith, h))
table_there (t ∷ ts) v h = ⊎_elim
    (λ c. if_true (name_eq t.name v) (Some (Table (table_width t.kind))) (table_in ts v) c.1
    ∙ ap (λ n. Some (Table n)) (sym (if_true (name_eq t.name v) (table_width t.kind) (width_at ts v) c.1)))
    (λ c.
    if_false (name_eq t.name v) (Some (Table (table_width t.kind))) (table_in ts v) c.1 ∙ table_there ts v (let o = ap one_if c.1 in omega (arith, o, h))
    ∙ ap (λ n. Some (Table n)) (sym (if_false (name_eq t.name v) (table_width t.kind) (width_at ts v) c.1)))
    (cases_name t.name v)

widths_are : (ts : List TableDecl) (vars vs : List Name) → ((v : Name) → 0 < count v vs → 0 < count v (table_names ts) + count v vars)
    → widths_in (map (var_kind ts vars) vs) ≡ map (width_at ts) (among (table_names ts) vs)
widths_are ts vars [] d = refl
widths_are ts vars (v ∷ vs) d =
    let names = table_names ts in
    let n = count v names in
    let more = widths_are ts vars vs (λ w lt. d w (omega (arith, lt))) in
    ⊎_elim
    (λ lt.
    let kind : var_kind ts vars v ≡ Table (width_at ts v) = ap (λ o. unwrap_or (either o (private_in vars v)) (Table 0)) (table_there ts v lt) in
    ap (λ k. widths_in (k ∷ map (var_kind ts vars) vs)) kind ∙ ap (λ l. width_at ts v ∷ l) more
    ∙ ap (map (width_at ts)) (sym (if_lt 0 n (v ∷ among names vs) (among names vs) lt)))
    (λ ge.
    let here : 0 < count v (v ∷ vs) = (let e = ap one_if (name_same v) in omega (arith, e)) in
    let p : 0 < count v vars = (let a = d v here in omega (arith, a, ge)) in
    let kind : var_kind ts vars v ≡ Private = ap (λ o. unwrap_or (either o (private_in vars v)) (Table 0)) (no_table ts v (omega (arith, ge)))
    ∙ ap (λ o. unwrap_or o (Table 0)) (private_there vars v p) in
    ap (λ k. widths_in (k ∷ map (var_kind ts vars) vs)) kind ∙ more
    ∙ ap (map (width_at ts)) (sym (if_ge 0 n (v ∷ among names vs) (among names vs) ge)))
    (cases_lt 0 n)

module _ (p : PlanForm) (v : IsPlan p) (o : ℕ) (op : OpForm) (g : slice_get p.ops o ≡ Some op) where
  vars_known : (n : Name) → 0 < count n op.vars → 0 < count n (table_names p.tables) + count n p.vars
  vars_known n lt =
      let m = at_most (vars_it n) p.ops o op g in
      let d = v.vars_declared n (omega (arith, m, lt)) in
      let a = count-append n (table_names p.tables) p.vars in
      omega (arith, d, a)

  -- the widths of an operator's tables
  pub widths_of : widths_in (map (var_kind p.tables p.vars) op.vars) ≡ map (width_at p.tables) (tables_of (table_names p.tables) op)
  widths_of = widths_are p.tables p.vars op.vars vars_known

  -- and how many there are
  pub mine_many : length (tables_of (table_names p.tables) op) ≡ tabs op.kernel
  mine_many =
      sym (length-map (tables_of (table_names p.tables) op) (width_at p.tables)) ∙ ap length (sym widths_of)
      ∙ widths_length (map (var_kind p.tables p.vars) op.vars)
      ∙ (counts op.kernel _ _ _ (op_fits p v o op g)).tables
