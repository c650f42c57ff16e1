-- Types and kinds by places are those by names, and the first fault from its parts.
use Rattle.std.proofs.Common.{◌≡◌, ℕ, suc, ◌<◌, Bool, true, false, Option, Some, List, [], ◌∷◌, ◌++◌, length, map, get_or, arith, zero, refl, sym, ap, ◌∙◌}
use Rattle.std.proofs.Common.{subst}
use Rattle.std.specs.Prelude.{if◌then◌else◌, slice_index_or, unwrap_or}
use Rattle.std.proofs.lemmas.List.{map-append}
use Rattle.river_base.specs.Name.{name_eq}
use Rattle.river_base.specs.Places.{list_at}
use Rattle.river_base.specs.declared.kind.QueueType.{QueueType}
use Rattle.river_kernels.specs.Fits.{Fits, rows}
use Rattle.river_kernels.specs.Kern.{Kern, kern_of}
use Rattle.river_kernels.specs.Limits.{either}
use Rattle.river_kernels.specs.declared.types.VarKind.{VarKind}
use Rattle.river_kernels.specs.declared.types.VarKind.TheVariants.{Private, Table}
use Rattle.river_plan.specs.declared.op.Op.{Op}
use Rattle.river_plan.specs.declared.plan.Decl.{Decl}
use Rattle.river_plan.specs.declared.plan.TableDecl.{TableDecl}
use Rattle.river_plan.specs.declared.wiring.Wiring.{Wiring}
use Rattle.river_plan.specs.Forms.{Name, OpForm, PlanForm, op_form, op_forms, all_decls, decl_names, table_names, queue_names, variable_names}
use Rattle.river_plan.specs.Kinds.{kind_in, kind_of, table_in, private_in, var_in, var_kind, table_width, IsFit}
use Rattle.river_plan.specs.Places.{place, places}
use Rattle.river_plan.specs.ByPlace.{decl_kinds, table_kinds, private_kinds, queue_kinds, var_kinds, kind_at, var_kind_at, FitsPlaces}
use Rattle.river_plan.specs.Wired.{IsWired}

-- one declaration more before those that are looked through
found : {A : Type 0} (b : Bool) (d k : A) (ks : List A) (n : ℕ) (o : Option A) → slice_index_or ks n d ≡ unwrap_or o d
    → slice_index_or (k ∷ ks) (if b then 0 else suc n) d ≡ unwrap_or (if b then Some k else o) d
found true d k ks n o h = refl
found false d k ks n o h = h

kinds_in : (ds : List Decl) (q : Name) → slice_index_or (decl_kinds ds) (place (decl_names ds) q) (rows 0) ≡ unwrap_or (kind_in ds q) (rows 0)
kinds_in [] q = refl
kinds_in (d ∷ ds) q = found (name_eq d.name q) (rows 0) d.kind (decl_kinds ds) (place (decl_names ds) q) (kind_in ds q) (kinds_in ds q)

-- the type at the place of a name is the type of its queue
pub kind_place : (p : PlanForm) (q : Name) → kind_at (queue_kinds p) (place (queue_names p) q) ≡ kind_of (all_decls p) q
kind_place p q =
    ap (λ ks. slice_index_or ks (place (queue_names p) q) (rows 0)) (sym kinds)
    ∙ ap (λ ws. slice_index_or (decl_kinds (all_decls p)) (place ws q) (rows 0)) (sym names) ∙ kinds_in (all_decls p) q
  where
    kinds : decl_kinds (all_decls p) ≡ queue_kinds p
    kinds =
        map-append (λ (d : Decl). d.kind) p.outputs (p.inputs ++ p.queues)
        ∙ ap (λ l. decl_kinds p.outputs ++ l) (map-append (λ (d : Decl). d.kind) p.inputs p.queues)

    names : decl_names (all_decls p) ≡ queue_names p
    names =
        map-append (λ (d : Decl). d.name) p.outputs (p.inputs ++ p.queues)
        ∙ ap (λ l. decl_names p.outputs ++ l) (map-append (λ (d : Decl). d.name) p.inputs p.queues)

privates_in : (vs : List Name) (v : Name) → slice_index_or (private_kinds vs) (place vs v) (Table 0) ≡ unwrap_or (private_in vs v) (Table 0)
privates_in [] v = refl
privates_in (w ∷ ws) v = found (name_eq w v) (Table 0) Private (private_kinds ws) (place ws v) (private_in ws v) (privates_in ws v)

-- a choice before the first of two answers
pub if_either : {A : Type 0} (b : Bool) (x : A) (o p : Option A) → (if b then Some x else either o p) ≡ either (if b then Some x else o) p
if_either true x o p = refl
if_either false x o p = refl

-- the kind at the place of a variable is its kind
var_place : (ts : List TableDecl) (vs : List Name) (v : Name)
    → slice_index_or (table_kinds ts ++ private_kinds vs) (place (table_names ts ++ vs) v) (Table 0) ≡ unwrap_or (var_in ts vs v) (Table 0)
var_place [] vs v = privates_in vs v
var_place (t ∷ ts) vs v =
    found (name_eq t.name v) (Table 0) (Table (table_width t.kind)) (table_kinds ts ++ private_kinds vs) (place (table_names ts ++ vs) v) (var_in ts vs v)
    (var_place ts vs v)
    ∙ ap (λ (o : Option VarKind). unwrap_or o (Table 0)) (if_either (name_eq t.name v) (Table (table_width t.kind)) (table_in ts v) (private_in vs v))

mapped_places : {A : Type 0} (names : List Name) (at : ℕ → A) (by : Name → A) → ((q : Name) → at (place names q) ≡ by q) → (ws : List Name)
    → map at (places names ws) ≡ map by ws
mapped_places names at by h [] = refl
mapped_places names at by h (w ∷ ws) = ap (λ x. x ∷ map at (places names ws)) (h w) ∙ ap (λ l. by w ∷ l) (mapped_places names at by h ws)

-- the list at the place of an operator
pub at_op : (f : OpForm → List ℕ) (ops : List Op) (i : ℕ) (op : Op) → i < length ops → op ≡ get_or ops i op → list_at (map f (op_forms ops)) i ≡ f (op_form op)
at_op f [] i op lt e = absurd (omega (arith, lt))
at_op f (x ∷ xs) zero op lt e = ap (λ y. f (op_form y)) (sym e)
at_op f (x ∷ xs) (suc i) op lt e = at_op f xs i op (omega (arith, lt)) e

-- an operator fits by places exactly where it fits by names
module _ (p : PlanForm) (w : Wiring) (queues : List QueueType) (kinds : List VarKind) (i : ℕ) (op : Op) (wired : IsWired p w) (qs : queues ≡ queue_kinds p)
    (vs : kinds ≡ var_kinds p) where
  at_places : (ops : List Op) → op_forms ops ≡ p.ops → i < length ops → op ≡ get_or ops i op → (f : OpForm → List ℕ) (ls : List (List ℕ)) → ls ≡ map f p.ops
      → list_at ls i ≡ f (op_form op)
  at_places ops are lt e f ls h = ap (λ l. list_at l i) (h ∙ ap (map f) (sym are)) ∙ at_op f ops i op lt e

  types : (ws : List Name) (l : List ℕ) → l ≡ places (queue_names p) ws → map (kind_at queues) l ≡ map (kind_of (all_decls p)) ws
  types ws l e =
      ap (λ (ks : List QueueType). map (kind_at ks) l) qs ∙ ap (map (kind_at (queue_kinds p))) e
      ∙ mapped_places (queue_names p) (kind_at (queue_kinds p)) (kind_of (all_decls p)) (kind_place p) ws

  variables : (ws : List Name) (l : List ℕ) → l ≡ places (variable_names p) ws → map (var_kind_at kinds) l ≡ map (var_kind p.tables p.vars) ws
  variables ws l e =
      ap (λ (ks : List VarKind). map (var_kind_at ks) l) vs ∙ ap (map (var_kind_at (var_kinds p))) e
      ∙ mapped_places (variable_names p) (var_kind_at (var_kinds p)) (var_kind p.tables p.vars) (var_place p.tables p.vars) ws

  same : (k : Kern) (is is' os os' : List QueueType) (us us' : List VarKind) → is ≡ is' → os ≡ os' → us ≡ us' → Fits k is os us → Fits k is' os' us'
  same k is is' os os' us us' a b c h = subst (λ l. Fits k is' os' l) c (subst (λ l. Fits k is' l us) b (subst (λ l. Fits k l os us) a h))

  module _ (ops : List Op) (are : op_forms ops ≡ p.ops) (lt : i < length ops) (e : op ≡ get_or ops i op) where
    reads : map (kind_at queues) (list_at w.reads.by_op i) ≡ map (kind_of (all_decls p)) op.reads
    reads = types op.reads (list_at w.reads.by_op i) (at_places ops are lt e (λ o. places (queue_names p) o.reads) w.reads.by_op wired.reads.by_op)

    writes : map (kind_at queues) (list_at w.writes.by_op i) ≡ map (kind_of (all_decls p)) op.writes
    writes = types op.writes (list_at w.writes.by_op i) (at_places ops are lt e (λ o. places (queue_names p) o.writes) w.writes.by_op wired.writes.by_op)

    vars : map (var_kind_at kinds) (list_at w.vars.by_op i) ≡ map (var_kind p.tables p.vars) op.vars
    vars = variables op.vars (list_at w.vars.by_op i) (at_places ops are lt e (λ o. places (variable_names p) o.vars) w.vars.by_op wired.vars.by_op)

    -- a kernel that fits by places fits by names
    pub fits-named : FitsPlaces queues kinds (kern_of op.kernel) (list_at w.reads.by_op i) (list_at w.writes.by_op i) (list_at w.vars.by_op i)
        → IsFit p (op_form op)
    fits-named h = same (kern_of op.kernel) _ _ _ _ _ _ reads writes vars h

    -- and back
    pub fits-placed : IsFit p (op_form op)
        → FitsPlaces queues kinds (kern_of op.kernel) (list_at w.reads.by_op i) (list_at w.writes.by_op i) (list_at w.vars.by_op i)
    fits-placed h = same (kern_of op.kernel) _ _ _ _ _ _ (sym reads) (sym writes) (sym vars) h
