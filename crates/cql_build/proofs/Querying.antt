-- Queries that are made one after another.
use Rattle.std.proofs.Common.{◌≡◌, ℕ, ◌+◌, ◌<◌, ◌≤◌, List, [], ◌∷◌, ◌++◌, length, drop, get_or, Option, refl, sym, ap, ◌∙◌, subst, arith}
use Rattle.std.specs.List.{AllByRecursion}
use Rattle.std.proofs.lemmas.List.{length-map, drop_all, append-nil}
use Rattle.river_base.proofs.Lists.{drop_next}
use Rattle.cql_text.specs.declared.tree.Kind.{Kind}
use Rattle.river_kernels.specs.Fits.{stream}
use Rattle.river_plan.specs.Forms.{Name}
use Rattle.river_plan.specs.Names.{count}
use Rattle.river_plan.specs.declared.plan.RawPlan.{RawPlan}
use Rattle.cql_model.specs.Plannable.{AreQueries, declared_names}
use Rattle.cql_model.specs.Judged.{IsShortName, HaveShortNames}
use Rattle.cql_text.specs.Tree as tree
use Rattle.cql_model.specs.Program.{streams_of, all_uses}
use Rattle.cql_text.specs.Tree.{Scalar, Columns, Query, Register, AQuery, Program}
use Rattle.cql_model.specs.Scopes.{Named, scope_of}
use Rattle.cql_model.specs.Plan.{decl, queues_of_uses, w_name, window_ops, window_decls, cross_ops, cross_last, widths_of, select_ops, select_last}
use Rattle.cql_model.specs.Plan.{select_decls, project_ops, project_last, project_decls, out_decls, tail_ops, columns_width, query_ops, query_decls}
use Rattle.cql_model.specs.Plan.{query_named, output_decls, queries_decls, queries_ops}
use Rattle.cql_text.specs.declared.tree.Unit as code_unit
use Rattle.cql_text.specs.declared.tree.Source.{Source}
use Rattle.cql_build.specs.declared.item.Item.{Item}
use Rattle.cql_build.specs.declared.known.Known.{Known}
use Rattle.cql_build.specs.declared.uses.StreamUses.{StreamUses}
use Rattle.cql_build.specs.Grown.{Grew, Used, product_decls, stream_ops, tail_decls, IsPlannableUnit, IsShortUnit, unit_outputs, unit_decls, unit_ops, unit_uses}
use Rattle.cql_model.specs.Places.{declares}
use Rattle.cql_build.specs.Knowing.{Knows}
use Rattle.cql_text.specs.Tree.{unit_form, unit_forms, sources_of}
use Rattle.cql_build.specs.Views.{named_item, scope}
use Rattle.cql_build.proofs.Growing.{Left, left_start, left_next, left_is, left_end, grew_then}
use Rattle.cql_build.proofs.Judging.{scope_length}

-- THE TAIL OF A QUERY

-- condition, columns and stream, one behind the other
pub tail_made : (a b c d : RawPlan) (q : Query) (is : List Named) (uses : ℕ) (last s p : Name) (w : ℕ) → s ≡ select_last q.name last q.condition
    → p ≡ project_last q.name s q.columns → w ≡ columns_width is q.columns
    → Grew a b [] (select_decls q.name (widths_of is) q.condition) (select_ops q.name is last q.condition)
    → Grew b c [] (project_decls q.name q.columns) (project_ops q.name is s q.columns)
    → Grew c d (decl q.name (stream w) ∷ []) (out_decls q.name w uses) (stream_ops q.name q.kind p uses)
    → Grew a d (decl q.name (stream (columns_width is q.columns)) ∷ []) (tail_decls q is uses) (tail_ops q is uses last)
tail_made a b c d q is uses last s p w es ep ew g h k =
    let h1 = subst (λ (x : Name). Grew b c [] (project_decls q.name q.columns) (project_ops q.name is x q.columns)) es h in
    let e2 : p ≡ project_last q.name (select_last q.name last q.condition) q.columns = ep ∙ ap (λ x. project_last q.name x q.columns) es in
    let k1 = subst (λ (x : Name). Grew c d (decl q.name (stream w) ∷ []) (out_decls q.name w uses) (stream_ops q.name q.kind x uses)) e2 k in
    let k2 = subst (λ (x : ℕ). Grew c d (decl q.name (stream x) ∷ []) (out_decls q.name x uses)
    (stream_ops q.name q.kind (project_last q.name (select_last q.name last q.condition) q.columns) uses)) ew k1 in
    grew_then a b d [] _ _ _ _ _ g (grew_then b c d [] _ _ _ _ _ h1 k2)

-- A QUERY

-- windows, products and the rest make the operators of a query
pub query_made : (a b c d : RawPlan) (name : Name) (kind : Kind) (columns : Columns) (items : List tree.Source) (condition : Option Scalar) (ks : List Named)
    (inputs all past : List Name) (is : List Named) (last : Name) (used : ℕ)
    → is ≡ scope_of ks items → 0 < length items → used ≡ count name all → last ≡ cross_last name (w_name name 1) 2 (drop 1 items)
    → Grew a b [] (window_decls name 1 is) (window_ops name 1 items (queues_of_uses inputs all past (streams_of items)))
    → Grew b c [] (product_decls name is) (cross_ops name (w_name name 1) 2 (drop 1 items))
    → Grew c d (decl name (stream (columns_width is columns)) ∷ [])
    (tail_decls (record { name = name; kind = kind; columns = columns; items = items; condition = condition }) is used)
    (tail_ops (record { name = name; kind = kind; columns = columns; items = items; condition = condition }) is used last)
    → Grew a d (decl name (stream (columns_width (scope_of ks items) columns)) ∷ [])
    (query_decls all ks (record { name = name; kind = kind; columns = columns; items = items; condition = condition }))
    (query_ops inputs all ks past (record { name = name; kind = kind; columns = columns; items = items; condition = condition }))
query_made a b c d name kind columns [] condition ks inputs all past is last used e some u l g h t = absurd (omega (arith, some))
query_made a b c d name kind columns (i ∷ items) condition ks inputs all past is last used e some u l g h t =
    let q : Query = record { name = name; kind = kind; columns = columns; items = i ∷ items; condition = condition } in
    let sc = scope_of ks (i ∷ items) in
    let g1 = subst (λ (x : List Named). Grew a b [] (window_decls name 1 x)
    (window_ops name 1 (i ∷ items) (queues_of_uses inputs all past (streams_of (i ∷ items))))) e g in
    let h1 = subst (λ (x : List Named). Grew b c [] (product_decls name x) (cross_ops name (w_name name 1) 2 items)) e h in
    let t1 = subst (λ (x : List Named). Grew c d (decl name (stream (columns_width x columns)) ∷ []) (tail_decls q x used) (tail_ops q x used last)) e t in
    let t2 = subst (λ (x : ℕ). Grew c d (decl name (stream (columns_width sc columns)) ∷ []) (tail_decls q sc x) (tail_ops q sc x last)) u t1 in
    let t3 = subst (λ (x : Name). Grew c d (decl name (stream (columns_width sc columns)) ∷ []) (tail_decls q sc (count name all))
    (tail_ops q sc (count name all) x)) l t2 in
    grew_then a c d [] _ _ _ _ _ (grew_then a b c [] [] _ _ _ _ g1 h1) t3

-- the items of a query that is accepted
pub items_are : (ks : List Named) (xs : List Source) (is : List Item) → scope is ≡ scope_of ks (sources_of xs) → length is ≡ length xs
items_are ks xs is e = sym (length-map is named_item) ∙ ap (λ (l : List Named). length l) e ∙ scope_length ks xs

-- ALL UNITS

-- how far the queries have come, at one unit, with the names that are known there
pub record Querying (old now : RawPlan) (before after : StreamUses) (parts : List code_unit.Unit) (i : ℕ) (k : Known) : Type 0 where
  pub ks : List Named
  pub knows : Knows k ks
  pub good : AreQueries ks (unit_forms (drop i parts))
  pub names : AllByRecursion IsShortName (declared_names (unit_forms (drop i parts)))
  pub uses : AllByRecursion IsShortName (all_uses (unit_forms (drop i parts)))
  pub inputs : after.inputs ≡ before.inputs
  pub all : after.all ≡ before.all
  pub left : Left old now (output_decls [] (unit_forms parts)) (output_decls ks (unit_forms (drop i parts))) (queries_decls before.all [] (unit_forms parts))
      (queries_decls before.all ks (unit_forms (drop i parts)))
      (queries_ops before.inputs before.all [] before.past (unit_forms parts)) (queries_ops before.inputs before.all ks after.past (unit_forms (drop i parts)))

pub querying_start : (raw : RawPlan) (uses : StreamUses) (parts : List code_unit.Unit) (k : Known) → Knows k [] → AreQueries [] (unit_forms parts)
    → HaveShortNames (unit_forms parts)
    → Querying raw raw uses uses parts 0 k
querying_start raw uses parts k n g s =
    record { ks = []; knows = n; good = g; names = s.names; uses = s.uses; inputs = refl; all = refl; left = left_start raw _ _ _ }

each_front : (P : Name → Type 0) (xs ys : List Name) → AllByRecursion P (xs ++ ys) → AllByRecursion P xs
each_front P [] ys h = tt
each_front P (x ∷ xs) ys h = (h.0, each_front P xs ys h.1)

each_back : (P : Name → Type 0) (xs ys : List Name) → AllByRecursion P (xs ++ ys) → AllByRecursion P ys
each_back P [] ys h = h
each_back P (x ∷ xs) ys h = each_back P xs ys h.1

-- a unit, and those behind it
record Apart (ks : List Named) (p : tree.UnitForm) (ps : Program) : Type 0 where
  pub unit : IsPlannableUnit ks p
  pub short : IsShortUnit p
  pub good : AreQueries (declares ks p ∷ ks) ps
  pub names : AllByRecursion IsShortName (declared_names ps)
  pub uses : AllByRecursion IsShortName (all_uses ps)

apart : (ks : List Named) (p : tree.UnitForm) (ps : Program) → AreQueries ks (p ∷ ps) → AllByRecursion IsShortName (declared_names (p ∷ ps))
    → AllByRecursion IsShortName (all_uses (p ∷ ps)) → Apart ks p ps
apart ks (Register name fields) ps g n u = record { unit = tt; short = tt; good = g.1; names = n.1; uses = u }
apart ks (AQuery q) ps g n u = record {
  unit = g.0;
  short = (n.0, each_front IsShortName (streams_of q.items) (all_uses ps) u);
  good = g.1;
  names = n.1;
  uses = each_back IsShortName (streams_of q.items) (all_uses ps) u;
}

at : (old now : RawPlan) (before after : StreamUses) (parts : List code_unit.Unit) (i : ℕ) (k : Known) (p : code_unit.Unit) (a : Querying old now before after parts i k)
    → i < length parts
    → p ≡ get_or parts i p
    → Apart a.ks (unit_form p) (unit_forms (drop (i + 1) parts))
at old now before after parts i k p a lt e =
    let d : unit_forms (drop i parts) ≡ unit_form p ∷ unit_forms (drop (i + 1) parts) = ap unit_forms (drop_next parts i p lt e) in
    apart a.ks (unit_form p) (unit_forms (drop (i + 1) parts)) (subst (AreQueries a.ks) d a.good)
    (subst (λ (l : Program). AllByRecursion IsShortName (declared_names l)) d a.names)
    (subst (λ (l : Program). AllByRecursion IsShortName (all_uses l)) d a.uses)

-- the next unit is as the whole program asks
pub querying_good : (old now : RawPlan) (before after : StreamUses) (parts : List code_unit.Unit) (i : ℕ) (k : Known) (p : code_unit.Unit) → Querying old now before after parts i k
    → i < length parts → p ≡ get_or parts i p
    → ((ks : List Named) × Knows k ks × IsPlannableUnit ks (unit_form p)) × IsShortUnit (unit_form p)
querying_good old now before after parts i k p a lt e = let s = at old now before after parts i k p a lt e in ((a.ks, a.knows, s.unit), s.short)

outputs_one : (ks : List Named) (p : tree.UnitForm) (ps : Program) → output_decls ks (p ∷ ps) ≡ unit_outputs ks p ++ output_decls (declares ks p ∷ ks) ps
outputs_one ks (Register name fields) ps = refl
outputs_one ks (AQuery q) ps = refl

decls_one : (all : List Name) (ks : List Named) (p : tree.UnitForm) (ps : Program)
    → queries_decls all ks (p ∷ ps) ≡ unit_decls all ks p ++ queries_decls all (declares ks p ∷ ks) ps
decls_one all ks (Register name fields) ps = refl
decls_one all ks (AQuery q) ps = refl

ops_one : (inputs all past later : List Name) (ks : List Named) (p : tree.UnitForm) (ps : Program) → later ≡ past ++ unit_uses p
    → queries_ops inputs all ks past (p ∷ ps) ≡ unit_ops inputs all ks past p ++ queries_ops inputs all (declares ks p ∷ ks) later ps
ops_one inputs all past later ks (Register name fields) ps e =
    ap (λ l. queries_ops inputs all (record { name = name; fields = fields } ∷ ks) l ps) (sym (e ∙ append-nil past))
ops_one inputs all past later ks (AQuery q) ps e = ap (λ l. query_ops inputs all ks past q ++ queries_ops inputs all (query_named ks q ∷ ks) l ps) (sym e)

-- one unit more is made
pub querying_next : (old now next : RawPlan) (before after later : StreamUses) (parts : List code_unit.Unit) (i : ℕ) (k k' : Known) (p : code_unit.Unit)
    (a : Querying old now before after parts i k)
    → i < length parts → p ≡ get_or parts i p
    → ((ks : List Named) → Knows k ks
    → Grew now next (unit_outputs ks (unit_form p)) (unit_decls after.all ks (unit_form p)) (unit_ops after.inputs after.all ks after.past (unit_form p)))
    → Used after later (unit_uses (unit_form p))
    → ((ks : List Named) → Knows k ks → Knows k' (declares ks (unit_form p) ∷ ks)) → Querying old next before later parts (i + 1) k'
querying_next old now next before after later parts i k k' p a lt e g u n =
    let s = at old now before after parts i k p a lt e in
    let d : unit_forms (drop i parts) ≡ unit_form p ∷ unit_forms (drop (i + 1) parts) = ap unit_forms (drop_next parts i p lt e) in
    let rest = unit_forms (drop (i + 1) parts) in
    let g1 = subst (λ (l : List Name). Grew now next (unit_outputs a.ks (unit_form p)) (unit_decls l a.ks (unit_form p))
    (unit_ops after.inputs l a.ks after.past (unit_form p))) a.all (g a.ks a.knows) in
    let g2 = subst (λ (l : List Name). Grew now next (unit_outputs a.ks (unit_form p)) (unit_decls before.all a.ks (unit_form p))
    (unit_ops l before.all a.ks after.past (unit_form p))) a.inputs g1 in
    record {
      ks = declares a.ks (unit_form p) ∷ a.ks;
      knows = n a.ks a.knows;
      good = s.good;
      names = s.names;
      uses = s.uses;
      inputs = u.inputs ∙ a.inputs;
      all = u.all ∙ a.all;
      left =
          left_next old now next _ (unit_outputs a.ks (unit_form p)) _ _ (unit_decls before.all a.ks (unit_form p)) _ _
          (unit_ops before.inputs before.all a.ks after.past (unit_form p)) _
          (left_is old now _ _ (unit_outputs a.ks (unit_form p) ++ output_decls (declares a.ks (unit_form p) ∷ a.ks) rest) _ _
          (unit_decls before.all a.ks (unit_form p) ++ queries_decls before.all (declares a.ks (unit_form p) ∷ a.ks) rest) _ _
          (unit_ops before.inputs before.all a.ks after.past (unit_form p) ++ queries_ops before.inputs before.all
          (declares a.ks (unit_form p) ∷ a.ks) later.past rest) a.left
          (ap (output_decls a.ks) d ∙ outputs_one a.ks (unit_form p) rest)
          (ap (queries_decls before.all a.ks) d ∙ decls_one before.all a.ks (unit_form p) rest)
          (ap (queries_ops before.inputs before.all a.ks after.past) d
          ∙ ops_one before.inputs before.all after.past later.past a.ks (unit_form p) rest u.past)) g2;
    }

pub querying_end : (old now : RawPlan) (before after : StreamUses) (parts : List code_unit.Unit) (i : ℕ) (k : Known) → Querying old now before after parts i k
    → length parts ≤ i
    → Grew old now (output_decls [] (unit_forms parts)) (queries_decls before.all [] (unit_forms parts))
    (queries_ops before.inputs before.all [] before.past (unit_forms parts))
querying_end old now before after parts i k a le =
    let d : unit_forms (drop i parts) ≡ [] = ap unit_forms (drop_all i parts le) in
    left_end old now _ _ _
    (left_is old now _ _ [] _ _ [] _ _ [] a.left (ap (output_decls a.ks) d) (ap (queries_decls before.all a.ks) d)
    (ap (queries_ops before.inputs before.all a.ks after.past) d))

-- as many sources as are written
pub sources_length : (xs : List Source) → length (sources_of xs) ≡ length xs
sources_length [] = refl
sources_length (x ∷ xs) = let m = sources_length xs in omega (arith, m)
