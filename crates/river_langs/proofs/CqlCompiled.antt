-- What was compiled of a CQL text stands for what the text means.
use Rattle.std.proofs.Common.{◌≡◌, ℕ, ℤ, List, [], ◌∷◌, length, refl, sym, ap, ◌∙◌, subst}
use Rattle.std.specs.Prelude.{map, Result, Ok, All}
use Rattle.std.proofs.lemmas.List.Elements.{All-nil, All-cons, All-head, All-tail}
use Rattle.river_base.specs.Instants as base
use Rattle.river_base.specs.Held.{HaveWidth}
use Rattle.river_outside.specs.Passes.{StandsFor}
use Rattle.csv_streams.specs.Timed.{Entry}
use Rattle.river_plan.specs.Caps.{IsCap}
use Rattle.river_plan.specs.declared.caps.Cap.{Cap}
use Rattle.river_plan.specs.Forms.{PlanForm, decl_names}
use Rattle.brooklet_model.specs.Meaning.{meaning}
use Rattle.cql_model.specs.Instants.{inputs_for}
use Rattle.cql_model.specs.Laws.{AreFiles}
use Rattle.cql_text.specs.Tree.{Register, AQuery, Program}
use Rattle.cql_model.specs.Scopes.{Named}
use Rattle.cql_model.specs.Plan.{input_decls, output_decls, query_named, plan_of}
use Rattle.cql_text.specs.Tree.{UnitForm, program_of}
use Rattle.cql_text.specs.declared.tree.CqlProgram.{CqlProgram}
use Rattle.cql_front.specs.Meaning.{compiled, Plans}
use Rattle.cql_front.specs.Words.{cql_words}
use Rattle.cql_front.specs.declared.fault.CqlFault.{CqlFault}
use Rattle.cql_front.proofs.Fronts.{plans_mean}
use Rattle.slow_cql.proofs.Accepted.{accepted_columns}
use Rattle.river_road.specs.Contents.{AreContents}
use Rattle.river_road.specs.Inputs.{timed_files, items_at, all_items}
use Rattle.river_road.specs.Source.{source_or_refused, IsPlanOf, IsCompiled}
use Rattle.river_langs.specs.Sources.{asked_names, cql_source, IsCql}
use Rattle.river_road.specs.declared.content.FileContent.{FileContent}
use Rattle.river_road.specs.declared.content.FileContent.TheVariants.{Rows as Plain, Timed}

-- the outputs of the plan are the queries
outputs-are : (ks : List Named) (p : Program) → decl_names (output_decls ks p) ≡ asked_names p
outputs-are ks [] = refl
outputs-are ks (Register name fields ∷ ps) = outputs-are (record { name = name; fields = fields } ∷ ks) ps
outputs-are ks (AQuery q ∷ ps) = ap (λ l. q.name ∷ l) (outputs-are (query_named ks q ∷ ks) ps)

-- each input has a file whose rows have its width
widths-are : (w : ℕ) (rows : List Entry) → HaveWidth w (map (λ (e : Entry). e.1) rows) → All (λ (e : Entry). length e.1 ≡ w) rows
widths-are w [] h = All-nil (λ (e : Entry). length e.1 ≡ w)
widths-are w (e ∷ rows) h =
    let all = map (λ (f : Entry). f.1) rows in
    All-cons (λ (f : Entry). length f.1 ≡ w) e rows (All-head (λ l. length l ≡ w) e.1 all h) (widths-are w rows (All-tail (λ l. length l ≡ w) e.1 all h))

-- files that have what the inputs ask are files of the program
pub files-are : (p : Program) (files : List FileContent) → AreContents (input_decls p) files → AreFiles p (timed_files files)
files-are [] [] h = tt
files-are [] (f ∷ files) h = absurd h
files-are (Register name fields ∷ ps) [] h = absurd h
files-are (Register name fields ∷ ps) (Plain rows ∷ files) h = absurd h.0
files-are (Register name fields ∷ ps) (Timed rows ∷ files) h = (widths-are (length fields) rows h.0, files-are ps files h.1)
files-are (AQuery q ∷ ps) files h = files-are ps files h

-- and its items are batches at the instants
items-are : (ts : List ℤ) (p : Program) (files : List FileContent) → AreContents (input_decls p) files
    → map (items_at ts) files ≡ map (λ f. base.spread ts (base.at_instant f)) (timed_files files)
items-are ts [] [] h = refl
items-are ts [] (f ∷ files) h = absurd h
items-are ts (Register name fields ∷ ps) [] h = absurd h
items-are ts (Register name fields ∷ ps) (Plain rows ∷ files) h = absurd h.0
items-are ts (Register name fields ∷ ps) (Timed rows ∷ files) h = ap (λ l. base.spread ts (base.at_instant rows) ∷ l) (items-are ts ps files h.1)
items-are ts (AQuery q ∷ ps) files h = items-are ts ps files h

program_means : (text : List ℕ) (p : List UnitForm) → compiled text ≡ Ok p → (files : List FileContent) → AreContents (input_decls p) files
    → meaning (plan_of p) (all_items files) ≡ (cql_source p).means files
program_means text p e files h =
    let timed = timed_files files in
    let items : all_items files ≡ inputs_for timed = items-are (base.instants timed) p files h in
    ap (meaning (plan_of p)) items ∙ (plans_mean text p e).1 timed (files-are p files h)

program_plan : (text : List ℕ) (p : List UnitForm) → compiled text ≡ Ok p → IsPlanOf (cql_source p) (plan_of p)
program_plan text p e = record { plan = refl; inputs = refl; outputs = outputs-are [] p; tables = refl; means = program_means text p e }

-- the program and the plan that were compiled stand for what the text means
pub cql-compiled : (text : List ℕ) (t : CqlProgram) (plan : PlanForm) → Plans (compiled text) (program_of t) plan
    → StandsFor (IsCompiled (λ s t. IsCql s (program_of t))) (source_or_refused cql_source cql_words (compiled text))
    (record { plan = plan; caps = []; program = t })
cql-compiled text t plan h =
    subst (λ (r : Result (List UnitForm) CqlFault). StandsFor (IsCompiled (λ s t. IsCql s (program_of t))) (source_or_refused cql_source cql_words r)
    (record { plan = plan; caps = []; program = t }))
    (sym h.accepted)
    (record {
      planned = record {
        plan = subst (IsPlanOf (cql_source (program_of t))) (sym h.planned) (program_plan text (program_of t) h.accepted);
        caps_are
            = refl;
        fit = All-nil (λ (c : Cap). IsCap c.most);
      };
      program = record { columns = accepted_columns text (program_of t) h.accepted; inputs = refl; means = λ files. refl };
    })
