-- What programs mean in the five languages, each by its own definition.
use Rattle.std.specs.Prelude.{◌≡◌, ℕ, ℤ, pos, List, [], ◌∷◌, map, Result, slice_index_or, codes}
use Rattle.river_plan.specs.Forms.{Name, decl_names, table_names}
use Rattle.river_text.specs.Meaning.{plan_in}
use Rattle.river_text.specs.Plans.{TextForm}
use Rattle.river_text.specs.Words.{river_words}
use Rattle.brooklet_model.specs.Meaning.{Results, meaning}
use Rattle.streamit_model.specs.Plan.{plan_of, values_in}
use Rattle.streamit_model.specs.Laws.{as_items}
use Rattle.streamit_model.specs.Meaning.{program_outputs}
use Rattle.streamit_text.specs.Program as streamit
use Rattle.streamit_build.specs.Readable.{AreReadable}
use Rattle.streamit_front.specs.Meaning.{Accepted, compiled}
use Rattle.streamit_front.specs.Words.{streamit_words}
use Rattle.params_text.specs.Program as params
use Rattle.params_model.specs.Meaning.{params_outputs}
use Rattle.params_front.specs.Meaning as params_front
use Rattle.params_front.specs.Words.{params_words}
use Rattle.cql_model.specs.Instants.{program_means}
use Rattle.cql_text.specs.Tree.{Register, AQuery, UnitForm}
use Rattle.cql_text.specs.Tree as cql_text
use Rattle.cql_model.specs.Plan.{input_decls}
use Rattle.cql_model.specs.Plan as cql
use Rattle.cql_front.specs.Meaning as cql_front
use Rattle.cql_front.specs.Words.{cql_words}
use Rattle.river_kernels.specs.Fits.{rows}
use Rattle.saw_model.specs.Meaning.{tables_in, width, program_tables}
use Rattle.saw_text.specs.Tree as saw_text
use Rattle.saw_front.specs.Valued.{AreValuedUnits}
use Rattle.slow_cql.specs.Contents.{HaveColumns}
use Rattle.slow_sawzall.specs.Sawzall.{IsAccepted}
use Rattle.saw_front.specs.Meaning as saw
use Rattle.saw_front.specs.Words.{saw_words}
use Rattle.river_road.specs.Inputs.{timed_files, all_items}
use Rattle.river_road.specs.Source.{SourceProgram, source_or_refused}
use Rattle.river_road.specs.declared.content.FileContent.{FileContent}
use Rattle.river_road.specs.declared.content.FileContent.TheVariants.{Rows as Plain, Timed}

-- the program of a River text is its plan
abbrev pub river_source : TextForm → SourceProgram
river_source t = record {
  inputs = t.plan.inputs;
  outputs = decl_names t.plan.outputs;
  tables = table_names t.plan.tables;
  means = λ files. meaning t.plan (all_items files);
  plan = t.plan;
  caps = t.caps;
}

-- the first value of each row
abbrev pub first_of_rows : List (List ℤ) → List ℤ
first_of_rows rows = map (λ row. slice_index_or row 0 (pos 0)) rows

-- the values of the first input, of which each row has one
abbrev pub values : List FileContent → List ℤ
values [] = []
values (Plain rows ∷ others) = first_of_rows rows
values (Timed rows ∷ others) = []

abbrev pub streamit_means : streamit.Program → List FileContent → Results
streamit_means p files = record { outs = as_items (program_outputs p (values files)) ∷ []; tables = [] }

-- a StreamIt program, by its own definition
abbrev pub streamit_source : Accepted → SourceProgram
streamit_source a = record {
  inputs = values_in (codes "in") ∷ [];
  outputs = codes "out" ∷ [];
  tables = [];
  means = streamit_means a.program;
  plan = plan_of a.stream;
  caps = [];
}

abbrev pub params_means : params.ParamProgram → List FileContent → Results
params_means p files = record { outs = as_items (params_outputs p (values files)) ∷ []; tables = [] }

-- a StreamIt program with parameters, by its own definition
abbrev pub params_source : params_front.Accepted → SourceProgram
params_source a = record {
  inputs = values_in (codes "in") ∷ [];
  outputs = codes "out" ∷ [];
  tables = [];
  means = params_means a.tree;
  plan = plan_of a.stream;
  caps = [];
}

-- the rows of the first input, which are the first fields of its records
abbrev pub records : List FileContent → List (List ℤ)
records [] = []
records (Plain rows ∷ others) = rows
records (Timed rows ∷ others) = []

abbrev pub saw_means : saw_text.Program → List FileContent → Results
saw_means p files = record { outs = []; tables = program_tables p (records files) }

-- a Sawzall program, by its own definition
abbrev pub saw_source : saw.Accepted → SourceProgram
saw_source a = record {
  inputs = record { name = codes "in"; kind = rows (width (saw.program_in a)) } ∷ [];
  outputs = [];
  tables = table_names (tables_in (saw.program_in a));
  means = saw_means (saw.program_in a);
  plan = saw.plan_in a;
  caps = [];
}

-- the queries of a program, by their names
abbrev pub asked_names : cql_text.Program → List Name
asked_names [] = []
asked_names (Register name fields ∷ ps) = asked_names ps
asked_names (AQuery q ∷ ps) = q.name ∷ asked_names ps

abbrev pub cql_means : cql_text.Program → List FileContent → Results
cql_means p files = record { outs = program_means p (timed_files files); tables = [] }

-- a CQL program, by its own definition: a registered stream is an input, and a query an output
abbrev pub cql_source : List UnitForm → SourceProgram
cql_source p = record {
  inputs = input_decls p;
  outputs = asked_names p;
  tables = [];
  means = cql_means p;
  plan = cql.plan_of p;
  caps = [];
}

-- WHAT A TEXT IS

-- the program of a text in each language, or the text that refuses it
abbrev pub river_in : List ℕ → Result SourceProgram (List ℕ)
river_in text = source_or_refused river_source river_words (plan_in text)

abbrev pub streamit_in : List ℕ → Result SourceProgram (List ℕ)
streamit_in text = source_or_refused streamit_source streamit_words (compiled text)

abbrev pub params_in : List ℕ → Result SourceProgram (List ℕ)
params_in text = source_or_refused params_source params_words (params_front.compiled text)

abbrev pub saw_in : List ℕ → Result SourceProgram (List ℕ)
saw_in text = source_or_refused saw_source saw_words (saw.compiled text)

abbrev pub cql_in : List ℕ → Result SourceProgram (List ℕ)
cql_in text = source_or_refused cql_source cql_words (cql_front.compiled text)

-- WHAT STANDS FOR A PROGRAM

-- this is the program as it was read: it is accepted, and the meaning is its own
pub record IsStreamit (s : SourceProgram) (p : streamit.Program) : Type 0 where
  pub readable : AreReadable p
  pub means : (files : List FileContent) → s.means files ≡ streamit_means p files

pub record IsSawzall (s : SourceProgram) (p : saw_text.Program) : Type 0 where
  pub accepted : IsAccepted p
  pub valued : AreValuedUnits p
  pub means : (files : List FileContent) → s.means files ≡ saw_means p files

pub record IsCql (s : SourceProgram) (p : cql_text.Program) : Type 0 where
  pub columns : HaveColumns [] p
  pub inputs : s.inputs ≡ input_decls p
  pub means : (files : List FileContent) → s.means files ≡ cql_means p files
