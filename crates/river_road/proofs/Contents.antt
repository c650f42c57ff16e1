-- What the files of a program's inputs have fits the inputs' types.
use Rattle.std.proofs.Common.{◌≡◌, ℕ, ◌<◌, ◌≤◌, List, [], ◌∷◌, ◌++◌, length, refl, sym, ap, ◌∙◌, subst, arith, ⊎_elim, Bool, false}
use Rattle.std.specs.Prelude.{Result, Ok, Err, All, IfOk, unwrap_or, if◌then◌else◌, Some}
use Rattle.std.proofs.lemmas.List.Elements.{All-head, All-tail}
use Rattle.river_base.specs.declared.kind.FlatType.TheVariants.{Rows, Stream, Relation}
use Rattle.river_base.specs.declared.kind.QueueType.{QueueType}
use Rattle.river_base.specs.declared.kind.QueueType.TheVariants.{Flat as FlatOf, Pack as PackOf}
use Rattle.river_base.specs.Name.{name_eq}
use Rattle.river_outside.specs.Passes.{StandsFor, AnswersAs}
use Rattle.river_outside.specs.declared.stop.Stop.{Stop}
use Rattle.river_kernels.specs.Fits.{rows}
use Rattle.river_plan.specs.declared.plan.Decl.{Decl}
use Rattle.river_plan.specs.Faults.{IsOuter, IsRowsOrStream}
use Rattle.river_plan.specs.Forms.{Name, PlanForm, decl_names}
use Rattle.river_plan.specs.Kinds.{kind_in, kind_of}
use Rattle.river_plan.specs.Names.{one_if, count}
use Rattle.river_plan.specs.Valid.{IsPlan}
use Rattle.river_plan.proofs.NameLemmas.{cases_name, count-append}
use Rattle.csv_streams.specs.Rows.{rows_of_file}
use Rattle.csv_streams.specs.Timed.{timed_of}
use Rattle.csv_streams.specs.declared.fault.InFault.{InFault}
use Rattle.csv_streams.proofs.TimedWritten.{timed_have_width}
use Rattle.csv_streams.proofs.WrittenRows.{read_rows-width}
use Rattle.river_road.specs.Contents.{IsContent, AreContents}
use Rattle.river_road.specs.Inputs.{names, names_fit, or_told, read_as, file_content, content_reader, file_read, with_first, all_read, content_named, contents_in_order}
use Rattle.river_road.specs.declared.content.FileContent.{FileContent}
use Rattle.river_road.specs.declared.content.FileContent.TheVariants.{Rows as Plain, Timed}
use Rattle.command_line.specs.declared.command.InWord.{InWord}
use Rattle.river_road.specs.declared.layout.Layout.{Layout}
use Rattle.river_road.proofs.Inputs.{IsNamed, all-named}

-- WHAT IS READ FITS ITS TYPE

was_read : {A : Type 0} (content : A → FileContent) (r : Result A InFault) (x : FileContent) → read_as content r ≡ Ok x → (y : A) × (r ≡ Ok y) × (x ≡ content y)
was_read content (Ok y) x e = let is : x ≡ content y = cc in (y, refl, is)
was_read content (Err f) x e = cc

content_is : (t : QueueType) (layout : Layout) (bytes : List ℕ) (x : FileContent) → IsRowsOrStream t → file_content t layout bytes ≡ Ok x → IsContent t x
content_is (FlatOf (Rows w)) layout bytes x o e =
    let (rs, read, is) = was_read Plain (rows_of_file bytes w layout.header layout.more) x e in
    subst (IsContent (FlatOf (Rows w))) (sym is) (read_rows-width bytes w layout.header layout.more rs read)
content_is (FlatOf (Stream w)) layout bytes x o e =
    let (es, read, is) = was_read Timed (timed_of bytes w layout.header) x e in
    subst (IsContent (FlatOf (Stream w))) (sym is) (timed_have_width bytes w layout.header es read)
content_is (FlatOf (Relation w)) layout bytes x o e = absurd o
content_is (PackOf t) layout bytes x o e = absurd o

told_content : (name : List ℕ) (r : Result FileContent InFault) (x : FileContent) → or_told name r ≡ Ok x → r ≡ Ok x
told_content name (Ok y) x e = let is : y ≡ x = cc in ap (λ (c : FileContent). Ok c) is
told_content name (Err f) x e = cc

first_and_others : (r : Result FileContent (List ℕ)) (later : Result (List FileContent) (List ℕ)) (all : List FileContent) → with_first r later ≡ Ok all
    → (x : FileContent) × (others : List FileContent) × (r ≡ Ok x) × (later ≡ Ok others) × (all ≡ x ∷ others)
first_and_others (Err text) later all e = cc
first_and_others (Ok x) (Err text) all e = cc
first_and_others (Ok x) (Ok others) all e = let is : all ≡ x ∷ others = cc in (x, others, refl, refl, is)

module _ (decls : List Decl) (layout : Layout) where
  named_content : (ins : List InWord) (files : List (List ℕ)) (all : List FileContent) (name : List ℕ) → length files ≡ length ins
      → all_read (content_reader decls layout) ins files ≡ Ok all
      → 0 < count name (names ins) → IsRowsOrStream (kind_of decls name) → IsContent (kind_of decls name) (content_named ins all name)
  named_content [] files all name same e lt o = absurd (omega (arith, lt))
  named_content (w ∷ ins) [] all name same e lt o = absurd (omega (arith, same))
  named_content (w ∷ ins) (b ∷ files) all name same e lt o =
      let (x, others, first, later, parts) =
      first_and_others (file_read (content_reader decls layout) w b) (all_read (content_reader decls layout) ins files) all e in
      let read : file_content (kind_of decls w.name) layout b ≡ Ok x = told_content w.name (file_content (kind_of decls w.name) layout b) x first in
      subst (λ l. IsContent (kind_of decls name) (content_named (w ∷ ins) l name)) (sym parts)
      (⊎_elim
      (λ c. subst (λ (t : Bool). IsContent (kind_of decls name) (if t then x else content_named ins others name)) (sym c.1)
      (content_is (kind_of decls name) layout b x o (ap (λ n. file_content (kind_of decls n) layout b) (sym c.0) ∙ read)))
      (λ c. subst (λ (t : Bool). IsContent (kind_of decls name) (if t then x else content_named ins others name)) (sym c.1)
      (let none = ap one_if c.1 in named_content ins files others name (omega (arith, same)) later (omega (arith, none, lt)) o))
      (cases_name w.name name))

-- THE TYPE OF A NAME IS THAT OF ITS INPUT

abbrev Known : (Name → QueueType) → List Decl → Type 0
Known kind [] = Unit {0}
Known kind (d ∷ ds) = (kind d.name ≡ d.kind) × Known kind ds

kind_if : Decl → List Decl → Name → Bool → QueueType
kind_if d ds q b = unwrap_or (if b then Some d.kind else kind_in ds q) (rows 0)

known_more : (d : Decl) (all ds : List Decl) → ((q : Name) → 0 < count q (decl_names ds) → name_eq d.name q ≡ false) → Known (kind_of all) ds
    → Known (kind_of (d ∷ all)) ds
unfolding kind_if
known_more d all [] other k = tt
known_more d all (e ∷ ds) other k =
    let here : 0 < count e.name (decl_names (e ∷ ds)) =
    ⊎_elim (λ c. let t = ap one_if c.1 in omega (arith, t)) (λ c. absurd (c.0 refl)) (cases_name e.name e.name) in
    (ap (kind_if d all e.name) (other e.name here) ∙ k.0, known_more d all ds (λ q lt. other q (omega (arith, lt))) k.1)

known_all : (ds : List Decl) → ((q : Name) → count q (decl_names ds) ≤ 1) → Known (kind_of ds) ds
unfolding kind_if
known_all [] apart = tt
known_all (d ∷ ds) apart =
    let here = ⊎_elim (λ c. ap (kind_if d ds d.name) c.1) (λ c. absurd (c.0 refl)) (cases_name d.name d.name) in
    let other : (q : Name) → 0 < count q (decl_names ds)
    → name_eq d.name q ≡ false = λ q lt. ⊎_elim (λ c. absurd (let t = ap one_if c.1 in omega (arith, t, lt, apart q))) (λ c. c.1) (cases_name d.name q) in
    (here, known_more d ds ds other (known_all ds (λ q. omega (arith, apart q))))

-- the inputs of a valid plan have names of their own
pub inputs-apart : (p : PlanForm) → IsPlan p → (q : Name) → count q (decl_names p.inputs) ≤ 1
inputs-apart p v q =
    let s = count-append q (decl_names p.outputs) (decl_names p.inputs ++ decl_names p.queues) in
    let t = count-append q (decl_names p.inputs) (decl_names p.queues) in
    omega (arith, v.queues_once q, s, t)

-- EACH INPUT HAS A CONTENT OF ITS TYPE

module _ (decls : List Decl) (layout : Layout) (ins : List InWord) (files : List (List ℕ)) (all : List FileContent)
    (same : length files ≡ length ins) (read : all_read (content_reader decls layout) ins files ≡ Ok all) where
  each_content : (ds : List Decl) → Known (kind_of decls) ds → All IsOuter ds → All (λ d. IsNamed ins d) ds → AreContents ds (contents_in_order ds ins all)
  each_content [] k o n = tt
  each_content (d ∷ ds) k o n =
      let outer = (All-head IsOuter d ds o).1 in (
        subst (λ t. IsContent t (content_named ins all d.name)) k.0
            (named_content decls layout ins files all d.name same read (All-head (λ e. IsNamed ins e) d ds n) (subst IsRowsOrStream (sym k.0) outer)),
        each_content ds k.1 (All-tail IsOuter d ds o) (All-tail (λ e. IsNamed ins e) d ds n),
      )

-- the files that were read have what the inputs ask
pub read-contents : (decls : List Decl) (layout : Layout) (ins : List InWord) (files : List (List ℕ)) (result : Result (List FileContent) Stop) → All IsOuter decls
    → ((q : Name) → count q (decl_names decls) ≤ 1)
    → names_fit decls ins ≡ Ok tt → length files ≡ length ins
    → AnswersAs (λ all contents. contents ≡ contents_in_order decls ins all) (all_read (content_reader decls layout) ins files) result
    → IfOk result (AreContents decls)
read-contents decls layout ins files (Err s) o apart fit same told = tt
read-contents decls layout ins files (Ok contents) o apart fit same told = by (all_read (content_reader decls layout) ins files) refl told
  where
    by : (r : Result (List FileContent) (List ℕ)) → all_read (content_reader decls layout) ins files ≡ r
        → StandsFor (λ all found. found ≡ contents_in_order decls ins all) r contents → AreContents decls contents
    by (Ok all) is told =
        subst (AreContents decls) (sym told) (each_content decls layout ins files all same is decls (known_all decls apart) o (all-named decls ins fit))
    by (Err text) is told = absurd told
