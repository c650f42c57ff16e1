-- The records of `load`, and what its program prints for them.
use Rattle.std.proofs.Common.{◌≡◌, ℕ, zero, suc, ◌+◌, ◌/◌, ◌%◌, ℤ, List, [], ◌∷◌, ◌++◌, true, false, length, refl, sym, ap, subst, arith, add-one}
use Rattle.std.specs.Prelude.{Result, Ok, Err, pos}
use Rattle.std.proofs.lemmas.Bool.Decides.{nat_tests}
use Rattle.std.proofs.lemmas.List.Elements.{All-nil, All-push}
use Rattle.river_base.specs.Held.{HaveWidth}
use Rattle.river_base.specs.declared.kind.FlatType.TheVariants.{Rows, Stream, Relation}
use Rattle.river_base.specs.declared.kind.QueueType.{QueueType}
use Rattle.river_base.specs.declared.kind.QueueType.TheVariants.{Flat as FlatOf, Pack as PackOf}
use Rattle.river_outside.specs.Passes.{RefusesPoint, StandsFor, AnswersAs}
use Rattle.river_outside.specs.declared.stop.Stop.{Stop}
use Rattle.river_outside.specs.declared.stop.Stop.TheVariants as stop
use Rattle.river_plan.specs.declared.plan.Decl.{Decl}
use Rattle.river_plan.specs.Forms.{PlanForm}
use Rattle.river_road.specs.Contents.{IsContent, AreContents}
use Rattle.river_road.specs.Load.{load_program, load_record, load_records, load_files, is_of_pairs, takes_pairs}
use Rattle.river_road.specs.Supplied.{Supplied, IsGathered, printed_for}
use Rattle.river_road.specs.Points.{then_made, supplied_by, scripted_supplied, load_supplied}
use Rattle.river_road.specs.Source.{SourceProgram, IsPlanOf, IsPlanned, IsCompiled}
use Rattle.river_road.specs.declared.gathered.Gathered.{Gathered}
use Rattle.river_road.specs.declared.language.Compiled.{Compiled}
use Rattle.river_road.specs.declared.content.FileContent.{FileContent}
use Rattle.river_road.specs.declared.content.FileContent.TheVariants.{Rows as Plain}

-- ---- THE RECORDS

-- no record
pub load_records-none : load_records 0 ≡ []
unfolding load_records
load_records-none = refl

-- one record more
pub load_records-more : (k : ℕ) → load_records (k + 1) ≡ load_records k ++ (pos ((k + 1) % 10) ∷ pos ((k + 1) / 10) ∷ []) ∷ []
unfolding load_records
load_records-more k = rw (add-one k) refl

-- each has two values
pub load_records-wide : (n : ℕ) → HaveWidth 2 (load_records n)
unfolding load_records
load_records-wide zero = All-nil (λ row. length row ≡ 2)
load_records-wide (suc n) = All-push (λ row. length row ≡ 2) (load_records n) (load_record (suc n)) (load_records-wide n) refl

-- so they are what an input of rows of two values has
pub pairs-fit : (decls : List Decl) (rows : List (List ℤ)) → takes_pairs decls ≡ true → HaveWidth 2 rows → AreContents decls (Plain rows ∷ [])
pairs-fit [] rows is wide = cc is
pairs-fit (d ∷ e ∷ more) rows is wide = cc is
pairs-fit (d ∷ []) rows is wide = (fits d.kind is, tt)
  where
    fits : (kind : QueueType) → is_of_pairs kind ≡ true → IsContent kind (Plain rows)
    fits (FlatOf (Rows w)) two = let same : w ≡ 2 = grind (arith, nat_tests, two) in subst (λ n. HaveWidth n rows) (sym same) wide
    fits (FlatOf (Stream w)) two = cc two
    fits (FlatOf (Relation w)) two = cc two
    fits (PackOf t) two = cc two

-- ---- THE PROGRAM

-- what refuses the first refuses the whole
pub then-refused : {A B : Type 0} (found : Result A (List ℕ)) (make : A → Result B (List ℕ)) (s : Stop) → RefusesPoint found s
    → RefusesPoint (then_made found make) s
then-refused found make stop.Usage told = absurd told
then-refused found make (stop.Refused text) told = rw told refl
then-refused found make (stop.Failed text) told = absurd told
then-refused found make (stop.Absent text) told = absurd told
then-refused found make stop.NoMemory told = tt

-- what is answered after what was found
pub then-answers : {A B C D : Type 0} (stands : A → B → Type 0) (into : C → D → Type 0) (found : Result A (List ℕ)) (make : A → Result C (List ℕ))
    (y : B) (result : Result D Stop) → StandsFor stands found y → ((x : A) → stands x y → AnswersAs into (make x) result)
    → AnswersAs into (then_made found make) result
then-answers stands into (Ok x) make y (Ok z) told later = later x told
then-answers stands into (Ok x) make y (Err s) told later = later x told
then-answers stands into (Err text) make y result told later = absurd told

-- the program is refused
pub load-refused : (source_of : List ℕ → Result SourceProgram (List ℕ)) (n : ℕ) (s : Stop) → RefusesPoint (source_of load_program) s
    → RefusesPoint (load_supplied source_of n) s
unfolding load_supplied
load-refused source_of n s told = then-refused (source_of load_program) (scripted_supplied n) s told

-- its script is applied, and the records are made
pub load-answers : {P : Type 0} (source_of : List ℕ → Result SourceProgram (List ℕ)) (n : ℕ) (stands : SourceProgram → P → Type 0) (c : Compiled P)
    (result : Result Gathered Stop) → StandsFor (IsCompiled stands) (source_of load_program) c
    → ((source : SourceProgram) → IsPlanned c.caps source c.plan → AnswersAs IsGathered (scripted_supplied n source) result)
    → AnswersAs IsGathered (load_supplied source_of n) result
unfolding load_supplied
load-answers source_of n stands c result told later =
    then-answers (IsCompiled stands) IsGathered (source_of load_program) (scripted_supplied n) c result told (λ source is. later source is.planned)

-- ---- WHAT IT IS GIVEN

module _ (n : ℕ) (plan : PlanForm) (source : SourceProgram) (of : IsPlanOf source plan) where
  -- the records are not those of its inputs
  pub files-refused : (s : Stop) → RefusesPoint (load_files n plan.inputs) s → RefusesPoint (supplied_by n source) s
  files-refused s told =
      then-refused (load_files n source.inputs) (λ files. Ok (record { source = source; files = files })) s
      (subst (λ (ds : List Decl). RefusesPoint (load_files n ds) s) of.inputs told)

  -- they are
  pub files-given : (files : List FileContent) (g : Gathered) → load_files n plan.inputs ≡ Ok files → IsGathered (record { source = source; files = files }) g
      → StandsFor IsGathered (supplied_by n source) g
  files-given files g told is =
      let same : load_files n source.inputs ≡ Ok files = subst (λ (ds : List Decl). load_files n ds ≡ Ok files) of.inputs told in
      subst (λ (r : Result (List FileContent) (List ℕ)). StandsFor IsGathered (then_made r (λ fs. Ok (record { source = source; files = fs }))) g) (sym same) is

-- what is printed of what was gathered
pub loaded-printed : (found : Result Supplied (List ℕ)) (g : Gathered) (text : List ℕ) → StandsFor IsGathered found g
    → ((s : Supplied) → IsGathered s g → text ≡ printed_for false s) → then_made found (λ s. Ok (printed_for false s)) ≡ Ok text
loaded-printed (Ok s) g text is says = ap (λ (t : List ℕ). Ok t) (sym (says s is))
loaded-printed (Err t) g text is says = absurd is
