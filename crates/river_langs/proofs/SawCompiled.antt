-- What was compiled of a Sawzall program stands for what its text means.
use Rattle.std.proofs.Common.{◌≡◌, ℕ, ℤ, List, [], ◌∷◌, length, refl, sym, ap, ◌∙◌, subst, arith}
use Rattle.std.specs.Prelude.{map, take, Result, Ok}
use Rattle.std.proofs.lemmas.List.Elements.{All-nil, All-head, All-tail}
use Rattle.river_base.specs.declared.item.Flat.TheVariants.{One}
use Rattle.river_base.specs.declared.item.Item.TheVariants.{Flat}
use Rattle.river_base.specs.Held.{HaveWidth}
use Rattle.river_outside.specs.Passes.{StandsFor}
use Rattle.river_plan.specs.Caps.{IsCap}
use Rattle.river_plan.specs.Forms.{PlanForm}
use Rattle.river_plan.specs.declared.caps.Cap.{Cap}
use Rattle.brooklet_model.specs.Meaning.{meaning}
use Rattle.kern_rows.specs.Even.{row_items}
use Rattle.river_road.specs.Contents.{AreContents}
use Rattle.river_road.specs.Inputs.{all_items}
use Rattle.river_road.specs.Source.{source_or_refused, IsPlanOf, IsCompiled}
use Rattle.river_langs.specs.Sources.{saw_source, IsSawzall}
use Rattle.std.proofs.lemmas.List.{take_all}
use Rattle.saw_model.specs.Plan.{rows_as_items as saw_items}
use Rattle.saw_model.specs.Meaning.{width}
use Rattle.saw_front.specs.Meaning as saw
use Rattle.saw_front.specs.Words.{saw_words}
use Rattle.saw_front.specs.declared.fault.SawFault.{SawFault}
use Rattle.saw_front.proofs.Fronts.{compiled-valued, compiled-judged, plans_mean as saw_plans_mean}
use Rattle.saw_text.specs.Tree.{program_of}
use Rattle.saw_text.specs.declared.tree.SawProgram.{SawProgram}
use Rattle.river_road.specs.declared.content.FileContent.{FileContent}
use Rattle.river_road.specs.declared.content.FileContent.TheVariants.{Rows as Plain, Timed}

-- rows of the width are read whole
taken : (n : ℕ) (row : List ℤ) → length row ≡ n → take n row ≡ row
taken n row e = take_all n row (omega (arith, e))

rows-are : (n : ℕ) (r : List (List ℤ)) → HaveWidth n r → row_items r ≡ saw_items (map (take n) r)
rows-are n [] t = refl
rows-are n (row ∷ r) t =
    let later : row_items r ≡ saw_items (map (take n) r) = rows-are n r (All-tail (λ l. length l ≡ n) row r t) in
    let here : row ≡ take n row = sym (taken n row (All-head (λ l. length l ≡ n) row r t)) in
    λ i. Flat (One (here i)) ∷ later i

plan_means : (text : List ℕ) (a : saw.Accepted) → saw.compiled text ≡ Ok a → (files : List FileContent) → AreContents (saw.plan_in a).inputs files
    → meaning (saw.plan_in a) (all_items files) ≡ (saw_source a).means files
plan_means text a e [] t = absurd t
plan_means text a e (f ∷ g ∷ more) t = absurd t.1
plan_means text a e (Timed es ∷ []) t = absurd t.0
plan_means text a e (Plain r ∷ []) t = ap (λ l. meaning (saw.plan_in a) (l ∷ [])) (rows-are (width (saw.program_in a)) r t.0) ∙ (saw_plans_mean text a r e).1

-- and so does what was compiled of a Sawzall text
pub saw-compiled : (text : List ℕ) (t : SawProgram) (plan : PlanForm) → saw.Plans (saw.compiled text) (program_of t) plan
    → StandsFor (IsCompiled (λ s t. IsSawzall s (program_of t))) (source_or_refused saw_source saw_words (saw.compiled text))
    (record { plan = plan; caps = []; program = t })
saw-compiled text t plan (read, is, made) =
    let a : saw.Accepted = record { units = program_of t; read = read } in
    subst (λ (r : Result saw.Accepted SawFault). StandsFor (IsCompiled (λ s t. IsSawzall s (program_of t)))
    (source_or_refused saw_source saw_words r) (record { plan = plan; caps = []; program = t }))
    (sym is)
    (record {
      planned = record {
        plan = subst (IsPlanOf (saw_source a)) (sym made)
            (record { plan = refl; inputs = refl; outputs = refl; tables = refl; means = plan_means text a is });
        caps_are = refl;
        fit =
            All-nil (λ (c : Cap). IsCap c.most);
      };
      program = record { accepted = (read, compiled-judged text a is); valued = compiled-valued text a is; means = λ files. refl };
    })
