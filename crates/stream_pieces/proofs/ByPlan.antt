-- The law on the whole where the period is reckoned on the plan.
use Rattle.std.proofs.Common.{◌≡◌, ℤ, List, [], ◌∷◌, map, drop, refl, sym, ap, ◌∙◌}
use Rattle.std.specs.Prelude.{codes}
use Rattle.river_base.specs.declared.item.Item as item
use Rattle.river_base.specs.declared.item.Item.TheVariants.{Flat}
use Rattle.river_base.specs.declared.item.Flat.TheVariants.{One}
use Rattle.csv_streams.specs.Records.{csv_records}
use Rattle.csv_streams.specs.Rows.{headers}
use Rattle.brooklet_model.specs.Histories.{hist}
use Rattle.brooklet_model.specs.Meaning.{Results}
use Rattle.streamit_model.specs.Meaning.{program_outputs}
use Rattle.streamit_model.specs.Plan.{plan_of, values_in}
use Rattle.streamit_model.specs.Laws.{as_items}
use Rattle.streamit_front.proofs.Fronts.{plans_mean}
use Rattle.river_langs.specs.Sources.{first_of_rows}
use Rattle.stream_periods.specs.Texts.{printed_values}
use Rattle.stream_periods.specs.Pieces.{pieces_of, put_together}
use Rattle.stream_periods.specs.Texts.{text_of_pieces}
use Rattle.stream_periods.proofs.Texts.{texts_in_pieces}
use Rattle.stream_periods.proofs.Walk.{plan_pieces_give_the_whole}
use Rattle.stream_pieces.specs.Files.{StreamPiecesByPlan}
use Rattle.stream_pieces.proofs.Files.{sliced, still_long, as_many, values_many}

head_same : (x y : ℤ) (xs ys : List item.Item) → ◌≡◌ {A = List item.Item} (Flat (One (x ∷ [])) ∷ xs) (Flat (One (y ∷ [])) ∷ ys) → x ≡ y
head_same x y xs ys e = cc e

tail_same : (x y : item.Item) (xs ys : List item.Item) → x ∷ xs ≡ y ∷ ys → xs ≡ ys
tail_same x y xs ys e = cc e

-- values are the same whose items are
same_values : (xs ys : List ℤ) → as_items xs ≡ as_items ys → xs ≡ ys
same_values [] [] e = refl
same_values [] (y ∷ ys) e = absurd (cc e)
same_values (x ∷ xs) [] e = absurd (cc e)
same_values (x ∷ xs) (y ∷ ys) e =
    ap (λ z. z ∷ xs) (head_same x y (as_items xs) (as_items ys) e)
    ∙ ap (λ l. y ∷ l) (same_values xs ys (tail_same (Flat (One (x ∷ []))) (Flat (One (y ∷ []))) (as_items xs) (as_items ys) e))

first_same : (x y : List item.Item) (xs ys : List (List item.Item)) → x ∷ xs ≡ y ∷ ys → x ≡ y
first_same x y xs ys e = cc e

-- what the runs on the pieces print, put together, is what the program means for the whole file
pub stream_pieces_by_plan : StreamPiecesByPlan
stream_pieces_by_plan text bytes skip a known k early ks pieces outs e walked found soon slices long ran =
    let plan = plan_of a.stream in
    let valid = (plans_mean text a [] e).0 in
    let law = plan_pieces_give_the_whole plan (values_in (codes "in")) known valid refl walked (codes "out") k found in
    let f = law.0 in
    let out_is : (xs : List ℤ) → hist plan (as_items xs ∷ []) (codes "out") ≡ as_items (program_outputs a.program xs) =
    λ xs. first_same _ _ [] [] (ap (λ (r : Results). r.outs) (plans_mean text a xs e).1) in
    let same : (xs : List ℤ) → f xs ≡ program_outputs a.program xs = λ xs. same_values (f xs) (program_outputs a.program xs) (sym (law.1 xs) ∙ out_is xs) in
    let recs = drop (headers skip) (csv_records bytes) in
    let s = sliced text a e k.period early ks recs pieces outs slices ran in
    let xs = first_of_rows s.rows in
    record {
      a = a;
      compiles = e;
      rows = s.rows;
      written = s.written;
      is =
          ap (text_of_pieces k.period early ks) s.are
          ∙ texts_in_pieces k.period early ks (program_outputs a.program) (pieces_of k.period early ks xs)
          ∙ ap (λ os. printed_values (put_together k.period early ks os)) (map_same f (program_outputs a.program) same (pieces_of k.period early ks xs))
          ∙ ap printed_values (law.2 early ks xs soon (still_long k.period early ks recs xs (values_many s.rows ∙ as_many recs s.rows s.written) long) ∙ same xs);
    }
  where
    map_same : (f g : List ℤ → List ℤ) → ((xs : List ℤ) → f xs ≡ g xs) → (ls : List (List ℤ)) → map g ls ≡ map f ls
    map_same f g h [] = refl
    map_same f g h (l ∷ ls) = ap (λ z. z ∷ map g ls) (sym (h l)) ∙ ap (λ z. f l ∷ z) (map_same f g h ls)
