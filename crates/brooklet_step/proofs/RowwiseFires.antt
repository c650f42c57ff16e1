-- Firings of selections and projections, on batches of a stream and on changes of a relation.
use Rattle.std.proofs.Common.{◌≡◌, ℕ, ℤ, List, [], ◌∷◌, ◌++◌, length, refl, sym, ap, ◌∙◌, subst}
use Rattle.std.proofs.lemmas.List.Elements.{All-head}
use Rattle.river_base.proofs.Lists.{alone_same}
use Rattle.river_base.specs.declared.item.Batch.{Batch}
use Rattle.river_base.specs.declared.item.Change.{Change}
use Rattle.river_base.specs.declared.item.Flat as flat
use Rattle.river_base.specs.declared.item.Item as item
use Rattle.river_base.specs.declared.item.Item.TheVariants.{Flat, Pack}
use Rattle.river_base.specs.declared.item.Flat.TheVariants.{One, Batch as Batched, Change as Changed}
use Rattle.river_base.specs.declared.kind.FlatType.TheVariants.{Stream}
use Rattle.river_base.specs.declared.kind.QueueType.TheVariants.{Flat as FlatOf}
use Rattle.river_base.specs.Changes.{change_to, IsChangeOf, IsChanged}
use Rattle.river_base.specs.Held.{held, content_from, HaveWidth, HasType, with_rows}
use Rattle.river_base.proofs.HeldLemmas.{held-plain, held-relation}
use Rattle.work_code.specs.Term.{Term}
use Rattle.kern_bags.specs.Contents.{selected, projected}
use Rattle.kern_bags.specs.Steps.{select_one, project_one}
use Rattle.kern_bags.specs.Following.{stamped_as, FollowsContent, SelectsFlat, ProjectsFlat}
use Rattle.river_kernels.specs.Fits.{stream, relation}
use Rattle.river_kernels.specs.Kern.{select, project}
use Rattle.brooklet_model.specs.Firings.{Kept, Fired, gives}
use Rattle.brooklet_model.specs.Typed.{IsWordOf}
use Rattle.brooklet_model.specs.Words.{Word, run, at_port}
use Rattle.brooklet_model.proofs.BagTypes.{select_typed}
use Rattle.brooklet_model.proofs.Swaps.{at_port_here}
use Rattle.brooklet_step.specs.declared.emit.Emit.{Emit}
use Rattle.brooklet_step.specs.Took.{Took}
use Rattle.brooklet_step.specs.Given.{IsHeldOf, ran_from, GivesAsDefined, FiresAt, CanTake}
use Rattle.brooklet_step.proofs.BagLeaves.{select_no_row}
use Rattle.brooklet_step.proofs.GivenLemmas.{ran_more}
use Rattle.brooklet_step.proofs.OnePort.{batch_held, change_held, held_first, batch_type, change_type, relation_typed, typed_first, typed_port}
use Rattle.brooklet_step.proofs.OnePort.{came_content, took_first, came_first, one_held, does_at}

-- A FUNCTION OF THE CONTENT

module _ (F : List (List ℤ) → List (List ℤ)) where
  abbrev image : ℕ → item.Item → List Kept → Fired
  image p x ss = gives 0 (with_rows (λ b. F b.rows) x) ss

  -- the content last given is the function of the content last received
  image_from : (n : ℕ) (w : Word) (ss : List Kept) (c : List (List ℤ)) → IsWordOf (relation n ∷ []) w
      → content_from (F c) ((run image w ss).outs 0) ≡ F (content_from c (at_port 0 w))
  image_from n [] ss c a = refl
  image_from n (e ∷ es) ss c a =
      go (λ d. image_from n es ss d a.1) e.1 (typed_first (relation n) e.0 e.1 a.0)
      ∙ ap (λ l. F (content_from c l)) (sym (at_port_here 0 e es (typed_port (relation n) e.0 e.1 a.0)))
    where
      go : ((d : List (List ℤ)) → content_from (F d) ((run image es ss).outs 0) ≡ F (content_from d (at_port 0 es))) → (x : item.Item) → HasType (relation n) x
          → content_from (F c) (with_rows (λ b. F b.rows) x ++ (run image es ss).outs 0) ≡ F (content_from c (x ∷ at_port 0 es))
      go rest (Flat (Batched b)) h = rest b.rows
      go rest (Flat (One row)) h = absurd h
      go rest (Flat (Changed d)) h = absurd h
      go rest (Pack fs) h = absurd h

  -- what a step gives that follows the function is what the queue holds
  image_held : (n m : ℕ) (c d : Change) → [] ≡ F [] → FollowsContent F c d → (w : Word) (ss : List Kept) (x : item.Item) → IsWordOf (relation n ∷ []) w
      → HasType (relation n) x → held (relation n) (at_port 0 w) (x ∷ []) ≡ Flat (Changed c) ∷ []
      → held (relation m) ((run image w ss).outs 0) (with_rows (λ b. F b.rows) x) ≡ Flat (Changed d) ∷ []
  image_held n m c d none f w ss x tw tx h =
      let y = relation_typed n x tx in
      let b = y.batch in
      let past = at_port 0 w in
      let prev = (run image w ss).outs 0 in
      let is : c ≡ change_to (content_from [] past) b = came_content n past c b x y.is h in
      let last : content_from [] prev ≡ F (content_from [] past) = ap (λ l. content_from l prev) none ∙ image_from n w ss [] tw in
      let gave : change_to (content_from [] prev) (stamped_as b (F b.rows)) ≡ d =
      ap (λ l. change_to l (stamped_as b (F b.rows))) last ∙ sym (f.each (content_from [] past) b is) in
      let one : held (relation m) prev (with_rows (λ e. F e.rows) (Flat (Batched b))) ≡ Flat (Changed d) ∷ [] =
      held-relation m prev (with_rows (λ e. F e.rows) (Flat (Batched b))) ∙ ap (λ (k : Change). Flat (Changed k) ∷ []) gave in
      subst (λ z. held (relation m) prev (with_rows (λ e. F e.rows) z) ≡ Flat (Changed d) ∷ []) (sym y.is) one

-- SELECTIONS

-- what a selection gives for a batch of a stream is what the queue holds
select_gives_rows : (e : Term) (n : ℕ) (b : Batch) (out out' : Emit) → Took out out' (gives 0 (select_one e (Flat (Batched b))) [])
    → GivesAsDefined (select e) (stream n ∷ []) (stream n ∷ []) 0 (Flat (Batched b)) out out' [] []
select_gives_rows e n b out out' took = record {
  given = λ start w x is_start tw tx a h.
      let before = ran_from (select e) start w in
      let is : x ≡ Flat (Batched b) = alone_same x (Flat (Batched b)) (sym (held-plain (stream n) (at_port 0 w) (x ∷ []) tt) ∙ h) in
      let holds : held (stream n) (before.outs 0) (select_one e x) ≡ select_one e (Flat (Batched b)) =
      held-plain (stream n) (before.outs 0) (select_one e x) tt ∙ ap (select_one e) is in (
        took_first (stream n) before [] before.states out out' (select_one e (Flat (Batched b))) (select_one e x) took holds,
        record { code = refl; defined = (ran_more (select e) start w 0 x).states ∙ a.defined },
      );
}

-- a selection of rows is a firing
select_rows_does : (e : Term) (b : Batch) (out out' : Emit) → Took out out' (gives 0 (select_one e (Flat (Batched b))) [])
    → FiresAt (select e) 0 (Flat (Batched b)) out out' [] []
select_rows_does e b out out' took = record {
  each = λ reads writes vars t fs h.
      let item : IsHeldOf (FlatOf t.0 ∷ []) 0 (Flat (Batched b)) = subst (λ l. IsHeldOf l 0 (Flat (Batched b))) t.1 h in
      let k = batch_type t.0 b (held_first (FlatOf t.0) 0 (Flat (Batched b)) item) in
      let n = k.0 in
      let same : FlatOf t.0 ∷ [] ≡ stream n ∷ [] = ap (λ u. FlatOf u ∷ []) k.1 in
      let typed = select_typed (Stream n) e (Flat (Batched b)) refl k.2 in
      let wide : HaveWidth n (selected e b.rows) = All-head (HasType (stream n)) (Flat (Batched (stamped_as b (selected e b.rows)))) [] typed in
      does_at (select e) 0 (Flat (Batched b)) out out' [] [] reads (stream n ∷ []) writes (stream n ∷ []) vars [] (t.1 ∙ same) (t.2 ∙ same) t.3 (
      record {
        gives = select_gives_rows e n b out out' took;
        came = came_first (select e) (stream n ∷ []) (stream n) [] [] out out' [] (select_one e (Flat (Batched b))) took
            (one_held (stream n) (Flat (Batched (stamped_as b (selected e b.rows)))) (batch_held n (stamped_as b (selected e b.rows)) wide)) refl;
      }
      );
}

select_gives : (e : Term) (n : ℕ) (c d : Change) (out out' : Emit) → FollowsContent (selected e) c d → Took out out' (gives 0 (Flat (Changed d) ∷ []) [])
    → GivesAsDefined (select e) (relation n ∷ []) (relation n ∷ []) 0 (Flat (Changed c)) out out' [] []
select_gives e n c d out out' f took = record {
  given = λ start w x is_start tw tx a h.
      let before = ran_from (select e) start w in (
        took_first (relation n) before [] before.states out out' (Flat (Changed d) ∷ []) (select_one e x) took
            (image_held (selected e) n n c d refl f w start x tw tx h),
        record { code = refl; defined = (ran_more (select e) start w 0 x).states ∙ a.defined },
      );
}

-- a selection in both parts of a change is a firing
pub select_does : (e : Term) (c d : Change) (out out' : Emit) → FollowsContent (selected e) c d → ((n : ℕ) → IsChangeOf n c → IsChangeOf n d)
    → Took out out' (gives 0 (Flat (Changed d) ∷ []) []) → FiresAt (select e) 0 (Flat (Changed c)) out out' [] []
select_does e c d out out' f fits took = record {
  each = λ reads writes vars t fs h.
      let item : IsHeldOf (FlatOf t.0 ∷ []) 0 (Flat (Changed c)) = subst (λ l. IsHeldOf l 0 (Flat (Changed c))) t.1 h in
      let k = change_type t.0 c (held_first (FlatOf t.0) 0 (Flat (Changed c)) item) in
      let n = k.0 in
      let same : FlatOf t.0 ∷ [] ≡ relation n ∷ [] = ap (λ u. FlatOf u ∷ []) k.1 in
      does_at (select e) 0 (Flat (Changed c)) out out' [] [] reads (relation n ∷ []) writes (relation n ∷ []) vars [] (t.1 ∙ same) (t.2 ∙ same) t.3 (
      record {
        gives = select_gives e n c d out out' f took;
        came = came_first (select e) (relation n ∷ []) (relation n) [] [] out out' [] (Flat (Changed d) ∷ []) took
            (one_held (relation n) (Flat (Changed d)) (change_held n d (fits n k.2))) refl;
      }
      );
}

-- so is what a selection gives for what it takes
pub select_flat_does : (e : Term) (f : flat.Flat) (items : List item.Item) (out out' : Emit) → CanTake (select e) 0 (Flat f) [] out
    → SelectsFlat e f [] items → Took out out' (gives 0 items []) → FiresAt (select e) 0 (Flat f) out out' [] []
select_flat_does e (One row) items out out' t s took = absurd (select_no_row e row [] out t)
select_flat_does e (Batched b) items out out' t s took = select_rows_does e b out out' (subst (λ l. Took out out' (gives 0 l [])) s took)
select_flat_does e (Changed c) items out out' t s took =
    select_does e c s.change out out' s.is.contents s.is.fits (subst (λ l. Took out out' (gives 0 l [])) s.grew took)

-- PROJECTIONS

project_gives : (es : List Term) (n : ℕ) (c d : Change) (out out' : Emit) → FollowsContent (projected es) c d
    → Took out out' (gives 0 (Flat (Changed d) ∷ []) [])
    → GivesAsDefined (project es) (relation n ∷ []) (relation (length es) ∷ []) 0 (Flat (Changed c)) out out' [] []
project_gives es n c d out out' f took = record {
  given = λ start w x is_start tw tx a h.
      let before = ran_from (project es) start w in (
        took_first (relation (length es)) before [] before.states out out' (Flat (Changed d) ∷ []) (project_one es x) took
            (image_held (projected es) n (length es) c d refl f w start x tw tx h),
        record { code = refl; defined = (ran_more (project es) start w 0 x).states ∙ a.defined },
      );
}

-- a projection of both parts of a change, without what is then common, is a firing
project_does : (es : List Term) (c d : Change) (out out' : Emit) → FollowsContent (projected es) c d → IsChangeOf (length es) d
    → Took out out' (gives 0 (Flat (Changed d) ∷ []) []) → FiresAt (project es) 0 (Flat (Changed c)) out out' [] []
project_does es c d out out' f fits took = record {
  each = λ reads writes vars t fs h.
      let n = t.0 in
      does_at (project es) 0 (Flat (Changed c)) out out' [] [] reads (relation n ∷ []) writes (relation (length es) ∷ []) vars [] t.1 t.2 t.3 (
      record {
        gives = project_gives es n c d out out' f took;
        came = came_first (project es) (relation n ∷ []) (relation (length es)) [] [] out out' [] (Flat (Changed d) ∷ []) took
            (one_held (relation (length es)) (Flat (Changed d)) (change_held (length es) d fits)) refl;
      }
      );
}

-- so is what a projection gives for what it takes
pub project_flat_does : (es : List Term) (f : flat.Flat) (items : List item.Item) (out out' : Emit) → IsChanged f → ProjectsFlat es f [] items
    → Took out out' (gives 0 items []) → FiresAt (project es) 0 (Flat f) out out' [] []
project_flat_does es f items out out' k p took =
    let g = p.each k.change k.is in
    subst (λ x. FiresAt (project es) 0 (Flat x) out out' [] []) (sym k.is)
    (project_does es k.change g.change out out' g.is.contents g.is.fits (subst (λ l. Took out out' (gives 0 l [])) g.grew took))
