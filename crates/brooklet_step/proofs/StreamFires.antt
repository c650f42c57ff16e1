-- Firings of streamers: a change comes, and a batch is given.
use Rattle.std.proofs.Common.{◌≡◌, ℕ, ℤ, List, [], ◌∷◌, ◌++◌, length, refl, sym, ap, ◌∙◌, subst}
use Rattle.std.proofs.lemmas.List.Elements.{All-nil}
use Rattle.river_base.specs.declared.item.Batch.{Batch}
use Rattle.river_base.specs.declared.item.Change.{Change}
use Rattle.river_base.specs.declared.item.Flat as flat
use Rattle.river_base.specs.declared.item.Item as item
use Rattle.river_base.specs.declared.item.Item.TheVariants.{Flat}
use Rattle.river_base.specs.declared.item.Flat.TheVariants.{Batch as Batched, Change as Changed}
use Rattle.river_base.specs.declared.kind.QueueType.{QueueType}
use Rattle.river_base.specs.Changes.{change_to, IsChangeOf, IsChanged}
use Rattle.river_base.specs.Held.{held, content_from, batches, HaveWidth, IsAscending}
use Rattle.river_base.proofs.HeldLemmas.{held-plain, content-append}
use Rattle.kern_bags.specs.Steps.{last_rows, streamed, streamer_one}
use Rattle.kern_bags.specs.declared.kernel.Streamer.{Streamer}
use Rattle.kern_bags.specs.declared.kernel.Streamer.TheVariants.{Istream, Dstream, Rstream}
use Rattle.kern_bags.proofs.KeptWindows.{batches_more}
use Rattle.kern_bags.specs.Following.{stamped_as, KeepsContent, StreamsChange, StreamFits, StreamsFlat}
use Rattle.river_kernels.specs.declared.types.VarKind.{VarKind}
use Rattle.river_kernels.specs.declared.types.VarKind.TheVariants.{Private}
use Rattle.river_kernels.specs.Fits.{Fits, stream, relation}
use Rattle.river_kernels.specs.Kern.{streamer}
use Rattle.brooklet_model.specs.Firings.{Kept, Received, Fired, gives}
use Rattle.brooklet_model.specs.Fire.{fire, first_kept}
use Rattle.brooklet_model.specs.Words.{Word, at_port}
use Rattle.brooklet_step.specs.declared.emit.Emit.{Emit}
use Rattle.brooklet_step.specs.declared.state.State.TheVariants as state
use Rattle.brooklet_step.specs.Took.{Took}
use Rattle.brooklet_step.specs.Given.{IsHeldOf, FitStreamer, FitState, ran_from, StreamerStands, StandsAfter, TookHeld, GivesAsDefined, FiresAt}
use Rattle.brooklet_step.proofs.GivenLemmas.{at_next, ran_more}
use Rattle.brooklet_step.proofs.OnePort.{batch_held, held_change, relation_typed, came_content, same_relation, took_first, came_first, one_held, does_at}

-- equal states of streamers keep the same rows
pub same_rows : (u v : List (List ℤ)) → state.Streamer u ∷ [] ≡ state.Streamer v ∷ [] → u ≡ v
same_rows u v h = cc

-- THE FIRST STATE

start_keeps : (s : Streamer) → KeepsContent s [] []
start_keeps Istream = tt
start_keeps Dstream = tt
start_keeps Rstream = record { each = λ row. refl }

-- a streamer to which no change has come
pub streamer_first_after : (s : Streamer) (reads : List QueueType) → StandsAfter (streamer s) reads (first_kept (streamer s)) (state.Streamer [] ∷ []) []
streamer_first_after s reads = record { now = []; past = []; code = refl; defined = refl; last = refl; kept = start_keeps s }

-- the first state of a streamer fits it
pub streamer_first_fits : (s : Streamer) (reads writes : List QueueType) (vars : List VarKind) → Fits (streamer s) reads writes vars
    → FitState (streamer s) reads (state.Streamer [] ∷ [])
streamer_first_fits s reads writes vars f = record { now = []; code = refl; wide = λ n e. All-nil (λ (row : List ℤ). length row ≡ n) }

-- FIRINGS

last_more : (bs : List Batch) (b : Batch) → last_rows (bs ++ b ∷ []) ≡ b.rows
last_more [] b = refl
last_more (c ∷ []) b = refl
last_more (c ∷ d ∷ bs) b = last_more (d ∷ bs) b

last_come : (past : List item.Item) (b : Batch) → last_rows (batches (past ++ Flat (Batched b) ∷ [])) ≡ b.rows
last_come past b = ap last_rows (batches_more past b) ∙ last_more (batches past) b

module _ (s : Streamer) (n : ℕ) (c : Change) (g : Batch) (now now' : List (List ℤ)) (out out' : Emit) where
  -- what a firing on x gives, and what it keeps
  abbrev GivesFor : List Kept → Word → item.Item → Type 0
  GivesFor start w x = TookHeld (stream n ∷ []) (ran_from (streamer s) start w) out out' (fire (streamer s) 0 x (ran_from (streamer s) start w).states)
      × StreamerStands s start (state.Streamer now' ∷ []) (w ++ (0, x) ∷ [])

  streamer_step : StreamsChange s c now now' g → Took out out' (gives 0 (Flat (Batched g) ∷ []) []) → (start : List Kept) (w : Word) (b : Batch)
      → IsAscending b.rows
      → StreamerStands s start (state.Streamer now ∷ []) w → c ≡ change_to (content_from [] (at_port 0 w)) b → GivesFor start w (Flat (Batched b))
  streamer_step f took start w b up a is =
      let x : item.Item = Flat (Batched b) in
      let content = content_from [] (at_port 0 w) in
      let before = ran_from (streamer s) start w in
      let prev = before.outs 0 in
      let one = streamer_one s a.past x in
      let next = a.past ++ x ∷ [] in
      let r = f.each content b up (subst (λ k. KeepsContent s k content) (same_rows a.now now (sym a.code)) a.kept) is in
      let fired : fire (streamer s) 0 x before.states ≡ gives 0 one (Received next ∷ []) = ap (fire (streamer s) 0 x) a.defined in
      let batch : stamped_as b (streamed s (last_rows (batches a.past)) b.rows) ≡ g = ap (λ l. stamped_as b (streamed s l b.rows)) a.last ∙ sym r.0 in
      let holds : held (stream n) prev one ≡ Flat (Batched g) ∷ [] = held-plain (stream n) prev one tt ∙ ap (λ (y : Batch). Flat (Batched y) ∷ []) batch in
      let more = ran_more (streamer s) start w 0 x in
      let last : content_from [] (at_port 0 (w ++ (0, x) ∷ [])) ≡ b.rows = ap (content_from []) (at_next 0 w x) ∙ content-append [] (at_port 0 w) (x ∷ []) in (
        subst (λ (q : Fired). TookHeld (stream n ∷ []) before out out' q) (sym fired)
            (took_first (stream n) before [] (Received next ∷ []) out out' (Flat (Batched g) ∷ []) one took holds),
        record {
          now = now';
          past = next;
          code = refl;
          defined = more.states ∙ ap (λ (q : Fired). q.states) fired;
          last = last_come a.past b ∙ sym last;
          kept = subst (KeepsContent s now') (sym last) r.1;
        },
      )

  streamer_gives : StreamsChange s c now now' g → Took out out' (gives 0 (Flat (Batched g) ∷ []) [])
      → GivesAsDefined (streamer s) (relation n ∷ []) (stream n ∷ []) 0 (Flat (Changed c)) out out' (state.Streamer now ∷ []) (state.Streamer now' ∷ [])
  streamer_gives f took = record {
    given = λ start w x is_start tw tx a h.
        let y = relation_typed n x tx in
        let past = at_port 0 w in
        let b = y.batch in
        let is : c ≡ change_to (content_from [] past) b = came_content n past c b x y.is h in
        subst (λ z. GivesFor start w z) (sym y.is) (streamer_step f took start w b y.up a is);
  }

-- a streamer's step on a change is a firing
streamer_does : (s : Streamer) (c : Change) (g : Batch) (now now' : List (List ℤ)) (out out' : Emit) → StreamsChange s c now now' g → StreamFits c now now' g
    → Took out out' (gives 0 (Flat (Batched g) ∷ []) [])
    → FiresAt (streamer s) 0 (Flat (Changed c)) out out' (state.Streamer now ∷ []) (state.Streamer now' ∷ [])
streamer_does s c g now now' out out' f fits took = record {
  each = λ reads writes vars t fs h.
      let n = t.0 in
      let fit : FitStreamer (relation n ∷ []) (state.Streamer now ∷ []) = subst (λ l. FitStreamer l (state.Streamer now ∷ [])) t.1 fs in
      let item : IsHeldOf (relation n ∷ []) 0 (Flat (Changed c)) = subst (λ l. IsHeldOf l 0 (Flat (Changed c))) t.1 h in
      let change : IsChangeOf n c = held_change n c item in
      let r = fits.each n (subst (HaveWidth n) (same_rows fit.now now (sym fit.code)) (fit.wide n refl)) change.wide in
      let again : FitStreamer (relation n ∷ []) (state.Streamer now' ∷ []) =
      record { now = now'; code = refl; wide = λ m e. subst (λ k. HaveWidth k now') (same_relation n m e) r.0 } in
      let st' = state.Streamer now' ∷ [] in
      does_at (streamer s) 0 (Flat (Changed c)) out out' (state.Streamer now ∷ []) st' reads (relation n ∷ []) writes (stream n ∷ []) vars
      (Private ∷ []) t.1 t.2 t.3 (
      record {
        gives = streamer_gives s n c g now now' out out' f took;
        came = came_first (streamer s) (relation n ∷ []) (stream n) (Private ∷ []) [] out out' (state.Streamer now' ∷ []) (Flat (Batched g) ∷ []) took
            (one_held (stream n) (Flat (Batched g)) (batch_held n g r.1)) again;
      }
      );
}

-- so is what it gives
pub streamer_flat_does : (s : Streamer) (x : flat.Flat) (items : List item.Item) (now now' : List (List ℤ)) (out out' : Emit) → IsChanged x
    → StreamsFlat s x now now' [] items → Took out out' (gives 0 items [])
    → FiresAt (streamer s) 0 (Flat x) out out' (state.Streamer now ∷ []) (state.Streamer now' ∷ [])
streamer_flat_does s x items now now' out out' k p took =
    let g = p.each k.change k.is in
    subst (λ y. FiresAt (streamer s) 0 (Flat y) out out' (state.Streamer now ∷ []) (state.Streamer now' ∷ [])) (sym k.is)
    (streamer_does s k.change g.batch now now' out out' g.is.contents g.is.fits (subst (λ l. Took out out' (gives 0 l [])) g.grew took))
