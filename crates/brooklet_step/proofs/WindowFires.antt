-- Firings of windows: a batch comes, and the change of the content is given.
use Rattle.std.proofs.Common.{◌≡◌, ℕ, zero, suc, ℤ, pos, ◌-◌, drop, List, [], ◌∷◌, ◌++◌, length, map, refl, sym, ap, ◌∙◌, subst}
use Rattle.std.proofs.lemmas.List.Elements.{All-nil}
use Rattle.kern_bags.proofs.KeptWindows.{still_none}
use Rattle.river_base.proofs.Lists.{alone_same}
use Rattle.river_base.specs.declared.item.Batch.{Batch}
use Rattle.river_base.specs.declared.item.Change.{Change}
use Rattle.river_base.specs.declared.item.Item as item
use Rattle.river_base.specs.declared.item.Item.TheVariants.{Flat}
use Rattle.river_base.specs.declared.item.Flat.TheVariants.{Batch as Batched, Change as Changed}
use Rattle.river_base.specs.declared.kind.QueueType.{QueueType}
use Rattle.river_base.specs.Changes.{change_to}
use Rattle.river_base.specs.Held.{held, content_from, batches, HaveWidth}
use Rattle.river_base.specs.Row.{in_order}
use Rattle.river_base.proofs.HeldLemmas.{held-plain, held-relation, content-append}
use Rattle.kern_bags.specs.Contents.{content_of}
use Rattle.kern_bags.specs.Kept.{Stamped, WindowKept, StandsForWindow, window_start}
use Rattle.kern_bags.specs.Steps.{window_one}
use Rattle.kern_bags.specs.declared.kernel.Window.{Window}
use Rattle.kern_bags.specs.declared.kernel.Window.TheVariants.{Now, Range, Unbounded, Latest}
use Rattle.kern_bags.specs.Following.{stamped_as, Windows, WindowFits, WindowSteps, GaveChange}
use Rattle.river_kernels.specs.declared.types.VarKind.{VarKind}
use Rattle.river_kernels.specs.declared.types.VarKind.TheVariants.{Private}
use Rattle.river_kernels.specs.Fits.{Fits, stream, relation}
use Rattle.river_kernels.specs.Kern.{window}
use Rattle.brooklet_model.specs.Firings.{Kept, Received, Fired, gives}
use Rattle.brooklet_model.specs.Fire.{fire, first_kept}
use Rattle.brooklet_model.specs.Words.{Word, at_port}
use Rattle.brooklet_step.specs.declared.emit.Emit.{Emit}
use Rattle.brooklet_step.specs.declared.state.State.TheVariants as state
use Rattle.brooklet_step.specs.Took.{Took}
use Rattle.brooklet_step.specs.Given.{IsHeldOf, FitWindow, FitState, ran_from, WindowStands, StandsAfter, TookHeld, GivesAsDefined, FiresAt}
use Rattle.brooklet_step.proofs.GivenLemmas.{ran_more}
use Rattle.brooklet_step.proofs.OnePort.{held_batch, change_held, same_stream, took_first, came_first, one_held, does_at}

-- equal states of windows keep the same
pub same_window : (u v : WindowKept) → state.Window u ∷ [] ≡ state.Window v ∷ [] → u ≡ v
same_window u v h = cc

-- THE FIRST STATE

drop_none : {A : Type 0} (n : ℕ) → drop {A = A} n [] ≡ []
drop_none zero = refl
drop_none (suc n) = refl

content_none : (v : Window) → content_of v [] ≡ []
content_none Now = refl
content_none (Range span) = refl
content_none Unbounded = refl
content_none (Latest n) = ap in_order (drop_none (0 - n))

start_stands : (v : Window) → StandsForWindow v window_start []
start_stands v = record { now = refl; rows = sym (still_none v (pos 0)) }

-- a window of which no batch has come
pub window_first_after : (v : Window) (reads : List QueueType) → StandsAfter (window v) reads (first_kept (window v)) (state.Window window_start ∷ []) []
window_first_after v reads = record { now = window_start; past = []; code = refl; defined = refl; stands = start_stands v; given = content_none v }

-- the first state of a window fits it
pub window_first_fits : (v : Window) (reads writes : List QueueType) (vars : List VarKind) → Fits (window v) reads writes vars
    → FitState (window v) reads (state.Window window_start ∷ [])
window_first_fits v reads writes vars f = record {
  now = window_start;
  code = refl;
  kept = record { past = []; stands = start_stands v };
  wide = λ n e. All-nil (λ (row : List ℤ). length row ≡ n);
}

-- FIRINGS

module _ (v : Window) (n : ℕ) (b : Batch) (c : Change) (now now' : WindowKept) (out out' : Emit) where
  -- what a firing on x gives, and what it keeps
  abbrev GivesFor : List Kept → Word → item.Item → Type 0
  GivesFor start w x = TookHeld (relation n ∷ []) (ran_from (window v) start w) out out' (fire (window v) 0 x (ran_from (window v) start w).states)
      × WindowStands v start (state.Window now' ∷ []) (w ++ (0, x) ∷ [])

  window_step : Windows v b now now' c → Took out out' (gives 0 (Flat (Changed c) ∷ []) []) → (start : List Kept) (w : Word)
      → WindowStands v start (state.Window now ∷ []) w → GivesFor start w (Flat (Batched b))
  window_step f took start w a =
      let x : item.Item = Flat (Batched b) in
      let before = ran_from (window v) start w in
      let prev = before.outs 0 in
      let g = window_one v a.past x in
      let next = a.past ++ x ∷ [] in
      let r = f.each a.past (subst (λ k. StandsForWindow v k a.past) (same_window a.now now (sym a.code)) a.stands) in
      let fired : fire (window v) 0 x before.states ≡ gives 0 g (Received next ∷ []) = ap (fire (window v) 0 x) a.defined in
      let change : change_to (content_from [] prev) (stamped_as b (content_of v (batches next))) ≡ c =
      ap (λ l. change_to l (stamped_as b (content_of v (batches next)))) (sym a.given) ∙ sym r.0 in
      let holds : held (relation n) prev g ≡ Flat (Changed c) ∷ [] = held-relation n prev g ∙ ap (λ (d : Change). Flat (Changed d) ∷ []) change in
      let more = ran_more (window v) start w 0 x in (
        subst (λ (q : Fired). TookHeld (relation n ∷ []) before out out' q) (sym fired)
            (took_first (relation n) before [] (Received next ∷ []) out out' (Flat (Changed c) ∷ []) g took holds),
        record {
          now = now';
          past = next;
          code = refl;
          defined = more.states ∙ ap (λ (q : Fired). q.states) fired;
          stands = r.1;
          given = sym (ap (content_from []) (more.outs 0 ∙ ap (λ (q : Fired). prev ++ q.outs 0) fired) ∙ content-append [] prev g);
        },
      )

  window_gives : Windows v b now now' c → Took out out' (gives 0 (Flat (Changed c) ∷ []) [])
      → GivesAsDefined (window v) (stream n ∷ []) (relation n ∷ []) 0 (Flat (Batched b)) out out' (state.Window now ∷ []) (state.Window now' ∷ [])
  window_gives f took = record {
    given = λ start w x is_start tw tx a h.
        let e : x ≡ Flat (Batched b) = alone_same x (Flat (Batched b)) (sym (held-plain (stream n) (at_port 0 w) (x ∷ []) tt) ∙ h) in
        subst (λ y. GivesFor start w y) (sym e) (window_step f took start w a);
  }

-- a window's step on a batch is a firing
window_does : (v : Window) (b : Batch) (c : Change) (now now' : WindowKept) (out out' : Emit) → Windows v b now now' c → WindowFits b now now' c
    → Took out out' (gives 0 (Flat (Changed c) ∷ []) [])
    → FiresAt (window v) 0 (Flat (Batched b)) out out' (state.Window now ∷ []) (state.Window now' ∷ [])
window_does v b c now now' out out' f fits took = record {
  each = λ reads writes vars t fs h.
      let n = t.0 in
      let fit : FitWindow v (stream n ∷ []) (state.Window now ∷ []) = subst (λ l. FitWindow v l (state.Window now ∷ [])) t.1 fs in
      let item : IsHeldOf (stream n ∷ []) 0 (Flat (Batched b)) = subst (λ l. IsHeldOf l 0 (Flat (Batched b))) t.1 h in
      let same : fit.now ≡ now = same_window fit.now now (sym fit.code) in
      let old : HaveWidth n (map (λ (e : Stamped). e.1) now.rows) =
      subst (λ (k : WindowKept). HaveWidth n (map (λ (e : Stamped). e.1) k.rows)) same (fit.wide n refl) in
      let r = fits.each n (held_batch n b item) old in
      let next = f.each fit.kept.past (subst (λ k. StandsForWindow v k fit.kept.past) same fit.kept.stands) in
      let again : FitWindow v (stream n ∷ []) (state.Window now' ∷ []) = record {
        now = now';
        code = refl;
        kept = record { past = fit.kept.past ++ Flat (Batched b) ∷ []; stands = next.1 };
        wide = λ m e. subst (λ k. HaveWidth k (map (λ (s : Stamped). s.1) now'.rows)) (same_stream n m e) r.1;
      } in
      let st' = state.Window now' ∷ [] in
      does_at (window v) 0 (Flat (Batched b)) out out' (state.Window now ∷ []) st' reads (stream n ∷ []) writes (relation n ∷ []) vars
      (Private ∷ []) t.1 t.2 t.3 (
      record {
        gives = window_gives v n b c now now' out out' f took;
        came = came_first (window v) (stream n ∷ []) (relation n) (Private ∷ []) [] out out' (state.Window now' ∷ []) (Flat (Changed c) ∷ []) took
            (one_held (relation n) (Flat (Changed c)) (change_held n c r.0)) again;
      }
      );
}

-- so is what it gives
pub window_step_does : (v : Window) (b : Batch) (items : List item.Item) (now now' : WindowKept) (out out' : Emit)
    → GaveChange (WindowSteps v b now now') [] items
    → Took out out' (gives 0 items []) → FiresAt (window v) 0 (Flat (Batched b)) out out' (state.Window now ∷ []) (state.Window now' ∷ [])
window_step_does v b items now now' out out' g took =
    window_does v b g.change now now' out out' g.is.contents g.is.fits (subst (λ l. Took out out' (gives 0 l [])) g.grew took)
