-- The items of inputs fit a plan: they are of its inputs' types, and all streams have the instants of the run.
use Rattle.std.proofs.Common.{◌≡◌, ℕ, ℤ, List, [], ◌∷◌, ◌++◌, length, refl, sym, ap, Bool, true, false, cond}
use Rattle.std.specs.Prelude.{All, map, filter}
use Rattle.std.specs.List.Sorted.{IsStrictlySortedBy}
use Rattle.std.specs.Ordering.{int_eq, int_cmp}
use Rattle.std.proofs.lemmas.List.{append-nil}
use Rattle.std.proofs.lemmas.List.Elements.{All-nil, All-cons, All-head, All-tail, All-map}
use Rattle.river_base.proofs.Tests.{cmp_less}
use Rattle.river_base.specs.declared.item.Flat.TheVariants.{One}
use Rattle.river_base.specs.declared.item.Item.TheVariants.{Flat}
use Rattle.river_base.specs.declared.kind.FlatType.TheVariants.{Rows, Stream, Relation}
use Rattle.river_base.specs.declared.kind.QueueType.{QueueType}
use Rattle.river_base.specs.declared.kind.QueueType.TheVariants.{Flat as FlatOf, Pack as PackOf}
use Rattle.river_base.specs.Held.{HaveWidth, HasType}
use Rattle.river_base.specs.Instants.{Timed as AtInstants, at_instant, item_at, spread, stamps}
use Rattle.river_base.proofs.Instants.{once_rises}
use Rattle.river_plan.specs.declared.plan.Decl.{Decl}
use Rattle.river_plan.specs.Forms.{PlanForm}
use Rattle.brooklet_model.specs.Typed.{AreInputs}
use Rattle.brooklet_model.specs.Fit.{Fit, instants_in, Rises, HasInstants, AreInstants}
use Rattle.csv_streams.specs.Timed.{Entry}
use Rattle.river_road.specs.Contents.{IsContent, AreContents}
use Rattle.river_road.specs.Inputs.{timed_files, instants_of, items_at, all_items}
use Rattle.river_road.specs.declared.content.FileContent.{FileContent}
use Rattle.river_road.specs.declared.content.FileContent.TheVariants.{Rows as Plain, Timed}

-- the rows of an instant are rows of the file
at_width : (w : ℕ) (es : List Entry) (t : ℤ) → HaveWidth w (map (λ (e : Entry). e.1) es) → HaveWidth w (at_instant es t)
at_width w [] t h = All-nil (λ row. length row ≡ w)
at_width w (e ∷ es) t h = step (int_eq e.0 t) (at_width w es t (All-tail (λ row. length row ≡ w) e.1 (map (λ (d : Entry). d.1) es) h))
  where
    step : (b : Bool) → HaveWidth w (at_instant es t)
        → HaveWidth w (map (λ (d : Entry). d.1) (cond b (e ∷ filter (λ d. int_eq d.0 t) es) (filter (λ d. int_eq d.0 t) es)))
    step true later = All-cons (λ row. length row ≡ w) e.1 (at_instant es t) (All-head (λ row. length row ≡ w) e.1 (map (λ (d : Entry). d.1) es) h) later
    step false later = later

spread_typed : (w : ℕ) (ts : List ℤ) (s : AtInstants) → ((t : ℤ) → HaveWidth w (s t)) → All (HasType (FlatOf (Stream w))) (spread ts s)
spread_typed w [] s h = All-nil (HasType (FlatOf (Stream w)))
spread_typed w (t ∷ ts) s h = All-cons (HasType (FlatOf (Stream w))) (item_at t (s t)) (spread ts s) (h t) (spread_typed w ts s h)

items_typed : (t : QueueType) (ts : List ℤ) (f : FileContent) → IsContent t f → All (HasType t) (items_at ts f)
items_typed (FlatOf (Rows w)) ts (Plain rs) h = All-map (HasType (FlatOf (Rows w))) (λ row. Flat (One row)) rs h
items_typed (FlatOf (Rows w)) ts (Timed es) h = absurd h
items_typed (FlatOf (Stream w)) ts (Plain rs) h = absurd h
items_typed (FlatOf (Stream w)) ts (Timed es) h = spread_typed w ts (at_instant es) (λ t. at_width w es t h)
items_typed (FlatOf (Relation w)) ts f h = absurd h
items_typed (PackOf t) ts f h = absurd h

are_typed : (ts : List ℤ) (ds : List Decl) (files : List FileContent) → AreContents ds files → AreInputs ds (map (items_at ts) files)
are_typed ts [] [] h = tt
are_typed ts [] (f ∷ files) h = absurd h
are_typed ts (d ∷ ds) [] h = absurd h
are_typed ts (d ∷ ds) (f ∷ files) h = (items_typed d.kind ts f h.0, are_typed ts ds files h.1)

-- the items of the inputs are of the inputs' types
pub contents-typed : (ds : List Decl) (files : List FileContent) → AreContents ds files → AreInputs ds (all_items files)
contents-typed ds files h = are_typed (instants_of files) ds files h

-- a stream has a batch for each instant
spread_instants : (ts : List ℤ) (s : AtInstants) → instants_in (spread ts s) ≡ ts
spread_instants [] s = refl
spread_instants (t ∷ ts) s = ap (λ l. t ∷ l) (spread_instants ts s)

have_instants : (t : QueueType) (ts : List ℤ) (f : FileContent) → IsContent t f → HasInstants t ts (items_at ts f)
have_instants (FlatOf (Rows w)) ts f h = tt
have_instants (FlatOf (Stream w)) ts (Plain rs) h = absurd h
have_instants (FlatOf (Stream w)) ts (Timed es) h = spread_instants ts (at_instant es)
have_instants (FlatOf (Relation w)) ts f h = absurd h
have_instants (PackOf t) ts f h = absurd h

are_instants : (ts : List ℤ) (ds : List Decl) (files : List FileContent) → AreContents ds files → AreInstants ds ts (map (items_at ts) files)
are_instants ts [] files h = tt
are_instants ts (d ∷ ds) [] h = absurd h
are_instants ts (d ∷ ds) (f ∷ files) h = (have_instants d.kind ts f h.0, are_instants ts ds files h.1)

rises : (ts : List ℤ) → IsStrictlySortedBy int_cmp ts → Rises ts
unfolding IsStrictlySortedBy
rises [] h = tt
rises (t ∷ []) h = tt
rises (t ∷ u ∷ ts) h = (cmp_less t u h.0.0, rises (u ∷ ts) h.1)

-- so the inputs fit the plan
pub contents-fit : (p : PlanForm) (files : List FileContent) → AreContents p.inputs files → Fit p (all_items files)
contents-fit p files h = record {
  typed = contents-typed p.inputs files h;
  instants_of = instants_of files;
  ascending = rises (instants_of files) (once_rises (stamps (timed_files files)));
  streams = are_instants (instants_of files) p.inputs files h;
}

-- the timestamps of a file, and of those behind it
pub stamps-more : (f : FileContent) (files : List FileContent) → stamps (timed_files (f ∷ files)) ≡ stamps (timed_files (f ∷ [])) ++ stamps (timed_files files)
stamps-more (Plain rows) files = refl
stamps-more (Timed rows) files = ap (λ l. l ++ stamps (timed_files files)) (sym (append-nil (map (λ (e : Entry). e.0) rows)))
