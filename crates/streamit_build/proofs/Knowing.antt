-- The streams that are known, and one more.
use Rattle.std.proofs.Common.{◌≡◌, ℕ, zero, suc, Bool, true, false, List, [], ◌∷◌, ◌++◌, length, Option, Some, None, Result, Ok, Err, ◌⊎◌, inl, inr, ⊎_elim}
use Rattle.std.proofs.Common.{refl, sym, ap, ◌∙◌, subst, arith, length-append}
use Rattle.std.specs.Prelude.{slice_get, min, OnOk, if◌then◌else◌}
use Rattle.river_base.specs.Name.{name_eq}
use Rattle.river_plan.specs.Forms.{Name}
use Rattle.streamit_model.specs.Unrolled.{Stream, Filter, Pipeline, SplitJoin, Streams, Last, Then, nesting}
use Rattle.streamit_model.specs.Plan.{ops_in}
use Rattle.streamit_model.specs.Meaning.{look}
use Rattle.streamit_model.specs.Judged.{Streamed}
use Rattle.streamit_build.specs.declared.streams.Entry.{Entry}
use Rattle.streamit_build.specs.declared.streams.Known.{Known}
use Rattle.streamit_build.specs.declared.builder.Declared.{Declared}
use Rattle.river_base.specs.declared.memory.NoMemory.{NoMemory}
use Rattle.indexmap.specs.IndexMap.{get}
use Rattle.std.proofs.lemmas.List.{map-append, length-map}
use Rattle.river_base.proofs.Lists.{got_first}
use Rattle.streamit_build.specs.Units.{declared_form, declared_forms, DeclaredForm, AFilter, APipe, ASplit, IsLower, AreLower, HasShortFilters, HaveShortFilters, IsTree, AreTrees}
use Rattle.streamit_build.specs.Knowing.{IsEntry, IsFound, Knows}

-- with one more, each place is as it was, or is the new one
get_more : {A : Type 0} (xs : List A) (y : A) (i : ℕ)
    → (slice_get (xs ++ y ∷ []) i ≡ slice_get xs i) ⊎ ((i ≡ length xs) × (slice_get (xs ++ y ∷ []) i ≡ Some y))
get_more [] y zero = inr (refl, refl)
get_more [] y (suc i) = inl refl
get_more (x ∷ xs) y zero = inl refl
get_more (x ∷ xs) y (suc i) = ⊎_elim (λ e. inl e) (λ e. inr (ap suc e.0, e.1)) (get_more xs y i)

-- a tree stays what it is
mutual
  -- of a stream
  pub tree_kept : (us vs : List DeclaredForm) (i : ℕ) (s : Stream) → IsTree us i s → IsTree (us ++ vs) i s
  tree_kept us vs i (Filter name f) h = got_first us vs i (AFilter name f) h
  tree_kept us vs i (Pipeline ss) (front, last, e, ts) = (front, last, got_first us vs i (APipe front last) e, trees_kept us vs front last ss ts)
  tree_kept us vs i (SplitJoin d ss ws) (front, last, e, ts) = (front, last, got_first us vs i (ASplit d front last ws) e, trees_kept us vs front last ss ts)

  -- of streams
  pub trees_kept : (us vs : List DeclaredForm) (front : List ℕ) (last : ℕ) (ss : Streams) → AreTrees us front last ss → AreTrees (us ++ vs) front last ss
  trees_kept us vs [] last (Last s) h = tree_kept us vs last s h
  trees_kept us vs (j ∷ js) last (Last s) h = absurd h
  trees_kept us vs [] last (Then s ss) h = absurd h
  trees_kept us vs (j ∷ js) last (Then s ss) h = (tree_kept us vs j s h.0, trees_kept us vs js last ss h.1)

-- children are lower with one unit more
pub lower_more : (us : List DeclaredForm) (u : DeclaredForm) → AreLower us → IsLower (length us) (Some u) → AreLower (us ++ u ∷ [])
lower_more us u all new i = ⊎_elim
    (λ e. subst (IsLower i) (sym e) (all i))
    (λ e. subst (IsLower i) (sym e.1) (subst (λ k. IsLower k (Some u)) (sym e.0) new))
    (get_more us u i)

-- names are short with one unit more
pub short_more : (us : List DeclaredForm) (u : DeclaredForm) → HaveShortFilters us → HasShortFilters (Some u) → HaveShortFilters (us ++ u ∷ [])
short_more us u all new i = ⊎_elim (λ e. subst HasShortFilters (sym e) (all i)) (λ e. subst HasShortFilters (sym e.1) new) (get_more us u i)

entry_kept : (us vs : List DeclaredForm) (k : Entry) (s : Stream) → IsEntry us k s → IsEntry (us ++ vs) k s
entry_kept us vs k s e = record {
  there = let a = e.there in let l = length-append us vs in omega (arith, a, l);
  tree = tree_kept us vs k.number s e.tree;
  ops = e.ops;
  nesting = e.nesting;
}

-- entries stay what they are
pub found_kept : (us vs : List DeclaredForm) (o : Option Entry) (p : Option Stream) → IsFound us o p → IsFound (us ++ vs) o p
found_kept us vs None None h = tt
found_kept us vs None (Some s) h = absurd h
found_kept us vs (Some k) None h = absurd h
found_kept us vs (Some k) (Some s) h = entry_kept us vs k s h

-- and a new name has its own
pub found_more : (us : List DeclaredForm) (b : Bool) (k : Entry) (s : Stream) (o : Option Entry) (p : Option Stream) → IsEntry us k s → IsFound us o p
    → IsFound us (if b then Some k else o) (if b then Some s else p)
found_more us true k s o p e h = e
found_more us false k s o p e h = h

-- the new stream's entry
pub new_entry : (us : List DeclaredForm) (u : DeclaredForm) (k : Entry) (s : Stream) → k.number ≡ length us → IsTree (us ++ u ∷ []) (length us) s
    → k.ops ≡ min (ops_in s) 257 → k.nesting ≡ nesting s → IsEntry (us ++ u ∷ []) k s
new_entry us u k s e t o n = record {
  there = let l = length-append us (u ∷ []) in omega (arith, e, l);
  tree = subst (λ i. IsTree (us ++ u ∷ []) i s) (sym e) t;
  ops = o;
  nesting = n;
}

-- one stream more is known
pub declares : (r : Result (Unit {0}) NoMemory) (old new : Known) (d : Declared) (k : Entry) (name : Name) (s : Stream) (known : Streamed)
    → OnOk r ((q : Name) → get name_eq new.entries q ≡ (if name_eq name q then Some k else get name_eq old.entries q))
    → new.declared.items ≡ old.declared.items ++ d ∷ [] → IsLower (length old.declared.items) (Some (declared_form d)) → HasShortFilters (Some (declared_form d))
    → k.number ≡ length old.declared.items
    → Knows old known → IsTree (declared_forms old.declared.items ++ declared_form d ∷ []) (length old.declared.items) s → k.ops ≡ min (ops_in s) 257
    → k.nesting ≡ nesting s → OnOk r (Knows new ((name, s) ∷ known))
declares (Err e) old new d k name s known g it lo sh nu kn t o n = tt
declares (Ok u) old new d k name s known g it lo sh nu kn t o n =
    let us = declared_forms old.declared.items in
    let v = declared_form d in
    let all : declared_forms new.declared.items ≡ us ++ v ∷ [] = ap declared_forms it ∙ map-append declared_form old.declared.items (d ∷ []) in
    let len : length us ≡ length old.declared.items = length-map old.declared.items declared_form in
    let e = new_entry us v k s (nu ∙ sym len) (subst (λ i. IsTree (us ++ v ∷ []) i s) (sym len) t) o n in
    record {
      entries = λ q. subst (λ ws. IsFound ws (get name_eq new.entries q) (look ((name, s) ∷ known) q)) (sym all)
          (subst (λ x. IsFound (us ++ v ∷ []) x (look ((name, s) ∷ known) q)) (sym (g q))
          (found_more (us ++ v ∷ []) (name_eq name q) k s (get name_eq old.entries q) (look known q) e
          (found_kept us (v ∷ []) (get name_eq old.entries q) (look known q) (kn.entries q))));
      lower = subst AreLower (sym all) (lower_more us v kn.lower (subst (λ i. IsLower i (Some v)) (sym len) lo));
      short = subst HaveShortFilters (sym all) (short_more us v kn.short sh);
    }
