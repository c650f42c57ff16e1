-- Units that are judged.
use Rattle.std.proofs.Common.{◌≡◌, ℕ, ◌+◌, ◌<◌, ◌≤◌, List, [], ◌∷◌, ◌++◌, length, Option, Some, Result, Ok, refl, sym, ap, ◌∙◌, subst, arith, Vec, Global}
use Rattle.std.specs.Vec.{vec_len}
use Rattle.std.specs.Prelude.{min}
use Rattle.std.specs.List.{AllByRecursion}
use Rattle.std.proofs.lemmas.List.{length-map}
use Rattle.river_base.proofs.Lists.{got_last}
use Rattle.kern_rows.specs.Forms.{FilterForm}
use Rattle.river_plan.specs.Forms.{Name}
use Rattle.streamit_model.specs.Unrolled.{Splitter, Stream, Streams, Filter, Pipeline, SplitJoin, nesting}
use Rattle.streamit_model.specs.Plan.{ops_in}
use Rattle.streamit_model.specs.Elaborate.{on_ok}
use Rattle.streamit_model.specs.declared.fault.Fault.{Fault}
use Rattle.streamit_text.specs.Program.{FilterTree, Dealing, Adds, AFilter, APipeline, ASplitJoin}
use Rattle.streamit_model.specs.ElaborateFilter.{elaborated}
use Rattle.streamit_model.specs.Meaning.{branch_count}
use Rattle.streamit_model.specs.Judged.{Streamed, any, branches, round_of, splitter_of, streams_added, stream_of}
use Rattle.streamit_unroll.specs.declared.refused.RefusedUnit.{RefusedUnit}
use Rattle.streamit_unroll.specs.View.{IsWhyUnit}
use Rattle.streamit_unroll.proofs.SoFar.{tells_more}
use Rattle.streamit_build.specs.declared.streams.Children.{Children}
use Rattle.streamit_build.specs.declared.streams.Known.{Known}
use Rattle.streamit_build.specs.declared.builder.Declared.{Declared}
use Rattle.streamit_build.specs.Units.{DeclaredForm, AFilter as UFilter, APipe, ASplit, declared_form, declared_forms, IsLower, HasShortFilters, IsTree}
use Rattle.streamit_build.specs.Knowing.{Knows, AreChildren}
use Rattle.streamit_build.proofs.Added.{fine}
use Rattle.streamit_build.proofs.Knowing.{trees_kept}

-- a fault stays the fault of what is made of the value
pub tells_on : {A B : Type 0} (f : RefusedUnit) (r : Result A Fault) (k : A → Result B Fault) → IsWhyUnit f r → IsWhyUnit f (on_ok r k)
tells_on f r k h = tells_more f r (on_ok r k) (λ g e. ap (λ x. on_ok x k) e) h

-- what a call ensures of every stream: that it is known besides
abbrev pub Made : Known → Known → Declared → Name → ℕ → ℕ → Type 0
Made old new d name ops depth =
    (known : Streamed) (s : Stream) → Knows old known → IsLower (length old.declared.items) (Some (declared_form d)) → HasShortFilters (Some (declared_form d))
    → IsTree (declared_forms old.declared.items ++ declared_form d ∷ []) (length old.declared.items) s → ops ≡ min (ops_in s) 257 → depth ≡ nesting s
    → Knows new ((name, s) ∷ known)

at_last : (old : Known) (u : DeclaredForm) (P : ℕ → Type 0) → P (length (declared_forms old.declared.items)) → P (length old.declared.items)
at_last old u P h = subst P (length-map old.declared.items declared_form) h

-- a filter is known
pub filter_declared : (old new : Known) (d : Declared) (name : Name) (t : FilterTree) (f : FilterForm) (known : Streamed) → declared_form d ≡ UFilter name f
    → length name ≤ 40 → Made old new d name 1 1 → Knows old known → elaborated t ≡ Ok f
    → (s : Stream) × (stream_of known name (AFilter t) ≡ Ok s) × Knows new ((name, s) ∷ known)
filter_declared old new d name t f known e short made k h =
    let us = declared_forms old.declared.items in (
      Filter name f,
      ap (λ r. on_ok r (λ g. fine (Filter name g))) h,
      made known (Filter name f) k
          (subst (λ u. IsLower (length old.declared.items) (Some u)) (sym e) tt)
          (subst (λ u. HasShortFilters (Some u)) (sym e) short)
          (at_last old (declared_form d) (λ i. IsTree (us ++ declared_form d ∷ []) i (Filter name f)) (got_last us (declared_form d) ∙ ap Some e))
          refl refl,
    )

lower_here : (old : Known) (js : List ℕ) → AllByRecursion (λ j. j < length (declared_forms old.declared.items)) js
    → AllByRecursion (λ j. j < length old.declared.items) js
lower_here old js h = subst (λ n. AllByRecursion (λ j. j < n) js) (length-map old.declared.items declared_form) h

-- a pipeline is known
pub pipe_declared : (old new : Known) (d : Declared) (name : Name) (a : Adds) (c : Children) (depth : ℕ) (ss : Streams) (known : Streamed)
    → declared_form d ≡ APipe c.front.items c.last → depth ≡ c.deepest + 1 → Made old new d name c.ops depth → Knows old known
    → streams_added any known 0 a.first a.others ≡ Ok ss → AreChildren (declared_forms old.declared.items) c ss
    → (s : Stream) × (stream_of known name (APipeline a) ≡ Ok s) × Knows new ((name, s) ∷ known)
pipe_declared old new d name a c depth ss known e dp made k h are =
    let us = declared_forms old.declared.items in
    let v = declared_form d in
    let deep = are.deepest in
    let low = are.last in
    let len = length-map old.declared.items declared_form in (
      Pipeline ss,
      ap (λ r. on_ok r (λ x. fine (Pipeline x))) h,
      made known (Pipeline ss) k
          (subst (λ u. IsLower (length old.declared.items) (Some u)) (sym e) (lower_here old c.front.items are.front, omega (arith, low, len)))
          (subst (λ u. HasShortFilters (Some u)) (sym e) tt)
          (at_last old v (λ i. IsTree (us ++ v ∷ []) i (Pipeline ss))
          (c.front.items, c.last, got_last us v ∙ ap Some e, trees_kept us (v ∷ []) c.front.items c.last ss are.trees))
          are.ops
          (omega (arith, dp, deep)),
    )

-- a split-join is known
pub split_declared : (old new : Known) (d : Declared) (name : Name) (g : Dealing) (a : Adds) (ws : Option (List ℕ)) (vs : List ℕ) (sp : Splitter)
    (c : Children) (ops depth : ℕ) (ss : Streams) (known : Streamed)
    → declared_form d ≡ ASplit sp c.front.items c.last vs → ops ≡ min (c.ops + 2) 257 → depth ≡ c.deepest + 1
    → Made old new d name ops depth → Knows old known → splitter_of g (branch_count a) ≡ Ok sp → streams_added branches known 0 a.first a.others ≡ Ok ss
    → round_of ws (branch_count a) ≡ Ok vs → AreChildren (declared_forms old.declared.items) c ss
    → (s : Stream) × (stream_of known name (ASplitJoin g a ws) ≡ Ok s) × Knows new ((name, s) ∷ known)
split_declared old new d name g a ws vs sp c ops depth ss known e op dp made k hs h hr are =
    let us = declared_forms old.declared.items in
    let v = declared_form d in
    let deep = are.deepest in
    let low = are.last in
    let many = are.ops in
    let n = branch_count a in
    let len = length-map old.declared.items declared_form in
    let f2 = λ (p : Splitter) (ss : Streams). on_ok (round_of ws n) (λ vs. fine (SplitJoin p ss vs)) in
    let f1 = λ (p : Splitter). on_ok (streams_added branches known 0 a.first a.others) (f2 p) in (
      SplitJoin sp ss vs,
      ap (λ r. on_ok r f1) hs ∙ ap (λ r. on_ok r (f2 sp)) h ∙ ap (λ r. on_ok r (λ vs. fine (SplitJoin sp ss vs))) hr,
      made known (SplitJoin sp ss vs) k
          (subst (λ u. IsLower (length old.declared.items) (Some u)) (sym e) (lower_here old c.front.items are.front, omega (arith, low, len)))
          (subst (λ u. HasShortFilters (Some u)) (sym e) tt)
          (at_last old v (λ i. IsTree (us ++ v ∷ []) i (SplitJoin sp ss vs))
          (c.front.items, c.last, got_last us v ∙ ap Some e, trees_kept us (v ∷ []) c.front.items c.last ss are.trees))
          (omega (arith, op, many))
          (omega (arith, dp, deep)),
    )

-- the faults of a split-join: of its splitter, its branches, its joiner
pub split_fault : (f : RefusedUnit) (known : Streamed) (name : Name) (g : Dealing) (a : Adds) (ws : Option (List ℕ)) → IsWhyUnit f (splitter_of g (branch_count a))
    → IsWhyUnit f (stream_of known name (ASplitJoin g a ws))
split_fault f known name g a ws h =
    tells_on f (splitter_of g (branch_count a))
    (λ p. on_ok (streams_added branches known 0 a.first a.others) (λ ss. on_ok (round_of ws (branch_count a)) (λ vs. fine (SplitJoin p ss vs)))) h

-- that of its branches
pub branch_fault : (f : RefusedUnit) (known : Streamed) (name : Name) (g : Dealing) (a : Adds) (ws : Option (List ℕ)) (sp : Splitter)
    → splitter_of g (branch_count a) ≡ Ok sp → IsWhyUnit f (streams_added branches known 0 a.first a.others) → IsWhyUnit f (stream_of known name (ASplitJoin g a ws))
branch_fault f known name g a ws sp hs h =
    let n = branch_count a in
    let f2 = λ (p : Splitter) (ss : Streams). on_ok (round_of ws n) (λ vs. fine (SplitJoin p ss vs)) in
    let f1 = λ (p : Splitter). on_ok (streams_added branches known 0 a.first a.others) (f2 p) in
    tells_more f (streams_added branches known 0 a.first a.others) (stream_of known name (ASplitJoin g a ws))
    (λ e he. ap (λ r. on_ok r f1) hs ∙ ap (λ r. on_ok r (f2 sp)) he) h

-- that of its joiner
pub join_fault : (f : RefusedUnit) (known : Streamed) (name : Name) (g : Dealing) (a : Adds) (ws : Option (List ℕ)) (sp : Splitter) (ss : Streams)
    → splitter_of g (branch_count a) ≡ Ok sp → streams_added branches known 0 a.first a.others ≡ Ok ss → IsWhyUnit f (round_of ws (branch_count a))
    → IsWhyUnit f (stream_of known name (ASplitJoin g a ws))
join_fault f known name g a ws sp ss hs hb h =
    let n = branch_count a in
    let f2 = λ (p : Splitter) (ss : Streams). on_ok (round_of ws n) (λ vs. fine (SplitJoin p ss vs)) in
    let f1 = λ (p : Splitter). on_ok (streams_added branches known 0 a.first a.others) (f2 p) in
    tells_more f (round_of ws n) (stream_of known name (ASplitJoin g a ws))
    (λ e he. ap (λ r. on_ok r f1) hs ∙ ap (λ r. on_ok r (f2 sp)) hb ∙ ap (λ r. on_ok r (λ vs. fine (SplitJoin sp ss vs))) he) h

-- the number of branches
pub branch_count_is : (n : ℕ) (others : Vec Name Global) (first : Name) → n ≡ vec_len others
    → n + 1 ≡ branch_count (record { first = first; others = others.items })
branch_count_is n others first e = let l = others.ok.0 in omega (arith, e, l)
