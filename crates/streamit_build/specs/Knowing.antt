-- The streams that are known, by their names.
use Rattle.std.specs.Prelude.{◌≡◌, ◌<◌, ℕ, [], ◌∷◌, ◌++◌, Bool, min, List, length, Option, Some, None, Result, Ok, Err, if◌then◌else◌}
use Rattle.std.specs.List.{AllByRecursion}
use Rattle.indexmap.specs.IndexMap.{get}
use Rattle.river_base.specs.Name.{name_eq}
use Rattle.river_plan.specs.Forms.{Name}
use Rattle.streamit_model.specs.Unrolled.{Stream, Streams, nesting, deepest}
use Rattle.streamit_model.specs.Plan.{ops_in, ops_of}
use Rattle.streamit_model.specs.Meaning.{look}
use Rattle.streamit_model.specs.Judged.{Streamed, any, branches}
use Rattle.streamit_model.specs.declared.fault.Fault.{Fault}
use Rattle.streamit_unroll.specs.declared.refused.RefusedUnit.{RefusedUnit}
use Rattle.streamit_unroll.specs.View.{IsWhyUnit}
use Rattle.streamit_build.specs.declared.builder.Declared.{Declared}
use Rattle.streamit_build.specs.declared.streams.Entry.{Entry}
use Rattle.streamit_build.specs.declared.streams.Children.{Children}
use Rattle.streamit_build.specs.declared.streams.Known as code
use Rattle.streamit_build.specs.Units.{DeclaredForm, declared_form, declared_forms, IsLower, AreLower, HasShortFilters, HaveShortFilters, IsTree, AreTrees}

-- an entry says where the stream stands, how many operators it has up to 257, and how deep it is nested
pub record IsEntry (us : List DeclaredForm) (k : Entry) (s : Stream) : Type 0 where
  pub there : k.number < length us
  pub tree : IsTree us k.number s
  pub ops : k.ops ≡ min (ops_in s) 257
  pub nesting : k.nesting ≡ nesting s

-- a name has an entry exactly where it is known
abbrev pub IsFound : List DeclaredForm → Option Entry → Option Stream → Type 0
IsFound us None None = Unit {0}
IsFound us None (Some s) = ⊥
IsFound us (Some k) None = ⊥
IsFound us (Some k) (Some s) = IsEntry us k s

pub record Knows (ss : code.Known) (known : Streamed) : Type 0 where
  pub entries : (n : Name) → IsFound (declared_forms ss.declared.items) (get name_eq ss.entries n) (look known n)
  pub lower : AreLower (declared_forms ss.declared.items)
  pub short : HaveShortFilters (declared_forms ss.declared.items)

-- this holds where the next stream is lower, with short names, and stands for the tree, with so many operators, so deep
abbrev pub IfNext : List Declared → Declared → Stream → (ops depth : ℕ) → Type 0 → Type 0
IfNext us u s ops depth P =
    IsLower (length us) (Some (declared_form u)) → HasShortFilters (Some (declared_form u)) → IsTree (declared_forms us ++ declared_form u ∷ []) (length us) s
    → ops ≡ min (ops_in s) 257
    → depth ≡ nesting s
    → P

-- how many streams may be added: 64 branches, and any number in a line
abbrev pub may : Bool → ℕ → Bool
may b = if b then branches else any

-- the stream that is added
abbrev pub AddsOne : List DeclaredForm → Result Entry RefusedUnit → Result Stream Fault → Type 0
AddsOne us (Ok k) r = (s : Stream) × (r ≡ Ok s) × IsEntry us k s
AddsOne us (Err f) r = IsWhyUnit f r

pub record AreChildren (us : List DeclaredForm) (c : Children) (ss : Streams) : Type 0 where
  pub trees : AreTrees us c.front.items c.last ss
  pub front : AllByRecursion (λ j. j < length us) c.front.items
  pub last : c.last < length us
  pub ops : c.ops ≡ min (ops_of ss) 257
  pub deepest : c.deepest ≡ deepest ss

-- the streams that are added
abbrev pub AddsAll : List DeclaredForm → Result Children RefusedUnit → Result Streams Fault → Type 0
AddsAll us (Ok c) r = (ss : Streams) × (r ≡ Ok ss) × AreChildren us c ss
AddsAll us (Err f) r = IsWhyUnit f r

-- a stream is known besides
abbrev pub Declares : Result (Unit {0}) RefusedUnit → code.Known → Streamed → Name → Result Stream Fault → Type 0
Declares (Ok u) new known name r = (s : Stream) × (r ≡ Ok s) × Knows new ((name, s) ∷ known)
Declares (Err f) new known name r = IsWhyUnit f r
