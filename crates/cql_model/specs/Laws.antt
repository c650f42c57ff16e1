-- What is true of all programs.
use Rattle.std.specs.Prelude.{◌≡◌, ℤ, ◌<◌, List, [], ◌∷◌, length, map, All}
use Rattle.river_base.specs.Instants.{at_instant, spread}
use Rattle.river_plan.specs.Forms.{Name}
use Rattle.river_plan.specs.Names.{count}
use Rattle.river_plan.specs.Valid.{IsPlan}
use Rattle.brooklet_model.specs.Meaning.{meaning}
use Rattle.cql_model.specs.Program.{registered, streams_of}
use Rattle.cql_text.specs.Tree.{Query, Register, AQuery, Program}
use Rattle.cql_model.specs.Scopes.{Named}
use Rattle.cql_model.specs.Streams.{Rises}
use Rattle.cql_model.specs.Meaning.{answers}
use Rattle.cql_model.specs.Plan.{query_named, plan_of}

-- what the front makes sure of, as far as the meaning of the plan needs it: a query has an item, each item names a stream that is
-- known, and no query has the name of a registered stream
abbrev pub known_names : List Named → List Name
known_names ks = map (λ k. k.name) ks

abbrev pub AreKnown : List Named → List Name → Type 0
AreKnown known [] = Unit {0}
AreKnown known (n ∷ ns) = (0 < count n (known_names known)) × AreKnown known ns

pub record IsSourced (inputs : List Name) (known : List Named) (q : Query) : Type 0 where
  pub some : 0 < length q.items
  pub streams : AreKnown known (streams_of q.items)
  pub apart : count q.name inputs ≡ 0

abbrev pub AreSourced : List Name → List Named → Program → Type 0
AreSourced inputs known [] = Unit {0}
AreSourced inputs known (Register name fields ∷ ps) = AreSourced inputs (record { name = name; fields = fields } ∷ known) ps
AreSourced inputs known (AQuery q ∷ ps) = IsSourced inputs known q × AreSourced inputs (query_named known q ∷ known) ps

-- each registered stream has a file, whose rows have its width
abbrev pub AreFiles : Program → List (List (ℤ × List ℤ)) → Type 0
AreFiles [] [] = Unit {0}
AreFiles [] (f ∷ fs) = ⊥
AreFiles (Register name fields ∷ ps) [] = ⊥
AreFiles (Register name fields ∷ ps) (f ∷ fs) = All (λ e. length e.1 ≡ length fields) f × AreFiles ps fs
AreFiles (AQuery q ∷ ps) fs = AreFiles ps fs

-- the plan of a program means what the program means: item k of each output is its answer at instant k
abbrev pub TranslationMeans : Type 0
TranslationMeans =
    (p : Program) (ts : List ℤ) (files : List (List (ℤ × List ℤ))) → AreSourced (registered p) [] p → AreFiles p files → Rises ts → IsPlan (plan_of p)
    → meaning (plan_of p) (map (λ f. spread ts (at_instant f)) files) ≡ record { outs = map (spread ts) (answers ts [] p files); tables = [] }
