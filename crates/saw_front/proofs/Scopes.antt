-- Names that are known, as a list in memory.
use Rattle.std.proofs.Common.{◌≡◌, ℕ, ◌+◌, ◌<◌, List, [], ◌∷◌, ◌++◌, length, take, map, get_or, Some, sym, ap, ◌∙◌}
use Rattle.std.specs.Prelude.{reverse, if◌then◌else◌}
use Rattle.std.proofs.lemmas.List.{take_more, map-append, reverse-append}
use Rattle.river_base.specs.Name.{name_eq}
use Rattle.river_plan.specs.Forms.{Name}
use Rattle.saw_model.specs.Elaborate.{find}
use Rattle.saw_front.specs.declared.names.Known.{Known}
use Rattle.saw_front.specs.View.{entry_of, scope_of}

abbrev Entry : Type 0
Entry = Name × Known

-- the last name in memory is the newest
pub scope-push : (es : List Entry) (e : Entry) → scope_of (es ++ e ∷ []) ≡ entry_of e ∷ scope_of es
scope-push es e = ap reverse (map-append entry_of es (e ∷ [])) ∙ reverse-append (map entry_of es) (entry_of e ∷ [])

-- a name among the first ones
pub find-take : (es : List Entry) (i : ℕ) (e : Entry) (n : Name) → i < length es → e ≡ get_or es i e
    → find (scope_of (take (i + 1) es)) n ≡ (if name_eq e.0 n then Some (entry_of e).1 else find (scope_of (take i es)) n)
find-take es i e n lt g =
    ap (λ l. find (scope_of l) n) (take_more es i e lt ∙ ap (λ x. take i es ++ x ∷ []) (sym g)) ∙ ap (λ sc. find sc n) (scope-push (take i es) e)
