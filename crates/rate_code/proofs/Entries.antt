-- The newest entry is looked at first.
use Rattle.std.proofs.Common.{◌≡◌, ℕ, ◌+◌, ◌<◌, Bool, true, false, Option, Some, List, [], ◌∷◌, ◌++◌, length, take, get_or, map, reverse, sym, ap}
use Rattle.std.proofs.Common.{◌∙◌}
use Rattle.std.specs.Prelude.{if◌then◌else◌}
use Rattle.std.proofs.lemmas.List.{map-append}
use Rattle.river_base.specs.Name.{name_eq}
use Rattle.river_base.proofs.Lists.{take_next, reverse-push}
use Rattle.river_plan.specs.Forms.{Name}
use Rattle.streamit_model.specs.Meaning.{look}
use Rattle.stream_periods.specs.Walk.{Known}
use Rattle.rate_code.specs.declared.queues.Entry.{Entry}
use Rattle.rate_code.specs.Entries.{known_of, pair_of, queues_of}

pub pushed : (es : List Entry) (e : Entry) → queues_of (es ++ e ∷ []) ≡ pair_of e ∷ queues_of es
pushed es e = ap reverse (map-append pair_of es (e ∷ [])) ∙ reverse-push (map pair_of es) (pair_of e)

look_last : (es : List Entry) (i : ℕ) (e : Entry) (n : Name) → i < length es → e ≡ get_or es i e
    → look (queues_of (take (i + 1) es)) n ≡ (if name_eq e.name n then Some (known_of e.spot) else look (queues_of (take i es)) n)
look_last es i e n lt is = ap (λ l. look (queues_of l) n) (take_next es i e lt is) ∙ ap (λ q. look q n) (pushed (take i es) e)

pub look_here : (es : List Entry) (i : ℕ) (e : Entry) (n : Name) (told : Option Known) → i < length es → e ≡ get_or es i e → name_eq e.name n ≡ true
    → look (queues_of (take (i + 1) es)) n ≡ told → told ≡ Some (known_of e.spot)
look_here es i e n told lt is h g =
    sym g ∙ look_last es i e n lt is ∙ ap (λ (b : Bool). if b then Some (known_of e.spot) else look (queues_of (take i es)) n) h

pub look_before : (es : List Entry) (i : ℕ) (e : Entry) (n : Name) (told : Option Known) → i < length es → e ≡ get_or es i e → name_eq e.name n ≡ false
    → look (queues_of (take (i + 1) es)) n ≡ told → look (queues_of (take i es)) n ≡ told
look_before es i e n told lt is h g =
    sym (look_last es i e n lt is ∙ ap (λ (b : Bool). if b then Some (known_of e.spot) else look (queues_of (take i es)) n) h) ∙ g
