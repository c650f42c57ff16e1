-- From the fetch of the first file to the points after all of them.
use Rattle.std.proofs.Common.{◌≡◌, ℕ, List, [], ◌∷◌, ◌++◌, sym, ap, subst}
use Rattle.std.specs.Prelude.{Option, Some}
use Rattle.std.proofs.lemmas.List.{append_assoc, append-nil}
use Rattle.brooklet_model.proofs.Lists.{funext}
use Rattle.river_outside.specs.Held.{Held}
use Rattle.river_outside.specs.Order.{Order, Fetch, Comes}
use Rattle.river_outside.specs.Decides.{Stops}
use Rattle.river_outside.specs.declared.stop.Stop.{Stop}
use Rattle.river_outside.proofs.Comes.{Comes-same, Comes-on}
use Rattle.river_outside.proofs.Turns.{Stops-later}
use Rattle.river_road.specs.Inputs.{fetch_each}
use Rattle.river_road.specs.Limits.{most_input}
use Rattle.river_road.specs.Text.{large_input}
use Rattle.command_line.specs.declared.command.InWord.{InWord}

-- the files so far, and then those of the words that are left
abbrev pub after : List (List ℕ) → (List (List ℕ) → Order) → List (List ℕ) → Order
after files next rest = next (files ++ rest)

-- the points come to the fetches of the words that are left
abbrev pub ComesTo : List InWord → Option Held → List (List ℕ) → List InWord → Type 0
ComesTo ins held files left = (next : List (List ℕ) → Order) → Comes (fetch_each ins next) held (fetch_each left (after files next))

-- before the first file all of them are to come
pub comes-first : (ins : List InWord) (held : Option Held) → ComesTo ins held [] ins
comes-first ins held next = Comes-same (fetch_each ins next) held

-- one file more
pub comes-more : (ins : List InWord) (held : Option Held) (files : List (List ℕ)) (w : InWord) (left : List InWord) (bytes : List ℕ)
    → ComesTo ins held files (w ∷ left) → ((next : List ℕ → Order) → Comes (Fetch w.file most_input (large_input w.name) next) held (next bytes))
    → ComesTo ins held (files ++ bytes ∷ []) left
unfolding fetch_each
comes-more ins held files w left bytes far one next =
    let same : after (files ++ bytes ∷ []) next ≡ (λ rest. next (files ++ bytes ∷ rest)) =
    funext (after (files ++ bytes ∷ []) next) (λ rest. next (files ++ bytes ∷ rest)) (λ rest. ap next (append_assoc files (bytes ∷ []) rest)) in
    let on = Comes-on (fetch_each ins next) (fetch_each (w ∷ left) (after files next)) (fetch_each left (λ rest. next (files ++ bytes ∷ rest))) held (far next)
    (one (λ b. fetch_each left (λ rest. next (files ++ b ∷ rest)))) in
    subst (λ (k : List (List ℕ) → Order). Comes (fetch_each ins next) held (fetch_each left k)) (sym same) on

-- all files
pub comes-all : (ins : List InWord) (held : Option Held) (files : List (List ℕ)) → ComesTo ins held files [] → (next : List (List ℕ) → Order)
    → Comes (fetch_each ins next) held (next files)
unfolding fetch_each
comes-all ins held files far next = subst (λ (l : List (List ℕ)). Comes (fetch_each ins next) held (next l)) (append-nil files) (far next)

-- the fetch of the next file stops the whole
pub stops-more : (ins : List InWord) (held : Option Held) (early late : Type 0) → (late → early)
    → (files : List (List ℕ)) (w : InWord) (left : List InWord) (s : Stop)
    → ComesTo ins held files (w ∷ left) → ((next : List ℕ → Order) → Stops (Some (Fetch w.file most_input (large_input w.name) next)) held late s)
    → (next : List (List ℕ) → Order) → Stops (Some (fetch_each ins next)) held early s
unfolding fetch_each
stops-more ins held early late sooner files w left s far one next =
    Stops-later (fetch_each ins next) (fetch_each (w ∷ left) (after files next)) held early late sooner s (far next)
    (one (λ b. fetch_each left (λ rest. next (files ++ b ∷ rest))))
