-- Splitters that are fed with a whole list.
use Rattle.std.proofs.Common.{◌≡◌, ℕ, suc, ◌%◌, ◌<◌, List, [], ◌∷◌, ◌++◌, refl, sym, ap, ◌∙◌, nat_eq, ⊎_elim}
use Rattle.std.proofs.lemmas.Bool.{cases_eq}
use Rattle.river_base.specs.declared.item.Item as item
use Rattle.river_base.specs.Places.{only}
use Rattle.river_base.proofs.PlaceLemmas.{only_same, only_other, if_eq, if_ne}
use Rattle.kern_rows.specs.Turns.{next_port, next_had}
use Rattle.brooklet_model.specs.Firings.{Turn, feed}
use Rattle.brooklet_model.specs.Fire.{deal_one}
use Rattle.brooklet_model.specs.ByIndex.{cycle, within, branch, picked, dealt}
use Rattle.brooklet_model.proofs.Cycles.{Positive, next_turn, first_turn}

-- TURNS

-- an item that comes at the turn of item x, and those after it
pub dealt_from : (ws : List ℕ) (p x : ℕ) (xs : List item.Item) → Positive ws → 0 < cycle ws
    → (feed (deal_one ws) xs (Turn (branch ws x) (within ws (x % cycle ws)) ∷ [])).outs p ≡ picked (λ y. nat_eq (branch ws y) p) x xs
dealt_from ws p x [] pos lt = refl
dealt_from ws p x (y ∷ ys) pos lt =
    let n = next_turn ws x pos lt in
    let rest = λ (a b : ℕ). (feed (deal_one ws) ys (Turn a b ∷ [])).outs p in
    let after : rest (next_port ws (branch ws x) (within ws (x % cycle ws))) (next_had ws (branch ws x) (within ws (x % cycle ws))) ≡ picked
    (λ y. nat_eq (branch ws y) p) (suc x) ys =
    ap (λ a. rest a (next_had ws (branch ws x) (within ws (x % cycle ws)))) n.0 ∙ ap (λ b. rest (branch ws (suc x)) b) n.1
    ∙ dealt_from ws p (suc x) ys pos lt in
    ap (λ l. only (branch ws x) (y ∷ []) p ++ l) after
    ∙ ⊎_elim
    (λ e.
    ap (λ q. only q (y ∷ []) p ++ picked (λ y. nat_eq (branch ws y) p) (suc x) ys) e
    ∙ ap (λ l. l ++ picked (λ y. nat_eq (branch ws y) p) (suc x) ys) (only_same p (y ∷ []))
    ∙ sym (if_eq (branch ws x) p _ _ e))
    (λ ne.
    ap (λ l. l ++ picked (λ y. nat_eq (branch ws y) p) (suc x) ys) (only_other (branch ws x) p (y ∷ []) (λ e. ne (sym e)))
    ∙ sym (if_ne (branch ws x) p _ _ ne))
    (cases_eq (branch ws x) p)

-- a splitter that is fed gives each port what index arithmetic says
pub deals : (ws : List ℕ) (p : ℕ) (xs : List item.Item) → Positive ws → 0 < cycle ws → (feed (deal_one ws) xs (Turn 0 0 ∷ [])).outs p ≡ dealt ws p xs
deals ws p xs pos lt =
    let f = first_turn ws pos lt in
    let run = λ (a b : ℕ). (feed (deal_one ws) xs (Turn a b ∷ [])).outs p in
    ap (λ a. run a 0) (sym f.0) ∙ ap (run (branch ws 0)) (sym f.1) ∙ dealt_from ws p 0 xs pos lt
