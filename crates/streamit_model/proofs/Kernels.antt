-- What kernels give when they are fed, as streams mean it.
use Rattle.std.proofs.Common.{◌≡◌, ℕ, ℤ, pos, ◌<◌, List, [], ◌∷◌, length, map, IsTrue, refl, ap, ◌∙◌, arith}
use Rattle.river_base.specs.declared.item.Item as item
use Rattle.river_base.specs.declared.item.Item.TheVariants.{Flat}
use Rattle.river_base.specs.declared.item.Flat.TheVariants.{One}
use Rattle.river_base.specs.Places.{list_at}
use Rattle.kern_rows.specs.Forms.{FilterForm}
use Rattle.river_kernels.specs.Formed.{is_filter}
use Rattle.river_kernels.specs.Kern.{filter, duplicate, deal, collect}
use Rattle.brooklet_model.specs.Firings.{Turn, Joining, feed}
use Rattle.brooklet_model.specs.Fire.{fire, first_kept, deal_one, join_one}
use Rattle.brooklet_model.specs.Words.{run, port_by_port, feed_all}
use Rattle.kern_rows.specs.Turns.{turns_start, settled, itself}
use Rattle.std.proofs.lemmas.List.{length-map}
use Rattle.brooklet_model.proofs.Feeds.{one_input}
use Rattle.streamit_model.specs.Unrolled.{IsRound}
use Rattle.brooklet_model.specs.ByIndex.{dealt, collected}
use Rattle.streamit_model.specs.UnrolledFilters.{filtered}
use Rattle.streamit_model.specs.Plan.{weights}
use Rattle.streamit_model.specs.Laws.{as_items}
use Rattle.river_kernels.proofs.WellFormed.{can_filter}
use Rattle.streamit_model.proofs.FilterFed.{filter_fed}
use Rattle.brooklet_model.proofs.Dealt.{deals}
use Rattle.brooklet_model.proofs.Cycles.{positive_cycle}
use Rattle.brooklet_model.proofs.Collected.{fed_joins, settles}
use Rattle.streamit_model.proofs.Rounds.{copied, shares_are, dealt_map, collected_map, blanks_mapped}

-- a fed filter gives what the filter gives on the whole list
pub filter_means : (f : FilterForm) (g : ℕ → List item.Item) (xs : List ℤ) → IsTrue (is_filter f) → g 0 ≡ as_items xs
    → (feed_all (filter f) g (first_kept (filter f))).outs 0 ≡ as_items (filtered f xs)
filter_means f g xs ok e =
    ap (λ r. r.outs 0) (one_input (filter f) g (first_kept (filter f)) refl)
    ∙ ap (λ l. (feed (fire (filter f) 0) l (first_kept (filter f))).outs 0) e
    ∙ filter_fed f xs (can_filter f ok)

-- a fed splitter that copies gives each branch all items
pub duplicate_means : (n p : ℕ) (g : ℕ → List item.Item) → p < n → (feed_all (duplicate n) g (first_kept (duplicate n))).outs p ≡ g 0
duplicate_means n p g lt = ap (λ r. r.outs p) (one_input (duplicate n) g (first_kept (duplicate n)) refl) ∙ copied n p (g 0) lt

-- a fed splitter that deals gives each branch its share
pub deal_means : (ws : List ℕ) (n p : ℕ) (g : ℕ → List item.Item) (xs : List ℤ) → IsRound ws n → p < n → g 0 ≡ as_items xs
    → (feed_all (deal (weights ws)) g (first_kept (deal (weights ws)))).outs p ≡ as_items (dealt ws p xs)
deal_means ws n p g xs r lt e =
    ap (λ r. r.outs p) (one_input (deal (weights ws)) g (first_kept (deal (weights ws))) refl)
    ∙ ap (λ l. (feed (fire (deal (weights ws)) 0) l (first_kept (deal (weights ws)))).outs p) e
    ∙ ap (λ v. (feed (deal_one v) (as_items xs) (Turn 0 0 ∷ [])).outs p) (shares_are ws)
    ∙ deals ws p (as_items xs) r.each (positive_cycle ws n p r.each r.number lt)
    ∙ dealt_map (λ x. Flat (One (x ∷ []))) ws p 0 xs

-- a fed joiner gives what is collected of its inputs
pub collect_means : (ws : List ℕ) (g : ℕ → List item.Item) (ls : List (List ℤ)) → IsRound ws (length ls)
    → ((p : ℕ) → p < length ls → g p ≡ as_items (list_at ls p))
    → (feed_all (collect (weights ws)) g (first_kept (collect (weights ws)))).outs 0 ≡ as_items (collected ws ls)
collect_means ws g ls r e =
    let n = length ls in
    let f = λ (x : ℤ). Flat (One (x ∷ [])) in
    let sh = shares_are ws in
    let len : length (weights ws) ≡ n = length-map ws pos ∙ r.number in
    ap (λ v. (run (join_one itself v) (port_by_port (length (weights ws)) 0 g) (Joining (turns_start (length (weights ws))) ∷ [])).outs 0) sh
    ∙ ap (λ k. (run (join_one itself ws) (port_by_port k 0 g) (Joining (turns_start k) ∷ [])).outs 0) len
    ∙ fed_joins ws n g
    ∙ ap (λ t. (settled itself ws (record { port = 0; had = 0; lists = t })).0) (blanks_mapped f ls g e)
    ∙ cases_empty ws ls r
  where
    cases_empty : (ws : List ℕ) (ls : List (List ℤ)) → IsRound ws (length ls)
        → (settled itself ws (record { port = 0; had = 0; lists = map as_items ls })).0 ≡ as_items (collected ws ls)
    cases_empty ws [] r = refl
    cases_empty ws (l ∷ ls) r =
        settles ws (map as_items (l ∷ ls)) r.each (positive_cycle ws (length (l ∷ ls)) 0 r.each r.number (omega arith))
        ∙ collected_map (λ (x : ℤ). Flat (One (x ∷ []))) ws (l ∷ ls)
