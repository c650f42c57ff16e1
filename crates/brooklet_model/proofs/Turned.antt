-- Splitters and joiners that are fed, by the numbers of their items.
use Rattle.std.proofs.Common.{ℕ, ◌<◌, List, [], ◌∷◌, length, refl, sym, ap, ◌∙◌}
use Rattle.river_base.specs.Places.{list_at}
use Rattle.kern_rows.specs.Turns.{shares, turns_start, settled, itself}
use Rattle.river_kernels.specs.Kern.{deal, collect}
use Rattle.brooklet_model.specs.Firings.{Joining}
use Rattle.brooklet_model.specs.Fire.{first_kept, join_one}
use Rattle.kern_rows.specs.Needs.{HaveShares}
use Rattle.brooklet_model.specs.Words.{run, port_by_port}
use Rattle.brooklet_model.specs.ByIndex.{cycle, DealsByIndex, CollectsByIndex, CollectsLongest}
use Rattle.brooklet_model.proofs.Feeds.{one_input}
use Rattle.brooklet_model.proofs.Ports.{formed_shaped}
use Rattle.brooklet_model.proofs.Cycles.{positive_cycle}
use Rattle.brooklet_model.proofs.Dealt.{deals}
use Rattle.brooklet_model.proofs.Collected.{fed_joins, settles, blanks_filled}
use Rattle.brooklet_model.proofs.Longest.{longest}

-- a cycle has an item
some_cycle : (ws : List ℕ) → HaveShares ws → 0 < cycle ws
some_cycle ws h = positive_cycle ws (length ws) 0 h.1 refl h.0

pub deals_by_index : DealsByIndex
deals_by_index weights xs p formed =
    let shares_are = formed_shaped (deal weights) formed in
    ap (λ r. r.outs p) (one_input (deal weights) (λ _. xs) (first_kept (deal weights)) refl)
    ∙ deals (shares weights) p xs shares_are.1 (some_cycle (shares weights) shares_are)

pub collects_by_index : CollectsByIndex
collects_by_index weights ls formed many =
    let ws = shares weights in
    let shares_are = formed_shaped (collect weights) formed in
    ap (λ n. (run (join_one itself ws) (port_by_port n 0 (list_at ls)) (Joining (turns_start n) ∷ [])).outs 0) (sym many)
    ∙ fed_joins ws (length ls) (list_at ls)
    ∙ ap (λ t. (settled itself ws (record { port = 0; had = 0; lists = t })).0) (blanks_filled ls (list_at ls) (λ p. refl))
    ∙ settles ws ls shares_are.1 (some_cycle ws shares_are)

pub collects_longest : CollectsLongest
collects_longest weights ls formed many = longest (shares weights) ls (some_cycle (shares weights) (formed_shaped (collect weights) formed))
