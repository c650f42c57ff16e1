use Rattle.std.proofs.Common.{rules, ◌≡◌, ◌+◌, ◌-◌, ◌<◌, ℤ, List, [], ◌∷◌, ◌++◌, pos, length, get_or, take, drop, map, sym, ap, ◌∙◌, arith, append_assoc}
use Rattle.std.proofs.lemmas.List.{drop_more}
use Rattle.river_base.specs.Instants.{at_instant, item_at, spread}
use Rattle.csv_streams.proofs.instant.add_batches.Goals as goal

pub loop-at-preserved : goal.loop-at-preserved
loop-at-preserved c =
    let ts = c.args.instants.now in
    let s = at_instant c.args.rows.now in
    let n = c.loop-at.at-index in
    let t = get_or ts n (pos 0) in
    let later = drop (n + 1) ts in
    let places = c.places_at-first.result in
    let found = map (λ (e : ℤ × List ℤ). e.1) (take (places.1 - places.0) (drop places.0 c.args.rows.now)) in
    let lt : n < length ts = omega arith in
    let left : drop n ts ≡ t ∷ later = drop_more ts n (pos 0) lt in
    let rows : found ≡ s t = search rules in
    let put : c.add_batch.new.items ≡ c.loop-at.items ++ item_at t found ∷ [] = search rules in
    record {
      within = c.places_at-first.ensures.within;
      so_far = ap (λ l. l ++ spread later s) put
          ∙ append_assoc c.loop-at.items (item_at t found ∷ []) (spread later s)
          ∙ ap (λ l. c.loop-at.items ++ (item_at t l ∷ spread later s)) rows
          ∙ ap (λ l. c.loop-at.items ++ spread l s) (sym left)
          ∙ c.loop-at.invariant.so_far;
    }
