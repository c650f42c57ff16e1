-- The order by rank.
use Rattle.std.specs.Prelude.{◌≡◌, Bool}
use Rattle.std.specs.Ordering.{eq_by_cmp}
use Rattle.std.specs.Cmp.{IsEquivalence, IsTotalOrder}
use Rattle.std.proofs.Common.{refl}
use Rattle.std.proofs.lemmas.Cmp.{then_total, on_total, back_total, int_cmp_total, eq_by_cmp_equiv}
use Rattle.kern_tables.specs.declared.ranked.Ranked.{Ranked}
use Rattle.kern_tables.specs.Tables.{rank_cmp}

abbrev pub rank_eq : Ranked → Ranked → Bool
rank_eq a b = eq_by_cmp rank_cmp a b

pub rank_total : IsTotalOrder rank_cmp
rank_total = then_total (back_total (on_total (λ (r : Ranked). r.weight) int_cmp_total)) (on_total (λ (r : Ranked). r.value) int_cmp_total)

pub rank_equiv : IsEquivalence rank_eq
rank_equiv = eq_by_cmp_equiv rank_total

pub rank_ties : (a b : Ranked) → rank_eq a b ≡ eq_by_cmp rank_cmp a b
rank_ties a b = refl
