use Rattle.std.proofs.Common.{◌≡◌, ◌-◌, suc, ap, ◌∙◌, sym, subst, arith}
use Rattle.river_base.specs.Row.{copies}
use Rattle.kern_changes.specs.Counted.{rows_counted, WentOne}
use Rattle.kern_changes.proofs.Counted.{take_one, take_last, take_none}
use Rattle.kern_changes.proofs.content.Content.take.Goals as goal

pub returns-in_ok-insert : goal.returns-in_ok-insert
returns-in_ok-insert c =
    let es = c.self.inside.counts.entries in
    let k = c.args.row.now in
    let n = c.count-count.result in
    let s : suc (n - 1) ≡ n = omega arith in
    subst (λ l. WentOne k l (rows_counted c.insert.new.self.entries)) c.self.view_is
    (subst (λ l. WentOne k (rows_counted es) (rows_counted l)) (sym c.in_ok-insert.ensures.entries)
    (take_one k es (n - 1) c.insert.ensures.was_ordered (s ∙ c.count-count.ensures ∙ ap (copies k) (sym c.self.view_is))))

pub returns-then-count-eq1 : goal.returns-then-count-eq1
returns-then-count-eq1 c =
    let es = c.self.inside.counts.entries in
    let k = c.args.row.now in
    let n : 1 ≡ c.count-count.result = omega arith in
    subst (λ l. WentOne k l (rows_counted c.remove.new.self.entries)) c.self.view_is
    (subst (λ l. WentOne k (rows_counted es) (rows_counted l)) (sym c.remove.ensures.entries)
    (take_last k es c.len.ensures.ordered (n ∙ c.count-count.ensures ∙ ap (copies k) (sym c.self.view_is))))

pub returns-else-count-eq1 : goal.returns-else-count-eq1
returns-else-count-eq1 c =
    let z : 0 ≡ c.count-count.result = omega arith in
    take_none c.args.row.now c.args.self.now (z ∙ c.count-count.ensures)
