use Rattle.std.proofs.Common.{◌≡◌, List, map, set, w64, to_z, of_z, ap, ◌∙◌, sym, subst, rules}
use Rattle.kern_changes.specs.declared.owed.Debt.{Debt}
use Rattle.river_base.specs.Changes.{cancelled}
use Rattle.kern_changes.specs.Owed.{no_debt, debt_at, owing, DealsOwed, KeepsOwed}
use Rattle.kern_changes.proofs.OwedLaws.{deals, deals_keep}
use Rattle.kern_changes.proofs.owed.Owed.deal.Goals as goal

-- what each list owes, and what is given
each_owes : (c : goal.In_ok-given) → c.owe_each.new.debts ≡ map (owing c.args.change.now.plus c.args.change.now.minus) c.args.self.now
each_owes c = c.in_ok-owe_each.ensures ∙ (λ i. map (owing (c.as_slice.ensures i) (c.as_slice-2.ensures i)) (c.self.view_is i))

paid : (c : goal.In_ok-given) → c.take_at.new.debts ≡ set (map (owing c.args.change.now.plus c.args.change.now.minus) c.args.self.now) c.args.place no_debt
paid c = c.in_ok-given.ensures.rest ∙ ap (λ l. set l c.args.place no_debt) (each_owes c)

gave : (c : goal.In_ok-given) → c.in_ok-given.given
    ≡ cancelled c.args.change.now.at (debt_at (map (owing c.args.change.now.plus c.args.change.now.minus) c.args.self.now) c.args.place).plus
    (debt_at (map (owing c.args.change.now.plus c.args.change.now.minus) c.args.self.now) c.args.place).minus
gave c =
    let at : to_z w64 (of_z w64 c.args.change.now.at) ≡ c.args.change.now.at = search rules in
    let e = each_owes c in
    c.in_ok-given.ensures.given ∙ (λ i. cancelled (at i) (debt_at (e i) c.args.place).plus (debt_at (e i) c.args.place).minus)

pub returns-clause-contents : goal.returns-clause-contents
returns-clause-contents c =
    subst (λ (s : List Debt). DealsOwed c.args.place c.args.change.now c.args.self.now s c.in_ok-given.given) (sym (paid c))
    (deals c.args.place c.args.change.now c.args.self.now c.in_ok-given.given c.requires (gave c))

pub returns-clause-keeps : goal.returns-clause-keeps
returns-clause-keeps c =
    subst (λ (s : List Debt). KeepsOwed c.args.change.now c.args.self.now s c.in_ok-given.given) (sym (paid c))
    (deals_keep c.args.place c.args.change.now c.args.self.now c.in_ok-given.given c.requires (gave c))
