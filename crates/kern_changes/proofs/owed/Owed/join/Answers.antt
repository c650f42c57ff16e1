use Rattle.std.proofs.Common.{◌≡◌, List, map, set, w64, to_z, of_z, ap, ◌∙◌, sym, subst, rules}
use Rattle.kern_changes.specs.declared.owed.Debt.{Debt}
use Rattle.river_base.specs.Changes.{cancelled}
use Rattle.kern_changes.specs.Owed.{no_debt, debt_at, owing, JoinsOwed, KeepsOwed}
use Rattle.kern_changes.proofs.OwedLaws.{joins, joins_keep, owes_here}
use Rattle.kern_changes.proofs.owed.Owed.join.Goals as goal

-- what the port owes
abbrev port_owes : goal.After-clear_at → Debt
port_owes c = owing c.args.change.now.plus c.args.change.now.minus (debt_at c.args.self.now c.args.place)

owes : (c : goal.After-clear_at) → c.owe_at.new.debts ≡ set c.args.self.now c.args.place (port_owes c)
owes c =
    c.in_ok-owe_at.ensures
    ∙ (λ i. set (c.self.view_is i) c.args.place (owing (c.as_slice.ensures i) (c.as_slice-2.ensures i) (debt_at (c.self.view_is i) c.args.place)))

-- what the others owe then, and nothing here
paid : (c : goal.After-clear_at) → c.clear_at.new.debts
    ≡ set (map (owing c.in_ok-given.given.minus c.in_ok-given.given.plus)
    (set (set c.args.self.now c.args.place (port_owes c)) c.args.place no_debt)) c.args.place no_debt
paid c =
    let e : c.take_at.new.debts ≡ set (set c.args.self.now c.args.place (port_owes c)) c.args.place no_debt =
    c.in_ok-given.ensures.rest ∙ ap (λ l. set l c.args.place no_debt) (owes c) in
    c.clear_at.ensures ∙ ap (λ l. set l c.args.place no_debt)
    (c.in_ok-owe_each.ensures ∙ (λ i. map (owing (c.as_slice-3.ensures i) (c.as_slice-4.ensures i)) (e i)))

gave : (c : goal.After-clear_at) → c.in_ok-given.given ≡ cancelled c.args.change.now.at (port_owes c).plus (port_owes c).minus
gave c =
    let at : to_z w64 (of_z w64 c.args.change.now.at) ≡ c.args.change.now.at = search rules in
    let e = ap (λ l. debt_at l c.args.place) (owes c) ∙ owes_here c.args.place c.args.change.now c.args.self.now c.in_ok-given.given c.requires in
    c.in_ok-given.ensures.given ∙ (λ i. cancelled (at i) (e i).plus (e i).minus)

pub returns-clause-contents : goal.returns-clause-contents
returns-clause-contents c =
    subst (λ (s : List Debt). JoinsOwed c.args.place c.args.change.now c.args.self.now s c.in_ok-given.given) (sym (paid c))
    (joins c.args.place c.args.change.now c.args.self.now c.in_ok-given.given c.requires (gave c))

pub returns-clause-keeps : goal.returns-clause-keeps
returns-clause-keeps c =
    subst (λ (s : List Debt). KeepsOwed c.args.change.now c.args.self.now s c.in_ok-given.given) (sym (paid c))
    (joins_keep c.args.place c.args.change.now c.args.self.now c.in_ok-given.given c.requires (gave c))
