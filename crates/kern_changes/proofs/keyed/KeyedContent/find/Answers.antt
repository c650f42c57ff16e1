use Rattle.std.proofs.Common.{ℤ, ◌≡◌, w64, to_z, of_z, rules, subst}
use Rattle.kern_changes.specs.Counted.{AreSame}
use Rattle.kern_changes.specs.Keyed.{rows_with}
use Rattle.kern_changes.proofs.Turning.{found_is}
use Rattle.kern_changes.proofs.keyed.KeyedContent.find.Goals as goal

pub returns-clause-found : goal.returns-clause-found
returns-clause-found c =
    let v : ℤ = to_z w64 (of_z w64 c.args.value) in
    let same : v ≡ c.args.value = search rules in
    subst (λ z. AreSame c.turn_all.new.rows (rows_with c.args.column z c.args.self.now)) same
    (found_is c.args.column c.self.inside.column v c.args.self.now c.self.inside.content c.turn_to.new.content c.args.found.now c.push_begun.new.all
    c.turn_all.new.rows c.self.view_is c.in_ok-turn_to.ensures c.requires.wide c.requires.empty c.in_ok-push_begun.ensures c.turn_all.ensures)
