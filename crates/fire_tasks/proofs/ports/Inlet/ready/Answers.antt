use Rattle.std.proofs.Common.{◌≡◌, ap, sym, ◌∙◌, rules}
use Rattle.fire_tasks.specs.Inlet.{TakesFrom, Given}
use Rattle.fire_tasks.specs.Ports.{known_of}
use Rattle.fire_tasks.proofs.PortLemmas.{none_behind, prefix_none}
use Rattle.fire_tasks.proofs.ports.Inlet.ready.Goals.{in-Items, in-Rows, in-Kept}
use Rattle.fire_tasks.proofs.ports.Inlet.ready.Goals as goal

pub returns-clause-known : goal.returns-clause-known
returns-clause-known c = elim c.match-self.branch [
  | in-Items w ↦ λ f.
      let e : c.args.self.now ≡ TakesFrom w.in-Items.take = search rules in
      ap known_of e ∙ prefix_none w.in-Items.take.known w.ready.new.self.known w.ready.ensures.seen.known (w.ready.ensures.no (sym w.result-is ∙ f))
  | in-Rows w ↦ λ f.
      let e : c.args.self.now ≡ TakesFrom w.in-Rows.take = search rules in
      ap known_of e
      ∙ prefix_none w.in-Rows.take.known w.ready-in-Rows.new.self.known w.ready-in-Rows.ensures.seen.known (w.ready-in-Rows.ensures.no (sym w.result-is ∙ f))
  | in-Kept w ↦ λ f.
      let k = w.in-Kept.kept in
      let e : c.args.self.now ≡ Given (record { line = k.line; taken = k.taken }) = search rules in
      ap known_of e ∙ none_behind k.line k.taken w.has.result w.has.ensures (sym w.result-is ∙ f)
]
