use Rattle.std.proofs.Common.{ap}
use Rattle.cql_build.specs.declared.item.Item.{Item}
use Rattle.cql_build.proofs.Judging.{item_found, item_lost}
use Rattle.cql_build.proofs.known.Known.item.Goals as goal
use Rattle.cql_build.proofs.known.Known.item.Goals.{in-Some, in-None}

pub returns : goal.returns
returns c = λ ks k.
    let f = c.fields.ensures ks k in
    let i : Item = record { name = c.item_name.result; fields = c.match-fields.fields } in
    elim c.match-fields.branch [
      | in-Some w ↦ item_found ks c.args.source.now c.fields.result w.in-Some.fields i f w.in-Some.is w.fields-is c.item_name.ensures
      | in-None w ↦ item_lost ks c.args.source.now c.fields.result i f w.in-None.is (ap (λ b. b.now) w.fields-is) c.item_name.ensures
    ]
