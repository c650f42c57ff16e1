use Rattle.std.proofs.Common.{refl}
use Rattle.slow_cql.specs.declared.kept.Input.{Input}
use Rattle.slow_cql.proofs.Standing.{input_is}
use Rattle.slow_cql.proofs.kept.input_of.Goals as goal

pub returns : goal.returns
returns c = λ ts ks up st.
    let i : Input = record { name = c.item_name.result; fields = c.fields_of.result; window = c.args.source.now.window; entries = c.entries_of.result } in
    input_is ts c.args.known.now ks c.args.source.now i up st c.item_name.ensures c.fields_of.ensures refl c.entries_of.ensures
