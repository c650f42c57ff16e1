use Rattle.std.proofs.Common.{◌≡◌, true, to_z, of_z, w64, rules}
use Rattle.streamit_text.specs.Tree.{expression}
use Rattle.params_model.specs.Environment.{value}
use Rattle.params_front.specs.Valued.{is_free}
use Rattle.params_front.proofs.Valued.{free-fixed}
use Rattle.params_front.proofs.bounds.fixed.Goals as goal

pub returns-then-is_free : goal.returns-then-is_free
returns-then-is_free c = λ noted env o.
    let vars = c.args.vars.now in
    let known = c.args.known.now in
    let e = expression c.args.c.now in
    let free : is_free vars e ≡ true = search rules in
    let same : to_z w64 (of_z w64 c.value.result) ≡ value known e = search rules in
    free-fixed vars known e (to_z w64 (of_z w64 c.value.result)) free same env o
