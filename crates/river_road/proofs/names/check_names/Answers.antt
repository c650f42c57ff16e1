use Rattle.std.proofs.Common.{◌≡◌, List, ℕ, sym, ap, ◌∙◌}
use Rattle.std.specs.Prelude.{Result, Err}
use Rattle.river_road.specs.Text.{unknown_input, missing_input}
use Rattle.river_road.proofs.Inputs.{unknown-told, missing-told, nothing-told}
use Rattle.river_road.proofs.names.check_names.Goals as goal

abbrev told : List ℕ → Result (Unit {0}) (List ℕ)
told t = Err t

pub returns-in-Some : goal.returns-in-Some
returns-in-Some c =
    let says : c.in_ok-unknown.field-0 ≡ unknown_input c.in-Some.word.now.name = rw c.as_slice.ensures at c.in_ok-unknown.ensures in
    unknown-told c.args.decls.now c.args.ins.now c.in-Some.word.now c.in-Some.ensures ∙ ap (λ (t : List ℕ). told t) (sym says)

pub returns-in-Some-missing : goal.returns-in-Some-missing
returns-in-Some-missing c =
    let says : c.in_ok-missing.field-0 ≡ missing_input c.in-Some-missing.decl.now.name =
    rw c.as_slice-in-Some-missing.ensures.bytes at c.in_ok-missing.ensures in
    missing-told c.args.decls.now c.args.ins.now c.in-Some-missing.decl.now c.in_default.ensures c.in-Some-missing.ensures
    ∙ ap (λ (t : List ℕ). told t) (sym says)

pub returns : goal.returns
returns c = nothing-told c.args.decls.now c.args.ins.now c.in_default.ensures c.in_default-missing.ensures
