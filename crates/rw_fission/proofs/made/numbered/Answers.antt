use Rattle.std.proofs.Common.{◌++◌, ap, sym, ◌∙◌, subst, arith, length, length-append, List, ℕ}
use Rattle.std.specs.Prelude.{IsTrue}
use Rattle.std.specs.List.{list_all}
use Rattle.std.proofs.lemmas.Result.{IfOk-weaker}
use Rattle.river_base.specs.Name.{is_word}
use Rattle.rw_fission.specs.Made.{digits}
use Rattle.rw_fission.proofs.MadeNames.{tail_is, tail_goes_on}
use Rattle.rw_fission.proofs.made.numbered.Goals as goal

pub name_with-requires-clause-going : goal.name_with-requires-clause-going
name_with-requires-clause-going c =
    subst (λ (l : List ℕ). IsTrue (list_all is_word l))
    (sym (c.as_slice.ensures ∙ tail_is _ _ _ c.args.letter.now c.args.i c.in_ok-tail.ensures c.in_ok-extend.ensures.ok c.in_ok-add_number.ensures))
    (tail_goes_on c.args.letter.now c.args.i c.requires.going c.requires.some c.requires.few)

pub name_with-requires-clause-short : goal.name_with-requires-clause-short
name_with-requires-clause-short c =
    let e = ap length (c.as_slice.ensures ∙ tail_is _ _ _ c.args.letter.now c.args.i c.in_ok-tail.ensures c.in_ok-extend.ensures.ok
    c.in_ok-add_number.ensures) in
    let a = length-append c.args.letter.now (digits c.args.i) in
    let s = c.requires.short in
    omega (arith, e, a, s)

pub returns : goal.returns
returns c =
    IfOk-weaker c.name_with.result _ _
    (λ name h. h ∙ ap (λ (l : List ℕ). c.args.label.now ++ l)
    (c.as_slice.ensures ∙ tail_is _ _ _ c.args.letter.now c.args.i c.in_ok-tail.ensures c.in_ok-extend.ensures.ok c.in_ok-add_number.ensures))
    c.name_with.ensures
