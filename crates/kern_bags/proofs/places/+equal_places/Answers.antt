use Rattle.std.proofs.Common.{◌≡◌, sym, ap, ◌∙◌, subst}
use Rattle.work_code.specs.declared.expr.BinOp.TheVariants as op
use Rattle.work_code.specs.declared.expr.Expr.TheVariants as expr
use Rattle.work_code.specs.Term.{term, Bin}
use Rattle.kern_bags.specs.Joined.{HoldsEqual, NoneComparesAcross}
use Rattle.kern_bags.proofs.EqualPlaces.{IsPlaceOf, and_left, and_right, and_none, no_equality, no_operation, none_weaker, some_weaker, term_bin}
use Rattle.kern_bags.proofs.places.+equal_places.Goals as goal

pub returns-in-Some-clause-some : goal.returns-in-Some-clause-some
returns-in-Some-clause-some t c =
    let left = c.args.left in
    let a = term c.in-Bin.a.value in
    let b = term c.in-Bin.b.value in
    let p = c.in-Some.places in
    let et : term c.args.e.now ≡ Bin op.And a b =
    ap term (c.in-Bin.is ∙ ap (λ o. expr.Bin o c.in-Bin.a c.in-Bin.b) c.in-And.is) ∙ term_bin op.And c.in-Bin.a c.in-Bin.b in
    subst (λ u. HoldsEqual left u p.0 p.1) (sym et)
    (and_left left a b p.0 p.1 (subst (λ u. HoldsEqual left u p.0 p.1) (ap term c.deref.ensures) c.in-Some.ensures.some))

pub returns-in-None-clause-some : goal.returns-in-None-clause-some
returns-in-None-clause-some t c =
    let left = c.args.left in
    let a = term c.in-Bin.a.value in
    let b = term c.in-Bin.b.value in
    let et : term c.args.e.now ≡ Bin op.And a b =
    ap term (c.in-Bin.is ∙ ap (λ o. expr.Bin o c.in-Bin.a c.in-Bin.b) c.in-And.is) ∙ term_bin op.And c.in-Bin.a c.in-Bin.b in
    some_weaker c.equal_places-in-None.result
    (λ p h. subst (λ u. HoldsEqual left u p.0 p.1) (sym et)
    (and_right left a b p.0 p.1 (subst (λ u. HoldsEqual left u p.0 p.1) (ap term c.deref-in-None.ensures) h)))
    c.equal_places-in-None.ensures.some

pub returns-in-None-clause-none : goal.returns-in-None-clause-none
returns-in-None-clause-none t c =
    let left = c.args.left in
    let a = term c.in-Bin.a.value in
    let b = term c.in-Bin.b.value in
    let et : term c.args.e.now ≡ Bin op.And a b =
    ap term (c.in-Bin.is ∙ ap (λ o. expr.Bin o c.in-Bin.a c.in-Bin.b) c.in-And.is) ∙ term_bin op.And c.in-Bin.a c.in-Bin.b in
    let first : NoneComparesAcross left a = subst (NoneComparesAcross left) (ap term c.deref.ensures) c.in-None.ensures.none in
    none_weaker c.equal_places-in-None.result
    (λ h. subst (NoneComparesAcross left) (sym et)
    (and_none left a b first (subst (NoneComparesAcross left) (ap term c.deref-in-None.ensures) h)))
    c.equal_places-in-None.ensures.none

pub returns-in-Eq-clause-none : goal.returns-in-Eq-clause-none
returns-in-Eq-clause-none t c =
    let left = c.args.left in
    let a = term c.in-Bin.a.value in
    let b = term c.in-Bin.b.value in
    let et : term c.args.e.now ≡ Bin op.Eq a b =
    ap term (c.in-Bin.is ∙ ap (λ o. expr.Bin o c.in-Bin.a c.in-Bin.b) c.in-Eq.is) ∙ term_bin op.Eq c.in-Bin.a c.in-Bin.b in
    let first : IsPlaceOf a c.input_of.result = subst (λ u. IsPlaceOf u c.input_of.result) (ap term c.deref-in-Eq.ensures)
    (record { some = c.input_of.ensures.some; none = c.input_of.ensures.none }) in
    let second : IsPlaceOf b c.input_of-in-Eq.result =
    subst (λ u. IsPlaceOf u c.input_of-in-Eq.result) (ap term c.deref-in-Eq-2.ensures)
    (record { some = c.input_of-in-Eq.ensures.some; none = c.input_of-in-Eq.ensures.none }) in
    none_weaker c.across.result
    (λ h. subst (NoneComparesAcross left) (sym et) (no_equality left a b c.input_of.result c.input_of-in-Eq.result first second h))
    c.across.ensures.none

pub returns-in_default : goal.returns-in_default
returns-in_default t c = record { some = tt; none = no_operation c.args.left c.args.e.now c.in_default.not-Bin }
