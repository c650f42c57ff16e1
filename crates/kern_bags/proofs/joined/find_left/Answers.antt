use Rattle.std.proofs.Common.{ℤ, ℕ, List, [], ◌∷◌, ◌++◌, ◌-◌, ◌≡◌, ◌<◌, length, pos, get_or, w64, to_z, of_z, rules, sym, ap, ◌∙◌, subst, arith}
use Rattle.std.proofs.lemmas.Result.{IfOk-weaker}
use Rattle.work_code.specs.Term.{Term, term}
use Rattle.kern_changes.specs.Counted.{AreSame}
use Rattle.kern_changes.specs.Keyed.{at_place, rows_with}
use Rattle.kern_bags.specs.Joined.{HoldsEqual, CanPair, Finds}
use Rattle.kern_bags.proofs.JoinedRows.{same_self, column_left, place_within, found_left, found_can_left, all_can_left}
use Rattle.kern_bags.proofs.joined.find_left.Goals as goal

holds : (w : ℕ) (t u : Term) (i j : ℕ) → u ≡ t → HoldsEqual w u i j → HoldsEqual w t i j
holds w t u i j g h = subst (λ v. HoldsEqual w v i j) g h

pub bounds-values-j : goal.bounds-values-j
bounds-values-j c =
    let t = term c.args.cond.now in
    let h = holds c.args.width t (term c.expr.result.now) c.in-Some.i c.in-Some.j (ap term c.expr.ensures) c.in-Some.ensures.some in
    subst (λ (l : List ℤ). c.in-Some.j - c.args.width < length l) (sym c.values.ensures.values)
    (place_within c.args.width t c.in-Some.i c.in-Some.j c.args.lefts.now c.args.right.now h c.requires)

pub offset_bounds-values-j : goal.offset_bounds-values-j
offset_bounds-values-j c =
    let t = term c.args.cond.now in
    let h = holds c.args.width t (term c.expr.result.now) c.in-Some.i c.in-Some.j (ap term c.expr.ensures) c.in-Some.ensures.some in
    let w = place_within c.args.width t c.in-Some.i c.in-Some.j c.args.lefts.now c.args.right.now h c.requires in
    let m = c.values.ensures.at_most in
    omega (arith, w, m)

pub find_by-requires : goal.find_by-requires
find_by-requires c =
    let t = term c.args.cond.now in
    let h = holds c.args.width t (term c.expr.result.now) c.in-Some.i c.in-Some.j (ap term c.expr.ensures) c.in-Some.ensures.some in
    column_left c.args.width t c.in-Some.i c.in-Some.j c.args.lefts.now h c.requires.lefts

pub returns-in-Some-clause-found : goal.returns-in-Some-clause-found
returns-in-Some-clause-found c =
    let t = term c.args.cond.now in
    let y = c.args.right.now in
    let i = c.in-Some.i in
    let j = c.in-Some.j in
    let w = c.args.width in
    let lefts = c.args.lefts.now in
    let h = holds w t (term c.expr.result.now) i j (ap term c.expr.ensures) c.in-Some.ensures.some in
    let v : ℤ = to_z w64 (of_z w64 (get_or c.values.result.now (j - w) (pos 0))) in
    let same : v ≡ get_or c.values.result.now (j - w) (pos 0) = search rules in
    let value : v ≡ at_place (j - w) y = same ∙ ap (at_place (j - w)) c.values.ensures.values in
    IfOk-weaker c.find_by.result (λ found. AreSame found (rows_with i v lefts)) (λ found. Finds t (λ x. x ++ y) found lefts)
    (λ found f. found_left w t i j y lefts lefts found h c.requires.lefts (same_self lefts) (subst (λ z. AreSame found (rows_with i z lefts)) value f))
    c.find_by.ensures.found

pub returns-in-Some-clause-wide : goal.returns-in-Some-clause-wide
returns-in-Some-clause-wide c =
    let t = term c.args.cond.now in
    let y = c.args.right.now in
    let w = c.args.width in
    let lefts = c.args.lefts.now in
    let v : ℤ = to_z w64 (of_z w64 (get_or c.values.result.now (c.in-Some.j - w) (pos 0))) in
    IfOk-weaker c.find_by.result (λ found. AreSame found (rows_with c.in-Some.i v lefts)) (λ found. CanPair t found (y ∷ []))
    (λ found f. found_can_left w t y lefts found c.in-Some.i v c.requires f) c.find_by.ensures.found

pub returns-in-None-clause-wide : goal.returns-in-None-clause-wide
returns-in-None-clause-wide c =
    let t = term c.args.cond.now in
    let y = c.args.right.now in
    let lefts = c.args.lefts.now in
    IfOk-weaker c.rows.result (λ found. found ≡ lefts) (λ found. CanPair t found (y ∷ []))
    (λ found e. all_can_left c.args.width t y lefts found c.requires e) c.rows.ensures
