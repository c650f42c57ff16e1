use Rattle.std.proofs.Common.{ℤ, ℕ, List, [], ◌∷◌, ◌++◌, ◌-◌, ◌≡◌, ◌<◌, length, pos, get_or, w64, to_z, of_z, rules, refl, sym, ap, ◌∙◌, subst}
use Rattle.std.specs.Prelude.{All}
use Rattle.std.proofs.lemmas.Result.{IfOk-weaker}
use Rattle.work_code.specs.Term.{Term, term}
use Rattle.kern_changes.specs.Counted.{AreSame}
use Rattle.kern_changes.specs.Keyed.{at_place, rows_with}
use Rattle.kern_bags.specs.Joined.{HoldsEqual, CanPair, Finds}
use Rattle.kern_bags.proofs.JoinedRows.{same_self, column_right, found_right, found_can}
use Rattle.kern_bags.proofs.joined.find_right.Goals as goal

holds : (w : ℕ) (x : List ℤ) (t u : Term) (i j : ℕ) → w ≡ length x → u ≡ t → HoldsEqual w u i j → HoldsEqual (length x) t i j
holds w x t u i j e g h = subst (λ n. HoldsEqual n t i j) e (subst (λ v. HoldsEqual w v i j) g h)

pub find_by-requires : goal.find_by-requires
find_by-requires c =
    let t = term c.args.cond.now in
    let x = c.args.left.now in
    let h = holds c.width.result x t (term c.expr.result.now) c.in-Some.i c.in-Some.j c.width.ensures.width (ap term c.expr.ensures) c.in-Some.ensures.some in
    subst (λ n. All (λ (row : List ℤ). c.in-Some.j - n < length row) c.args.rights.now) (sym c.width-in-Some.ensures.width)
    (column_right t c.in-Some.i c.in-Some.j x c.args.rights.now h c.requires)

-- what was looked up is the rows with the value of the row at the place
looked : (i j w : ℕ) (x xs : List ℤ) (v : ℤ) (found rights : List (List ℤ)) → w ≡ length x → v ≡ at_place i x → AreSame found (rows_with (j - w) v rights)
    → AreSame found (rows_with (j - length x) (at_place i x) rights)
looked i j w x xs v found rights e g h =
    subst (λ n. AreSame found (rows_with (j - n) (at_place i x) rights)) e (subst (λ z. AreSame found (rows_with (j - w) z rights)) g h)

pub returns-in-Some-clause-found : goal.returns-in-Some-clause-found
returns-in-Some-clause-found c =
    let t = term c.args.cond.now in
    let x = c.args.left.now in
    let i = c.in-Some.i in
    let j = c.in-Some.j in
    let rights = c.args.rights.now in
    let h = holds c.width.result x t (term c.expr.result.now) i j c.width.ensures.width (ap term c.expr.ensures) c.in-Some.ensures.some in
    let v : ℤ = to_z w64 (of_z w64 (get_or c.values.result.now i (pos 0))) in
    let same : v ≡ get_or c.values.result.now i (pos 0) = search rules in
    let value : v ≡ at_place i x = same ∙ ap (at_place i) c.values.ensures.values in
    IfOk-weaker c.find_by.result (λ found. AreSame found (rows_with (j - c.width-in-Some.result) v rights)) (λ found. Finds t (λ y. x ++ y) found rights)
    (λ found f. found_right (length x) t i j x rights rights found h refl (same_self rights)
    (looked i j c.width-in-Some.result x x v found rights c.width-in-Some.ensures.width value f)) c.find_by.ensures.found

pub returns-in-Some-clause-wide : goal.returns-in-Some-clause-wide
returns-in-Some-clause-wide c =
    let t = term c.args.cond.now in
    let x = c.args.left.now in
    let rights = c.args.rights.now in
    let k = c.in-Some.j - c.width-in-Some.result in
    let v : ℤ = to_z w64 (of_z w64 (get_or c.values.result.now c.in-Some.i (pos 0))) in
    IfOk-weaker c.find_by.result (λ found. AreSame found (rows_with k v rights)) (λ found. CanPair t (x ∷ []) found)
    (λ found f. found_can t x rights found k v c.requires f) c.find_by.ensures.found
