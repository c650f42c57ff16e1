use Rattle.std.proofs.Common.{◌≡◌, ◌<◌, ◌-◌, ◌+◌, ◌*◌, length, take, drop, get_or, sym, ap, ◌∙◌, arith, length-drop}
use Rattle.std.proofs.lemmas.List.{length-take-le}
use Rattle.kern_rows.proofs.Cuts.{cut-at, behind}
use Rattle.river_base.proofs.CutRows.{length-cut}
use Rattle.kern_rows.proofs.even.EvenRows.at.Goals as goal

pub overflow_sub-behind : goal.overflow_sub-behind
overflow_sub-behind c =
    let r = c.self.inside in
    let n = length-cut r.width r.count r.values in
    let v = ap length c.self.view_is in
    omega (arith, n, v, c.requires)

pub overflow_mul-behind : goal.overflow_mul-behind
overflow_mul-behind c =
    let r = c.self.inside in
    let n = length-cut r.width r.count r.values in
    let v = ap length c.self.view_is in
    let lt : c.args.place < r.count = omega (arith, n, v, c.requires) in
    let k = r.count - c.args.place in
    let e : k + c.args.place ≡ r.count = omega arith in
    let b = behind r.width k c.args.place r.values (omega arith) (c.self.invariant.whole ∙ ap (λ m. m * r.width) (sym e)) in
    let le = b.1 in
    omega (arith, le, c.len-all.ensures, c.len-all.type_inv)

pub slice-requires : goal.slice-requires
slice-requires c =
    let r = c.self.inside in
    let n = length-cut r.width r.count r.values in
    let v = ap length c.self.view_is in
    let lt : c.args.place < r.count = omega (arith, n, v, c.requires) in
    let k = r.count - c.args.place in
    let e : k + c.args.place ≡ r.count = omega arith in
    let b = behind r.width k c.args.place r.values (omega arith) (c.self.invariant.whole ∙ ap (λ m. m * r.width) (sym e)) in
    let low = b.0 in
    let le = b.1 in
    omega (arith, low, le, c.len-all.ensures)

pub returns-clause-row : goal.returns-clause-row
returns-clause-row c d =
    let r = c.self.inside in
    let n = length-cut r.width r.count r.values in
    let v = ap length c.self.view_is in
    let lt : c.args.place < r.count = omega (arith, n, v, c.requires) in
    let k = r.count - c.args.place in
    let e : k + c.args.place ≡ r.count = omega arith in
    let b = behind r.width k c.args.place r.values (omega arith) (c.self.invariant.whole ∙ ap (λ m. m * r.width) (sym e)) in
    c.slice.ensures ∙ ap (λ m. take r.width (drop (m - k * r.width) r.values)) c.len-all.ensures
    ∙ ap (λ m. take r.width (drop m r.values)) b.2
    ∙ cut-at r.width r.count r.values c.args.place d lt
    ∙ ap (λ rows. get_or rows c.args.place d) c.self.view_is

-- the row has the width of all
length_of : (c : goal.After-slice) → length c.slice.result.now ≡ c.self.inside.width
length_of c =
    let r = c.self.inside in
    let n = length-cut r.width r.count r.values in
    let v = ap length c.self.view_is in
    let lt : c.args.place < r.count = omega (arith, n, v, c.requires) in
    let k = r.count - c.args.place in
    let e : k + c.args.place ≡ r.count = omega arith in
    let b = behind r.width k c.args.place r.values (omega arith) (c.self.invariant.whole ∙ ap (λ m. m * r.width) (sym e)) in
    let low = b.0 in
    let le = b.1 in
    let from = length-drop (c.len-all.result - k * r.width) r.values in
    ap length c.slice.ensures ∙ length-take-le r.width (drop (c.len-all.result - k * r.width) r.values) (omega (arith, low, le, from, c.len-all.ensures))

pub returns-clause-some : goal.returns-clause-some
returns-clause-some c = let l = length_of c in let s = c.self.invariant.some in omega (arith, l, s)

pub returns-clause-at_most : goal.returns-clause-at_most
returns-clause-at_most c = let l = length_of c in let s = c.self.invariant.at_most in omega (arith, l, s)
