use Rattle.std.proofs.Common.{◌≡◌, ℕ, ℤ, List, ◌<◌, ◌-◌, ◌*◌, length, take, sym, ap, ◌∙◌, subst, arith}
use Rattle.std.proofs.lemmas.List.{take_all}
use Rattle.kern_rows.specs.Even.{AreEven}
use Rattle.river_base.specs.WideRows.{cut_rows}
use Rattle.kern_rows.proofs.Cuts.{parted, cut-take, even-front}
use Rattle.river_base.proofs.CutRows.{length-cut}
use Rattle.kern_rows.proofs.even.EvenRows.truncate.Goals as goal

-- what is kept are the values of the first rows
kept-is : (w n i all : ℕ) (vs new : List ℤ) → i < n → AreEven w n vs → all ≡ length vs → new ≡ take (all - (n - i) * w) vs → new ≡ take (i * w) vs
kept-is w n i all vs new lt h a e =
    let p = parted w n i vs lt h in
    e ∙ ap (λ m. take (m - (n - i) * w) vs) a ∙ ap (λ m. take m vs) p.1

pub overflow_mul-behind : goal.overflow_mul-behind
overflow_mul-behind c =
    let r = c.self.inside in
    let p = parted r.width r.count c.args.count r.values c.if-count-self.true c.self.invariant in
    let le = p.0 in
    omega (arith, le, c.len-all.ensures, c.len-all.type_inv)

pub invariant_of-self : goal.invariant_of-self
invariant_of-self c =
    let r = c.self.inside in
    let n = c.args.count in
    let e = kept-is r.width r.count n c.len-all.result r.values c.truncate.new.self c.if-count-self.true c.self.invariant c.len-all.ensures
    c.truncate.ensures in
    subst (AreEven r.width n) (sym e) (even-front r.width r.count n r.values c.if-count-self.true c.self.invariant)

pub returns-then-count-self : goal.returns-then-count-self
returns-then-count-self c =
    let r = c.self.inside in
    let n = c.args.count in
    let e = kept-is r.width r.count n c.len-all.result r.values c.truncate.new.self c.if-count-self.true c.self.invariant c.len-all.ensures
    c.truncate.ensures in
    ap (cut_rows r.width n) e ∙ cut-take r.width r.count n r.values (omega arith) ∙ ap (take n) c.self.view_is

pub returns-else-count-self : goal.returns-else-count-self
returns-else-count-self c =
    let r = c.self.inside in
    let n = length-cut r.width r.count r.values in
    let v = ap length c.self.view_is in
    sym (take_all c.args.count c.args.self.now (omega (arith, n, v)))
