use Rattle.std.proofs.Common.{◌≡◌, ◌∷◌, ◌++◌, ◌<◌, ◌+◌, ◌-◌, [], length, ap, sym, ◌∙◌, set, subst, arith, refl}
use Rattle.std.specs.Prelude.{slice_index_or}
use Rattle.std.proofs.lemmas.List.{length-set}
use Rattle.fire_run.specs.Closed.{tables_at}
use Rattle.fire_run.proofs.SortLemmas.{Going, turn_of, class_there, some_there, going_next, going_end}
use Rattle.fire_run.proofs.sorting.place_all.Goals as goal

pub take_last-requires-clause-there : goal.take_last-requires-clause-there
take_last-requires-clause-there c =
    let s = c.requires.sorted in
    let k = c.len-count.result - 1 - c.loop-back.back in
    let lt : k < length c.args.decls.now = (let a = c.loop-back-test.true in let b = c.len-count.ensures in omega (arith, a, b)) in
    let g = turn_of (λ n. slice_index_or c.args.classes.now n 0) s.0 c.len-count.result c.loop-back.back k c.args.decls.now c.loop-back.lists
    c.loop-back.tables (c.loop-back.invariant.going s.0 s.1) c.loop-back-test.true refl in
    let t = class_there (λ n. slice_index_or c.args.classes.now n 0) s.0 k c.args.decls.now c.loop-back.lists c.loop-back.tables lt g in
    subst (λ m. m < length c.loop-back.lists) (sym (c.at-class.ensures 0)) t

pub take_last-requires-clause-some : goal.take_last-requires-clause-some
take_last-requires-clause-some c =
    let s = c.requires.sorted in
    let k = c.len-count.result - 1 - c.loop-back.back in
    let lt : k < length c.args.decls.now = (let a = c.loop-back-test.true in let b = c.len-count.ensures in omega (arith, a, b)) in
    let g = turn_of (λ n. slice_index_or c.args.classes.now n 0) s.0 c.len-count.result c.loop-back.back k c.args.decls.now c.loop-back.lists
    c.loop-back.tables (c.loop-back.invariant.going s.0 s.1) c.loop-back-test.true refl in
    λ e. some_there (λ n. slice_index_or c.args.classes.now n 0) s.0 k c.args.decls.now c.loop-back.lists c.loop-back.tables lt g
    (ap (tables_at c.loop-back.lists) (sym (c.at-class.ensures 0)) ∙ e)

pub loop-back-preserved : goal.loop-back-preserved
loop-back-preserved c =
    let k = c.len-count.result - 1 - c.loop-back.back in
    let lt : k < length c.args.decls.now = (let a = c.loop-back-test.true in let b = c.len-count.ensures in omega (arith, a, b)) in
    let at = c.at-class.ensures 0 in
    record {
      long = length-set c.loop-back.tables k c.take_last.result ∙ c.loop-back.invariant.long;
      going = λ logs s.
          let g = turn_of (λ n. slice_index_or c.args.classes.now n 0) logs c.len-count.result c.loop-back.back k c.args.decls.now c.loop-back.lists
          c.loop-back.tables (c.loop-back.invariant.going logs s) c.loop-back-test.true refl in
          let next : k ≡ c.len-count.result - (c.loop-back.back + 1) = omega arith in
          subst (λ n. Going (λ m. slice_index_or c.args.classes.now m 0) logs n c.args.decls.now c.take_last.new.lists
          (set c.loop-back.tables k c.take_last.result)) next
          (going_next (λ n. slice_index_or c.args.classes.now n 0) logs k c.args.decls.now c.loop-back.lists c.loop-back.tables lt g c.take_last.new.lists
          c.take_last.result c.take_last.ensures.many
          (ap (tables_at c.loop-back.lists) (sym at) ∙ c.take_last.ensures.last ∙ ap (λ m. tables_at c.take_last.new.lists m ++ c.take_last.result ∷ []) at)
          (λ e ne. c.take_last.ensures.others e (λ q. ne (q ∙ at))));
    }

pub returns : goal.returns
returns c =
    λ logs s. going_end (λ n. slice_index_or c.args.classes.now n 0) logs
    (c.len-count.result - c.loop-back.back) c.args.decls.now c.loop-back.lists c.loop-back.tables (c.loop-back.invariant.going logs s)
    (let f = c.loop-back-test.false in omega (arith, f))
