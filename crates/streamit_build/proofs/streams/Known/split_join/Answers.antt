use Rattle.std.proofs.Common.{◌≡◌, ◌+◌, Ok, Err, refl, sym, subst, rules}
use Rattle.streamit_text.specs.Program.{ASplitJoin, weights_of, dealing_of, adds_of}
use Rattle.streamit_model.specs.Meaning.{branch_count}
use Rattle.streamit_model.specs.Judged.{splitter_of, round_of, stream_of}
use Rattle.streamit_unroll.specs.View.{IsWhyUnit}
use Rattle.streamit_build.specs.Units.{splitter_form}
use Rattle.streamit_build.specs.Knowing.{Declares}
use Rattle.streamit_build.specs.declared.builder.Declared.TheVariants as made
use Rattle.streamit_build.proofs.Judging.{Made, branch_count_is, branch_fault, join_fault, split_declared}
use Rattle.streamit_build.proofs.streams.Known.split_join.Goals as goal

pub returns-in_err-children : goal.returns-in_err-children
returns-in_err-children c = λ known k.
    let all = c.args.all.now in
    let a = adds_of all.adds in
    let g = dealing_of all.split in
    let n : c.len-count.result + 1 ≡ branch_count a = branch_count_is c.len-count.result all.adds.others all.adds.first c.len-count.ensures in
    let sp = splitter_form c.in_ok-split.split in
    let hs = subst (λ m. splitter_of g m ≡ Ok sp) n c.in_ok-split.ensures in
    let is : c.from_residual-in_err-children.result ≡ Err c.in_err-children.field-0.0 = search rules in
    subst (λ x. Declares x c.args.self.now known c.args.name (stream_of known c.args.name (ASplitJoin g a (weights_of all.join)))) (sym is)
    (branch_fault c.in_err-children.field-0.0 known c.args.name g a (weights_of all.join) sp hs (c.in_err-children.ensures known k))

pub returns-in_err-join : goal.returns-in_err-join
returns-in_err-join c = λ known k.
    let all = c.args.all.now in
    let a = adds_of all.adds in
    let g = dealing_of all.split in
    let n : c.len-count.result + 1 ≡ branch_count a = branch_count_is c.len-count.result all.adds.others all.adds.first c.len-count.ensures in
    let sp = splitter_form c.in_ok-split.split in
    let hs = subst (λ m. splitter_of g m ≡ Ok sp) n c.in_ok-split.ensures in
    let ch = c.in_ok-children.ensures known k in
    let f = c.in_err-join.field-0.0 in
    let h : IsWhyUnit f (round_of (weights_of all.join) (c.len-count.result + 1)) = c.in_err-join.ensures in
    let is : c.from_residual-in_err-join.result ≡ Err f = search rules in
    subst (λ x. Declares x c.args.self.now known c.args.name (stream_of known c.args.name (ASplitJoin g a (weights_of all.join)))) (sym is)
    (join_fault f known c.args.name g a (weights_of all.join) sp ch.0 hs ch.1 (subst (λ m. IsWhyUnit f (round_of (weights_of all.join) m)) n h))

pub returns : goal.returns
returns c = λ known k.
    let all = c.args.all.now in
    let a = adds_of all.adds in
    let g = dealing_of all.split in
    let n : c.len-count.result + 1 ≡ branch_count a = branch_count_is c.len-count.result all.adds.others all.adds.first c.len-count.ensures in
    let sp = splitter_form c.in_ok-split.split in
    let hs = subst (λ m. splitter_of g m ≡ Ok sp) n c.in_ok-split.ensures in
    let ch = c.in_ok-children.ensures known k in
    let cs = c.in_ok-children.children in
    let vs = c.in_ok-join.join.items in
    let h : round_of (weights_of all.join) (c.len-count.result + 1) ≡ Ok vs = c.in_ok-join.ensures in
    let d = made.SplitJoin c.in_ok-split.split cs.front cs.last c.in_ok-join.join in
    let m : Made c.args.self.now c.declare.new.self d c.args.name c.few-ops.result c.in_ok-depth.depth = c.in_ok-declare.ensures {u = tt} in
    split_declared c.args.self.now c.declare.new.self d c.args.name g a
    (weights_of all.join) vs sp cs c.few-ops.result c.in_ok-depth.depth ch.0 known refl c.few-ops.ensures c.in_ok-depth.ensures m k hs ch.1
    (subst (λ m. round_of (weights_of all.join) m ≡ Ok vs) n h) ch.2
