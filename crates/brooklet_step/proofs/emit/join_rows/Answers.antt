use Rattle.std.proofs.Common.{◌≡◌, length, sym, ap, ◌∙◌, arith, subst}
use Rattle.river_base.specs.Places.{list_at}
use Rattle.river_base.proofs.PlaceLemmas.{each_grew-upto_none, upto_step, upto_length, each_grew-upto_all}
use Rattle.brooklet_model.specs.Firings.{beside}
use Rattle.brooklet_step.specs.Took.{StayApart}
use Rattle.brooklet_step.proofs.Fused.{leaves_all, leaves_next}
use Rattle.brooklet_step.proofs.emit.join_rows.Goals as goal

pub loop-table-init : goal.loop-table-init
loop-table-init c =
    let join = beside (length c.args.first.now) in
    record {
      adds = sym (each_grew-upto_none c.args.adds.now (join (list_at c.args.first.now) (list_at c.args.second.now)));
      left = leaves_all join c.args.first.now c.args.second.now;
    }

pub joined_table-requires : goal.joined_table-requires
joined_table-requires c =
    let m = c.loop-table.invariant.left.many in
    let n = c.loop-table.invariant.left.many_more in
    let r = c.requires in
    omega (arith, m, n, r)

pub extend_at-requires : goal.extend_at-requires
extend_at-requires c =
    let e = upto_length _ _
    (beside (length c.args.first.now) (list_at c.args.first.now) (list_at c.args.second.now)) c.loop-table.table c.loop-table.invariant.adds in
    omega arith

pub loop-table-preserved : goal.loop-table-preserved
loop-table-preserved c =
    let join = beside (length c.args.first.now) in
    let left = c.loop-table.invariant.left in
    let same = left.many in
    let t = c.loop-table.table in
    let one : c.joined_table.result ≡ join (list_at c.args.first.now) (list_at c.args.second.now) t =
    c.joined_table.ensures.taken ∙ ap (λ n. beside n (list_at c.loop-table.first) (list_at c.loop-table.second) t) same ∙ left.rest t (omega arith) in
    record {
      adds = upto_step _ _ _ (join (list_at c.args.first.now) (list_at c.args.second.now)) t _ c.loop-table.invariant.adds one c.in_ok-extend_at.ensures.ok;
      left =
          leaves_next join t c.args.first.now c.loop-table.first c.joined_table.new.first c.args.second.now c.loop-table.second c.joined_table.new.second left
          (subst (λ n. StayApart
          (beside n) t c.loop-table.first c.joined_table.new.first c.loop-table.second c.joined_table.new.second) same c.joined_table.ensures.left);
    }

pub returns : goal.returns
returns c =
    c.loop-table.invariant.adds
    ∙ each_grew-upto_all c.args.adds.now (beside (length c.args.first.now) (list_at c.args.first.now) (list_at c.args.second.now)) c.loop-table.table
    (omega arith)
