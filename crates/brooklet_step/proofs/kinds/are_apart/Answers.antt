use Rattle.std.proofs.Common.{◌≡◌, length, get_or, refl, ap, ◌∙◌, arith}
use Rattle.brooklet_step.proofs.KindLemmas.{none_more, not_apart, apart_at_end}
use Rattle.brooklet_step.proofs.kinds.are_apart.Goals as goal

pub returns-then-not-is_missing : goal.returns-then-not-is_missing
returns-then-not-is_missing c =
    let x = c.row-item.result in
    let i = c.loop-row.row-index in
    let long = ap length c.as_slice-row-items.ensures in
    let is : x ≡ get_or c.args.plus.now i x = c.row-item.is ∙ ap (λ l. get_or l i x) c.as_slice-row-items.ensures in
    let fails = c.if-not-is_missing.true in (
      (λ t. absurd (cc t)),
      (λ a. absurd (not_apart c.args.plus.now c.args.minus.now i x c.is_missing.result (omega (arith, long)) is c.is_missing.ensures.1 (cc fails) a)),
    )

pub loop-row-preserved : goal.loop-row-preserved
loop-row-preserved c =
    let x = c.row-item.result in
    let i = c.loop-row.row-index in
    let long = ap length c.as_slice-row-items.ensures in
    let is : x ≡ get_or c.args.plus.now i x = c.row-item.is ∙ ap (λ l. get_or l i x) c.as_slice-row-items.ensures in
    none_more c.args.plus.now c.args.minus.now i x (omega (arith, long)) is c.loop-row.invariant (c.is_missing.ensures.0 c.if-not-is_missing.false)

pub returns : goal.returns
returns c = (
  (λ t.
      let long = ap length c.as_slice-row-items.ensures in
      apart_at_end c.args.plus.now c.args.minus.now c.loop-row.row-index (omega (arith, long)) c.loop-row.invariant),
  (λ a. refl),
)
