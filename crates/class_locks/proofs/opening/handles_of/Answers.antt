use Rattle.std.proofs.Common.{◌≡◌, ◌+◌, ap, ◌∙◌, sym, subst, All, length}
use Rattle.std.specs.Arc.{arc_value}
use Rattle.std.proofs.lemmas.List.{length_push}
use Rattle.std.proofs.lemmas.List.Elements.{All-push}
use Rattle.class_locks.proofs.opening.handles_of.Goals as goal

pub loop-i-preserved : goal.loop-i-preserved
loop-i-preserved c =
    let inv = c.loop-i.invariant in
    let items = c.in_ok-push.ensures.items in
    record {
      len = ap length items ∙ length_push c.loop-i.handles.items c.in_ok-handle.handle ∙ ap (λ n. n + 1) inv.len;
      same = subst (All (λ a. arc_value a ≡ arc_value c.args.locks.now)) (sym items)
          (All-push (λ a. arc_value a ≡ arc_value c.args.locks.now) c.loop-i.handles.items c.in_ok-handle.handle inv.same c.in_ok-handle.ensures);
    }
