use Rattle.std.proofs.Common.{refl}
use Rattle.plan_check.proofs.MapLoops.{map_next_behind}
use Rattle.plan_check.proofs.lists.add_decls.Goals as goal

pub loop-decl-preserved : goal.loop-decl-preserved
loop-decl-preserved c =
    map_next_behind (λ d. d.name) c.args.names.now c.loop-decl.names c.push.new.self _ c.loop-decl.decl-index c.decl-item.result _
    c.loop-decl-test.true c.decl-item.is refl c.in_ok-push.ensures.ok c.loop-decl.invariant
