use Rattle.std.proofs.Common.{length, sym, subst, ap, ◌∙◌}
use Rattle.class_locks.specs.Seats.{HasAll}
use Rattle.class_locks.specs.declared.view.View.{View}
use Rattle.fire_run.specs.Frames.{Framed}
use Rattle.fire_run.proofs.JoinNet.{as_many, at_rest, has_all, one_round}
use Rattle.fire_run.proofs.frame.Frame.scrap.Goals as goal

pub one_seat-seat-requires : goal.one_seat-seat-requires
one_seat-seat-requires c = at_rest c.args.self c.args.bundles.items c.requires

pub close-requires-clause-all : goal.close-requires-clause-all
close-requires-clause-all c = subst HasAll (sym c.one_seat-seat.ensures) (has_all c.args.self c.args.bundles.items c.requires)

pub close-requires-clause-rests : goal.close-requires-clause-rests
close-requires-clause-rests c = ap (λ (v : View). v.held) c.one_seat-seat.ensures ∙ (one_round c.args.self c.args.bundles.items c.requires).rests

pub close-requires-clause-as_many : goal.close-requires-clause-as_many
close-requires-clause-as_many c =
    as_many c.args.self c.args.bundles.items c.requires (length c.self.inside.cells)
    (c.self.invariant.2 ∙ ap (λ (f : Framed). length f.net.cells) c.self.view_is)
    ∙ sym (ap (λ (v : View). length v.starts) c.one_seat-seat.ensures)
