use Rattle.std.proofs.Common.{◌∙◌}
use Rattle.kern_rows.proofs.Fronts.{stuck_is, passes_is}
use Rattle.kern_rows.proofs.joined.Joined.pass.Goals as goal

pub returns-in_default : goal.returns-in_default
returns-in_default c =
    let j = c.self.inside in
    stuck_is c.args.self.now j.port j.had j.lines.items c.index_mut-line.result.now c.pop.new.self c.self.view_is c.requires.port
    c.index_mut-line.ensures.value c.in_default.ensures.0 c.in_default.ensures.1

pub returns : goal.returns
returns c =
    let j = c.self.inside in
    passes_is c.args.self.now c.args.share j.port j.had c.len.result c.next_turn-port.result.0 c.next_turn-port.result.1 j.lines.items
    c.index_mut-line.result.now c.pop.new.self c.in-Some.item c.self.view_is c.requires.port c.index_mut-line.ensures.value c.in-Some.ensures
    (c.len.ensures ∙ j.lines.ok.0) c.next_turn-port.ensures.port c.next_turn-port.ensures.had
