use Rattle.saw_front.proofs.Planned.{tally_is_name}
use Rattle.saw_front.proofs.lists.label.Goals as goal

-- such a name is a name
pub of-requires : goal.of-requires
of-requires c = rw (c.as_slice.ensures, c.in_ok-text.ensures.text) (tally_is_name c.args.name.now c.in_ok-text.ensures.named c.requires)
