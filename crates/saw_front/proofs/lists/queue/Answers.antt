use Rattle.saw_front.proofs.Planned.{queue_is_name}
use Rattle.saw_front.proofs.lists.queue.Goals as goal

-- such a name is a name
pub of-requires : goal.of-requires
of-requires c = rw (c.as_slice.ensures, c.in_ok-text.ensures.text) (queue_is_name c.args.name.now c.in_ok-text.ensures.named c.requires)
