use Rattle.streamit_build.proofs.Numbered.{numbered_is_name}
use Rattle.streamit_build.proofs.names.numbered.Goals as goal

pub of-requires : goal.of-requires
of-requires c =
    rw (c.as_slice.ensures, c.in_ok-text.ensures) (numbered_is_name c.args.name.now c.args.number c.requires.named c.requires.short c.ranges.number.fits)
