use Rattle.kern_bags.proofs.Streaming.{came_steps, went_steps}
use Rattle.kern_bags.proofs.streamer.StreamerState.take.Goals as goal

pub returns-in-Istream : goal.returns-in-Istream
returns-in-Istream c =
    came_steps c.args.streamer.now c.args.change c.args.self.now c.istream.result c.in-Istream.is c.istream.ensures.contents c.istream.ensures.fits

pub returns-in-Dstream : goal.returns-in-Dstream
returns-in-Dstream c =
    went_steps c.args.streamer.now c.args.change c.args.self.now c.dstream.result c.in-Dstream.is c.dstream.ensures.contents c.dstream.ensures.fits
