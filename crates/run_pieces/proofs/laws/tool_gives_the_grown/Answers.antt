use Rattle.run_pieces.proofs.Tool.{tool_gives_the_grown}
use Rattle.run_pieces.proofs.laws.tool_gives_the_grown.Goals as goal

pub returns : goal.returns
returns c = tool_gives_the_grown
