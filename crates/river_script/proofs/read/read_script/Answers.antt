use Rattle.river_script.proofs.Fronts.{answer-read, few-read}
use Rattle.river_script.proofs.read.read_script.Goals as goal

pub returns-clause-read : goal.returns-clause-read
returns-clause-read c = answer-read c.args.text.now c.in_ok-tokens.tokens c.read_tokens.result c.in_ok-tokens.ensures c.read_tokens.ensures

pub returns-clause-few : goal.returns-clause-few
returns-clause-few c = few-read c.args.text.now c.in_ok-tokens.tokens c.read_tokens.result c.requires c.in_ok-tokens.ensures c.read_tokens.ensures
