use Rattle.cql_build.proofs.Growing.{output_used}
use Rattle.cql_build.proofs.output.output.Goals as goal

pub returns-in_ok-copy_output : goal.returns-in_ok-copy_output
returns-in_ok-copy_output c =
    output_used c.args.raw.now c.stream_to.new.raw c.copy_output.new.raw c.push.new.self c.args.query c.args.last c.in_ok-to.to c.args.kind c.args.width
    c.args.uses
    c.stream-carried.result c.if-uses-gt0.true c.in_ok-to.ensures c.stream-carried.ensures c.in_ok-stream_to.ensures c.in_ok-push.ensures.ok
    c.in_ok-copy_output.ensures
