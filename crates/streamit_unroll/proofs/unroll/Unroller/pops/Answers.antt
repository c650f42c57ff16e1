use Rattle.std.proofs.Common.{◌∙◌, [], sym, ap, append-nil, length, arith}
use Rattle.std.proofs.lemmas.List.{take_all}
use Rattle.work_code.specs.Steps.{Done, statements}
use Rattle.streamit_unroll.specs.Unrolling.{at_of}
use Rattle.streamit_unroll.proofs.SoFar.{good, pops_read}
use Rattle.streamit_unroll.proofs.unroll.Unroller.pops.Goals as goal

pub returns-in-Some : goal.returns-in-Some
returns-in-Some c = (
  [],
  sym (append-nil (statements c.args.out.now)),
  pops_read c.args.peek c.args.count (at_of c.args.self.now)
      ∙ ap (λ n. good (Done, record (at_of c.args.self.now) { popped = n })) (sym c.in-Some.ensures.1),
  take_all (length c.args.self.now.names.items.items) c.args.self.now.names.items.items (omega arith),
)
