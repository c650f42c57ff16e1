use Rattle.std.proofs.Common.{ap, ◌∙◌, rules, take}
use Rattle.work_code.specs.Steps.{code_body}
use Rattle.kern_rows.specs.Forms.{run_form}
use Rattle.streamit_text.specs.Program.{work_tree}
use Rattle.streamit_model.specs.ElaborateFilter.{read_work}
use Rattle.streamit_unroll.specs.Unrolling.{at_of}
use Rattle.streamit_unroll.specs.View.{scope_of}
use Rattle.streamit_unroll.proofs.WholeFilters.{judges_err, rates_fault, body_fault, run_read}
use Rattle.streamit_unroll.proofs.unroll.Unroller.run.Goals as goal

pub returns-in_err-judged-clause-read : goal.returns-in_err-judged-clause-read
returns-in_err-judged-clause-read c =
    let f = c.in_err-judged.field-0.0 in
    let w = work_tree c.args.tree.now in
    let s = at_of c.args.self.now in
    let rates = c.of-rates.result in
    judges_err run_form c.from_residual.result f (read_work c.args.least w s) (search rules)
    (rates_fault c.args.least w s rates.peek rates.push rates.pop c.of-rates.ensures.peek c.of-rates.ensures.push c.of-rates.ensures.pop f
    c.in_err-judged.ensures)

pub returns-in_err-code-clause-read : goal.returns-in_err-code-clause-read
returns-in_err-code-clause-read c =
    let f = c.in_err-code.field-0.0 in
    let w = work_tree c.args.tree.now in
    let s = at_of c.args.self.now in
    let rates = c.of-rates.result in
    judges_err run_form c.from_residual-in_err-code.result f (read_work c.args.least w s) (search rules)
    (body_fault c.args.least w s rates.peek rates.push rates.pop c.of-rates.ensures.peek c.of-rates.ensures.push c.of-rates.ensures.pop
    c.in_ok-judged.ensures f c.in_err-code.ensures.read)

pub returns-clause-read : goal.returns-clause-read
returns-clause-read c =
    let rates = c.of-rates.result in
    run_read c.args.least (work_tree c.args.tree.now)
    (at_of c.args.self.now) rates.peek rates.push rates.pop c.of-rates.ensures.peek c.of-rates.ensures.push c.of-rates.ensures.pop c.in_ok-judged.ensures
    (code_body c.in_ok-code.code) c.in_ok-code.ensures.read

pub returns-clause-back : goal.returns-clause-back
returns-clause-back c =
    let place = c.place-before.ensures in
    let back = c.back.ensures in
    let names = back.names ∙ ap (λ k. take k c.work.new.self.names.items.items) place.known ∙ c.in_ok-code.ensures.names in
    λ i. record {
      scope = scope_of (names i);
      slots = (back.slots ∙ place.slots) i;
      popped = (back.popped ∙ place.popped) i;
      pushed = (back.pushed ∙ place.pushed) i;
      size = (back.size ∙ place.size) i;
    }
