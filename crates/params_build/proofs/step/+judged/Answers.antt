use Rattle.std.proofs.Common.{◌≡◌, sym, ◌∙◌, arith, subst}
use Rattle.params_text.specs.Program.{step_of}
use Rattle.params_text.proofs.StepTrees.{steps-are}
use Rattle.params_model.specs.Judged.{Judgement, no_fault, step_judged}
use Rattle.params_build.specs.Judging.{IsWhyRefused, refused_in}
use Rattle.params_build.proofs.Judging.{refused-first, passed-over, steps-place, steps-end}
use Rattle.params_build.proofs.step.+judged.Goals as goal

pub steps-items-preserved : goal.steps-items-preserved
steps-items-preserved t c =
    let items = c.as_slice-each-items.result.now in
    let i = c.items.each-index in
    let ks = c.args.known.now in
    record {
      kept = c.in-Ok.ensures.kept ∙ c.items.invariant.kept;
      judged = λ k us h.
          let passed : step_judged k us ks (step_of c.each-item.result) ≡ no_fault =
          subst (λ ns. step_judged k us ns (step_of c.each-item.result) ≡ no_fault) c.items.invariant.kept (c.in-Ok.ensures.judged k us h) in
          sym (passed-over (step_judged k us ks (step_of c.each-item.result)) _ passed)
          ∙ sym (steps-place k us ks items i c.each-item.result (omega arith) c.each-item.is) ∙ c.items.invariant.judged k us h;
    }

pub steps-returns-clause-judged : goal.steps-returns-clause-judged
steps-returns-clause-judged t c =
    let items = c.as_slice-each-items.result.now in
    λ k us h. rw (steps-are c.args.all.now, ← c.as_slice-each-items.ensures.value)
    (sym (c.items.invariant.judged k us h) ∙ steps-end k us c.args.known.now items c.items.each-index (omega arith))

pub steps-returns-in-Err-clause-judged : goal.steps-returns-in-Err-clause-judged
steps-returns-in-Err-clause-judged t c =
    let items = c.as_slice-each-items.result.now in
    let i = c.items.each-index in
    let ks = c.args.known.now in
    let e = c.in-Err.why in
    λ k us h. rw (steps-are c.args.all.now, ← c.as_slice-each-items.ensures.value)
    (subst (λ (j : Judgement). IsWhyRefused j (refused_in k e))
    (sym (steps-place k us ks items i c.each-item.result (omega arith) c.each-item.is) ∙ c.items.invariant.judged k us h)
    (refused-first k e (step_judged k us ks (step_of c.each-item.result)) _
    (subst (λ ns. IsWhyRefused (step_judged k us ns (step_of c.each-item.result)) (refused_in k e)) c.items.invariant.kept (c.in-Err.ensures.judged k us h))))
