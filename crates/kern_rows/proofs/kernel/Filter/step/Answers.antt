use Rattle.std.proofs.Common.{w64, ◌∷◌, [], ◌++◌, length, refl, ap, ◌∙◌, subst, arith, to_z, of_z, ℤ}
use Rattle.std.proofs.lemmas.Int.{to_z-of_z}
use Rattle.work_code.proofs.Running.{on_err}
use Rattle.kern_rows.specs.Forms.{filter_form}
use Rattle.kern_rows.specs.Stands.{Filters, GaveUp, needs_now}
use Rattle.kern_rows.proofs.Filtered.{between_start, between_next, between_gives, between_gave_up}
use Rattle.kern_rows.proofs.kernel.Filter.step.Goals as goal

pub runs-init : goal.runs-init
runs-init c = (between_start (filter_form c.args.self.now) c.requires.formed (to_z w64 (of_z w64 c.args.value)) _ c.args.out.now, refl)

pub runs-preserved : goal.runs-preserved
runs-preserved c =
    let f = filter_form c.args.self.now in (
      between_next f c.requires.formed
          (to_z w64 (of_z w64 c.args.value)) _ c.runs.state c.run.new.state c.args.out.now c.runs.out c.run.new.out c.runs.invariant.0
          (omega (
            arith,
            c.needs.ensures,
            c.len.ensures,
            c.runs-test.true,
            ap (λ w. length w.buffer) c.state-in-runs.view_is,
            ap (λ w. needs_now f w.fresh) c.state-in-runs.view_is,
          ))
          c.in_ok-run.ensures.ran,
      c.in_ok-run.ensures.shape ∙ c.runs.invariant.1,
    )

pub returns-in_err-run-clause-err : goal.returns-in_err-run-clause-err
returns-in_err-run-clause-err c =
    let f = filter_form c.args.self.now in
    let v : ℤ = to_z w64 (of_z w64 c.args.value) in
    on_err c.from_residual-in_err-run.result (subst (λ v. GaveUp f v c.args.state.now c.args.out.now c.run.new.out) (to_z-of_z w64 c.args.value c.ranges.value)
    (between_gave_up f c.requires.formed v c.args.state.now _ c.runs.state c.args.out.now c.runs.out c.run.new.out c.runs.invariant.0
    (omega (
      arith,
      c.needs.ensures,
      c.len.ensures,
      c.runs-test.true,
      ap (λ w. length w.buffer) c.state-in-runs.view_is,
      ap (λ w. needs_now f w.fresh) c.state-in-runs.view_is,
    ))
    c.in_err-run.ensures.err
    (ap (λ w. w.fresh) c.state.view_is)
    (c.in_ok-push.ensures.ok ∙ ap (λ w. w.buffer ++ v ∷ []) c.state.view_is)
    (ap (λ w. w.kept) c.state.view_is)))

pub returns-clause-given : goal.returns-clause-given
returns-clause-given c =
    let f = filter_form c.args.self.now in
    let v : ℤ = to_z w64 (of_z w64 c.args.value) in
    subst (λ v. Filters f v c.args.state.now c.runs.state c.args.out.now c.runs.out) (to_z-of_z w64 c.args.value c.ranges.value)
    (between_gives f c.requires.formed v c.args.state.now _ c.runs.state c.args.out.now c.runs.out c.runs.invariant.0
    (omega (
      arith,
      c.needs.ensures,
      c.len.ensures,
      c.runs-test.false,
      ap (λ w. length w.buffer) c.state-in-runs.view_is,
      ap (λ w. needs_now f w.fresh) c.state-in-runs.view_is,
    ))
    (ap (λ w. w.fresh) c.state.view_is)
    (c.in_ok-push.ensures.ok ∙ ap (λ w. w.buffer ++ v ∷ []) c.state.view_is)
    (ap (λ w. w.kept) c.state.view_is))
