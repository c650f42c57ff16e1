use Rattle.std.proofs.Common.{◌≡◌, ◌+◌, ◌++◌, ◌∷◌, [], pos, take, drop, map, refl, sym, ap, ◌∙◌, subst, arith}
use Rattle.std.specs.Option.{option_copied}
use Rattle.std.specs.Prelude.{slice_get}
use Rattle.std.proofs.lemmas.List.{map-append, take_more, take_all}
use Rattle.river_base.proofs.Lists.{map_next}
use Rattle.streamit_text.specs.Tree.{expression, is_turn}
use Rattle.params_text.specs.Program.{Loop, Step, Steps, steps_in_turn, step_of, steps_of}
use Rattle.params_text.proofs.StepTrees.{steps-are, step-loop}
use Rattle.params_model.specs.Constants.{HaveFitConstants}
use Rattle.params_model.specs.Environment.{Environment, value}
use Rattle.params_front.specs.Valued.{IsOver, IsFixed, IsNoted, IsValued, AreNoted, AreValued}
use Rattle.params_front.proofs.Valued.{loop-low, loop-high, loop-inner, noted-at, valued-more}
use Rattle.params_front.proofs.bounds.+fixed.Goals as goal

pub of_step-returns-in_ok-inner-in-Loop-clause-valued : goal.of_step-returns-in_ok-inner-in-Loop-clause-valued
of_step-returns-in_ok-inner-in-Loop-clause-valued t c = λ p env o.
    let n = c.in-Loop.name in
    let low = expression c.in-Loop.low in
    let high = expression c.in-Loop.high in
    let upto = is_turn c.in-Loop.until in
    let ss = steps_of c.in-Loop.steps in
    let noted = option_copied c.args.noted in
    let is = ap step_of c.in-Loop.is ∙ step-loop n c.in-Loop.low c.in-Loop.until c.in-Loop.high c.in-Loop.steps in
    let q : (e : Environment) → IsOver c.args.vars.now c.args.known.now e → IsNoted e (Loop n low upto high ss) noted =
    λ e r. subst (λ (s : Step). IsNoted e s noted) is (p e r) in
    subst (λ (s : Step). IsValued env s c.of_loop.result) (sym is) (
      subst (λ z. IsFixed z (value env low)) (sym c.of_loop.ensures.low)
          (c.fixed-low.ensures (λ e r. subst (λ z. IsFixed z (value e low)) (sym c.low_of.ensures) (loop-low e n low high upto ss noted (q e r))) env o),
      subst (λ z. IsFixed z (value env high)) (sym c.of_loop.ensures.high)
          (c.fixed-high.ensures (λ e r. subst (λ z. IsFixed z (value e high)) (sym c.high_of.ensures) (loop-high e n low high upto ss noted (q e r))) env o),
      λ v. subst (AreValued ((n, pos v) ∷ env) ss) (sym c.of_loop.ensures.inner)
          (c.in_ok-inner-in-Loop.ensures.valued
          (λ w e r. subst (AreNoted ((n, pos w) ∷ e) ss) (sym c.inner_of.ensures) (loop-inner e n low high upto ss noted (q e r) w)) v env o),
    )

pub within-returns-clause-valued : goal.within-returns-clause-valued
within-returns-clause-valued t c = λ p v env o.
    let n = c.args.name in
    let known = c.args.known.now in
    let ss = steps_of c.args.steps.now in
    let is = c.in_ok-push.ensures.ok in
    c.in_ok-all.ensures.valued
    (λ e r. let q = subst (λ vs. IsOver vs known e) is r in subst (λ x. AreNoted x ss c.args.noted.now) (sym q.2) (p q.0 q.1 q.3))
    ((n, pos v) ∷ env) (subst (λ vs. IsOver vs known ((n, pos v) ∷ env)) (sym is) (v, env, refl, o))

pub of_steps-items-preserved : goal.of_steps-items-preserved
of_steps-items-preserved t c =
    let items = c.as_slice-each-items.result.now in
    let i = c.items.each-index in
    let step = c.each-item.result in
    let known = c.args.known.now in
    let noted = c.args.noted.now in
    let rest = map step_of (drop (i + 1) items) in
    let at = map_next step_of items i step (omega arith) c.each-item.is in
    let more = ap (map step_of) (take_more items i step (omega arith) ∙ ap (λ x. take i items ++ x ∷ []) (sym c.each-item.is))
    ∙ map-append step_of (take i items) (step ∷ []) in
    let got : option_copied c.note_at.result ≡ slice_get noted i = c.note_at.ensures ∙ ap (slice_get noted) c.items.invariant.place in
    record {
      same = c.in_ok-one.ensures.same ∙ c.items.invariant.same;
      place = ap (λ n. n + 1) c.items.invariant.place;
      fit = (subst (λ l. HaveFitConstants (steps_in_turn l)) at c.items.invariant.fit).1;
      valued = λ p env o.
          subst (λ l. AreValued env (steps_in_turn l) c.push.new.self.items) (sym more)
          (subst (AreValued env (steps_in_turn (map step_of (take i items) ++ step_of step ∷ []))) (sym c.in_ok-push.ensures.items)
          (valued-more env (map step_of (take i items)) c.items.all.items (step_of step) c.in_ok-one.one (c.items.invariant.valued p env o)
          (c.in_ok-one.ensures.valued
          (λ e r. subst (IsNoted e (step_of step)) (sym got)
          (noted-at e items noted i (step_of step) rest (p e (subst (λ v. IsOver v known e) c.items.invariant.same r)) at))
          env (subst (λ v. IsOver v known env) (sym c.items.invariant.same) o))));
    }

pub of_steps-returns-clause-valued : goal.of_steps-returns-clause-valued
of_steps-returns-clause-valued t c = λ p env o.
    let items = c.as_slice-each-items.result.now in
    let all = take_all c.items.each-index items (omega arith) in
    let is = ap (λ l. steps_in_turn (map step_of l)) c.as_slice-each-items.ensures.value ∙ sym (steps-are c.args.steps.now) in
    subst (λ (ss : Steps). AreValued env ss c.items.all.items) (ap (λ l. steps_in_turn (map step_of l)) all ∙ is)
    (c.items.invariant.valued (λ e r. subst (λ (ss : Steps). AreNoted e ss c.args.noted.now) (sym is) (p e r)) env o)
