use Rattle.std.proofs.Common.{◌≡◌, ◌+◌, ◌-◌, ◌<◌, ◌≤◌, suc, false, true, List, length, map, drop, [], Some, Ok, refl, sym, ap, get_or, ◌∙◌, subst, arith, rules, to_z, of_z, w64}
use Rattle.streamit_text.specs.Tree.{expression, is_turn}
use Rattle.streamit_text.specs.Program as plain
use Rattle.streamit_model.specs.Meaning.{numbers_from}
use Rattle.params_text.specs.Program.{steps_in_turn, step_of, steps_of, expressions, unit_form, body_of, dealing_of, rounds_of, Step}
use Rattle.params_text.proofs.StepTrees.{steps-are, step-loop}
use Rattle.params_model.specs.Constants.{HaveFitConstants}
use Rattle.params_model.specs.Environment.{dealing, option_counts, value}
use Rattle.params_model.specs.declared.fault.Fault.TheVariants.{Range}
use Rattle.params_model.specs.Making.{begin, demand, are_ranged_option, made_once, steps_made, turns_made}
use Rattle.params_build.specs.Judging.{IsWhyRefused}
use Rattle.std.specs.Prelude.{IsTrue}
use Rattle.streamit_model.proofs.Numbers.{numbers_more}
use Rattle.river_base.proofs.Lists.{map_next, map_none}
use Rattle.river_base.specs.declared.memory.NoMemory.{NoMemory}
use Rattle.params_print.specs.Heads.{names_written}
use Rattle.params_front.specs.Standing.{MakesOne, MakesMore, WritesInstance, adding, bodied, turn_steps, turn_made, source_at}
use Rattle.params_front.proofs.Bodies.{add-made, loop-is, all-made, make-begun}
use Rattle.params_front.proofs.Growing.{so-start, so-next, so-fault, so-end, turns-next, numbers-end}
use Rattle.params_front.proofs.Parts.{pipeline-made, split-made}
use Rattle.params_front.proofs.Sources.{room-at, values-above, values-at}
use Rattle.params_front.proofs.Valued.{valued-at}
use Rattle.params_front.specs.Turning.{Spans}
use Rattle.params_front.specs.Valued.{AreValued}
use Rattle.params_front.proofs.making.Making.+make.Goals as goal

-- STEPS

pub steps-items-init : goal.steps-items-init
steps-items-init t c = record {
  far = λ m h. so-start
      (steps_made (adding c.args.seen.units.now c.args.seen.sizes.now c.args.seen.depth) (suc (length c.args.seen.units.now)) c.args.scope.now.known
      (steps_in_turn (map step_of c.as_slice-each-items.result.now))) c.args.scope.now c.args.self.now m h;
  fit = subst (λ l. HaveFitConstants (steps_in_turn (map step_of l))) (sym c.as_slice-each-items.ensures.value)
      (subst HaveFitConstants (steps-are c.args.steps.now) c.requires.steps);
  place = refl;
  same = refl;
  valued = subst (λ l. AreValued c.args.scope.now.known (steps_in_turn (map step_of l)) c.args.bounds.now) (sym c.as_slice-each-items.ensures.value)
      (subst (λ ss. AreValued c.args.scope.now.known ss c.args.bounds.now) (steps-are c.args.steps.now) c.requires.bounds);
}

pub steps-items-preserved : goal.steps-items-preserved
steps-items-preserved t c =
    let items = c.as_slice-each-items.result.now in
    let i = c.items.each-index in
    let add = adding c.args.seen.units.now c.args.seen.sizes.now c.args.seen.depth in
    let k = suc (length c.args.seen.units.now) in
    let env = c.args.scope.now.known in
    let step = c.each-item.result in
    let at = map_next step_of items i step (omega arith) c.each-item.is in
    let rest = λ (l : List Step). steps_made add k env (steps_in_turn l) in
    record {
      far = λ m h.
          let f = c.items.invariant.far m h in
          so-next (rest (map step_of items) m) (λ e. made_once add k e (step_of step)) (rest (map step_of (drop i items)))
          (rest (map step_of (drop (i + 1) items)))
          c.args.scope.now c.items.scope c.step.new.scope c.items.self c.step.new.self (λ q. ap (λ l. rest l q) at) f (c.in-Ok.ensures.made f.made f.stands);
      fit = (subst (λ l. HaveFitConstants (steps_in_turn l)) at c.items.invariant.fit).1;
      place = ap (λ n. n + 1) c.items.invariant.place;
      same = c.in-Ok.ensures.same ∙ c.items.invariant.same;
      valued = (valued-at env (step_of step) (steps_in_turn (map step_of (drop (i + 1) items))) c.args.bounds.now c.items.place
          (subst (λ l. AreValued env (steps_in_turn l) (drop c.items.place c.args.bounds.now)) at c.items.invariant.valued)).2;
    }

pub steps-returns-clause-made : goal.steps-returns-clause-made
steps-returns-clause-made t c = λ m h.
    let items = c.as_slice-each-items.result.now in
    let i = c.items.each-index in
    let add = adding c.args.seen.units.now c.args.seen.sizes.now c.args.seen.depth in
    let k = suc (length c.args.seen.units.now) in
    let env = c.args.scope.now.known in
    let rest = λ (l : List Step). steps_made add k env (steps_in_turn l) in
    let same = ap (λ l. steps_in_turn (map step_of l)) c.as_slice-each-items.ensures.value ∙ sym (steps-are c.args.steps.now) in
    subst (λ ss. MakesMore (Ok tt) c.args.scope.now c.items.scope c.items.self (steps_made add k env ss m)) same
    (so-end (rest (map step_of items) m) (rest (map step_of (drop i items))) c.args.scope.now c.items.scope c.items.self
    (λ q. ap (λ l. rest l q) (map_none step_of items i (omega arith))) (c.items.invariant.far m h))

pub steps-returns-in-Err-clause-made : goal.steps-returns-in-Err-clause-made
steps-returns-in-Err-clause-made t c = λ m h.
    let items = c.as_slice-each-items.result.now in
    let i = c.items.each-index in
    let add = adding c.args.seen.units.now c.args.seen.sizes.now c.args.seen.depth in
    let k = suc (length c.args.seen.units.now) in
    let env = c.args.scope.now.known in
    let step = c.each-item.result in
    let at = map_next step_of items i step (omega arith) c.each-item.is in
    let rest = λ (l : List Step). steps_made add k env (steps_in_turn l) in
    let same = ap (λ l. steps_in_turn (map step_of l)) c.as_slice-each-items.ensures.value ∙ sym (steps-are c.args.steps.now) in
    let e = c.in-Err.why in
    let f = c.items.invariant.far m h in
    subst (λ ss. IsWhyRefused (steps_made add k env ss m) e) same
    (so-fault (rest (map step_of items) m) (λ g. made_once add k g (step_of step)) (rest (map step_of (drop i items))) (rest (map step_of (drop (i + 1) items)))
    c.args.scope.now c.items.scope c.items.self e (λ q. ap (λ l. rest l q) at) f (c.in-Err.ensures.made f.made f.stands))

-- TURNS

pub turns-range-init : goal.turns-range-init
turns-range-init t c = record {
  same = refl;
  far = λ m h.
      let add = adding c.args.seen.units.now c.args.seen.sizes.now c.args.seen.depth in
      let k = suc (length c.args.seen.units.now) in
      let f = turn_steps add k c.args.scope.now.known c.args.turns.name (steps_of c.args.steps.now) in
      so-start (turns_made k f (numbers_from c.args.turns.span.low (c.args.turns.span.end - c.args.turns.span.low))) c.args.scope.now c.args.self.now m h;
}

pub turns-range-preserved : goal.turns-range-preserved
turns-range-preserved t c = record {
  same = c.in-Ok.ensures.same ∙ c.range.invariant.same;
  far = λ m h.
      let add = adding c.args.seen.units.now c.args.seen.sizes.now c.args.seen.depth in
      let k = suc (length c.args.seen.units.now) in
      let ss = steps_of c.args.steps.now in
      let name = c.args.turns.name in
      let v = c.range.each in
      let low = c.args.turns.span.low in
      let end = c.args.turns.span.end in
      let f = turn_steps add k c.args.scope.now.known name ss in
      let far = c.range.invariant.far m h in
      let lt : v < end = search rules in
      so-next (turns_made k f (numbers_from low (end - low)) m) (λ e. turn_made k (turn_steps add k e name ss) v) (turns_made k f (numbers_from v (end - v)))
      (turns_made k f (numbers_from (v + 1) (end - (v + 1))))
      c.args.scope.now c.range.scope c.turn.new.scope c.range.self c.turn.new.self
      (λ q. ap (λ l. turns_made k f l q) (numbers_more v end lt) ∙ turns-next k f v (numbers_from (v + 1) (end - (v + 1))) q) far
      (c.in-Ok.ensures.made far.made far.stands);
}

pub turns-returns-clause-made : goal.turns-returns-clause-made
turns-returns-clause-made t c = λ m h.
    let add = adding c.args.seen.units.now c.args.seen.sizes.now c.args.seen.depth in
    let k = suc (length c.args.seen.units.now) in
    let v = c.range.each in
    let low = c.args.turns.span.low in
    let end = c.args.turns.span.end in
    let f = turn_steps add k c.args.scope.now.known c.args.turns.name (steps_of c.args.steps.now) in
    let le : end ≤ v = search rules in
    so-end (turns_made k f (numbers_from low (end - low)) m) (turns_made k f (numbers_from v (end - v))) c.args.scope.now c.range.scope c.range.self
    (λ q. ap (λ l. turns_made k f l q) (numbers-end v end le)) (c.range.invariant.far m h)

pub turns-returns-in-Err-clause-made : goal.turns-returns-in-Err-clause-made
turns-returns-in-Err-clause-made t c = λ m h.
    let add = adding c.args.seen.units.now c.args.seen.sizes.now c.args.seen.depth in
    let k = suc (length c.args.seen.units.now) in
    let ss = steps_of c.args.steps.now in
    let name = c.args.turns.name in
    let v = c.range.each in
    let low = c.args.turns.span.low in
    let end = c.args.turns.span.end in
    let f = turn_steps add k c.args.scope.now.known name ss in
    let far = c.range.invariant.far m h in
    let lt : v < end = search rules in
    let e = c.in-Err.why in
    so-fault (turns_made k f (numbers_from low (end - low)) m) (λ g. turn_made k (turn_steps add k g name ss) v) (turns_made k f (numbers_from v (end - v)))
    (turns_made k f (numbers_from (v + 1) (end - (v + 1))))
    c.args.scope.now c.range.scope c.range.self e
    (λ q. ap (λ l. turns_made k f l q) (numbers_more v end lt) ∙ turns-next k f v (numbers_from (v + 1) (end - (v + 1))) q) far
    (c.in-Err.ensures.made far.made far.stands)

-- THE PARTS OF ONE INSTANCE

pub add-returns-clause-made : goal.add-returns-clause-made
add-returns-clause-made t c = λ m h.
    let r = c.in_ok-child.ensures m h in
    let scope = c.args.scope.now in
    add-made (adding c.args.seen.units.now c.args.seen.sizes.now c.args.seen.depth) (suc (length c.args.seen.units.now)) scope.known c.args.stream
    (expressions c.args.args.now) c.as_slice.result.now m r.0 c.in_ok-child.child
    scope (record scope { children = c.push.new.self }) c.instance.new.self (c.as_slice.ensures ∙ c.in_ok-values.ensures) r.1 r.2 c.in_ok-push.ensures.ok refl

pub step-returns-in-Some-clause-made : goal.step-returns-in-Some-clause-made
step-returns-in-Some-clause-made t c = λ m h.
    let add = adding c.args.seen.units.now c.args.seen.sizes.now c.args.seen.depth in
    let k = suc (length c.args.seen.units.now) in
    let env = c.args.scope.now.known in
    let low = expression c.in-Loop.low in
    let high = expression c.in-Loop.high in
    let same_low : to_z w64 (of_z w64 c.value_or-low.result) ≡ value env low = search rules in
    let same_high : to_z w64 (of_z w64 c.value_or-high.result) ≡ value env high = search rules in
    let spans : Spans (Some c.in-Some.span) (value env low) (is_turn c.in-Loop.until) (value env high) =
    subst (λ z. Spans (Some c.in-Some.span) z (is_turn c.in-Loop.until) (value env high)) same_low
    (subst (λ z. Spans (Some c.in-Some.span) (to_z w64 (of_z w64 c.value_or-low.result)) (is_turn c.in-Loop.until) z) same_high c.in-Some.ensures) in
    let is =
    ap (λ s. made_once add k env s m) (ap step_of c.in-Loop.is ∙ step-loop c.in-Loop.name c.in-Loop.low c.in-Loop.until c.in-Loop.high c.in-Loop.steps)
    ∙ loop-is add k env c.in-Loop.name (expression c.in-Loop.low) (is_turn c.in-Loop.until) (expression c.in-Loop.high)
    (steps_of c.in-Loop.steps) m c.in-Some.span spans in
    subst (MakesMore c.enter.result c.args.scope.now c.enter.new.scope c.enter.new.self) (sym is) (c.enter.ensures.made m h)

pub some_children-returns : goal.some_children-returns
some_children-returns t c = λ m h.
    let none : c.steps.new.scope.children ≡ [] → ⊥ = λ e. let f : false ≡ true = subst IsTrue c.if-is_empty.false (c.is_empty.ensures.1 e) in cc f in
    all-made (adding c.args.seen.units.now c.args.seen.sizes.now c.args.seen.depth) (suc (length c.args.seen.units.now)) c.args.scope.now.known
    (steps_of c.args.steps.now) m c.args.scope.now c.steps.new.scope c.steps.new.self
    c.requires.none (c.in_ok-steps.ensures.made m h) none

pub pipeline-returns : goal.pipeline-returns
pipeline-returns t c = λ m h.
    let r = c.in_ok-children.ensures {u = tt} m h in
    pipeline-made (adding c.args.seen.units.now c.args.seen.sizes.now c.args.seen.depth)
    (suc (length c.args.seen.units.now)) c.args.name c.args.scope.now.known
    (steps_of c.args.steps.now) m r.1 r.0 c.in_ok-instance.instance c.write_pipeline.new.self
    r.2 (c.in_ok-instance.ensures r.1 r.0 r.3 (ap names_written c.as_slice.ensures ∙ r.4))

pub split_join-returns : goal.split_join-returns
split_join-returns t c = λ m h.
    let add = adding c.args.seen.units.now c.args.seen.sizes.now c.args.seen.depth in
    let k = suc (length c.args.seen.units.now) in
    let env = c.args.scope.now.known in
    let all = c.args.all.now in
    let d = dealing_of all.split in
    let ws = rounds_of all.join in
    let i = c.in_ok-instance.instance in
    let new = c.write_split_join.new.self in
    let r = c.in_ok-children.ensures {u = tt} m h in
    let one = subst (λ b. demand b k Range ≡ Ok tt) c.is_ranged_split.ensures c.in_ok-demand.ensures in
    let two = subst (λ b. demand b k Range ≡ Ok tt) (c.is_ranged_round.ensures ∙ ap (λ e. are_ranged_option e ws) r.5) c.in_ok-demand-2.ensures in
    let wrote = c.in_ok-instance.ensures r.1 r.0 r.3 r.4 in
    split-made add k c.args.name env d (steps_of all.steps) ws m r.0 r.1 i new one r.2 two
    (subst (λ e. WritesInstance {E = NoMemory} (Ok i) new k c.args.name (plain.ASplitJoin (dealing e d) r.0 (option_counts e ws)) r.1) r.5 wrote)

pub body-returns-in-Filter : goal.body-returns-in-Filter
body-returns-in-Filter t c = λ m h.
    let add = adding c.args.seen.units.now c.args.seen.sizes.now c.args.seen.depth in
    subst (λ b. MakesOne c.filter.result c.filter.new.self (bodied add (suc (length c.args.seen.units.now)) c.args.name c.args.scope.now.known (body_of b) m))
    (sym c.in-Filter.is) (c.filter.ensures m add h)

pub make-returns : goal.make-returns
make-returns t c = λ m h.
    let us = c.args.seen.units.now in
    let sizes = c.args.seen.sizes.now in
    let depth = c.args.seen.depth in
    let d = unit_form c.args.unit.now in
    let env = c.args.known in
    let b = c.in_ok-begin.ensures.begun m d h in
    let size : c.size_at-size.result ≡ get_or sizes (length us) 0 = search rules in
    let deep : depth + 1 ≡ suc depth = omega arith in
    make-begun (adding us sizes (suc depth)) (source_at (length us) sizes d) depth env m c.body.result c.body.new.self b.0
    (ap (λ n. begin (record { unit = suc (length us); bytes = n; stream = d }) depth m) (sym size) ∙ b.1)
    (subst (λ n. MakesOne c.body.result c.body.new.self (bodied (adding us sizes n) (suc (length us)) d.name env d.body b.0)) deep (c.body.ensures b.0 b.2))

pub instance-make-requires : goal.instance-make-requires
instance-make-requires t c =
    let us = c.args.seen.units.now in
    let i = c.in-Some.i in
    let unit = c.index-units-i.result in
    let lt = c.in-Some.ensures.0 in
    let d = c.decreases in
    let r = room-at us i unit lt c.index-units-i.is in
    (omega (arith, d, r), (values-above us i c.requires, values-at us i unit lt c.index-units-i.is c.requires))
