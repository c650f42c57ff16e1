use Rattle.std.proofs.Common.{◌≡◌, true, [], length, sym, ap, ◌∙◌, arith, subst, ⊎_elim}
use Rattle.std.proofs.lemmas.Bool.{cases_lt}
use Rattle.std.proofs.lemmas.List.{nil_from_length}
use Rattle.river_base.proofs.PlaceLemmas.{list_past}
use Rattle.river_base.specs.Places.{list_at}
use Rattle.fire_tasks.proofs.task.first_pending.Goals as goal

pub loop-port-init : goal.loop-port-init
loop-port-init c = λ j lt. absurd (omega (arith, lt))

pub loop-port-preserved : goal.loop-port-preserved
loop-port-preserved c = λ j lt.
    let port = c.loop-port.port in
    ⊎_elim
    (λ l. c.loop-port.invariant j l)
    (λ ge. let e : port ≡ j = omega (arith, lt, ge) in subst (λ n. list_at c.args.pending.now n ≡ []) e
    (sym (c.at.ensures []) ∙ nil_from_length c.at.result.now (c.is_empty.ensures.0 c.if-not-is_empty.false)))
    (cases_lt j port)

pub returns-then-not-is_empty-clause-some : goal.returns-then-not-is_empty-clause-some
returns-then-not-is_empty-clause-some c = (
  (let lt = c.loop-port-test.true in let l = c.len-port-end.ensures in omega (arith, lt, l)),
  λ e. let t : c.is_empty.result ≡ true = c.is_empty.ensures.1 (ap length (c.at.ensures [] ∙ e)) in let f = c.if-not-is_empty.true in absurd (cc (t, f)),
)

pub returns-clause-none : goal.returns-clause-none
returns-clause-none c = λ j.
    ⊎_elim
    (λ l. c.loop-port.invariant j (let n = c.len-port-end.ensures in omega (arith, l, n)))
    (λ ge. list_past c.args.pending.now j ge)
    (cases_lt j (length c.args.pending.now))
