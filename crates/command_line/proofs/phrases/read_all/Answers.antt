use Rattle.std.proofs.Common.{arith, ◌<◌, length, sym, ap, ◌∙◌}
use Rattle.std.proofs.lemmas.Result.{err_from_is_err_and}
use Rattle.command_line.specs.Phrases.{phrase_of, phrases}
use Rattle.command_line.specs.Said.{Grown}
use Rattle.command_line.proofs.ReadOn.{on_by, more-words, no-words, still-apart, same-fault}
use Rattle.command_line.proofs.phrases.read_all.Goals as goal

pub returns-in_err-taken-clause-usage : goal.returns-in_err-taken-clause-usage
returns-in_err-taken-clause-usage c =
    let p = err_from_is_err_and c.from_residual.result c.from_residual.ensures.1 in
    let some : 0 < length c.loop-rest.rest.now = grind (arith, c.is_empty.ensures, c.loop-rest-test.true) in
    rw (p.1, p.2) (λ is. sym c.loop-rest.invariant.read
    ∙ no-words c.loop-rest.rest.now c.loop-rest.said c.loop-rest.command some (c.in_err-taken.ensures.usage (same-fault _ _ c.in_err-taken.field-0.0 is)))

pub loop-rest-preserved : goal.loop-rest-preserved
loop-rest-preserved c =
    let some : 0 < length c.loop-rest.rest.now = grind (arith, c.is_empty.ensures, c.loop-rest-test.true) in
    let g : Grown = record { takes = c.in_ok-taken.taken; said = c.read_phrase.new.said; command = c.read_phrase.new.command } in
    record {
      apart =
          still-apart c.loop-rest.rest.now c.loop-rest.said c.loop-rest.command
          (phrase_of c.loop-rest.rest.now) g c.in_ok-taken.ensures.ok c.loop-rest.invariant.apart;
      read = ap (λ l. on_by g.said g.command (phrases 0 l)) c.behind-rest.ensures
          ∙ sym (more-words c.loop-rest.rest.now c.loop-rest.said c.loop-rest.command g some c.in_ok-taken.ensures.ok) ∙ c.loop-rest.invariant.read;
    }
