use Rattle.std.proofs.Common.{◌+◌, drop, sym, ap, ◌∙◌, arith}
use Rattle.text_tokens.specs.Tok.{tokens_of}
use Rattle.text_tokens.specs.Cut.{unit_len}
use Rattle.text_tokens.proofs.Cuts.{length-next, length-last, braces-few}
use Rattle.text_tokens.proofs.unit.unit_len.Goals as goal

-- a token that goes on the unit
pub loop-n-preserved : goal.loop-n-preserved
loop-n-preserved c =
    let ls = c.args.lexemes.now in
    record {
      same = ap (λ b. c.loop-n.n + 1 + unit_len b (tokens_of (drop (c.loop-n.n + 1) ls))) c.braces_after-braces.ensures
          ∙ length-next c.loop-n.braces c.loop-n.n ls c.split_at.result.1.now _ c.loop-n-test.true c.split_at.ensures.back
          (sym c.ends_unit.ensures ∙ c.if-ends_unit.false)
          ∙ c.loop-n.invariant.same;
      few = omega (arith, c.braces_after-braces.ensures, c.loop-n.invariant.few, braces-few);
    }

-- a token that ends it
pub returns-then-ends_unit : goal.returns-then-ends_unit
returns-then-ends_unit c =
    let ls = c.args.lexemes.now in
    ap (λ k. c.loop-n.n + k)
    (sym (length-last c.loop-n.braces c.loop-n.n ls c.split_at.result.1.now _ c.loop-n-test.true c.split_at.ensures.back
    (sym c.ends_unit.ensures ∙ c.if-ends_unit.true)))
    ∙ c.loop-n.invariant.same
