use Rattle.std.proofs.Common.{◌+◌, ◌++◌, drop, sym, ap, ◌∙◌, arith, append-nil}
use Rattle.text_tokens.specs.Cut.{units_of}
use Rattle.text_tokens.specs.Tok.{tokens_of, toks}
use Rattle.text_tokens.proofs.Cuts.{cut-end, toks-marks, units-next}
use Rattle.text_tokens.proofs.unit.units.Goals as goal

-- a unit more
pub loop-at-preserved : goal.loop-at-preserved
loop-at-preserved c =
    let ls = c.as_slice-lexemes.result.now in
    let n = c.unit_len-len.result in
    record {
      same = ap (λ units. units ++ units_of (tokens_of (drop (c.loop-at.at + n) ls))) c.in_ok-push.ensures.ok
          ∙ units-next c.loop-at.units c.loop-at.at n ls c.split_at.result.1.now c.split_at-in-loop-at.result.0.now c.loop-at-test.true c.split_at.ensures.back
          c.unit_len-len.ensures c.split_at-in-loop-at.ensures.front
          ∙ c.loop-at.invariant.same;
      in_text = omega (arith, c.split_at-in-loop-at.ensures.back_len, c.split_at.ensures.back_len);
    }

pub returns : goal.returns
returns c =
    let ls = c.as_slice-lexemes.result.now in
    sym (append-nil c.loop-at.units)
    ∙ ap (λ rest. c.loop-at.units ++ rest) (sym (cut-end c.loop-at.at ls c.loop-at-test.false))
    ∙ c.loop-at.invariant.same
    ∙ ap units_of (sym (toks-marks ls) ∙ ap toks c.as_slice-lexemes.ensures)
