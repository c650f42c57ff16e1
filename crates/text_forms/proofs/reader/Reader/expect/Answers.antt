use Rattle.std.proofs.Common.{◌∙◌, ◌+◌, sym, ap, drop, List}
use Rattle.text_tokens.specs.Tok.{Tok}
use Rattle.text_forms.specs.Parse.{symbols_at}
use Rattle.text_forms.proofs.Runs.{run_at-taken, run_at-other}
use Rattle.text_forms.proofs.reader.Reader.expect.Goals as goal

pub loop-symbol-preserved : goal.loop-symbol-preserved
loop-symbol-preserved c =
    let rest = rw c.if-not-takes.false at c.takes.ensures.rest in
    ap (λ (t : List Tok). symbols_at (drop (c.loop-symbol.symbol-index + 1) c.args.run.now) t) rest
    ∙ run_at-taken c.args.run.now c.loop-symbol.symbol-index _ c.loop-symbol.self c.loop-symbol-test.true (sym c.takes.ensures.taken ∙ c.if-not-takes.false)
    ∙ c.loop-symbol.invariant

pub returns-then-not-takes : goal.returns-then-not-takes
returns-then-not-takes c =
    sym c.loop-symbol.invariant
    ∙ run_at-other c.args.run.now c.loop-symbol.symbol-index _ c.loop-symbol.self c.loop-symbol-test.true (sym c.takes.ensures.taken ∙ c.if-not-takes.true)
