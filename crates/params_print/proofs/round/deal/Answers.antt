use Rattle.std.proofs.Common.{◌∷◌, [], ◌++◌, sym, ap, ◌∙◌}
use Rattle.std.specs.Prelude.{codes}
use Rattle.std.proofs.lemmas.Result.{on_ok_weaker}
use Rattle.text_tokens.specs.Tok.{name}
use Rattle.params_text.specs.Program.{dealing_of, rounds_of}
use Rattle.text_tokens.specs.Spaced.{spaced}
use Rattle.params_text.specs.Toks.{weights_toks, dealing_toks}
use Rattle.params_model.specs.Environment.{option_counts, dealing}
use Rattle.params_print.proofs.Blocks.{two-parts}
use Rattle.params_print.proofs.round.deal.Goals as goal

pub returns-in_ok-tokens-in-RoundRobin : goal.returns-in_ok-tokens-in-RoundRobin
returns-in_ok-tokens-in-RoundRobin c =
    let env = c.args.known.now in
    let all = option_counts env (rounds_of c.in-RoundRobin.rounds) in
    on_ok_weaker c.weights.result (λ second.
    two-parts (name (codes "roundrobin") ∷ []) (weights_toks all) c.args.to.now c.tokens-in-RoundRobin.new.to c.weights.new.to
    c.in_ok-tokens-in-RoundRobin.ensures second
    ∙ ap (λ d. c.args.to.now ++ spaced (dealing_toks (dealing env (dealing_of d)))) (sym c.in-RoundRobin.is))
    c.weights.ensures
