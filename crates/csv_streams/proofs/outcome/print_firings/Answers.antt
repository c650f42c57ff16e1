use Rattle.std.proofs.Common.{◌≡◌, ℕ, List, ◌++◌, ◌∙◌, ap, append_assoc, codes}
use Rattle.std.proofs.lemmas.Result.{on_ok_weaker}
use Rattle.river_plan.specs.Forms.{labels, op_forms}
use Rattle.csv_streams.specs.Outcome.{count_lines}
use Rattle.csv_streams.proofs.outcome.print_firings.Goals as goal

pub returns : goal.returns
returns c =
    let counted = count_lines (labels (op_forms c.args.ops.now)) c.args.counts.now in
    let head : c.extend.new.self ≡ c.args.to.now ++ codes "## firings\n" = c.in_ok-extend.ensures.ok in
    let more = ap (λ (l : List ℕ). l ++ counted) head ∙ append_assoc c.args.to.now (codes "## firings\n") counted in
    on_ok_weaker c.print_counts.result (λ tail. tail ∙ more) c.print_counts.ensures
