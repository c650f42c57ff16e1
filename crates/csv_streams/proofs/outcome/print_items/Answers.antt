use Rattle.std.proofs.Common.{◌++◌, sym, ap, ◌∙◌, append_assoc}
use Rattle.std.proofs.lemmas.Result.{on_ok_weaker}
use Rattle.csv_streams.specs.Outcome.{texts_of, item_text, row_line}
use Rattle.csv_streams.proofs.Texts.{lines-parts}
use Rattle.csv_streams.proofs.outcome.print_items.Goals as goal

pub returns : goal.returns
returns c =
    let to = c.args.to.now in
    let rows = c.parts.result.0.now in
    let others = c.parts.result.1.now.items in
    let more =
    ap (λ t. t ++ texts_of item_text others) c.in_ok-print_even.ensures
    ∙ append_assoc to (texts_of row_line rows) (texts_of item_text others)
    ∙ ap (λ t. to ++ t) (sym (lines-parts rows others))
    ∙ ap (λ l. to ++ texts_of item_text l) (sym c.parts.ensures) in
    on_ok_weaker c.print_others.result (λ all. all ∙ more) c.print_others.ensures
