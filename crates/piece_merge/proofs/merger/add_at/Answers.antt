use Rattle.std.proofs.Common.{◌∙◌, ap}
use Rattle.kern_tables.specs.Kept.{kind_of_table}
use Rattle.piece_merge.proofs.Sections.{kinds-stay}
use Rattle.piece_merge.proofs.merger.add_at.Goals as goal

pub returns-clause-kinds : goal.returns-clause-kinds
returns-clause-kinds c =
    kinds-stay c.args.kept.now.items c.args.place c.index_mut-table.result.now c.add_section.new.table c.requires.there
    (c.add_section.ensures.kind ∙ ap kind_of_table c.index_mut-table.ensures.value)
