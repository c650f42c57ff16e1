use Rattle.std.proofs.Common.{◌∙◌, sym, ap, length}
use Rattle.std.proofs.lemmas.Result.{on_ok_weaker, IfErr-weaker}
use Rattle.piece_merge.proofs.Added.{more-added}
use Rattle.piece_merge.proofs.Adding.{as-many-sections, one-more-of, none-merge-of}
use Rattle.piece_merge.proofs.merger.Merger.add.Goals as goal

pub add_sections-requires-clause-as_many : goal.add_sections-requires-clause-as_many
add_sections-requires-clause-as_many c =
    ap length c.as_slice-4.ensures
    ∙ as-many-sections c.as_slice.result.now c.as_slice-2.result.now c.in_ok-sections.sections c.in_ok-sections.ensures.split
    ∙ ap length (c.as_slice.ensures ∙ sym c.as_slice-3.ensures)

pub returns-clause-ok : goal.returns-clause-ok
returns-clause-ok c =
    on_ok_weaker c.add_sections.result
    (λ added. one-more-of c.args.self.now c.self.inside.tables c.as_slice.result.now c.as_slice-3.result.now c.self.inside.kept.items
    c.add_sections.new.kept.items c.args.out.now c.as_slice-2.result.now c.in_ok-sections.sections c.as_slice-4.result.now c.self.view_is
    c.as_slice.ensures c.as_slice-3.ensures c.as_slice-2.ensures c.as_slice-4.ensures c.in_ok-sections.ensures.split added) c.add_sections.ensures.ok

pub returns-clause-more : goal.returns-clause-more
returns-clause-more c =
    on_ok_weaker c.add_sections.result
    (λ added. more-added c.args.self.now (record { tables = c.self.inside.tables; kept = c.add_sections.new.kept.items }) c.args.out.now
    (ap (λ m. m.tables) c.self.view_is)
    (one-more-of c.args.self.now c.self.inside.tables c.as_slice.result.now c.as_slice-3.result.now c.self.inside.kept.items
    c.add_sections.new.kept.items c.args.out.now c.as_slice-2.result.now c.in_ok-sections.sections c.as_slice-4.result.now c.self.view_is
    c.as_slice.ensures c.as_slice-3.ensures c.as_slice-2.ensures c.as_slice-4.ensures c.in_ok-sections.ensures.split added)) c.add_sections.ensures.ok

pub returns-clause-none : goal.returns-clause-none
returns-clause-none c =
    IfErr-weaker c.add_sections.result _ _
    (λ fault told. none-merge-of c.args.self.now c.self.inside.tables c.as_slice.result.now c.as_slice-3.result.now c.self.inside.kept.items
    c.args.out.now c.as_slice-2.result.now c.in_ok-sections.sections c.as_slice-4.result.now fault c.self.view_is
    c.as_slice.ensures c.as_slice-3.ensures c.as_slice-2.ensures c.as_slice-4.ensures c.in_ok-sections.ensures.split told) c.add_sections.ensures.none
