use Rattle.std.proofs.Common.{◌≡◌, ◌∙◌, sym, ap, refl, subst, ℤ, List, [], ◌∷◌, ◌++◌, All, length, slice_get}
use Rattle.class_locks.specs.declared.log.LogEntry.{LogEntry}
use Rattle.class_locks.specs.Logs.{Holding}
use Rattle.kern_tables.specs.Tables.{table_width}
use Rattle.class_locks.proofs.Cells.{wide_rows, after_add}
use Rattle.class_locks.proofs.cell.Cell.add.Goals as goal

pub packed-requires : goal.packed-requires
packed-requires c =
    (table_width c.requires.kind, c.requires.wide)

pub raise-requires-clause-wide : goal.raise-requires-clause-wide
raise-requires-clause-wide c =
    let p = c.place_of-place.ensures in
    wide_rows c.self.inside.kinds c.self.inside.tables.items c.self.inside.log.items c.args.table c.place_of-place.result c.requires.has.place p.0
    c.requires.kind c.args.rows.now c.args.rows.now c.self.invariant.0 c.self.invariant.1
    p.1 (ap (λ (h : Holding). slice_get h.kinds c.requires.has.place) c.self.view_is ∙ c.requires.has.there) refl c.requires.wide

pub invariant_of-self-2 : goal.invariant_of-self-2
invariant_of-self-2 c =
    let p = c.place_of-place.ensures in (
      after_add c.self.inside.kinds c.self.inside.tables.items c.raise.new.tables.items c.self.inside.log.items c.push_reserved.new.self.items c.args.table
          c.place_of-place.result p.0 c.args.rows.now
          (record { op = c.args.op; table = c.args.table; rows = c.args.rows.now }) c.self.invariant.0 c.self.invariant.1
          p.1 (λ d. c.in_ok-raise.ensures.ok d)
          (c.push_reserved.ensures.items
          ∙ (ap (λ (rs : List (List ℤ)). c.reserve.new.self.items ++ record { op = c.args.op; table = c.args.table; rows = rs } ∷ [])
          c.in_ok-packed.ensures
          ∙ ap (λ (l : List LogEntry). l ++ record { op = c.args.op; table = c.args.table; rows = c.args.rows.now } ∷ []) c.in_ok-reserve.ensures.items)) refl
          refl,
      c.self.invariant.1,
    )
