use Rattle.std.proofs.Common.{◌<◌, ◌∙◌, ◌+◌, suc, [], ◌∷◌, refl, sym, ap, subst, inl, arith}
use Rattle.class_locks.specs.declared.view.View.{View}
use Rattle.class_locks.specs.Views.{count_up, other_parts, first_part}
use Rattle.class_locks.specs.Rule.{Mine}
use Rattle.class_locks.proofs.Lists.{counted}
use Rattle.class_locks.proofs.Splits.{splits_ok}
use Rattle.class_locks.proofs.Rounds.{two_parts, dealt, dealt_first, sits}
use Rattle.class_locks.proofs.opening.deal.Goals as goal

pub split_seat-requires : goal.split_seat-requires
split_seat-requires c =
    let t = c.args.top.now in
    let h = c.requires.seated in
    let v = c.requires.view in (
      h.table,
      subst (λ n. 0 < n) (sym h.wide) (omega arith),
      splits_ok t.key.seats t.key.cells.value c.args.place.now.id c.args.place.now.me.0 v.0 (count_up (suc v.0) (suc v.1))
          (ap (λ (w : View). w.parts) v.2 ∙ two_parts v.0 v.1) (ap (λ (w : View). w.hand) v.2) (ap (λ (w : View). w.held) v.2)
          (ap (λ (w : View). w.claims) v.2),
    )

pub returns-clause-seated : goal.returns-clause-seated
returns-clause-seated c =
    let t = c.args.top.now in
    let h = c.requires.seated in
    let v = c.requires.view in
    let e = c.split_seat.ensures in
    sits t.table_id t.key c.split_seat.new.seat (v.0 + 1) (count_up (v.0 + 1) (v.1 + 1)) (e.0 ∙ h.table) h.wide h.deep h.few
    (e.2 ∙ ((λ i. (other_parts (v.2 i), h.empty i)) ∙ ap (λ (w : View). (w, [])) (dealt t.key.seats t.key.cells.value v.0 v.1)))
    (counted (v.0 + 1) (v.1 + 1) (v.0 + 1) (omega arith) (omega arith))

pub returns-clause-other : goal.returns-clause-other
returns-clause-other c =
    let t = c.args.top.now in
    let h = c.requires.seated in
    let v = c.requires.view in
    let e = c.split_seat.ensures in
    sits t.table_id t.key c.split_seat.result v.0 (v.0 ∷ []) (e.3 ∙ h.table) h.wide h.deep h.few
    (e.4 ∙ ap (λ (w : View). (w, [])) (ap first_part v.2 ∙ dealt_first t.key.seats t.key.cells.value v.0 v.1)) (inl refl)

pub returns-clause-views : goal.returns-clause-views
returns-clause-views c = λ k m q.
    let t = c.args.top.now in
    let e = c.split_seat.ensures in (
      ap (λ (w : Mine). w.0) e.2 ∙ (ap other_parts q ∙ dealt t.key.seats t.key.cells.value k m),
      ap (λ (w : Mine). w.0) e.4
          ∙ (ap first_part q ∙ dealt_first t.key.seats t.key.cells.value k m),
    )
