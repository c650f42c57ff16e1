use Rattle.std.proofs.Common.{refl, ap, ◌∙◌, get_or, subst}
use Rattle.river_kernels.proofs.KernLemmas.{kern_of-tally, kern_of-code, kern_of-deal, kern_of-collect, kern_of-window, kern_of-select, kern_of-project}
use Rattle.river_kernels.proofs.KernLemmas.{kern_of-cross, kern_of-streamer, kern_of-unpack, kern_of-filter, kern_of-duplicate}
use Rattle.kern_rows.specs.Forms.{code_form, filter_form}
use Rattle.river_kernels.specs.Kern.{kern_of, code, filter, duplicate, deal, collect, unpack, window, select, project, cross, streamer, tally}
use Rattle.work_code.specs.Term.{term, terms}
use Rattle.brooklet_step.specs.Took.{HasLists}
use Rattle.brooklet_step.proofs.Fires.{on_ok, on_both}
use Rattle.brooklet_step.proofs.Ones.{zero_can, zero_fires, first_can, first_fires, free_can, free_fires, ports_can, ports_fires}
use Rattle.brooklet_step.proofs.RowFires.{code_applies, code_does, filter_applies, filter_does, tally_applies, tally_does, duplicate_does}
use Rattle.brooklet_step.proofs.Tallies.{tally_row, tally_room, tally_fires}
use Rattle.brooklet_step.proofs.single.fire_leaf.Goals as goal

pub fire_deal-requires : goal.fire_deal-requires
fire_deal-requires c =
    first_can (kern_of c.args.kernel.now) (deal c.in-Deal.weights) c.args.port c.args.item c.args.states.now c.index-states-0-in-Deal.result
    (get_or c.args.states.now 0 c.index-states-0-in-Deal.result) c.args.out.now
    (ap kern_of c.in-Deal.is ∙ kern_of-deal c.in-Deal.weights) refl refl refl c.requires.can

pub returns-in-Deal : goal.returns-in-Deal
returns-in-Deal c =
    on_ok _ _ c.fire_deal.result
    (λ f. first_fires (kern_of c.args.kernel.now) (deal c.in-Deal.weights) c.args.port c.args.item c.args.states.now c.index-states-0-in-Deal.result
    (get_or c.args.states.now 0 c.index-states-0-in-Deal.result) c.fire_deal.new.state c.args.out.now c.fire_deal.new.out
    (ap kern_of c.in-Deal.is ∙ kern_of-deal c.in-Deal.weights) refl refl refl c.requires.can f)
    c.fire_deal.ensures

pub fire_collect-requires : goal.fire_collect-requires
fire_collect-requires c =
    ports_can (kern_of c.args.kernel.now) (collect c.in-Collect.weights) c.args.port c.args.item c.args.states.now c.index-states-0-in-Collect.result
    (get_or c.args.states.now 0 c.index-states-0-in-Collect.result) c.args.out.now
    (ap kern_of c.in-Collect.is ∙ kern_of-collect c.in-Collect.weights) refl refl c.requires.can

pub returns-in-Collect : goal.returns-in-Collect
returns-in-Collect c =
    on_ok _ _ c.fire_collect.result
    (λ f. ports_fires (kern_of c.args.kernel.now) (collect c.in-Collect.weights) c.args.port c.args.item c.args.states.now c.index-states-0-in-Collect.result
    (get_or c.args.states.now 0 c.index-states-0-in-Collect.result) c.fire_collect.new.state c.args.out.now c.fire_collect.new.out
    (ap kern_of c.in-Collect.is ∙ kern_of-collect c.in-Collect.weights) refl refl c.requires.can f)
    c.fire_collect.ensures

pub fire_unpack-requires : goal.fire_unpack-requires
fire_unpack-requires c =
    ports_can (kern_of c.args.kernel.now) (unpack c.in-Unpack.ports) c.args.port c.args.item c.args.states.now c.index-states-0-in-Unpack.result
    (get_or c.args.states.now 0 c.index-states-0-in-Unpack.result) c.args.out.now
    (ap kern_of c.in-Unpack.is ∙ kern_of-unpack c.in-Unpack.ports) refl refl c.requires.can

pub returns-in-Unpack : goal.returns-in-Unpack
returns-in-Unpack c =
    on_ok _ _ c.fire_unpack.result
    (λ f. ports_fires (kern_of c.args.kernel.now) (unpack c.in-Unpack.ports) c.args.port c.args.item c.args.states.now c.index-states-0-in-Unpack.result
    (get_or c.args.states.now 0 c.index-states-0-in-Unpack.result) c.fire_unpack.new.state c.args.out.now c.fire_unpack.new.out
    (ap kern_of c.in-Unpack.is ∙ kern_of-unpack c.in-Unpack.ports) refl refl c.requires.can f)
    c.fire_unpack.ensures

pub fire_window-requires : goal.fire_window-requires
fire_window-requires c =
    first_can (kern_of c.args.kernel.now) (window c.in-Window.window) c.args.port c.args.item c.args.states.now c.index-states-0-in-Window.result
    (get_or c.args.states.now 0 c.index-states-0-in-Window.result) c.args.out.now
    (ap kern_of c.in-Window.is ∙ kern_of-window c.in-Window.window) refl refl refl c.requires.can

pub returns-in-Window : goal.returns-in-Window
returns-in-Window c =
    on_ok _ _ c.fire_window.result
    (λ f. first_fires (kern_of c.args.kernel.now) (window c.in-Window.window) c.args.port c.args.item c.args.states.now c.index-states-0-in-Window.result
    (get_or c.args.states.now 0 c.index-states-0-in-Window.result) c.fire_window.new.state c.args.out.now c.fire_window.new.out
    (ap kern_of c.in-Window.is ∙ kern_of-window c.in-Window.window) refl refl refl c.requires.can f)
    c.fire_window.ensures

pub fire_select-requires : goal.fire_select-requires
fire_select-requires c =
    free_can (kern_of c.args.kernel.now) (select (term c.in-Select.cond)) c.args.port c.args.item c.args.states.now c.args.out.now
    (ap kern_of c.in-Select.is ∙ kern_of-select c.in-Select.cond) refl refl c.requires.can

pub returns-in-Select : goal.returns-in-Select
returns-in-Select c =
    on_ok _ _ c.fire_select.result
    (λ f. free_fires (kern_of c.args.kernel.now)
    (select (term c.in-Select.cond)) c.args.port c.args.item c.args.states.now c.args.out.now c.fire_select.new.out
    (ap kern_of c.in-Select.is ∙ kern_of-select c.in-Select.cond) refl refl c.requires.can f)
    c.fire_select.ensures

pub fire_project-requires : goal.fire_project-requires
fire_project-requires c =
    free_can (kern_of c.args.kernel.now) (project (terms c.in-Project.list)) c.args.port c.args.item c.args.states.now c.args.out.now
    (ap kern_of c.in-Project.is ∙ kern_of-project c.in-Project.list) refl refl c.requires.can

pub returns-in-Project : goal.returns-in-Project
returns-in-Project c =
    on_ok _ _ c.fire_project.result
    (λ f. free_fires (kern_of c.args.kernel.now)
    (project (terms c.in-Project.list)) c.args.port c.args.item c.args.states.now c.args.out.now c.fire_project.new.out
    (ap kern_of c.in-Project.is ∙ kern_of-project c.in-Project.list) refl refl c.requires.can f)
    c.fire_project.ensures

pub fire_cross-requires : goal.fire_cross-requires
fire_cross-requires c =
    ports_can (kern_of c.args.kernel.now) (cross) c.args.port c.args.item c.args.states.now c.index-states-0-in-Cross.result
    (get_or c.args.states.now 0 c.index-states-0-in-Cross.result) c.args.out.now (ap kern_of c.in-Cross.is ∙ kern_of-cross) refl refl c.requires.can

pub returns-in-Cross : goal.returns-in-Cross
returns-in-Cross c =
    on_ok _ _ c.fire_cross.result
    (λ f. ports_fires (kern_of c.args.kernel.now) (cross) c.args.port c.args.item c.args.states.now c.index-states-0-in-Cross.result
    (get_or c.args.states.now 0 c.index-states-0-in-Cross.result) c.fire_cross.new.state c.args.out.now c.fire_cross.new.out
    (ap kern_of c.in-Cross.is ∙ kern_of-cross) refl refl c.requires.can f)
    c.fire_cross.ensures

pub fire_streamer-requires : goal.fire_streamer-requires
fire_streamer-requires c =
    first_can (kern_of c.args.kernel.now) (streamer c.in-Streamer.streamer) c.args.port c.args.item c.args.states.now c.index-states-0-in-Streamer.result
    (get_or c.args.states.now 0 c.index-states-0-in-Streamer.result) c.args.out.now
    (ap kern_of c.in-Streamer.is ∙ kern_of-streamer c.in-Streamer.streamer) refl refl refl c.requires.can

pub returns-in-Streamer : goal.returns-in-Streamer
returns-in-Streamer c =
    on_ok _ _ c.fire_streamer.result
    (λ f. first_fires (kern_of c.args.kernel.now)
    (streamer c.in-Streamer.streamer) c.args.port c.args.item c.args.states.now c.index-states-0-in-Streamer.result
    (get_or c.args.states.now 0 c.index-states-0-in-Streamer.result) c.fire_streamer.new.state c.args.out.now c.fire_streamer.new.out
    (ap kern_of c.in-Streamer.is ∙ kern_of-streamer c.in-Streamer.streamer) refl refl refl c.requires.can f)
    c.fire_streamer.ensures

pub fire_code-requires : goal.fire_code-requires
fire_code-requires c =
    let f = code_form c.in-Code.code in
    code_applies f 0 c.args.item c.args.states.now c.args.out.now
    (zero_can (kern_of c.args.kernel.now) (code f) c.args.port c.args.item c.args.states.now c.args.out.now
    (ap kern_of c.in-Code.is ∙ kern_of-code c.in-Code.code) refl c.requires.can)

pub returns-in-Code : goal.returns-in-Code
returns-in-Code c =
    let f = code_form c.in-Code.code in
    on_ok _ _ c.fire_code.result
    (λ h. zero_fires (kern_of c.args.kernel.now) (code f) c.args.port c.args.item c.args.states.now c.fire_code.new.states c.args.out.now c.fire_code.new.out
    (ap kern_of c.in-Code.is ∙ kern_of-code c.in-Code.code) refl c.requires.can
    (code_does f 0 c.args.item c.args.out.now c.fire_code.new.out c.args.states.now c.fire_code.new.states h))
    c.fire_code.ensures

pub fire_filter-requires : goal.fire_filter-requires
fire_filter-requires c =
    let f = filter_form c.in-Filter.filter in
    filter_applies f 0 c.args.item _ c.args.out.now
    (first_can (kern_of c.args.kernel.now) (filter f) c.args.port c.args.item c.args.states.now c.index-states-0.result
    (get_or c.args.states.now 0 c.index-states-0.result) c.args.out.now
    (ap kern_of c.in-Filter.is ∙ kern_of-filter c.in-Filter.filter) refl refl refl c.requires.can)

pub returns-in-Filter : goal.returns-in-Filter
returns-in-Filter c =
    let f = filter_form c.in-Filter.filter in
    let s = get_or c.args.states.now 0 c.index-states-0.result in
    on_ok _ _ c.fire_filter.result
    (λ h. first_fires (kern_of c.args.kernel.now)
    (filter f) c.args.port c.args.item c.args.states.now c.index-states-0.result s c.fire_filter.new.state c.args.out.now c.fire_filter.new.out
    (ap kern_of c.in-Filter.is ∙ kern_of-filter c.in-Filter.filter) refl refl refl c.requires.can
    (filter_does f 0 c.args.item c.args.out.now c.fire_filter.new.out _ _ h))
    c.fire_filter.ensures

pub returns-in-Duplicate : goal.returns-in-Duplicate
returns-in-Duplicate c =
    let n = c.in-Duplicate.field-0 in
    let e = ap kern_of c.in-Duplicate.is ∙ kern_of-duplicate n in
    on_both _ _ _ c.give_everywhere.result
    (λ o a. zero_fires (kern_of c.args.kernel.now)
    (duplicate n) c.args.port c.args.item c.args.states.now c.args.states.now c.args.out.now c.give_everywhere.new.self e refl c.requires.can
    (duplicate_does n c.args.item c.args.states.now c.args.out.now c.give_everywhere.new.self
    (subst (λ k. HasLists k c.args.out.now) e c.requires.can.room) o a))
    c.give_everywhere.ensures.outs c.give_everywhere.ensures.adds

pub fire_tally-requires-clause-row : goal.fire_tally-requires-clause-row
fire_tally-requires-clause-row c =
    tally_row tally 0 c.args.item c.args.states.now refl
    (tally_applies 0 c.args.item c.args.states.now c.args.out.now
    (zero_can (kern_of c.args.kernel.now) tally c.args.port c.args.item c.args.states.now c.args.out.now
    (ap kern_of c.in-Tally.is ∙ kern_of-tally) refl c.requires.can)).takes

pub fire_tally-requires-clause-room : goal.fire_tally-requires-clause-room
fire_tally-requires-clause-room c = tally_room (kern_of c.args.kernel.now) c.args.out.now (ap kern_of c.in-Tally.is ∙ kern_of-tally) c.requires.can.room

pub returns-in-Tally : goal.returns-in-Tally
returns-in-Tally c =
    on_both _ _ _ c.fire_tally.result
    (λ o a. zero_fires (kern_of c.args.kernel.now) tally c.args.port c.args.item c.args.states.now c.args.states.now c.args.out.now c.fire_tally.new.out
    (ap kern_of c.in-Tally.is ∙ kern_of-tally) refl c.requires.can
    (tally_does 0 c.args.item c.args.out.now c.fire_tally.new.out c.args.states.now c.args.states.now
    (tally_fires tally 0 c.args.item c.args.states.now c.args.out.now c.fire_tally.new.out refl o a)))
    c.fire_tally.ensures.outs c.fire_tally.ensures.adds
