use Rattle.std.proofs.Common.{◌≡◌, Ok, sym, ap, ◌∙◌, rules}
use Rattle.kern_rows.specs.Forms.{run_form, optional_run, filter_form}
use Rattle.streamit_text.specs.Program.{filter_tree}
use Rattle.streamit_model.specs.ElaborateFilter.{nothing_read, read_fields, read_prework, read_work, elaborated}
use Rattle.streamit_unroll.specs.Unrolling.{at_of}
use Rattle.streamit_unroll.proofs.WholeFilters.{judges_err, same_fault, fields_fault, starts_fault, first_fault, work_fault, filter_read}
use Rattle.streamit_unroll.proofs.SoFar.{good}
use Rattle.streamit_unroll.proofs.unroll.Unroller.filter.Goals as goal

pub returns-in_err-fields : goal.returns-in_err-fields
returns-in_err-fields c =
    let t = filter_tree c.args.tree.now in
    let f = c.in_err-fields.field-0.0 in
    let fields = c.as_slice.result.now in
    let same : read_fields fields (at_of c.args.self.now) ≡ read_fields t.fields nothing_read = ap (read_fields fields) c.requires.nothing
    ∙ ap (λ l. read_fields l nothing_read) c.as_slice.ensures.value in
    judges_err filter_form c.from_residual.result f (elaborated t) (search rules) (fields_fault t f (same_fault f same c.in_err-fields.ensures))

pub returns-in_err-starts : goal.returns-in_err-starts
returns-in_err-starts c =
    let t = filter_tree c.args.tree.now in
    let f = c.in_err-starts.field-0.0 in
    let fields = c.as_slice.result.now in
    let hs : read_fields t.fields nothing_read ≡ Ok (at_of c.fields.new.self) =
    sym (ap (read_fields fields) c.requires.nothing ∙ ap (λ l. read_fields l nothing_read) c.as_slice.ensures.value) ∙ c.in_ok-fields.ensures in
    judges_err filter_form c.from_residual-in_err-starts.result f (elaborated t) (search rules)
    (starts_fault t (at_of c.fields.new.self) hs f c.in_err-starts.ensures.starts)

pub returns-in_err-first : goal.returns-in_err-first
returns-in_err-first c =
    let t = filter_tree c.args.tree.now in
    let f = c.in_err-first.field-0.0 in
    let fields = c.as_slice.result.now in
    let at = at_of c.fields.new.self in
    let hs : read_fields t.fields nothing_read ≡ Ok at =
    sym (ap (read_fields fields) c.requires.nothing ∙ ap (λ l. read_fields l nothing_read) c.as_slice.ensures.value) ∙ c.in_ok-fields.ensures in
    judges_err filter_form c.from_residual-in_err-first.result f (elaborated t) (search rules)
    (first_fault t at hs c.in_ok-starts.starts c.in_ok-starts.ensures.starts f
    (same_fault f (ap (read_prework t.prework) c.in_ok-starts.ensures.back) c.in_err-first.ensures.read))

pub returns-in_err-work : goal.returns-in_err-work
returns-in_err-work c =
    let t = filter_tree c.args.tree.now in
    let f = c.in_err-work.field-0.0 in
    let fields = c.as_slice.result.now in
    let at = at_of c.fields.new.self in
    let hs : read_fields t.fields nothing_read ≡ Ok at =
    sym (ap (read_fields fields) c.requires.nothing ∙ ap (λ l. read_fields l nothing_read) c.as_slice.ensures.value) ∙ c.in_ok-fields.ensures in
    let hp = ap (read_prework t.prework) (sym c.in_ok-starts.ensures.back) ∙ c.in_ok-first.ensures.read in
    judges_err filter_form c.from_residual-in_err-work.result f (elaborated t) (search rules)
    (work_fault t at hs c.in_ok-starts.starts c.in_ok-starts.ensures.starts (optional_run c.in_ok-first.first) hp f
    (same_fault f (ap (read_work 1 t.work) (c.in_ok-first.ensures.back ∙ c.in_ok-starts.ensures.back)) c.in_err-work.ensures.read))

pub returns : goal.returns
returns c =
    let t = filter_tree c.args.tree.now in
    let fields = c.as_slice.result.now in
    let at = at_of c.fields.new.self in
    let hs : read_fields t.fields nothing_read ≡ Ok at =
    sym (ap (read_fields fields) c.requires.nothing ∙ ap (λ l. read_fields l nothing_read) c.as_slice.ensures.value) ∙ c.in_ok-fields.ensures in
    let hp = ap (read_prework t.prework) (sym c.in_ok-starts.ensures.back) ∙ c.in_ok-first.ensures.read in
    let hw = ap (read_work 1 t.work) (sym (c.in_ok-first.ensures.back ∙ c.in_ok-starts.ensures.back)) ∙ c.in_ok-work.ensures.read in
    filter_read t at hs c.in_ok-starts.starts c.in_ok-starts.ensures.starts (optional_run c.in_ok-first.first) hp (run_form c.in_ok-work.work) hw
    ∙ ap good (sym c.put_together.ensures)
