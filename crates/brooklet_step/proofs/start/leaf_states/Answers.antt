use Rattle.std.proofs.Common.{◌≡◌, ap, ◌∙◌, subst}
use Rattle.river_kernels.proofs.KernLemmas.{kern_of-code, kern_of-deal, kern_of-collect, kern_of-window, kern_of-cross, kern_of-streamer, kern_of-unpack, kern_of-filter}
use Rattle.kern_rows.specs.Forms.{code_form, filter_form}
use Rattle.river_kernels.specs.Kern.{kern_of, code, filter, deal, collect, unpack, window, cross, streamer}
use Rattle.brooklet_model.specs.Shapes.{IsFormed}
use Rattle.brooklet_step.specs.Initial.{AreFirstStates}
use Rattle.brooklet_step.proofs.Starts.{if_ok, filter_first, first_at, simple_first, splitter_first, joiner_first, unpacker_first}
use Rattle.brooklet_step.proofs.Starts.{window_first, cross_first, streamer_first}
use Rattle.brooklet_step.proofs.start.leaf_states.Goals as goal

pub filter_states-requires : goal.filter_states-requires
filter_states-requires c =
    filter_first (filter_form c.in-Filter.filter) (subst IsFormed (ap kern_of c.in-Filter.is ∙ kern_of-filter c.in-Filter.filter) c.requires.formed)

pub returns-in-Code : goal.returns-in-Code
returns-in-Code c =
    let k = kern_of c.args.kernel.now in
    let j = code (code_form c.in-Code.code) in
    let e : k ≡ j = ap kern_of c.in-Code.is ∙ kern_of-code c.in-Code.code in
    let formed = subst IsFormed e c.requires.formed in
    if_ok _ (AreFirstStates k) c.code_states.result (λ st h. first_at k j st e (simple_first j st tt formed h)) c.code_states.ensures

pub returns-in-Filter : goal.returns-in-Filter
returns-in-Filter c =
    let k = kern_of c.args.kernel.now in
    let j = filter (filter_form c.in-Filter.filter) in
    let e : k ≡ j = ap kern_of c.in-Filter.is ∙ kern_of-filter c.in-Filter.filter in
    let formed = subst IsFormed e c.requires.formed in
    if_ok _ (AreFirstStates k) c.filter_states.result (λ st h. first_at k j st e (simple_first j st tt formed h)) c.filter_states.ensures

pub returns-in-Deal : goal.returns-in-Deal
returns-in-Deal c =
    let k = kern_of c.args.kernel.now in
    let ws = c.in-Deal.weights in
    let j = deal ws in
    let e : k ≡ j = ap kern_of c.in-Deal.is ∙ kern_of-deal ws in
    let formed = subst IsFormed e c.requires.formed in
    if_ok _ (AreFirstStates k) c.deal_states.result (λ st h. first_at k j st e (splitter_first ws st formed h)) c.deal_states.ensures

pub returns-in-Collect : goal.returns-in-Collect
returns-in-Collect c =
    let k = kern_of c.args.kernel.now in
    let ws = c.in-Collect.weights in
    let j = collect ws in
    let e : k ≡ j = ap kern_of c.in-Collect.is ∙ kern_of-collect ws in
    let formed = subst IsFormed e c.requires.formed in
    if_ok _ (AreFirstStates k) c.collect_states.result (λ st h. first_at k j st e (joiner_first ws st formed h)) c.collect_states.ensures

pub returns-in-Unpack : goal.returns-in-Unpack
returns-in-Unpack c =
    let k = kern_of c.args.kernel.now in
    let n = c.in-Unpack.ports in
    let j = unpack n in
    let e : k ≡ j = ap kern_of c.in-Unpack.is ∙ kern_of-unpack n in
    let formed = subst IsFormed e c.requires.formed in
    if_ok _ (AreFirstStates k) c.unpack_states.result (λ st h. first_at k j st e (unpacker_first n st formed h)) c.unpack_states.ensures

pub returns-in-Window : goal.returns-in-Window
returns-in-Window c =
    let k = kern_of c.args.kernel.now in
    let v = c.in-Window.window in
    let j = window v in
    let e : k ≡ j = ap kern_of c.in-Window.is ∙ kern_of-window v in
    let formed = subst IsFormed e c.requires.formed in
    if_ok _ (AreFirstStates k) c.window_states.result (λ st h. first_at k j st e (window_first v st formed h)) c.window_states.ensures

pub returns-in-Cross : goal.returns-in-Cross
returns-in-Cross c =
    let k = kern_of c.args.kernel.now in
    let j = cross in
    let e : k ≡ j = ap kern_of c.in-Cross.is ∙ kern_of-cross in
    let formed = subst IsFormed e c.requires.formed in
    if_ok _ (AreFirstStates k) c.cross_states.result (λ st h. first_at k j st e (cross_first st formed h)) c.cross_states.ensures

pub returns-in-Streamer : goal.returns-in-Streamer
returns-in-Streamer c =
    let k = kern_of c.args.kernel.now in
    let s = c.in-Streamer.streamer in
    let j = streamer s in
    let e : k ≡ j = ap kern_of c.in-Streamer.is ∙ kern_of-streamer s in
    let formed = subst IsFormed e c.requires.formed in
    if_ok _ (AreFirstStates k) c.streamer_states.result (λ st h. first_at k j st e (streamer_first s st formed h)) c.streamer_states.ensures
