use Rattle.std.proofs.Common.{◌≡◌, ◌∙◌, [], ◌++◌, length, map, pos, replicate, ap, sym, subst, rules}
use Rattle.work_code.specs.Steps.{step, steps, statements, in_turn}
use Rattle.work_code.proofs.Texts.{steps-is}
use Rattle.kern_rows.specs.Needs.{CanRun}
use Rattle.kern_rows.specs.Runs.{run_kept}
use Rattle.streamit_model.specs.Elaborate.{on_ok}
use Rattle.streamit_model.specs.ElaborateFilter.{starts_of}
use Rattle.streamit_model.proofs.FormedMet.{init_runs}
use Rattle.streamit_text.specs.Tree.{optional_block}
use Rattle.streamit_unroll.specs.Unrolling.{at_of}
use Rattle.streamit_unroll.proofs.SoFar.{good}
use Rattle.streamit_unroll.proofs.unroll.Unroller.starts.Goals as goal

pub after_one_run-requires : goal.after_one_run-requires
after_one_run-requires c =
    let r = c.in_ok-optional.ensures {u = tt} in
    let out = c.optional.new.out in
    let slots = c.optional.new.self.slots in
    let fs = c.args.tree.now.fields.items in
    let none : statements c.new-body.result ≡ [] = search rules in
    let is : steps out ≡ in_turn (map step r.0) = steps-is out ∙ ap (λ l. in_turn (map step l)) (r.1 ∙ ap (λ l. l ++ r.0) none) in
    let len : c.len.result ≡ length fs = c.len.ensures ∙ c.args.tree.now.fields.ok.0 in
    subst (λ n. CanRun 0 (record { inputs = 0; slots = slots; steps = steps out }) n) (sym len)
    (subst (λ b. CanRun 0 (record { inputs = 0; slots = slots; steps = b }) (length fs)) (sym is)
    (init_runs fs (optional_block c.args.tree.now.init) (at_of c.args.self.now)
    (in_turn (map step r.0), at_of c.optional.new.self) c.requires.fields c.requires.readable.low c.requires.readable.kept r.2))

pub returns-clause-starts : goal.returns-clause-starts
returns-clause-starts c =
    let r = c.in_ok-optional.ensures {u = tt} in
    let out = c.optional.new.out in
    let slots = c.optional.new.self.slots in
    let fs = c.args.tree.now.fields.items in
    let none : statements c.new-body.result ≡ [] = search rules in
    let is : steps out ≡ in_turn (map step r.0) = steps-is out ∙ ap (λ l. in_turn (map step l)) (r.1 ∙ ap (λ l. l ++ r.0) none) in
    let len : c.len.result ≡ length fs = c.len.ensures ∙ c.args.tree.now.fields.ok.0 in
    let same : c.in_ok-starts.starts ≡ starts_of (length fs) (in_turn (map step r.0), at_of c.optional.new.self) =
    c.in_ok-starts.ensures
    ∙ ap (λ b. (run_kept (record { inputs = 0; slots = slots; steps = b }) (replicate c.len.result (pos 0)) []).slots) is
    ∙ ap (λ n. (run_kept (record { inputs = 0; slots = slots; steps = in_turn (map step r.0) }) (replicate n (pos 0)) []).slots) len in
    ap (λ x. on_ok x (λ i. good (starts_of (length fs) i))) r.2 ∙ ap good (sym same)
