use Rattle.std.proofs.Common.{◌≡◌, ◌<◌, sym, ◌∙◌, ap, subst, get_or, length, arith, take, drop}
use Rattle.std.specs.Prelude.{slice_set}
use Rattle.std.proofs.lemmas.List.{get_or_default, get_or-take}
use Rattle.fire_tasks.specs.declared.task.Task.{Task}
use Rattle.fire_tasks.specs.Ports.{IsPair}
use Rattle.fire_tasks.specs.Tasks.{with_out}
use Rattle.fire_open.proofs.Seams.{seamed, get_back}
use Rattle.fire_open.proofs.settling.settle_one.Goals as goal

pub meet-requires-clause-out : goal.meet-requires-clause-out
meet-requires-clause-out c =
    let w = c.args.link.writer in
    let writer = c.index-before-link.result in
    let fe = c.split_at_mut-before.ensures.front ∙ ap (take c.args.link.reader) c.as_mut_slice.ensures.value in
    let we = ap (λ f. get_or f w writer) fe ∙ get_or-take c.args.link.reader c.args.tasks.now w writer c.requires.order in
    subst (λ (t : Task). c.args.link.out < length t.outs) (sym we) (c.requires.out writer)

pub meet-requires-clause-port : goal.meet-requires-clause-port
meet-requires-clause-port c =
    let r = c.args.link.reader in
    let reader = c.index-after-0.result in
    let be = c.split_at_mut-before.ensures.back ∙ ap (drop r) c.as_mut_slice.ensures.value in
    let re = ap (λ b. get_or b 0 reader) be ∙ get_back c.args.tasks.now r reader in
    subst (λ (t : Task). c.args.link.port < length t.ins) (sym re) (c.requires.port reader)

pub meet-requires-clause-pair : goal.meet-requires-clause-pair
meet-requires-clause-pair c = λ f i.
    let ts = c.args.tasks.now in
    let w = c.args.link.writer in
    let r = c.args.link.reader in
    let writer = c.index-before-link.result in
    let reader = c.index-after-0.result in
    let fe = c.split_at_mut-before.ensures.front ∙ ap (take r) c.as_mut_slice.ensures.value in
    let be = c.split_at_mut-before.ensures.back ∙ ap (drop r) c.as_mut_slice.ensures.value in
    let we : get_or c.split_at_mut-before.result.0.now w writer ≡ get_or ts w writer = ap (λ f. get_or f w writer) fe
    ∙ get_or-take r ts w writer c.requires.order in
    let re : get_or c.split_at_mut-before.result.1.now 0 reader ≡ get_or ts r reader = ap (λ b. get_or b 0 reader) be ∙ get_back ts r reader in
    subst (λ (t : Task). IsPair (get_or t.outs c.args.link.out f) (get_or (get_or c.split_at_mut-before.result.1.now 0 reader).ins c.args.link.port i)) (sym we)
    (subst (λ (t : Task). IsPair (get_or (get_or ts w writer).outs c.args.link.out f) (get_or t.ins c.args.link.port i)) (sym re)
    (c.requires.pair writer reader f i))

pub returns : goal.returns
returns c =
    let ts = c.args.tasks.now in
    let w = c.args.link.writer in
    let r = c.args.link.reader in
    let fe = c.split_at_mut-before.ensures.front ∙ ap (take r) c.as_mut_slice.ensures.value in
    let be = c.split_at_mut-before.ensures.back ∙ ap (drop r) c.as_mut_slice.ensures.value in
    let fl = c.split_at_mut-before.ensures.front_len in
    let bl = c.split_at_mut-before.ensures.back_len in
    let al = ap length c.as_mut_slice.ensures.value in
    let lo = c.requires.order in
    let lr = c.requires.reader in
    let writer : Task = get_or c.split_at_mut-before.result.0.now w c.index-before-link.result in
    let m = c.meet.ensures in
    record {
      writer = writer;
      reader = get_or c.split_at_mut-before.result.1.now 0 c.index-after-0.result;
      out = m.sends;
      in_ = m.takes;
      writer_is = λ d. sym (get_or-take r ts w d lo) ∙ ap (λ f. get_or f w d) (sym fe)
          ∙ get_or_default c.split_at_mut-before.result.0.now w d c.index-before-link.result (omega (arith, lo, fl));
      reader_is = λ d. sym (get_back ts r d) ∙ ap (λ b. get_or b 0 d) (sym be)
          ∙ get_or_default c.split_at_mut-before.result.1.now 0 d c.index-after-0.result (omega (arith, lr, bl, al));
      settled = m.settled;
      same_out = m.same_out;
      same_in = m.same_in;
      after = seamed ts c.split_at_mut-before.result.0.now c.split_at_mut-before.result.1.now _ r w c.meet.new.self c.meet.new.reader fe be lo lr
          ∙ ap (λ (x : Task). slice_set (slice_set ts w x) r c.meet.new.reader) m.writer
          ∙ ap (λ (x : Task). slice_set (slice_set ts w (with_out writer c.args.link.out m.sends)) r x) m.reader;
    }
