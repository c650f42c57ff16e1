use Rattle.std.proofs.Common.{◌∷◌, [], ap, ◌∙◌}
use Rattle.work_code.specs.Steps.{code_body}
use Rattle.river_kernels.specs.Kern.{code as code_of}
use Rattle.saw_front.proofs.lists.map_op.Goals as goal

pub returns : goal.returns
returns c =
    let reads = c.in_ok-reads.ensures ∙ ap (λ n. n ∷ []) c.of.ensures in
    c.map_by.ensures
    ∙ (λ i. record {
      label = c.of-label.ensures i;
      kernel = code_of (record { body = code_body c.args.code; outs = c.in_ok-outs.ensures i; starts = [] });
      reads = reads i;
      writes = c.in_ok-writes.ensures i;
      vars = [];
    })
