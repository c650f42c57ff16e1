-- The laws on programs and on fed kernels.
use Rattle.std.proofs.Common.{[], ◌∷◌, sym, ap, ◌∙◌}
use Rattle.streamit_model.specs.Laws.{as_items, FedFilters, FedSplitters, FedJoiners, ProgramsMean}
use Rattle.streamit_model.proofs.FilterMet.{filter_met}
use Rattle.streamit_model.proofs.FormedMet.{filter_formed}
use Rattle.streamit_model.proofs.Kernels.{filter_means, duplicate_means, deal_means, collect_means}
use Rattle.streamit_model.proofs.ProgramMet.{program_met}
use Rattle.streamit_model.proofs.Translated.{translation_means}
use Rattle.streamit_model.proofs.Valid.{plans_are_valid}

-- the law: the plan of a program that is accepted is valid, and means what the program means
pub programs_mean : ProgramsMean
programs_mean p name s others xs low h =
    let a = program_met p name s others low h in
    let f = a.fits in (
      plans_are_valid s f.formed f.small a.few,
      translation_means s xs f.formed f.small a.few
          ∙ ap (λ l. record { outs = as_items l ∷ []; tables = [] }) (f.works xs),
    )

pub fed_filters : FedFilters
fed_filters t f g xs low h e = filter_means f g xs (filter_formed t f low h).0 e ∙ ap as_items (sym (filter_met t f xs h))

pub fed_splitters : FedSplitters
fed_splitters ws n p g xs r lt e = (deal_means ws n p g xs r lt e, duplicate_means n p g lt ∙ e)

pub fed_joiners : FedJoiners
fed_joiners ws g ls r e = collect_means ws g ls r e
