-- The plan of a stream means what the stream means.
use Rattle.std.proofs.Common.{◌≡◌, ℤ, ◌≤◌, List, [], ◌∷◌, ap, arith}
use Rattle.std.specs.Prelude.{codes}
use Rattle.brooklet_model.specs.Histories.{hist}
use Rattle.brooklet_model.proofs.Solutions.{solve_law}
use Rattle.streamit_model.specs.Unrolled.{Stream, IsStream, IsSmall}
use Rattle.streamit_model.specs.UnrolledMeans.{outputs}
use Rattle.streamit_model.specs.Plan.{ops_in, plan_of}
use Rattle.streamit_model.specs.Laws.{as_items, TranslationMeans}
use Rattle.streamit_model.proofs.Solved.{solved}
use Rattle.streamit_model.proofs.Valid.{valid}

out_is : (s : Stream) (xs : List ℤ) → IsStream s → IsSmall s → ops_in s ≤ 256 → hist (plan_of s) (as_items xs ∷ []) (codes "out") ≡ as_items (outputs s xs)
out_is s xs ok small few =
    let v = valid s ok small few in
    let law = solve_law (plan_of s) (as_items xs ∷ []) v in
    let once = v.written_once (codes "in") in
    solved s 1 1 (codes "in") (codes "out") (hist (plan_of s) (as_items xs ∷ [])) xs ok law.0 (law.1 (codes "in") (omega (arith, once)))

-- the law: the plan of a stream means what the stream means
pub translation_means : TranslationMeans
translation_means s xs ok small few = ap (λ l. record { outs = l ∷ []; tables = [] }) (out_is s xs ok small few)
