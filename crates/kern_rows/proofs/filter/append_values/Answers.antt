use Rattle.std.proofs.Common.{rules, ◌≡◌, ℕ, zero, suc, ℤ, Some, List, [], ◌∷◌, ◌++◌, ◌+◌, take, sym, ap, ◌∙◌, add-one, append_assoc}
use Rattle.std.specs.Prelude.{pos, slice_index_or, slice_get}
use Rattle.river_base.proofs.LoopLemmas.{grew_by_map}
use Rattle.work_code.proofs.Running.{on_err}
use Rattle.kern_rows.specs.Stands.{first_values}
use Rattle.kern_rows.proofs.filter.append_values.Goals as goal

-- one more row
firsts-more : (es : List (ℕ × List ℤ)) (i : ℕ) (e : ℕ × List ℤ) → slice_get es i ≡ Some e
    → first_values (take (suc i) es) ≡ first_values (take i es) ++ slice_index_or e.1 0 (pos 0) ∷ []
firsts-more [] i e h = absurd (cc h)
firsts-more (x ∷ xs) zero e h = let s : x ≡ e = cc in ap (λ r. slice_index_or r.1 0 (pos 0) ∷ []) s
firsts-more (x ∷ xs) (suc i) e h = ap (λ vs. slice_index_or x.1 0 (pos 0) ∷ vs) (firsts-more xs i e h)

-- and one more value
firsts-next : (es : List (ℕ × List ℤ)) (i : ℕ) (e : ℕ × List ℤ) (old now next : List ℤ) → slice_get es i ≡ Some e
    → now ≡ old ++ first_values (take i es) → next ≡ now ++ slice_index_or e.1 0 (pos 0) ∷ [] → next ≡ old ++ first_values (take (i + 1) es)
firsts-next es i e old now next h n g =
    g ∙ ap (λ vs. vs ++ slice_index_or e.1 0 (pos 0) ∷ []) n ∙ append_assoc old (first_values (take i es)) (slice_index_or e.1 0 (pos 0) ∷ [])
    ∙ ap (λ vs. old ++ vs) (sym (firsts-more es i e h)) ∙ ap (λ k. old ++ first_values (take k es)) (sym (add-one i))

pub loop-i-preserved : goal.loop-i-preserved
loop-i-preserved c =
    firsts-next c.args.pushes.now c.loop-i.i (c.at.result.0, c.at.result.1.now) _ c.loop-i.out c.push.new.self c.at.ensures.row c.loop-i.invariant (search rules)

pub returns-in_err-push-clause-err : goal.returns-in_err-push-clause-err
returns-in_err-push-clause-err c =
    on_err c.from_residual.result (grew_by_map (λ e. slice_index_or e.1 0 (pos 0)) c.args.out.now c.push.new.self c.args.pushes.now c.loop-i.i
    (c.in_err-push.ensures.err ∙ c.loop-i.invariant))
