-- Names with numbers behind them.
use Rattle.std.proofs.Common.{◌≡◌, ℕ, zero, suc, ◌+◌, ◌^◌, ◌<◌, ◌≤◌, true, List, [], ◌∷◌, ◌++◌, length, sym, ap, ◌∙◌, arith, length-append, add-one}
use Rattle.std.proofs.Common.{get_or, take, pos}
use Rattle.std.specs.Prelude.{◌&&◌, codes, nat_le}
use Rattle.std.specs.List.{list_all}
use Rattle.std.specs.Fmt.{decimal}
use Rattle.std.proofs.lemmas.Bool.{and_from, and_parts, true≢false}
use Rattle.std.proofs.lemmas.Fmt.{length-decimal-le}
use Rattle.std.proofs.lemmas.List.{take_more, map-append}
use Rattle.std.proofs.lemmas.List.Folds.{list_all-append}
use Rattle.river_base.proofs.Tests.{le_true}
use Rattle.river_base.specs.Name.{is_letter, is_digit, is_word, is_name}
use Rattle.river_plan.specs.Forms.{Name}
use Rattle.streamit_model.specs.Plan.{numbered, queue, queues, weights}
use Rattle.streamit_model.proofs.Named.{decimal_goes}

queues-suc : (k n : ℕ) → queues k (suc n) ≡ queues k n ++ queue (k + n) ∷ []
queues-suc k zero = ap (λ j. queue j ∷ []) (let e : k ≡ k + 0 = omega arith in e)
queues-suc k (suc n) =
    ap (λ l. queue k ∷ l) (queues-suc (suc k) n ∙ ap (λ j. queues (suc k) n ++ queue j ∷ []) (let e : suc k + n ≡ k + suc n = omega arith in e))

-- one queue more
pub queues-more : (k n : ℕ) → queues k (n + 1) ≡ queues k n ++ queue (k + n) ∷ []
queues-more k n = ap (queues k) (add-one n) ∙ queues-suc k n

-- one weight more
pub weights-more : (ws : List ℕ) (i w : ℕ) → i < length ws → w ≡ get_or ws i w → weights (take (i + 1) ws) ≡ weights (take i ws) ++ pos w ∷ []
weights-more ws i w lt e = ap weights (take_more ws i w lt ∙ ap (λ x. take i ws ++ x ∷ []) (sym e)) ∙ map-append pos (take i ws) (w ∷ [])

-- a name of at most 40 bytes with a number behind it is a name
pub numbered_is_name : (name : Name) (k : ℕ) → is_name name ≡ true → length name ≤ 40 → k < 2 ^ 32 → is_name (numbered name k) ≡ true
unfolding is_word is_letter is_digit
numbered_is_name [] k h len lt = absurd (true≢false (sym h))
numbered_is_name (b ∷ bs) k h len lt =
    let p = and_parts (is_letter b) (list_all is_word bs && nat_le (length bs) 63) h in
    let q = and_parts (list_all is_word bs) (nat_le (length bs) 63) p.1 in
    let d = decimal_goes k (omega (arith, lt)) in
    let l = length-decimal-le 10 k (omega arith) (omega (arith, lt)) (omega (arith, lt)) in
    let all : list_all is_word (bs ++ (codes "@" ++ decimal k)) ≡ true = list_all-append is_word bs (codes "@" ++ decimal k)
    ∙ and_from (list_all is_word bs) (list_all is_word (decimal k)) q.0 d in
    let few : length (bs ++ (codes "@" ++ decimal k)) ≤ 63 = (let a = length-append bs (codes "@" ++ decimal k) in omega (arith, a, l, len)) in
    and_from (is_letter b) _ p.0 (and_from (list_all is_word (bs ++ (codes "@" ++ decimal k))) _ all (le_true (length (bs ++ (codes "@" ++ decimal k))) 63 few))
