-- Whatever solves the equations of a stream's operators has the stream's outputs.
use Rattle.std.proofs.Common.{◌≡◌, ℕ, zero, suc, ℤ, ◌+◌, ◌<◌, List, [], ◌∷◌, length, refl, sym, ap, ◌∙◌, subst, arith}
use Rattle.std.specs.Prelude.{codes}
use Rattle.river_base.specs.declared.item.Item as item
use Rattle.river_base.specs.Places.{list_at}
use Rattle.river_plan.specs.Forms.{Name}
use Rattle.river_plan.specs.Uses.{Each}
use Rattle.brooklet_model.specs.Histories.{History, Lists, Solves, lists_of}
use Rattle.river_plan.proofs.ShareLemmas.{each_front, each_back}
use Rattle.streamit_model.specs.Unrolled.{Splitter, Duplicate, RoundRobin, Stream, Filter, Pipeline, SplitJoin, Streams, Last, Then, number_of, IsStream}
use Rattle.streamit_model.specs.Unrolled.{AreStreams, IsSplitter, IsRound}
use Rattle.streamit_model.specs.UnrolledMeans.{branch_input, outputs, in_line, side_by_side}
use Rattle.streamit_model.specs.Plan.{numbered, queue, queues, ops_in, queues_in, splitter, build, build_line, build_branches}
use Rattle.streamit_model.specs.Laws.{as_items, SolutionsMean}
use Rattle.streamit_model.proofs.Kernels.{filter_means, duplicate_means, deal_means, collect_means}

-- the history of queue number k + i
written_at : (n k i : ℕ) (f : ℕ → List item.Item) (h : History) → Lists (queues k n) f h → i < n → h (queue (k + i)) ≡ f i
written_at zero k i f h l lt = absurd (omega (arith, lt))
written_at (suc n) k zero f h l lt = ap (λ j. h (queue j)) (let e : k + 0 ≡ k = omega arith in e) ∙ l.0
written_at (suc n) k (suc i) f h l lt =
    ap (λ j. h (queue j)) (let e : k + suc i ≡ suc k + i = omega arith in e) ∙ written_at n (suc k) i (λ j. f (suc j)) h l.1 (omega (arith, lt))

read_at : (n k i : ℕ) (h : History) → i < n → lists_of h (queues k n) i ≡ h (queue (k + i))
read_at zero k i h lt = absurd (omega (arith, lt))
read_at (suc n) k zero h lt = ap (λ j. h (queue j)) (let e : k ≡ k + 0 = omega arith in e)
read_at (suc n) k (suc i) h lt = read_at n (suc k) i h (omega (arith, lt)) ∙ ap (λ j. h (queue j)) (let e : suc k + i ≡ k + suc i = omega arith in e)

length-side_by_side : (ss : Streams) (f : ℕ → List ℤ) → length (side_by_side ss f) ≡ number_of ss
length-side_by_side (Last s) f = refl
length-side_by_side (Then s ss) f = ap suc (length-side_by_side ss (λ p. f (suc p)))

first_at : (a : ℕ) (h : History) (f : ℕ → List ℤ) → h (queue (a + 0)) ≡ as_items (f 0) → h (queue a) ≡ as_items (f 0)
first_at a h f e = ap (λ j. h (queue j)) (let q : a ≡ a + 0 = omega arith in q) ∙ e

splits : (d : Splitter) (n k i : ℕ) (label from : Name) (h : History) (xs : List ℤ) → IsSplitter d n → Solves h (splitter d n label from (queues k n))
    → h from ≡ as_items xs → i < n → h (queue (k + i)) ≡ as_items (branch_input d i xs)
splits Duplicate n k i label from h xs ok s e lt = written_at n k i _ h s lt ∙ duplicate_means n i (lists_of h (from ∷ [])) lt ∙ e
splits (RoundRobin ws) n k i label from h xs ok s e lt = written_at n k i _ h s lt ∙ deal_means ws n i (lists_of h (from ∷ [])) xs ok lt e

pub joins : (ws : List ℕ) (n k : ℕ) (h : History) (ls : List (List ℤ)) → IsRound ws n → length ls ≡ n
    → ((i : ℕ) → i < n → h (queue (k + i)) ≡ as_items (list_at ls i)) → (i : ℕ) → i < length ls → lists_of h (queues k n) i ≡ as_items (list_at ls i)
joins ws n k h ls r len e i lt = let l : i < n = omega (arith, lt, len) in read_at n k i h l ∙ e i l

mutual
  -- whatever solves the equations of a stream's operators has the stream's output
  pub solved : (s : Stream) (c k : ℕ) (from to : Name) (h : History) (xs : List ℤ) → IsStream s → Each (Solves h) (build s c k from to) → h from ≡ as_items xs
      → h to ≡ as_items (outputs s xs)
  solved (Filter name f) c k from to h xs ok s e = s.0.0 ∙ filter_means f (lists_of h (from ∷ [])) xs ok e
  solved (Pipeline ss) c k from to h xs ok s e = solved_line ss c k from to h xs ok s e
  solved (SplitJoin d ss ws) c k from to h xs ok s e =
      let n = number_of ss in
      let branches = build_branches ss (suc c) (k + (n + n)) k (k + n) in
      let first = λ (i : ℕ) (lt : i < n). splits d n k i (numbered (codes "split") c) from h xs ok.0 s.0 e lt in
      let given = side_by_side ss (λ p. branch_input d p xs) in
      let len = length-side_by_side ss (λ p. branch_input d p xs) in
      let second = solved_branches ss (suc c) (k + (n + n)) k (k + n) h (λ p. branch_input d p xs) ok.1 (each_front (Solves h) branches _ s.1)
      (λ i lt. first i lt) in
      let last = each_back (Solves h) branches _ s.1 in
      last.0.0 ∙ collect_means ws (lists_of h (queues (k + n) n)) given (subst (IsRound ws) (sym len) ok.2) (joins ws n (k + n) h given ok.2 len second)

  solved_line : (ss : Streams) (c k : ℕ) (from to : Name) (h : History) (xs : List ℤ) → AreStreams ss → Each (Solves h) (build_line ss c k from to)
      → h from ≡ as_items xs → h to ≡ as_items (in_line ss xs)
  solved_line (Last s) c k from to h xs ok e0 e = solved s c k from to h xs ok e0 e
  solved_line (Then s ss) c k from to h xs ok e0 e =
      let here = build s c (suc k) from (queue k) in
      let mid = solved s c (suc k) from (queue k) h xs ok.0 (each_front (Solves h) here _ e0) e in
      solved_line ss (c + ops_in s) (suc k + queues_in s) (queue k) to h (outputs s xs) ok.1 (each_back (Solves h) here _ e0) mid

  solved_branches : (ss : Streams) (c k a b : ℕ) (h : History) (f : ℕ → List ℤ) → AreStreams ss → Each (Solves h) (build_branches ss c k a b)
      → ((i : ℕ) → i < number_of ss → h (queue (a + i)) ≡ as_items (f i)) → (i : ℕ) → i < number_of ss
      → h (queue (b + i)) ≡ as_items (list_at (side_by_side ss f) i)
  solved_branches (Last s) c k a b h f ok e0 e i lt =
      let z : i ≡ 0 = omega (arith, lt) in
      ap (λ j. h (queue j)) (let q : b + i ≡ b = omega (arith, z) in q)
      ∙ solved s c k (queue a) (queue b) h (f 0) ok e0 (first_at a h f (e 0 (omega arith)))
      ∙ ap (λ j. as_items (list_at (side_by_side (Last s) f) j)) (sym z)
  solved_branches (Then s ss) c k a b h f ok e0 e zero lt =
      let here = build s c k (queue a) (queue b) in
      ap (λ j. h (queue j)) (let q : b + 0 ≡ b = omega arith in q)
      ∙ solved s c k (queue a) (queue b) h (f 0) ok.0 (each_front (Solves h) here _ e0) (first_at a h f (e 0 (omega arith)))
  solved_branches (Then s ss) c k a b h f ok e0 e (suc i) lt =
      let here = build s c k (queue a) (queue b) in
      ap (λ j. h (queue j)) (let q : b + suc i ≡ suc b + i = omega arith in q)
      ∙ solved_branches ss (c + ops_in s) (k + queues_in s) (suc a) (suc b) h (λ j. f (suc j)) ok.1 (each_back (Solves h) here _ e0)
      (λ j lj. ap (λ m. h (queue m)) (let q : suc a + j ≡ a + suc j = omega arith in q) ∙ e (suc j) (omega (arith, lj)))
      i (omega (arith, lt))

pub solutions_mean : SolutionsMean
solutions_mean s c k from to h xs ok e0 e = solved s c k from to h xs ok e0 e
