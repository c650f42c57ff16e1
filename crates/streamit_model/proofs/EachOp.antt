-- What holds of each operator of a stream's plan: of each filter, splitter and joiner.
use Rattle.std.proofs.Common.{ℕ, suc, ◌+◌, ◌<◌, ◌≤◌, List, [], ◌∷◌, IsTrue, arith}
use Rattle.std.specs.Prelude.{codes}
use Rattle.kern_rows.specs.Forms.{FilterForm}
use Rattle.river_kernels.specs.Formed.{is_filter}
use Rattle.river_kernels.specs.Kern.{filter}
use Rattle.river_plan.specs.Forms.{Name, OpForm}
use Rattle.river_plan.specs.Uses.{Each}
use Rattle.river_plan.proofs.ShareLemmas.{each_append}
use Rattle.brooklet_model.specs.ByIndex.{cycle}
use Rattle.streamit_model.specs.Unrolled.{Splitter, Stream, Filter, Pipeline, SplitJoin, Streams, Last, Then, number_of, IsStream, AreStreams, IsSplitter}
use Rattle.streamit_model.specs.Unrolled.{IsRound, IsSmall, AreSmall, IsSmallFilter, IsSmallSplitter}
use Rattle.streamit_model.specs.Plan.{numbered, queue, queues, ops_in, ops_of, queues_in, with_own, splitter, joiner, build, build_line, build_branches}

-- what holds of each operator that a program has
pub record OfEach (P : OpForm → Type 0) : Type 0 where
  pub filters : (label : Name) (f : FilterForm) (from to : Name) → IsTrue (is_filter f) → IsSmallFilter f → P (with_own label (filter f) (from ∷ []) (to ∷ []))
  pub splits : (d : Splitter) (n k : ℕ) (label from : Name) → IsSplitter d n → IsSmallSplitter d → 0 < n → n ≤ 64 → P (splitter d n label from (queues k n))
  pub joins : (ws : List ℕ) (n k : ℕ) (label to : Name) → IsRound ws n → cycle ws ≤ 65536 → 0 < n → n ≤ 64 → P (joiner ws label (queues k n) to)

-- there is a stream
pub some_streams : (ss : Streams) → 0 < number_of ss
some_streams (Last s) = omega arith
some_streams (Then s ss) = omega arith

module _ (P : OpForm → Type 0) (h : OfEach P) where
  mutual
    -- what holds of the operators of filters, splitters and joiners holds of all operators of a plan
    pub each_op : (s : Stream) (c k : ℕ) (from to : Name) → IsStream s → IsSmall s → Each P (build s c k from to)
    each_op (Filter name f) c k from to ok small = (h.filters (numbered name c) f from to ok small, tt)
    each_op (Pipeline ss) c k from to ok small = each_line ss c k from to ok small
    each_op (SplitJoin d ss ws) c k from to ok small =
        let n = number_of ss in (
          h.splits d n k (numbered (codes "split") c) from ok.0 small.1 (some_streams ss) small.0,
          each_append P (build_branches ss (suc c) (k + (n + n)) k (k + n)) (joiner ws (numbered (codes "join") (suc c + ops_of ss)) (queues (k + n) n) to ∷ [])
              (each_branches ss (suc c) (k + (n + n)) k (k + n) ok.1 small.3)
              (h.joins ws n (k + n) (numbered (codes "join") (suc c + ops_of ss)) to ok.2 small.2 (some_streams ss) small.0, tt),
        )

    each_line : (ss : Streams) (c k : ℕ) (from to : Name) → AreStreams ss → AreSmall ss → Each P (build_line ss c k from to)
    each_line (Last s) c k from to ok small = each_op s c k from to ok small
    each_line (Then s ss) c k from to ok small =
        each_append P (build s c (suc k) from (queue k)) (build_line ss (c + ops_in s) (suc k + queues_in s) (queue k) to)
        (each_op s c (suc k) from (queue k) ok.0 small.0) (each_line ss (c + ops_in s) (suc k + queues_in s) (queue k) to ok.1 small.1)

    each_branches : (ss : Streams) (c k a b : ℕ) → AreStreams ss → AreSmall ss → Each P (build_branches ss c k a b)
    each_branches (Last s) c k a b ok small = each_op s c k (queue a) (queue b) ok small
    each_branches (Then s ss) c k a b ok small =
        each_append P (build s c k (queue a) (queue b)) (build_branches ss (c + ops_in s) (k + queues_in s) (suc a) (suc b))
        (each_op s c k (queue a) (queue b) ok.0 small.0) (each_branches ss (c + ops_in s) (k + queues_in s) (suc a) (suc b) ok.1 small.1)
