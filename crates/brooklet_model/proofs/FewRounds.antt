-- There are few rounds.
use Rattle.std.proofs.Common.{◌≡◌, ◌≢◌, ℕ, zero, suc, ◌+◌, ◌*◌, ◌≤◌, false, refl, Option, Some, None, List, [], ◌∷◌, ◌++◌, length, sym, ap, ◌∙◌}
use Rattle.std.proofs.Common.{subst, arith}
use Rattle.std.proofs.Common.{⊎_elim, length-append}
use Rattle.std.specs.Prelude.{slice_get}
use Rattle.river_base.proofs.PlaceLemmas.{if_true, if_false}
use Rattle.river_base.specs.declared.item.Item as item
use Rattle.river_base.specs.Name.{name_eq}
use Rattle.river_plan.specs.Forms.{Name, OpForm, PlanForm, queue_names}
use Rattle.river_plan.specs.Names.{one_if, count}
use Rattle.river_plan.specs.Uses.{total, writes_it}
use Rattle.river_plan.specs.Valid.{IsPlan}
use Rattle.river_plan.proofs.NameLemmas.{cases_name, name_same}
use Rattle.brooklet_model.specs.Bounded.{Bounded, Capacities, sent, at_first, Send, Take, ManyMoves, Rounds, MoveOrEnd}
use Rattle.brooklet_model.specs.Histories.{History, hist, lengths}
use Rattle.brooklet_model.specs.NetLaws.{NetsStay, RoundsAreFew}
use Rattle.brooklet_model.specs.Nets.{IsNet, and_took, sent_count_in}
use Rattle.brooklet_model.specs.Received.{moves_from, lengths_at}
use Rattle.brooklet_model.specs.Traced.{ran, sum_numbered}
use Rattle.brooklet_model.specs.Words.{Word}
use Rattle.brooklet_model.proofs.BoundedMoves.{took_sent}
use Rattle.brooklet_model.proofs.FewMoves.{few_law}
use Rattle.brooklet_model.proofs.Lists.{funext}
use Rattle.brooklet_model.proofs.NetsKept.{nets_law}
use Rattle.brooklet_model.proofs.Traces.{at_most, got_count, at_key_same, at_key_other, numbered_more}

-- ONE MORE ITEM

-- one more item in one queue is one more wherever the queue stands
lengths_more : (h h' : History) (q : Name) (qs : List Name) → length (h' q) ≡ length (h q) + 1
    → ((n : Name) → n ≢ q → length (h' n) ≡ length (h n)) → lengths h' qs ≡ lengths h qs + count q qs
lengths_more h h' q [] e o = omega arith
lengths_more h h' q (w ∷ ws) e o =
    let i = lengths_more h h' q ws e o in
    ⊎_elim
    (λ c. let k = ap one_if c.1 in let a = ap (λ n. length (h n)) c.0 in let b = ap (λ n. length (h' n)) c.0 in omega (arith, i, k, a, b, e))
    (λ c. let k = ap one_if c.1 in let a = o w c.0 in omega (arith, i, k, a))
    (cases_name w q)

total_more : (f f' g : OpForm → ℕ) (ops : List OpForm) → ((op : OpForm) → f' op ≡ f op + g op) → total f' ops ≡ total f ops + total g ops
total_more f f' g [] e = omega arith
total_more f f' g (op ∷ ops) e = let i = total_more f f' g ops e in let a = e op in omega (arith, i, a)

-- THE MOVES MADE

-- how many items operators sent
abbrev sends_made : List OpForm → History → ℕ
sends_made ops h = total (λ op. lengths h op.writes) ops

-- how many items they took
abbrev takes_made : List OpForm → (ℕ → Word) → ℕ
takes_made ops ws = sum_numbered (λ o op. length (ws o)) 0 ops

sent_is : (b : Bounded) (qs : List Name) → sent_count_in b qs ≡ lengths (sent b) qs
sent_is b [] = omega arith
sent_is b (q ∷ qs) = let i = sent_is b qs in omega (arith, i)

sent_by : Bounded → Option OpForm → ℕ
sent_by b None = 0
sent_by b (Some op) = sent_count_in b op.writes

sent_by_is : (b : Bounded) (o : ℕ) (op : OpForm) (ops : List OpForm) → slice_get ops o ≡ Some op → sent_by b (slice_get ops o) ≡ sent_count_in b op.writes
unfolding sent_by
sent_by_is b o op ops g = ap (sent_by b) g

moves_are : (b : Bounded) (ws : ℕ → Word) (s : ℕ → ℕ) (ops : List OpForm) (o : ℕ)
    → ((i : ℕ) (op : OpForm) → slice_get ops i ≡ Some op → s (o + i) ≡ sent_count_in b op.writes)
    → moves_from o ops ws s ≡ sum_numbered (λ i op. length (ws i)) o ops + sends_made ops (sent b)
moves_are b ws s [] o e = omega arith
moves_are b ws s (op ∷ ops) o e =
    let z : o + 0 ≡ o = omega arith in
    let a : s o ≡ sent_count_in b op.writes = subst (λ n. s n ≡ sent_count_in b op.writes) z (e 0 op refl) in
    let c = sent_is b op.writes in
    let i = moves_are b ws s ops (suc o)
    (λ i op' g. let y : o + suc i ≡ suc o + i = omega arith in subst (λ n. s n ≡ sent_count_in b op'.writes) y (e (suc i) op' g)) in
    omega (arith, a, c, i)

module _ (p : PlanForm) (inputs : List (List item.Item)) (caps : Capacities) (v : IsPlan p) where
  stays : NetsStay p inputs caps
  stays = nets_law p inputs caps v

  -- so many moves at least were made, by a net that keeps what nets keep
  record Made (n : ℕ) (b : Bounded) : Type 0 where
    words : ℕ → Word
    net : IsNet p inputs caps words b
    made : n ≤ takes_made p.ops words + sends_made p.ops (sent b)

  made_first : Made 0 (at_first p inputs)
  made_first = record { words = λ o. []; net = stays.first; made = omega arith }

  made_send : (n : ℕ) (b b' : Bounded) (o port : ℕ) → Made n b → Send p caps b o port b' → Made (suc n) b'
  made_send n b b' o port m s =
      let q = s.queue in
      let e = s.after in
      let here : length (sent b' q) ≡ length (sent b q) + 1 =
      (let a = ap (λ (c : Bounded). length (sent c q)) e in
      let i = ap (λ l. length (b.taken q ++ l)) (if_true (name_eq q q) (b.left q ++ s.item ∷ []) (b.left q) (name_same q)) in
      let k = length-append (b.taken q) (b.left q ++ s.item ∷ []) in
      let l = length-append (b.left q) (s.item ∷ []) in
      let j = length-append (b.taken q) (b.left q) in
      omega (arith, a, i, k, l, j)) in
      let there : (x : Name) → x ≢ q → length (sent b' x) ≡ length (sent b x) =
      (λ x ne. ap (λ (c : Bounded). length (sent c x)) e
      ∙ ap (λ l. length (b.taken x ++ l)) (if_false (name_eq q x) (b.left q ++ s.item ∷ []) (b.left x) (other_name q x ne))) in
      let t = total_more (λ op. lengths (sent b) op.writes) (λ op. lengths (sent b') op.writes) (λ op. count q op.writes) p.ops
      (λ op. lengths_more (sent b) (sent b') q op.writes here there) in
      let one = at_most (writes_it q) p.ops o s.op s.op_is in
      let is = got_count s.op.writes port q s.queue_is in
      let k = m.made in
      record { words = m.words; net = stays.sends m.words b b' o port s m.net; made = omega (arith, t, one, is, k) }
    where
      other_name : (q x : Name) → x ≢ q → name_eq q x ≡ false
      other_name q x ne = ⊎_elim (λ c. absurd (ne (sym c.0))) (λ c. c.1) (cases_name q x)

  made_take : (n : ℕ) (b b' : Bounded) (o port : ℕ) → Made n b → Take p b o port b' → Made (suc n) b'
  made_take n b b' o port m t =
      let ws = m.words in
      let ws' = and_took o port t.item ws in
      let same : sent b' ≡ sent b = ap sent t.after ∙ funext _ (sent b) (took_sent t.queue t.item t.rest b t.item_is) in
      let s = ap (sends_made p.ops) same in
      let z : o ≡ 0 + o = omega arith in
      let here : length (ws' o) ≡ length (ws o) + 1 =
      ap length (at_key_same o (ws o ++ (port, t.item) ∷ []) ws) ∙ length-append (ws o) ((port, t.item) ∷ []) in
      let f = numbered_more (λ i op. length (ws i)) (λ i op. length (ws' i)) p.ops 0 o 1 t.op t.op_is
      (subst (λ i. length (ws' i) ≡ length (ws i) + 1) z here)
      (λ i op ne. ap length (sym (at_key_other o (ws o ++ (port, t.item) ∷ []) ws i (λ e. ne (sym e ∙ z))))) in
      let k = m.made in
      record { words = ws'; net = stays.takes ws b b' o port t m.net; made = omega (arith, s, f, k) }

  made_moves : (n k : ℕ) (b b' : Bounded) → Made k b → ManyMoves p caps n b b' → Made (k + n) b'
  made_moves zero k b b' m r = let z : k ≡ k + 0 = omega arith in subst (λ i. Made i b') z (subst (Made k) (sym r) m)
  made_moves (suc n) k b b' m r =
      let next = ⊎_elim (λ s. made_send k b r.2 r.0 r.1 m s) (λ t. made_take k b r.2 r.0 r.1 m t) r.3 in
      let z : suc k + n ≡ k + suc n = omega arith in
      subst (λ i. Made i b') z (made_moves n (suc k) r.2 b' next r.4)

  made_rounds : (ns : List ℕ) (k : ℕ) (b b' : Bounded) → Made k b → Rounds p caps ns b b' → MoveOrEnd ns
      → (n : ℕ) × (k + length ns ≤ 1 + n) × Made n b'
  made_rounds [] k b b' m r e = (k, omega arith, subst (Made k) (sym r) m)
  made_rounds (n ∷ []) k b b' m r e = (k + n, omega arith, subst (Made (k + n)) (sym r.2) (made_moves n k b r.0 m r.1))
  made_rounds (n ∷ n' ∷ ns) k b b' m r e =
      let i = made_rounds (n' ∷ ns) (k + n) r.0 b' (made_moves n k b r.0 m r.1) r.2 e.1 in
      let a = i.1 in
      let c = e.0 in
      (i.0, omega (arith, a, c), i.2)

  made_few : (n : ℕ) (b : Bounded) → Made n b → n ≤ 2 * lengths (hist p inputs) (queue_names p)
  made_few n b m =
      let s = λ (o : ℕ). sent_by b (slice_get p.ops o) in
      let is : (o : ℕ) (op : OpForm) → slice_get p.ops o ≡ Some op → s o ≡ sent_count_in b op.writes = (λ o op g. sent_by_is b o op p.ops g) in
      let few = few_law p inputs m.words s v m.net.words
      (λ o op g. subst (λ k. k ≤ lengths_at op.writes (ran op (m.words o)).outs) (sym (is o op g)) (stays.sent m.words b o op m.net g)) in
      let all = moves_are b m.words s p.ops 0 (λ i op g. let z : i ≡ 0 + i = omega arith in subst (λ j. s j ≡ sent_count_in b op.writes) z (is i op g)) in
      let k = m.made in
      omega (arith, few, all, k)

-- there is at most one more round than moves
pub rounds_law : RoundsAreFew
rounds_law p inputs caps rounds b v r e =
    let i = made_rounds p inputs caps v rounds 0 (at_first p inputs) b (made_first p inputs caps v) r e in
    let a = i.1 in
    let c = made_few p inputs caps v i.0 b i.2 in
    omega (arith, a, c)
