-- What a take received is the front of what was known to be there.
use Rattle.std.proofs.Common.{◌≡◌, ℕ, ◌<◌, Some, List, [], ◌∷◌, ◌++◌, length, sym, ap, ◌∙◌, arith, subst, ⊎_elim, append_assoc, get_or}
use Rattle.std.specs.Prelude.{slice_get}
use Rattle.std.proofs.lemmas.List.{length-map}
use Rattle.std.proofs.lemmas.Option.{get_or_from_slice_get, slice_get_within, same_Some}
use Rattle.river_base.proofs.Lists.{there_is}
use Rattle.river_base.proofs.PlaceLemmas.{append_here}
use Rattle.river_base.specs.declared.item.Item as item
use Rattle.river_base.specs.Places.{append_at, list_at}
use Rattle.river_plan.proofs.NameLemmas.{more_or_zero}
use Rattle.river_plan.specs.Forms.{PlanForm}
use Rattle.river_plan.specs.Uses.{total, writes_it}
use Rattle.river_plan.specs.Valid.{IsPlan}
use Rattle.brooklet_model.specs.Bounded.{Capacities}
use Rattle.brooklet_model.specs.Laws.{given_to}
use Rattle.fire_tasks.specs.Inlet as inlet
use Rattle.fire_tasks.specs.declared.task.Task.{Task}
use Rattle.fire_tasks.specs.Adds.{added, logs_of}
use Rattle.fire_tasks.specs.Ports.{known_of, received_in, received_of}
use Rattle.fire_tasks.specs.Tasks.{IsTask, TaskEnds, all_ends, ends_of}
use Rattle.fire_tasks.proofs.PortLemmas.{ins_many}
use Rattle.fire_tasks.proofs.NetLemmas.{settled_ring, kept_input, received_here}
use Rattle.fire_open.proofs.Lists.{same_got}
use Rattle.fire_run.specs.declared.net.Net.{Net}
use Rattle.fire_run.specs.NetOf.{IsNetOf}
use Rattle.fire_run.proofs.RingPairs.{ring_pair, sents}

cancel : (xs ys zs : List item.Item) → xs ++ ys ≡ xs ++ zs → ys ≡ zs
cancel [] ys zs e = e
cancel (x ∷ xs) ys zs e = let t : xs ++ ys ≡ xs ++ zs = cc e in cancel xs ys zs t

front_is : (xs xs' ys ys' : List item.Item) (x : item.Item) → xs ++ ys ≡ xs' ++ ys' → xs' ≡ xs ++ x ∷ [] → ys ≡ x ∷ ys'
front_is xs xs' ys ys' x e r = cancel xs ys (x ∷ ys') (e ∙ ap (λ l. l ++ ys') r ∙ append_assoc xs (x ∷ []) ys')

-- the item is the front of what lies there
abbrev pub IsFront : List inlet.Inlet → ℕ → item.Item → Type 0
IsFront ins port x = (d : inlet.Inlet) → (rest : List item.Item) × (known_of (get_or ins port d) ≡ x ∷ rest)

module _ (p : PlanForm) (inputs : List (List item.Item)) (caps : Capacities) (net net' : Net) (v : IsPlan p) (n : IsNetOf p inputs caps net)
    (n' : IsNetOf p inputs caps net') (ends : all_ends net'.tasks ≡ all_ends net.tasks) (same : sents net'.tasks ≡ sents net.tasks) where
  -- what came to what was received is the front of what was known
  pub front_taken : (o port : ℕ) (t t' : Task) (x : item.Item) → slice_get net.tasks o ≡ Some t → slice_get net'.tasks o ≡ Some t' → port < length t.ins
      → received_in t'.ins ≡ append_at (received_in t.ins) port (x ∷ []) → IsFront t.ins port x
  front_taken o port t t' x g g' lt r d =
      let en = same_got ends_of net'.tasks net.tasks ends o t' g' in
      let et : ends_of t' ≡ ends_of t = en.2 ∙ ap ends_of (same_Some en.0 t (sym en.1 ∙ g)) in
      let lt' : port < length t'.ins = (let m = ins_many t.ins t'.ins (ap (λ (y : TaskEnds). y.ins) et) in omega (arith, m, lt)) in
      let i = there_is t.ins port lt in
      let i' = there_is t'.ins port lt' in
      let er : received_of i'.0 ≡ received_of i.0 ++ x ∷ [] = sym (received_here t'.ins port i'.0 i'.1) ∙ ap (λ ls. list_at ls port) r
      ∙ append_here (received_in t.ins) port (x ∷ []) (let m = length-map t.ins received_of in omega (arith, m, lt))
      ∙ ap (λ l. l ++ x ∷ []) (received_here t.ins port i.0 i.1) in
      let k = n.tasks.each o t (slice_get_within net.tasks o t g) in
      let k1 : IsTask p (added p (logs_of net.cells) t.op) t =
      subst (λ (y : Task). IsTask p (added p (logs_of net.cells) y.op) y) (get_or_from_slice_get net.tasks o t t g) k in
      let op_is : slice_get p.ops o ≡ Some k1.op = ap (slice_get p.ops) (sym (n.laid.numbers o t g)) ∙ k1.op_is in
      let q = there_is k1.op.reads port (let e = k1.ins in omega (arith, e, lt)) in
      let both : received_of i.0 ++ known_of i.0 ≡ received_of i'.0 ++ known_of i'.0 = ⊎_elim
      (λ w. let r = ring_pair p inputs caps net net' n n' same o port k1.op q.0 t t' i.0 i'.0 op_is q.1 g g' i.1 i'.1 w in
      settled_ring r.out i.0 r.settled ∙ sym r.sent ∙ sym (settled_ring r.out' i'.0 r.settled'))
      (λ none. kept_input (given_to p inputs q.0) i.0 (n.laid.inputs_are o port k1.op q.0 t i.0 op_is q.1 none g i.1)
      ∙ sym (kept_input (given_to p inputs q.0) i'.0 (n'.laid.inputs_are o port k1.op q.0 t' i'.0 op_is q.1 none g' i'.1)))
      (more_or_zero (total (writes_it q.0) p.ops)) in (
        known_of i'.0,
        ap known_of (get_or_from_slice_get t.ins port i.0 d i.1)
            ∙ front_is (received_of i.0) (received_of i'.0) (known_of i.0) (known_of i'.0) x both er,
      )
