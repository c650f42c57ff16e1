-- The queue of a link, as the code finds it.
use Rattle.std.proofs.Common.{◌≡◌, ℕ, ◌<◌, Some, [], length, get_or, sym, ap, ◌∙◌, subst}
use Rattle.std.specs.Prelude.{slice_get}
use Rattle.std.proofs.lemmas.Option.{get_or_from_slice_get, slice_get-get_or, slice_get_within, same_Some}
use Rattle.river_base.proofs.Lists.{got_map}
use Rattle.river_plan.specs.Forms.{Name, OpForm, PlanForm, plan_form, op_form, op_forms}
use Rattle.river_plan.specs.declared.op.Op.{Op}
use Rattle.river_plan.specs.declared.plan.RawPlan.{RawPlan}
use Rattle.brooklet_step.proofs.NextLemmas.{op_there}
use Rattle.fire_open.specs.Links.{IsLinkOf, link_queue, writes_in}
use Rattle.fire_open.specs.declared.settling.Link.{Link}

-- the operator at a place of the lists
writer_at : (raw : RawPlan) (p : PlanForm) (i : ℕ) (d : Op) (op : OpForm) → plan_form raw ≡ p → slice_get p.ops i ≡ Some op → d ≡ get_or raw.ops i d
    → op_form d ≡ op
writer_at raw p i d op v g at =
    let lt : i < length raw.ops = op_there raw p i op v g in
    let s : slice_get raw.ops i ≡ Some d = slice_get-get_or raw.ops i d lt ∙ ap Some (sym at) in
    let h : slice_get (op_forms raw.ops) i ≡ Some op = ap (λ (q : PlanForm). slice_get q.ops i) v ∙ g in
    same_Some (op_form d) op (sym (got_map op_form raw.ops i d s) ∙ h)

-- it has the port that the link has
pub port_there : (raw : RawPlan) (p : PlanForm) (l : Link) (d : Op) → plan_form raw ≡ p → IsLinkOf p l → d ≡ get_or raw.ops l.writer d → l.out < length d.writes
port_there raw p l d v k at =
    subst (λ (op : OpForm). l.out < length op.writes) (sym (writer_at raw p l.writer d k.write v k.write_is at))
    (slice_get_within k.write.writes l.out k.queue k.writes)

-- a link has the queue that its writer writes
pub queue_here : (p : PlanForm) (l : Link) (op : OpForm) (q : Name) → slice_get p.ops l.writer ≡ Some op → slice_get op.writes l.out ≡ Some q
    → link_queue p l ≡ q
queue_here p l op q g w = ap (λ o. get_or (writes_in o) l.out []) g ∙ get_or_from_slice_get op.writes l.out q [] w

-- and that is found there
pub queue_found : (raw : RawPlan) (p : PlanForm) (l : Link) (d : Op) (q : Name) → plan_form raw ≡ p → IsLinkOf p l → d ≡ get_or raw.ops l.writer d
    → q ≡ get_or d.writes l.out q → q ≡ link_queue p l
queue_found raw p l d q v k at found =
    let same : op_form d ≡ k.write = writer_at raw p l.writer d k.write v k.write_is at in
    found ∙ ap (λ (op : OpForm). get_or op.writes l.out q) same ∙ get_or_from_slice_get k.write.writes l.out k.queue q k.writes
    ∙ sym (queue_here p l k.write k.queue k.write_is k.writes)
