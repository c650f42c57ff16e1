-- The ends of all links look, one link after another.
use Rattle.std.proofs.Common.{◌≡◌, ℕ, zero, suc, ◌+◌, ◌<◌, ◌≤◌, ◌⊎◌, inl, inr, ⊎_elim, Some, List, [], ◌∷◌, length, map, refl, sym, ap, ◌∙◌, arith}
use Rattle.std.proofs.Common.{subst, get_or, set, get_or-set_other}
use Rattle.std.specs.Prelude.{slice_get}
use Rattle.std.proofs.lemmas.Bool.{cases_eq, cases_lt}
use Rattle.std.proofs.lemmas.Option.{get_or_from_slice_get, slice_get_within, same_Some}
use Rattle.fire_tasks.specs.Inlet as inlet
use Rattle.fire_tasks.specs.Outlet as outlet
use Rattle.fire_open.specs.declared.settling.Link.{Link}
use Rattle.fire_tasks.specs.declared.task.Task.{Task}
use Rattle.fire_tasks.specs.Layout.{IsPair, IsSettled}
use Rattle.fire_tasks.specs.Ports.{in_end, out_end, in_ends, out_ends, sent_of, sent_in, received_in}
use Rattle.fire_open.specs.Settling.{Met, with_out, with_in}
use Rattle.fire_tasks.proofs.PortLemmas.{ins_set, outs_set, received_same}
use Rattle.fire_open.specs.Links.{LinkEnds, IsThere, Swapped, IsPaired, ArePaired, ShareAnEnd, ShareNoEnd, AreMet}
use Rattle.fire_open.specs.TaskCores.{TaskCore, task_core}
use Rattle.fire_open.proofs.Lists.{set_got_is, set_got_other, same_got, map_set}
use Rattle.fire_open.proofs.StillLemmas.{pair_same}

-- an end that sent as much takes the place of another
pub sent_stays : (xs : List outlet.Outlet) (i : ℕ) (x : outlet.Outlet) → sent_of x ≡ sent_of (get_or xs i x) → sent_in (set xs i x) ≡ sent_in xs
sent_stays [] i x e = refl
sent_stays (y ∷ ys) zero x e = ap (λ l. l ∷ sent_in ys) e
sent_stays (y ∷ ys) (suc i) x e = ap (λ l. sent_of y ∷ l) (sent_stays ys i x e)

-- pairs are known by the ends alone
pub still_paired : (ts ts' : List Task) (l : Link) → map task_core ts' ≡ map task_core ts → IsPaired ts l → IsPaired ts' l
still_paired ts ts' l e h =
    let x = h.ends in
    let r = same_got task_core ts ts' (sym e) l.reader x.t x.t_is in
    let w = same_got task_core ts ts' (sym e) l.writer x.t' x.t_is' in
    let ei = ap (λ (s : TaskCore). s.ends.ins) r.2 in
    let eo = ap (λ (s : TaskCore). s.ends.outs) w.2 in
    let i = same_got in_end x.t.ins r.0.ins ei l.port h.in_ x.in_is in
    let f = same_got out_end x.t'.outs w.0.outs eo l.out h.out x.out_is in
    record {
      order = h.order;
      out = f.0;
      in_ = i.0;
      ends = record { t = r.0; t' = w.0; t_is = r.1; t_is' = w.1; in_is = i.1; out_is = f.1 };
      pair = pair_same h.out f.0 h.in_ i.0 (sym f.2) (sym i.2) h.pair;
    }

-- a task of which all but the knowledge of its ends is the same
pub still_by : (t u : Task) → t.op ≡ u.op → in_ends t.ins ≡ in_ends u.ins → out_ends t.outs ≡ out_ends u.outs → received_in t.ins ≡ received_in u.ins
    → sent_in t.outs ≡ sent_in u.outs → t.pending ≡ u.pending → t.bad ≡ u.bad → t.kinds ≡ u.kinds → t.states ≡ u.states
    → t.pending ≡ u.pending → t.out ≡ u.out → t.tables ≡ u.tables → t.classes ≡ u.classes → t.count ≡ u.count → task_core t ≡ task_core u
still_by t u o i os r s p b k st pe ou ta cl c =
    λ j. record {
      ends = record { op = o j; ins = i j; outs = os j };
      seen = record { received = r j; sent = s j; pending = p j; bad = b j };
      kinds =
          k j;
      states = st j;
      pending = pe j;
      out = ou j;
      tables = ta j;
      classes = cl j;
      count = c j;
    }

-- a task after the two ends of a link were put there
pub record After (ts : List Task) (l : Link) (out : outlet.Outlet) (in_ : inlet.Inlet) (k : ℕ) (t' : Task) : Type 0 where
  pub t : Task
  pub t_is : slice_get ts k ≡ Some t
  pub ins : (port : ℕ) → ((l.reader ≡ k) × (l.port ≡ port) → ⊥) → slice_get t'.ins port ≡ slice_get t.ins port
  pub outs : (j : ℕ) → ((l.writer ≡ k) × (l.out ≡ j) → ⊥) → slice_get t'.outs j ≡ slice_get t.outs j
  pub new_in : l.reader ≡ k → (i : inlet.Inlet) → slice_get t'.ins l.port ≡ Some i → i ≡ in_
  pub new_out : l.writer ≡ k → (f : outlet.Outlet) → slice_get t'.outs l.out ≡ Some f → f ≡ out

module _ (ts ts' : List Task) (l : Link) (out : outlet.Outlet) (in_ : inlet.Inlet) (there : IsThere ts l) (m : Swapped ts ts' l out in_) where
  -- the reader is the task that has this end
  pub reader_is : m.reader ≡ there.ends.t
  reader_is = sym (m.reader_is there.ends.t) ∙ get_or_from_slice_get ts l.reader there.ends.t there.ends.t there.ends.t_is

  -- the writer is the task that has this end
  pub writer_is : m.writer ≡ there.ends.t'
  writer_is = sym (m.writer_is there.ends.t') ∙ get_or_from_slice_get ts l.writer there.ends.t' there.ends.t' there.ends.t_is'

  abbrev new_writer : Task
  new_writer = with_out m.writer l.out out

  abbrev new_reader : Task
  new_reader = with_in m.reader l.port in_

  ne : l.writer ≡ l.reader → ⊥
  ne e = let o = there.order in omega (arith, o, e)

  here_reader : (k : ℕ) (t' : Task) → l.reader ≡ k → slice_get (set (set ts l.writer new_writer) l.reader new_reader) k ≡ Some t' → After ts l out in_ k t'
  here_reader k t' e g =
      let x : t' ≡ new_reader =
      set_got_is (set ts l.writer new_writer) l.reader t' new_reader (ap (slice_get (set (set ts l.writer new_writer) l.reader new_reader)) e ∙ g) in
      subst (After ts l out in_ k) (sym x) (record {
        t = m.reader;
        t_is = ap (slice_get ts) (sym e) ∙ there.ends.t_is ∙ ap Some (sym reader_is);
        ins = λ port h. set_got_other m.reader.ins l.port port in_ (λ p. h (e, p));
        outs = λ j h. refl;
        new_in = λ q i gi. set_got_is m.reader.ins l.port i in_ gi;
        new_out = λ q. absurd (ne (q ∙ sym e));
      })

  here_writer : (k : ℕ) (t' : Task) → l.writer ≡ k → (l.reader ≡ k → ⊥) → slice_get (set ts l.writer new_writer) k ≡ Some t' → After ts l out in_ k t'
  here_writer k t' e n g =
      let x : t' ≡ new_writer = set_got_is ts l.writer t' new_writer (ap (slice_get (set ts l.writer new_writer)) e ∙ g) in
      subst (After ts l out in_ k) (sym x) (record {
        t = m.writer;
        t_is = ap (slice_get ts) (sym e) ∙ there.ends.t_is' ∙ ap Some (sym writer_is);
        ins = λ port h. refl;
        outs = λ j h. set_got_other m.writer.outs l.out j out (λ p. h (e, p));
        new_in = λ q. absurd (n q);
        new_out = λ q f gf. set_got_is m.writer.outs l.out f out gf;
      })

  -- what a task is after the two ends of a link were put there
  pub after_task : (k : ℕ) (t' : Task) → slice_get ts' k ≡ Some t' → After ts l out in_ k t'
  after_task k t' g =
      let g1 : slice_get (set (set ts l.writer new_writer) l.reader new_reader) k ≡ Some t' = ap (λ x. slice_get x k) (sym m.after) ∙ g in
      ⊎_elim
      (λ e. here_reader k t' e g1)
      (λ n. ⊎_elim
      (λ e. here_writer k t' e n (sym (set_got_other (set ts l.writer new_writer) l.reader k new_reader n) ∙ g1))
      (λ n'. record {
        t = t';
        t_is = sym (set_got_other ts l.writer k new_writer n') ∙ sym (set_got_other (set ts l.writer new_writer) l.reader k new_reader n) ∙ g1;
        ins = λ port h. refl;
        outs = λ j h. refl;
        new_in = λ e. absurd (n e);
        new_out = λ e. absurd (n' e);
      })
      (cases_eq l.writer k))
      (cases_eq l.reader k)

  -- a view of tasks that sees no difference
  pub view_stays : {B : Type 0} (g : Task → B) → g new_writer ≡ g m.writer → g new_reader ≡ g m.reader → map g ts' ≡ map g ts
  view_stays {B} g sw sr =
      ap (map g) m.after
      ∙ map_set g (set ts l.writer new_writer) l.reader new_reader
      (sr ∙ ap g (sym (m.reader_is new_reader) ∙ sym (get_or-set_other ts l.writer l.reader new_writer new_reader (λ e. ne (sym e)))))
      ∙ map_set g ts l.writer new_writer (sw ∙ ap g (sym (m.writer_is new_writer)))

pub there_of : (ts : List Task) (l : Link) → IsPaired ts l → IsThere ts l
there_of ts l h = record { order = h.order; out = h.out; in_ = h.in_; ends = h.ends }

pub swapped_of : (ts ts' : List Task) (l : Link) (m : Met ts ts' l) → Swapped ts ts' l m.out m.in_
swapped_of ts ts' l m = record { writer = m.writer; reader = m.reader; writer_is = m.writer_is; reader_is = m.reader_is; after = m.after }

pub met_still : (ts ts' : List Task) (l : Link) → IsPaired ts l → Met ts ts' l → map task_core ts' ≡ map task_core ts
unfolding swapped_of
met_still ts ts' l h m =
    let eo : out_end m.out ≡ out_end (get_or m.writer.outs l.out m.out) = (m.same_out m.out).0 in
    let es : sent_of m.out ≡ sent_of (get_or m.writer.outs l.out m.out) = (m.same_out m.out).1 in
    let ei = (m.same_in m.in_).0 in
    let er = (m.same_in m.in_).1 in
    let ao = outs_set m.writer.outs l.out m.out eo in
    let az = sent_stays m.writer.outs l.out m.out es in
    let ai = ins_set m.reader.ins l.port m.in_ ei in
    let ar = received_same m.reader.ins l.port m.in_ er in
    view_stays ts ts' l m.out m.in_ (there_of ts l h) (swapped_of ts ts' l m) task_core
    (still_by (with_out m.writer l.out m.out) m.writer refl refl ao refl az refl refl refl refl refl refl refl refl refl)
    (still_by (with_in m.reader l.port m.in_) m.reader refl ai refl ar refl refl refl refl refl refl refl refl refl refl)

-- two pairs of numbers are the same or not
pub same_or : (a b c d : ℕ) → ((a ≡ b) × (c ≡ d)) ⊎ ((a ≡ b) × (c ≡ d) → ⊥)
same_or a b c d = ⊎_elim
    (λ e. ⊎_elim (λ f. inl (e, f)) (λ n. inr (λ h. n h.1)) (cases_eq c d))
    (λ n. inr (λ h. n h.0))
    (cases_eq a b)

-- links, of which the first n looked
pub record Settling (ts0 : List Task) (ls : List Link) (n : ℕ) (ts : List Task) : Type 0 where
  pub same : map task_core ts ≡ map task_core ts0
  pub met : AreMet ts ls n

-- before the first look nothing changed
pub settling_first : (ts : List Task) (ls : List Link) → Settling ts ls 0 ts
settling_first ts ls = record { same = refl; met = record { each = λ m l f i lt. absurd (omega (arith, lt)) } }

-- one link more has looked
pub settling_next : (ts0 : List Task) (ls : List Link) (n : ℕ) (ts ts' : List Task) (l : Link) → ArePaired ts0 ls → ShareNoEnd ls
    → slice_get ls n ≡ Some l → Settling ts0 ls n ts → Met ts ts' l → Settling ts0 ls (n + 1) ts'
settling_next ts0 ls n ts ts' l paired apart g h m =
    let pl = still_paired ts0 ts l h.same (paired.each n l g) in
    record {
      same = met_still ts ts' l pl m ∙ h.same;
      met = record { each = λ k l2 f i lt g2 x. each pl k l2 f i lt g2 x };
    }
  where
    -- the link itself
    itself : (pl : IsPaired ts l) (f : outlet.Outlet) (i : inlet.Inlet) → LinkEnds ts' l f i → IsSettled f i
    itself pl f i x =
        let ar = after_task ts ts' l m.out m.in_ (there_of ts l pl) (swapped_of ts ts' l m) l.reader x.t x.t_is in
        let aw = after_task ts ts' l m.out m.in_ (there_of ts l pl) (swapped_of ts ts' l m) l.writer x.t' x.t_is' in
        subst (λ z. IsSettled z i) (sym (aw.new_out refl f x.out_is)) (subst (IsSettled m.out) (sym (ar.new_in refl i x.in_is)) m.settled)

    each : (pl : IsPaired ts l) (k : ℕ) (l2 : Link) (f : outlet.Outlet) (i : inlet.Inlet) → k < n + 1 → slice_get ls k ≡ Some l2 → LinkEnds ts' l2 f i
        → IsSettled f i
    each pl k l2 f i lt g2 x = ⊎_elim
        (λ e. same_one pl k l2 f i g2 x (inl e))
        (λ nr. ⊎_elim
        (λ e. same_one pl k l2 f i g2 x (inr e))
        (λ nw.
        let ar = after_task ts ts' l m.out m.in_ (there_of ts l pl) (swapped_of ts ts' l m) l2.reader x.t x.t_is in
        let aw = after_task ts ts' l m.out m.in_ (there_of ts l pl) (swapped_of ts ts' l m) l2.writer x.t' x.t_is' in
        let other : n ≡ k → ⊥ =
        (λ e. nr (let q : l ≡ l2 = same_Some l l2 (sym g ∙ ap (slice_get ls) e ∙ g2) in (ap (λ (y : Link). y.reader) q, ap (λ (y : Link). y.port) q))) in
        h.met.each k l2 f i (⊎_elim (λ z. z) (λ ge. absurd (other (omega (arith, ge, lt)))) (cases_lt k n)) g2 (record {
          t = ar.t;
          t' = aw.t;
          t_is = ar.t_is;
          t_is' = aw.t_is;
          in_is = sym (ar.ins l2.port nr) ∙ x.in_is;
          out_is = sym (aw.outs l2.out nw) ∙ x.out_is;
        }))
        (same_or l.writer l2.writer l.out l2.out))
        (same_or l.reader l2.reader l.port l2.port)
      where
        same_one : (pl : IsPaired ts l) (k : ℕ) (l2 : Link) (f : outlet.Outlet) (i : inlet.Inlet) → slice_get ls k ≡ Some l2 → LinkEnds ts' l2 f i
            → ShareAnEnd l l2 → IsSettled f i
        same_one pl k l2 f i g2 x s =
            let e : l ≡ l2 = apart.each n k l l2 g g2 s in
            itself pl f i (subst (λ y. LinkEnds ts' y f i) (sym e) x)

-- what is asked where a link looks
pub record Asks (ts : List Task) (l : Link) : Type 0 where
  pub order : l.writer < l.reader
  pub reader : l.reader < length ts
  pub out : (d : Task) → l.out < length (get_or ts l.writer d).outs
  pub port : (d : Task) → l.port < length (get_or ts l.reader d).ins
  pub pair : (t t' : Task) (f : outlet.Outlet) (i : inlet.Inlet)
      → IsPair (get_or (get_or ts l.writer t).outs l.out f) (get_or (get_or ts l.reader t').ins l.port i)

asks : (ts : List Task) (l : Link) → IsPaired ts l → Asks ts l
asks ts l p =
    let x = p.ends in
    let w = λ (d : Task). get_or_from_slice_get ts l.writer x.t' d x.t_is' in
    let r = λ (d : Task). get_or_from_slice_get ts l.reader x.t d x.t_is in
    record {
      order = p.order;
      reader = slice_get_within ts l.reader x.t x.t_is;
      out = λ d. subst (λ (y : Task). l.out < length y.outs) (sym (w d)) (slice_get_within x.t'.outs l.out p.out x.out_is);
      port = λ d. subst (λ (y : Task). l.port < length y.ins) (sym (r d)) (slice_get_within x.t.ins l.port p.in_ x.in_is);
      pair = λ t t' f i.
          subst (λ (y : Task). IsPair (get_or y.outs l.out f) (get_or (get_or ts l.reader t').ins l.port i)) (sym (w t))
          (subst (λ (y : Task). IsPair (get_or x.t'.outs l.out f) (get_or y.ins l.port i)) (sym (r t'))
          (subst (λ y. IsPair y (get_or x.t.ins l.port i)) (sym (get_or_from_slice_get x.t'.outs l.out p.out f x.out_is))
          (subst (IsPair p.out) (sym (get_or_from_slice_get x.t.ins l.port p.in_ i x.in_is)) p.pair)));
    }

-- what is asked where the next link looks
pub asks_at : (ts0 ts : List Task) (ls : List Link) (n : ℕ) (l : Link) → ArePaired ts0 ls → Settling ts0 ls n ts → slice_get ls n ≡ Some l → Asks ts l
asks_at ts0 ts ls n l p s g = asks ts l (still_paired ts0 ts l s.same (p.each n l g))

-- all links have looked
pub met_all : (ts0 ts : List Task) (ls : List Link) (n : ℕ) → Settling ts0 ls n ts → length ls ≤ n → AreMet ts ls (length ls)
met_all ts0 ts ls n s le = record { each = λ m l f i lt g x. s.met.each m l f i (omega (arith, lt, le)) g x }
