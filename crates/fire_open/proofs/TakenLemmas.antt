-- Lines that are taken out at places: each place is read at one port.
use Rattle.std.proofs.Common.{◌≡◌, ℕ, zero, suc, ◌+◌, ◌<◌, Some, List, [], ◌∷◌, ◌++◌, length, map, refl, sym, ap, ◌∙◌, arith, subst, get_or, take, take-suc}
use Rattle.std.specs.Prelude.{slice_get, slice_set, AllPairs}
use Rattle.std.proofs.lemmas.Option.{slice_get-get_or, slice_get_within, get_or_from_slice_get, same_Some}
use Rattle.river_base.proofs.Lists.{there_is, got_last}
use Rattle.river_base.specs.declared.item.Item as item
use Rattle.river_base.specs.declared.kind.QueueType.{QueueType}
use Rattle.river_base.specs.Places.{list_at}
use Rattle.river_plan.specs.Forms.{OpForm, PlanForm, queue_names}
use Rattle.river_plan.specs.Places.{place, read_places}
use Rattle.river_plan.specs.Uses.{reads_it}
use Rattle.river_plan.specs.Valid.{IsPlan}
use Rattle.river_plan.proofs.PlaceLemmas.{place_apart}
use Rattle.brooklet_model.proofs.Traces.{one_place, place_once, got_count, at_most}
use Rattle.brooklet_step.proofs.ReadLemmas.{places_at}
use Rattle.fire_tasks.specs.Inlet as inlet
use Rattle.fire_tasks.specs.declared.task.Task.{Task}
use Rattle.fire_open.specs.First.{whole_list, IsNoneOf, HasLeft, IsFirstTask, AreFirstTasks}
use Rattle.fire_open.proofs.FirstLemmas.{map_got, reads_there, first_none, first_more}

-- the lines that no operator before number o reads are as they were at first
pub record AreUnread (p : PlanForm) (qs0 : List (List item.Item)) (o : ℕ) (qs : List (List item.Item)) : Type 0 where
  pub many : length qs ≡ length qs0
  pub each : (n : ℕ) → ((m : ℕ) → m < o → IsNoneOf (list_at (read_places p) m) n) → list_at qs n ≡ list_at qs0 n

-- ONE PORT FOR EACH PLACE

-- a place that is read at two ports is read at one
pub one_port : (p : PlanForm) → IsPlan p → (o o' i j n : ℕ) → o < length p.ops → o' < length p.ops → slice_get (list_at (read_places p) o) i ≡ Some n
    → slice_get (list_at (read_places p) o') j ≡ Some n → (o ≡ o') × (i ≡ j)
one_port p v o o' i j n lo lo' g g' =
    let x = there_is p.ops o lo in
    let y = there_is p.ops o' lo' in
    let ex = places_at (λ d. d.reads) (queue_names p) p.ops o x.0 x.1 in
    let ey = places_at (λ d. d.reads) (queue_names p) p.ops o' y.0 y.1 in
    let a = map_got (place (queue_names p)) x.0.reads i n (ap (λ l. slice_get l i) (sym ex) ∙ g) in
    let b = map_got (place (queue_names p)) y.0.reads j n (ap (λ l. slice_get l j) (sym ey) ∙ g') in
    let ca = got_count x.0.reads i a.0 a.1 in
    let cb = got_count y.0.reads j b.0 b.1 in
    let e : a.0 ≡ b.0 = place_apart (queue_names p) a.0 b.0 (reads_there p v o x.0 x.1 a.0 ca) (reads_there p v o' y.0 y.1 b.0 cb) (a.2 ∙ sym b.2) in
    let gb : slice_get y.0.reads j ≡ Some a.0 = b.1 ∙ ap Some (sym e) in
    let r = v.read_once a.0 in
    let eo : o ≡ o' = one_place (reads_it a.0) p.ops o o' x.0 y.0 (omega (arith, r)) x.1 y.1 ca (got_count y.0.reads j a.0 gb) in
    let ex' : x.0 ≡ y.0 = same_Some x.0 y.0 (sym x.1 ∙ ap (slice_get p.ops) eo ∙ y.1) in
    let m = at_most (reads_it a.0) p.ops o x.0 x.1 in
    (eo, place_once x.0.reads i j a.0 (omega (arith, r, m)) a.1 (ap (λ (d : OpForm). slice_get d.reads j) ex' ∙ gb))

-- the places of one operator are apart
pub reads_apart : (p : PlanForm) (o : ℕ) (ps : List ℕ) → IsPlan p → o < length p.ops → ps ≡ list_at (read_places p) o → AllPairs (λ m n. m ≡ n → ⊥) ps
reads_apart p o ps v lt e i j d li lj same =
    let gi = slice_get-get_or ps i d (omega (arith, li, lj)) in
    let gj = slice_get-get_or ps j d lj in
    let r = one_port p v o o i j (get_or ps i d) lt lt (ap (λ l. slice_get l i) (sym e) ∙ gi) (ap (λ l. slice_get l j) (sym e) ∙ gj ∙ ap Some (sym same)) in
    let k = r.1 in
    omega (arith, li, k)

-- LINES TAKEN OUT

list_same : (qs : List (List item.Item)) (n : ℕ) (l : List item.Item) → n < length qs → list_at (slice_set qs n l) n ≡ l
list_same [] n l lt = absurd (omega (arith, lt))
list_same (q ∷ qs) zero l lt = refl
list_same (q ∷ qs) (suc n) l lt = list_same qs n l (omega (arith, lt))

list_other : (qs : List (List item.Item)) (n k : ℕ) (l : List item.Item) → (n ≡ k → ⊥) → list_at (slice_set qs n l) k ≡ list_at qs k
list_other [] n k l ne = refl
list_other (q ∷ qs) zero zero l ne = absurd (ne refl)
list_other (q ∷ qs) zero (suc k) l ne = refl
list_other (q ∷ qs) (suc n) zero l ne = refl
list_other (q ∷ qs) (suc n) (suc k) l ne = list_other qs n k l (λ e. ne (ap suc e))

set_many : (qs : List (List item.Item)) (n : ℕ) (l : List item.Item) → length (slice_set qs n l) ≡ length qs
set_many [] n l = refl
set_many (q ∷ qs) zero l = refl
set_many (q ∷ qs) (suc n) l = ap suc (set_many qs n l)

-- the lines of these places were put at ports
pub record InsOf (qs0 : List (List item.Item)) (ps : List ℕ) (ins : List inlet.Inlet) (qs : List (List item.Item)) : Type 0 where
  pub ins_are : ins ≡ map (whole_list qs0) ps
  pub left : HasLeft ps qs0 qs

pub ins_first : (qs : List (List item.Item)) → InsOf qs [] [] qs
ins_first qs = record { ins_are = refl; left = record { many = refl; others = λ n a. refl } }

map_more : (qs : List (List item.Item)) (ps : List ℕ) (n : ℕ) → map (whole_list qs) (ps ++ n ∷ []) ≡ map (whole_list qs) ps ++ whole_list qs n ∷ []
map_more qs [] n = refl
map_more qs (p ∷ ps) n = ap (λ l. whole_list qs p ∷ l) (map_more qs ps n)

snoc_got : {A : Type 0} (xs : List A) (x y : A) (i : ℕ) → slice_get xs i ≡ Some y → slice_get (xs ++ x ∷ []) i ≡ Some y
snoc_got [] x y i g = absurd (cc g)
snoc_got (a ∷ xs) x y zero g = g
snoc_got (a ∷ xs) x y (suc i) g = snoc_got xs x y i g

pub ins_more : (qs0 : List (List item.Item)) (ps : List ℕ) (n : ℕ) (ins ins' : List inlet.Inlet) (qs qs' : List (List item.Item)) (i : inlet.Inlet)
    → InsOf qs0 ps ins qs → IsNoneOf ps n
    → i ≡ whole_list qs n → qs' ≡ slice_set qs n [] → ins' ≡ ins ++ i ∷ [] → InsOf qs0 (ps ++ n ∷ []) ins' qs'
ins_more qs0 ps n ins ins' qs qs' i h a ei eq en = record {
  ins_are = en ∙ ap (λ l. l ++ i ∷ []) h.ins_are
      ∙ ap (λ x. map (whole_list qs0) ps ++ x ∷ []) (ei ∙ ap (λ l. whole_of l) (h.left.others n a)) ∙ sym (map_more qs0 ps n);
  left = record {
    many = ap length eq ∙ set_many qs n [] ∙ h.left.many;
    others = λ k b.
        ap (λ l. list_at l k) eq
        ∙ list_other qs n k [] (λ e. b (length ps) (got_last ps n ∙ ap Some e))
        ∙ h.left.others k (λ port g. b port (snoc_got ps n k port g));
  };
}
  where
    whole_of : List item.Item → inlet.Inlet
    whole_of l = whole_list (l ∷ []) 0

-- a place behind the first ones of a list that has each once is none of these
pub apart_behind : (ps : List ℕ) (i : ℕ) (d : ℕ) → AllPairs (λ m n. m ≡ n → ⊥) ps → i < length ps → IsNoneOf (take i ps) (get_or ps i d)
apart_behind ps i d a lt port g =
    let b = slice_get_within (take i ps) port (get_or ps i d) g in
    let lp : port < i = taken_within ps i port (get_or ps i d) g in
    a port i d lp lt (get_or_from_slice_get ps port (get_or ps i d) d (taken_got ps i port (get_or ps i d) g))
  where
    taken_got : (xs : List ℕ) (k n x : ℕ) → slice_get (take k xs) n ≡ Some x → slice_get xs n ≡ Some x
    taken_got [] zero n x g = g
    taken_got [] (suc k) n x g = g
    taken_got (y ∷ xs) zero n x g = absurd (cc g)
    taken_got (y ∷ xs) (suc k) zero x g = g
    taken_got (y ∷ xs) (suc k) (suc n) x g = taken_got xs k n x g

    taken_within : (xs : List ℕ) (k n x : ℕ) → slice_get (take k xs) n ≡ Some x → n < k
    taken_within [] zero n x g = absurd (cc g)
    taken_within [] (suc k) n x g = absurd (cc g)
    taken_within (y ∷ xs) zero n x g = absurd (cc g)
    taken_within (y ∷ xs) (suc k) zero x g = omega arith
    taken_within (y ∷ xs) (suc k) (suc n) x g = let r = taken_within xs k n x g in omega (arith, r)

-- before the first port nothing was taken out
pub ins_begin : (qs : List (List item.Item)) (ins : List inlet.Inlet) → ins ≡ [] → InsOf qs [] ins qs
ins_begin qs ins e = subst (λ is. InsOf qs [] is qs) (sym e) (ins_first qs)

-- the line of one port more was taken out
pub ins_next : (qs0 : List (List item.Item)) (ps : List ℕ) (i : ℕ) (ins ins' : List inlet.Inlet) (qs qs' : List (List item.Item)) (x : inlet.Inlet)
    → AllPairs (λ m n. m ≡ n → ⊥) ps
    → InsOf qs0 (take i ps) ins qs → i < length ps → x ≡ whole_list qs (get_or ps i 0) → qs' ≡ slice_set qs (get_or ps i 0) [] → ins' ≡ ins ++ x ∷ []
    → InsOf qs0 (take (i + 1) ps) ins' qs'
ins_next qs0 ps i ins ins' qs qs' x a h lt ex eq en =
    let next : suc i ≡ i + 1 = omega arith in
    let taken : take (i + 1) ps ≡ take i ps ++ get_or ps i 0 ∷ [] = ap (λ k. take k ps) (sym next) ∙ take-suc ps i 0 lt in
    subst (λ l. InsOf qs0 l ins' qs') (sym taken) (ins_more qs0 (take i ps) (get_or ps i 0) ins ins' qs qs' x h (apart_behind ps i 0 a lt) ex eq en)

-- OPERATOR BY OPERATOR

pub unread_first : (p : PlanForm) (qs : List (List item.Item)) → AreUnread p qs 0 qs
unread_first p qs = record { many = refl; each = λ n h. refl }

pub unread_more : (p : PlanForm) (qs0 qs qs' : List (List item.Item)) (o : ℕ) → AreUnread p qs0 o qs → HasLeft (list_at (read_places p) o) qs qs'
    → AreUnread p qs0 (o + 1) qs'
unread_more p qs0 qs qs' o h l = record {
  many = l.many ∙ h.many;
  each = λ n a. l.others n (a o (omega arith)) ∙ h.each n (λ m lt. a m (omega (arith, lt)));
}

-- what an operator reads was read by none before it
pub first_again : (p : PlanForm) (v : IsPlan p) (qs0 qs : List (List item.Item)) (ins : List inlet.Inlet) (o : ℕ) → o < length p.ops → AreUnread p qs0 o qs
    → ins ≡ map (whole_list qs) (list_at (read_places p) o) → ins ≡ map (whole_list qs0) (list_at (read_places p) o)
first_again p v qs0 qs ins o lt h e = e ∙ same_lists (list_at (read_places p) o) (λ port n g. h.each n (λ m lm port' g'.
    let r = (one_port p v m o port' port n (omega (arith, lm, lt)) lt g' g).0 in omega (arith, r, lm)))
  where
    same_lists : (ps : List ℕ) → ((port n : ℕ) → slice_get ps port ≡ Some n → list_at qs n ≡ list_at qs0 n) → map (whole_list qs) ps ≡ map (whole_list qs0) ps
    same_lists [] s = refl
    same_lists (n ∷ ps) s = λ j. whole_list ((s 0 n refl) j ∷ []) 0 ∷ same_lists ps (λ port k g. s (suc port) k g) j

-- the first tasks of the first operators, whose lines were taken out
pub record TasksSoFar (p : PlanForm) (qs0 : List (List item.Item)) (kinds : List QueueType) (n : ℕ) (ts : List Task) (qs : List (List item.Item)) : Type 0 where
  pub tasks : AreFirstTasks p qs0 kinds n ts
  pub left : AreUnread p qs0 n qs

-- before the first operator there is no task
pub so_far_first : (p : PlanForm) (qs : List (List item.Item)) (kinds : List QueueType) (ts : List Task) → ts ≡ [] → TasksSoFar p qs kinds 0 ts qs
so_far_first p qs kinds ts e = record { tasks = first_none p qs kinds ts e; left = unread_first p qs }

-- one task more, with the lines that it reads
pub so_far_more : (p : PlanForm) (qs0 : List (List item.Item)) (kinds : List QueueType) (n : ℕ) (ts ts' : List Task) (qs qs' : List (List item.Item))
    (t : Task) → IsPlan p
    → TasksSoFar p qs0 kinds n ts qs → IsFirstTask p qs kinds n t → HasLeft (list_at (read_places p) n) qs qs' → ts' ≡ ts ++ t ∷ []
    → TasksSoFar p qs0 kinds (n + 1) ts' qs'
so_far_more p qs0 kinds n ts ts' qs qs' t v h f l e = record {
  tasks = first_more p qs0 kinds n ts ts' t h.tasks (record {
    there = f.there;
    number = f.number;
    ins = first_again p v qs0 qs t.ins n f.there h.left f.ins;
    kinds_are = f.kinds_are;
    outs = f.outs;
    pending = f.pending;
    first = f.first;
    homes = f.homes;
    count = f.count;
    bad = f.bad;
  }) e;
  left = unread_more p qs0 qs qs' n h.left l;
}
