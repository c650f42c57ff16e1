-- Loops that look for names.
use Rattle.std.proofs.Common.{◌≡◌, ℕ, zero, suc, ◌+◌, ◌<◌, ◌≤◌, Bool, true, false, Some, None, List, [], ◌∷◌, ◌++◌, length, take, drop, get_or, refl, sym, ap}
use Rattle.std.proofs.Common.{◌∙◌, subst, arith, append_assoc, pos}
use Rattle.std.specs.Prelude.{if◌then◌else◌, nat_lt, slice_index_or, slice_get, Result, OnOk}
use Rattle.std.proofs.lemmas.Result.{on_ok_weaker}
use Rattle.std.proofs.lemmas.List.{at_drop_more, take_more, replicate_more, take_all, length-map, map-append}
use Rattle.std.proofs.lemmas.Option.{same_Some}
use Rattle.river_plan.proofs.ValidLaw.{total-append}
use Rattle.river_base.proofs.PlaceLemmas.{if_lt, if_ge}
use Rattle.rw_fission.specs.Fission.{decls, names_without, equal_weights, each_op}
use Rattle.river_base.specs.Name.{name_eq}
use Rattle.river_base.specs.declared.kind.QueueType.{QueueType}
use Rattle.river_plan.specs.declared.plan.Decl.{Decl}
use Rattle.river_plan.specs.declared.plan.TableDecl.{TableDecl}
use Rattle.river_plan.specs.Forms.{Name, OpForm, PlanForm, table_names, all_decls, op_form, op_forms}
use Rattle.river_plan.specs.Kinds.{kind_of}
use Rattle.river_plan.specs.Names.{count, one_if}
use Rattle.rw_fission.specs.Asked.{packs_way, packs_to}
use Rattle.river_kernels.specs.Kern.{Kern, kern_of}
use Rattle.river_plan.specs.declared.op.Op.{Op}
use Rattle.river_plan.specs.Uses.{total, named_it}
use Rattle.rw_fission.specs.Code.{IsPlace}
use Rattle.plan_edits.specs.Lists.{first_with, swapped}
use Rattle.rw_fission.proofs.Declared.{length_each}
use Rattle.rw_fission.specs.Made.{FissionNames, each_name}

-- TABLES

-- whether a name is a table
abbrev pub has_table : Name → List TableDecl → Bool
has_table x ts = nat_lt 0 (count x (table_names ts))

table_past : (x : Name) (t : TableDecl) (ts : List TableDecl) → name_eq t.name x ≡ false → has_table x (t ∷ ts) ≡ has_table x ts
table_past x t ts h =
    ap (λ b. nat_lt 0 (one_if b + count x (table_names ts))) h
    ∙ (let e : 0 + count x (table_names ts) ≡ count x (table_names ts) = omega arith in ap (nat_lt 0) e)

table_here : (x : Name) (t : TableDecl) (ts : List TableDecl) → name_eq t.name x ≡ true → has_table x (t ∷ ts) ≡ true
table_here x t ts h = ap (λ b. nat_lt 0 (one_if b + count x (table_names ts))) h ∙ some (count x (table_names ts))
  where
    some : (k : ℕ) → nat_lt 0 (1 + k) ≡ true
    some k = grind arith

-- another table is not the one that is looked for
pub table_next : (x : Name) (ts : List TableDecl) (i : ℕ) (t : TableDecl) → i < length ts → t ≡ get_or ts i t → name_eq t.name x ≡ false
    → has_table x (drop i ts) ≡ has_table x ts → has_table x (drop (i + 1) ts) ≡ has_table x ts
table_next x ts i t lt e n h =
    sym (table_past x t (drop (i + 1) ts) n) ∙ ap (λ u. has_table x (u ∷ drop (i + 1) ts)) e ∙ sym (at_drop_more (has_table x) ts i t lt) ∙ h

-- the table is there
pub table_found : (x : Name) (ts : List TableDecl) (i : ℕ) (t : TableDecl) → i < length ts → t ≡ get_or ts i t → name_eq t.name x ≡ true
    → has_table x (drop i ts) ≡ has_table x ts → has_table x ts ≡ true
table_found x ts i t lt e n h =
    sym h ∙ at_drop_more (has_table x) ts i t lt ∙ ap (λ u. has_table x (u ∷ drop (i + 1) ts)) (sym e) ∙ table_here x t (drop (i + 1) ts) n

-- TYPES

-- FORMS

-- the way of an operator with one output
pub one_way : (p : PlanForm) (op : OpForm) (m : FissionNames) (n : ℕ) (ws vs : List Name) (w : Name) (k : QueueType) → length ws ≡ 1 → vs ≡ []
    → ((d : Name) → w ≡ slice_index_or ws 0 d) → k ≡ kind_of (all_decls p) w → packs_way p op m n ws vs ≡ packs_to p op m n k
one_way p op m n [] vs w k l e at h = absurd (omega (arith, l))
one_way p op m n (x ∷ []) [] w k l e at h = ap (λ y. packs_to p op m n (kind_of (all_decls p) y)) (sym (at x)) ∙ ap (packs_to p op m n) (sym h)
one_way p op m n (x ∷ []) (v ∷ vs) w k l e at h = absurd (cc e)
one_way p op m n (x ∷ y ∷ ws) vs w k l e at h = absurd (omega (arith, l))

-- NAMES IN LISTS

-- whether a name is in a list
abbrev pub has_name : Name → List Name → Bool
has_name x ws = nat_lt 0 (count x ws)

-- another name is not the one that is looked for
pub name_next : (x : Name) (ws : List Name) (i : ℕ) (w : Name) → i < length ws → w ≡ get_or ws i w → name_eq w x ≡ false
    → has_name x (drop i ws) ≡ has_name x ws → has_name x (drop (i + 1) ws) ≡ has_name x ws
name_next x ws i w lt e n h =
    sym (ap (λ b. nat_lt 0 (one_if b + count x (drop (i + 1) ws))) n
    ∙ (let z : 0 + count x (drop (i + 1) ws) ≡ count x (drop (i + 1) ws) = omega arith in ap (nat_lt 0) z))
    ∙ ap (λ u. has_name x (u ∷ drop (i + 1) ws)) e ∙ sym (at_drop_more (has_name x) ws i w lt) ∙ h

-- the name is there
pub name_found : (x : Name) (ws : List Name) (i : ℕ) (w : Name) → i < length ws → w ≡ get_or ws i w → name_eq w x ≡ true
    → has_name x (drop i ws) ≡ has_name x ws → has_name x ws ≡ true
name_found x ws i w lt e n h =
    sym h ∙ at_drop_more (has_name x) ws i w lt ∙ ap (λ u. has_name x (u ∷ drop (i + 1) ws)) (sym e)
    ∙ ap (λ b. nat_lt 0 (one_if b + count x (drop (i + 1) ws))) n ∙ some (count x (drop (i + 1) ws))
  where
    some : (k : ℕ) → nat_lt 0 (1 + k) ≡ true
    some k = grind arith

-- a loop that appends what is made of each element
pub appended_next : {A B : Type 0} (F : List A → List B) → ((xs ys : List A) → F (xs ++ ys) ≡ F xs ++ F ys)
    → (start now new : List B) (xs : List A) (i : ℕ) (x : A) (more : List B)
    → i < length xs → x ≡ get_or xs i x → new ≡ now ++ more → more ≡ F (x ∷ []) → now ≡ start ++ F (take i xs) → new ≡ start ++ F (take (i + 1) xs)
appended_next F law start now new xs i x more lt e g m h =
    g ∙ ap (λ l. l ++ more) h ∙ append_assoc start (F (take i xs)) more ∙ ap (λ l. start ++ (F (take i xs) ++ l)) (m ∙ ap (λ y. F (y ∷ [])) e)
    ∙ ap (λ l. start ++ l) (sym (law (take i xs) (get_or xs i x ∷ [])) ∙ ap F (sym (take_more xs i x lt)))

-- declarations of two lists of names
pub decls_join : (t : QueueType) (xs ys : List Name) → decls t (xs ++ ys) ≡ decls t xs ++ decls t ys
decls_join t [] ys = refl
decls_join t (x ∷ xs) ys = ap (λ l. record { name = x; kind = t } ∷ l) (decls_join t xs ys)

-- the names that are kept of two lists
pub without_join : (gone xs ys : List Name) → names_without gone (xs ++ ys) ≡ names_without gone xs ++ names_without gone ys
without_join gone [] ys = refl
without_join gone (x ∷ xs) ys = arms (nat_lt (count x gone) 1) (without_join gone xs ys)
  where
    arms : (b : Bool) → names_without gone (xs ++ ys) ≡ names_without gone xs ++ names_without gone ys
        → (if b then x ∷ names_without gone (xs ++ ys) else names_without gone (xs ++ ys))
        ≡ (if b then x ∷ names_without gone xs else names_without gone xs) ++ names_without gone ys
    arms true h = ap (λ l. x ∷ l) h
    arms false h = h

-- one weight more
pub weights_more : (n w : ℕ) → equal_weights (n + 1) w ≡ equal_weights n w ++ pos w ∷ []
weights_more n w = sym (replicate_more n (pos w))

-- OPERATORS

-- one of the made names
pub each_at : (f : ℕ → Name) (n i : ℕ) (d : Name) → i < n → slice_index_or (each_name f n) i d ≡ f i
each_at f zero i d lt = absurd (omega (arith, lt))
each_at f (suc n) zero d lt = refl
each_at f (suc n) (suc i) d lt = each_at (λ k. f (suc k)) n i d (omega (arith, lt))

-- the place of a made name
pub made_below : (f : ℕ → Name) (n i : ℕ) (ws : List Name) → ws ≡ each_name f n → i < n → i < length ws
made_below f n i ws e lt = let a = ap length e ∙ length_each f n in omega (arith, a, lt)

-- the made name at a place
pub made_at : (f : ℕ → Name) (n i : ℕ) (ws : List Name) (x : Name) → ws ≡ each_name f n → i < n → ((d : Name) → x ≡ slice_index_or ws i d) → x ≡ f i
made_at f n i ws x e lt h = h x ∙ ap (λ l. slice_index_or l i x) e ∙ each_at f n i x lt

-- an operator by its parts
pub op_by : (l l' : Name) (k k' : Kern) (r r' w w' v v' : List Name) → l ≡ l' → k ≡ k' → r ≡ r' → w ≡ w' → v ≡ v'
    → ◌≡◌ {A = OpForm} (record { label = l; kernel = k; reads = r; writes = w; vars = v })
    (record { label = l'; kernel = k'; reads = r'; writes = w'; vars = v' })
op_by l l' k k' r r' w w' v v' a b c d e = λ i. record { label = a i; kernel = b i; reads = c i; writes = d i; vars = e i }

-- one operator more
pub each_op_more : (g : ℕ → OpForm) (n : ℕ) → each_op g (n + 1) ≡ each_op g n ++ g n ∷ []
each_op_more g zero = refl
each_op_more g (suc n) = let e : suc n + 1 ≡ suc (n + 1) = omega arith in ap (each_op g) e ∙ ap (λ l. g 0 ∷ l) (each_op_more (λ i. g (suc i)) n)

-- one more operator
pub op_pushed : (ops ops' : List Op) (x : Op) → ops' ≡ ops ++ x ∷ [] → op_forms ops' ≡ op_forms ops ++ op_form x ∷ []
op_pushed ops ops' x e = ap op_forms e ∙ map-append op_form ops (x ∷ [])

-- an operator that was appended, by its parts
pub pushed_as : {T E : Type 0} (r : Result T E) (ops ops' : List Op) (x : Op) (o : OpForm) → OnOk r (ops' ≡ ops ++ x ∷ [])
    → x.label ≡ o.label → kern_of x.kernel ≡ o.kernel → x.reads ≡ o.reads → x.writes ≡ o.writes → x.vars ≡ o.vars
    → OnOk r (op_forms ops' ≡ op_forms ops ++ o ∷ [])
pushed_as r ops ops' x o h a b c d e = on_ok_weaker r
    (λ p. op_pushed ops ops' x p ∙ ap (λ y. op_forms ops ++ y ∷ [])
    (op_by x.label o.label (kern_of x.kernel) o.kernel x.reads o.reads x.writes o.writes x.vars o.vars a b c d e)) h

-- one replica more
pub copies_next : (g : ℕ → OpForm) (i : ℕ) (start : List OpForm) (ops ops' : List Op) (x : Op) → ops' ≡ ops ++ x ∷ [] → op_form x ≡ g i
    → op_forms ops ≡ start ++ each_op g i → op_forms ops' ≡ start ++ each_op g (i + 1)
copies_next g i start ops ops' x e h k =
    op_pushed ops ops' x e ∙ ap (λ l. l ++ op_form x ∷ []) k ∙ append_assoc start (each_op g i) (op_form x ∷ [])
    ∙ ap (λ o. start ++ (each_op g i ++ o ∷ [])) h ∙ ap (λ l. start ++ l) (sym (each_op_more g i))

-- the operators that were appended
pub split_pushed : (start : List OpForm) (x : Op) (s : OpForm) (news joins a b c : List OpForm) → a ≡ start ++ op_form x ∷ [] → op_form x ≡ s → b ≡ a ++ news
    → c ≡ b ++ joins → c ≡ start ++ s ∷ (news ++ joins)
split_pushed start x s news joins a b c ea ex eb ec =
    ec ∙ ap (λ l. l ++ joins) (eb ∙ ap (λ l. l ++ news) (ea ∙ ap (λ o. start ++ o ∷ []) ex)) ∙ append_assoc (start ++ s ∷ []) news joins
    ∙ append_assoc start (s ∷ []) (news ++ joins)

-- one operator gives way to others
form_at : (ops : List Op) (i : ℕ) (d : Op) → i < length ops → slice_get (op_forms ops) i ≡ Some (op_form (slice_index_or ops i d))
form_at [] i d lt = absurd (omega (arith, lt))
form_at (x ∷ xs) zero d lt = refl
form_at (x ∷ xs) (suc i) d lt = form_at xs i d (omega (arith, lt))

forms_take : (i : ℕ) (ops : List Op) → op_forms (take i ops) ≡ take i (op_forms ops)
forms_take zero ops = refl
forms_take (suc i) [] = refl
forms_take (suc i) (x ∷ xs) = ap (λ l. op_form x ∷ l) (forms_take i xs)

forms_drop : (i : ℕ) (ops : List Op) → op_forms (drop i ops) ≡ drop i (op_forms ops)
forms_drop zero ops = refl
forms_drop (suc i) [] = refl
forms_drop (suc i) (x ∷ xs) = forms_drop i xs

-- the operators with others in the place of one
pub place_split : (ops : List Op) (i : ℕ) (o : Op) (op : OpForm) (S : OpForm → List OpForm) (a b c : List OpForm) → i < length ops
    → ((d : Op) → o ≡ slice_index_or ops i d) → slice_get (op_forms ops) i ≡ Some op
    → a ≡ op_forms (take i ops) → b ≡ a ++ S (op_form o) → c ≡ b ++ op_forms (drop (i + 1) ops)
    → c ≡ take i (op_forms ops) ++ (S op ++ drop (i + 1) (op_forms ops))
place_split ops i o op S a b c lt h g ea eb ec =
    let same : op_form o ≡ op = ap op_form (h o) ∙ same_Some (op_form (slice_index_or ops i o)) op (sym (form_at ops i o lt) ∙ g) in
    ec ∙ ap (λ l. l ++ op_forms (drop (i + 1) ops)) (eb ∙ ap (λ l. l ++ S (op_form o)) ea ∙ ap (λ x. op_forms (take i ops) ++ S x) same)
    ∙ append_assoc (op_forms (take i ops)) (S op) (op_forms (drop (i + 1) ops))
    ∙ ap (λ l. l ++ (S op ++ op_forms (drop (i + 1) ops))) (forms_take i ops) ∙ ap (λ l. take i (op_forms ops) ++ (S op ++ l)) (forms_drop (i + 1) ops)

-- the operator at a place
pub the_op : (ops : List Op) (i : ℕ) (o : Op) (op : OpForm) → i < length ops → ((d : Op) → o ≡ slice_index_or ops i d) → slice_get (op_forms ops) i ≡ Some op
    → op_form o ≡ op
the_op ops i o op lt h g = ap op_form (h o) ∙ same_Some (op_form (slice_index_or ops i o)) op (sym (form_at ops i o lt) ∙ g)

-- THE PLACE OF A LABEL

-- the place of a label
pub place_found : (l : Name) (ops : List OpForm) (i : ℕ) (op : OpForm) → slice_get ops i ≡ Some op → total (named_it l) (take i ops) ≡ 0 → 0 < named_it l op
    → IsPlace l ops i
place_found l [] i op g z h = absurd (cc g)
place_found l (x ∷ xs) zero op g z h =
    let e : x ≡ op = same_Some x op g in
    let lt : 0 < named_it l x = subst (λ o. 0 < named_it l o) (sym e) h in
    record {
      below = omega arith;
      op = op;
      at = g;
      first = if_lt 0 (named_it l x) (Some x) (first_with (named_it l) xs) lt ∙ ap (λ o. Some o) e;
      swap = λ news. if_lt 0 (named_it l x) (news ++ xs) (x ∷ swapped l news xs) lt;
    }
place_found l (x ∷ xs) (suc i) op g z h =
    let r = place_found l xs i op g (omega (arith, z)) h in
    record {
      below = (let b = r.below in omega (arith, b));
      op = op;
      at = g;
      first = if_ge 0 (named_it l x) (Some x) (first_with (named_it l) xs) (omega (arith, z)) ∙ r.first ∙ sym r.at ∙ g;
      swap = λ news. if_ge 0 (named_it l x) (news ++ xs) (x ∷ swapped l news xs) (omega (arith, z)) ∙ ap (λ t. x ∷ t) (r.swap news)
          ∙ (let e : suc i + 1 ≡ suc (i + 1) = omega arith in ap (λ k. x ∷ (take i xs ++ (news ++ drop k (x ∷ xs)))) (sym e));
    }

-- no operator has the label
pub place_none : (l : Name) (ops : List OpForm) → total (named_it l) ops ≡ 0 → first_with (named_it l) ops ≡ None
place_none l [] z = refl
place_none l (x ∷ xs) z = if_ge 0 (named_it l x) (Some x) (first_with (named_it l) xs) (omega (arith, z)) ∙ place_none l xs (omega (arith, z))

take_forms : (ops : List Op) (i : ℕ) (d : Op) → i < length ops → take (i + 1) (op_forms ops) ≡ take i (op_forms ops) ++ op_form (slice_index_or ops i d) ∷ []
take_forms [] i d lt = absurd (omega (arith, lt))
take_forms (x ∷ xs) zero d lt = refl
take_forms (x ∷ xs) (suc i) d lt =
    let e : suc i + 1 ≡ suc (i + 1) = omega arith in ap (λ k. take k (op_forms (x ∷ xs))) e ∙ ap (λ t. op_form x ∷ t) (take_forms xs i d (omega (arith, lt)))

-- an operator of another label
pub no_place_yet : (l : Name) (ops : List Op) (i : ℕ) (o : Op) → i < length ops → ((d : Op) → o ≡ slice_index_or ops i d) → name_eq o.label l ≡ false
    → total (named_it l) (take i (op_forms ops)) ≡ 0 → total (named_it l) (take (i + 1) (op_forms ops)) ≡ 0
no_place_yet l ops i o lt h n z =
    let a = ap (total (named_it l)) (take_forms ops i o lt) ∙ total-append (named_it l) (take i (op_forms ops)) (op_form (slice_index_or ops i o) ∷ []) in
    let b = ap (λ u. named_it l (op_form u)) (sym (h o)) in
    let c = ap one_if n in
    omega (arith, a, b, c, z)

-- the operator at this place has the label
pub place_is : (l : Name) (ops : List Op) (i : ℕ) (o : Op) → i < length ops → ((d : Op) → o ≡ slice_index_or ops i d) → name_eq o.label l ≡ true
    → total (named_it l) (take i (op_forms ops)) ≡ 0 → IsPlace l (op_forms ops) i
place_is l ops i o lt h n z =
    place_found l (op_forms ops) i (op_form o) (form_at ops i o lt ∙ ap (λ u. Some (op_form u)) (sym (h o))) z (let c = ap one_if n in omega (arith, c))

-- no operator is left
pub no_place : (l : Name) (ops : List Op) (i : ℕ) → length ops ≤ i → total (named_it l) (take i (op_forms ops)) ≡ 0
    → first_with (named_it l) (op_forms ops) ≡ None
no_place l ops i le z =
    place_none l (op_forms ops) (ap (total (named_it l)) (sym (take_all i (op_forms ops) (let e = length-map ops op_form in omega (arith, e, le)))) ∙ z)

-- a plan by its lists
pub plan_by : (os os' is is' qs qs' : List Decl) (ts ts' : List TableDecl) (vs vs' : List Name) (ops ops' : List OpForm) → os ≡ os' → is ≡ is' → qs ≡ qs'
    → ts ≡ ts' → vs ≡ vs' → ops ≡ ops'
    → ◌≡◌ {A = PlanForm} (record { outputs = os; inputs = is; queues = qs; tables = ts; vars = vs; ops = ops })
    (record { outputs = os'; inputs = is'; queues = qs'; tables = ts'; vars = vs'; ops = ops' })
plan_by os os' is is' qs qs' ts ts' vs vs' ops ops' a b c d e f = λ i. record { outputs = a i; inputs = b i; queues = c i; tables = d i; vars = e i; ops = f i }
