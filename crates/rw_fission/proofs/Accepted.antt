-- What an accepted step found.
use Rattle.std.proofs.Common.{◌≡◌, ℕ, ◌<◌, ◌≤◌, ◌⊎◌, inl, inr, true, ◌&&◌, Option, Some, None, List, [], ◌∷◌, refl, sym, ap, ◌∙◌, subst, arith, ⊎_elim}
use Rattle.std.specs.Prelude.{if◌then◌else◌, nat_le, nat_lt, nat_eq, is_none, Result, Ok, Err}
use Rattle.std.specs.List.{list_all}
use Rattle.std.proofs.lemmas.Bool.{and_parts, cases_Bool}
use Rattle.std.proofs.lemmas.Option.{same_Some, none-some}
use Rattle.river_base.specs.declared.kind.FlatType.{FlatType}
use Rattle.river_base.specs.declared.kind.QueueType.{QueueType}
use Rattle.river_base.specs.declared.kind.QueueType.TheVariants.{Flat, Pack}
use Rattle.kern_rows.specs.Forms.{FilterForm}
use Rattle.river_kernels.specs.Kern.{Kern, filter}
use Rattle.river_kernels.specs.Limits.{either}
use Rattle.river_plan.specs.Forms.{Name, OpForm, PlanForm, all_decls, table_names}
use Rattle.river_plan.specs.Kinds.{kind_of}
use Rattle.river_plan.specs.Names.{count, one_if}
use Rattle.river_plan.specs.Uses.{named_it}
use Rattle.river_plan.proofs.NameLemmas.{cases_name}
use Rattle.rw_fission.specs.Asked.{packs_to, packs_way, is_nil, blocks_way, adds_way, way_of, all_made, are_short, by_way, by_reads, by_op, fission_of}
use Rattle.plan_edits.specs.declared.unfit.Unfit.{Unfit}
use Rattle.plan_edits.specs.declared.unfit.Unfit.TheVariants.{N2, N5}
use Rattle.rw_fission.specs.Fission.{Way, by_packs, by_blocks, by_adds, split_by}
use Rattle.plan_edits.specs.Lists.{first_with}
use Rattle.rw_fission.specs.Made.{FissionNames, made_of}
use Rattle.rw_fission.specs.May.{is_apart, MayPack, MayBlock, MayAdd}

-- ANSWERS

abbrev Answer : Type 0
Answer = Result PlanForm Unfit

abbrev no : Unfit → Answer
no e = Err e

abbrev yes : PlanForm → Answer
yes q = Ok q

not_ok : {B : Type 0} {q : PlanForm} {e : Unfit} → no e ≡ yes q → B
not_ok h = absurd (cc h)

some_ok : (p q : PlanForm) → yes p ≡ yes q → p ≡ q
some_ok p q h = cc h

-- what is known of an accepted step
pub record Accepted (p : PlanForm) (l : Name) (n : ℕ) (p' : PlanForm) : Type 0 where
  pub op : OpForm
  pub source : Name
  pub way : Way
  pub here : first_with (named_it l) p.ops ≡ Some op
  pub many : 2 ≤ n
  pub few : n ≤ 16
  pub reads : op.reads ≡ source ∷ []
  -- a way that was found is one of the three
  pub way_is : way_of p op (made_of l) n (kind_of (all_decls p) source) ≡ Some way
  pub apart : is_apart (split_by p l op (made_of l) n (kind_of (all_decls p) source) way) ≡ true
  pub is : p' ≡ split_by p l op (made_of l) n (kind_of (all_decls p) source) way

way_found : (p : PlanForm) (l : Name) (op : OpForm) (n : ℕ) (p' : PlanForm) (source : Name) (o : Option Way) → first_with (named_it l) p.ops ≡ Some op → 2 ≤ n
    → n ≤ 16 → op.reads ≡ source ∷ []
    → way_of p op (made_of l) n (kind_of (all_decls p) source) ≡ o → by_way p l op n (kind_of (all_decls p) source) o ≡ Ok p' → Accepted p l n p'
way_found p l op n p' source None he a b r e h = not_ok h
way_found p l op n p' source (Some w) he a b r e h =
    let q = split_by p l op (made_of l) n (kind_of (all_decls p) source) w in
    let short = are_short (all_made (made_of l) n) in
    ⊎_elim
    (λ t. record {
      op = op;
      source = source;
      way = w;
      here = he;
      many = a;
      few = b;
      reads = r;
      way_is = e;
      apart = (and_parts short (is_apart q) t).1;
      is = sym (some_ok q p' (sym (ap (λ c. if c then yes q else no N5) t) ∙ h));
    })
    (λ f. not_ok ((sym (ap (λ c. if c then yes q else no N5) f) ∙ h)))
    (cases_Bool (short && is_apart q))

reads_found : (p : PlanForm) (l : Name) (op : OpForm) (n : ℕ) (p' : PlanForm) (rs : List Name) → first_with (named_it l) p.ops ≡ Some op → 2 ≤ n → n ≤ 16
    → op.reads ≡ rs → by_reads p l op n rs ≡ Ok p' → Accepted p l n p'
reads_found p l op n p' [] he a b r h = not_ok h
reads_found p l op n p' (source ∷ []) he a b r h = way_found p l op n p' source (way_of p op (made_of l) n (kind_of (all_decls p) source)) he a b r refl h
reads_found p l op n p' (source ∷ q ∷ qs) he a b r h = not_ok h

op_found : (p : PlanForm) (l : Name) (n : ℕ) (p' : PlanForm) (o : Option OpForm) → first_with (named_it l) p.ops ≡ o → by_op p l n o ≡ Ok p' → Accepted p l n p'
op_found p l n p' None e h = not_ok h
op_found p l n p' (Some op) e h = ⊎_elim
    (λ t.
    let c = and_parts (nat_le 2 n) (nat_le n 16) t in
    reads_found p l op n p' op.reads e (grind (arith, c.0)) (grind (arith, c.1)) refl (sym (ap (λ b. if b then by_reads p l op n op.reads else no N2) t) ∙ h))
    (λ f. not_ok ((sym (ap (λ b. if b then by_reads p l op n op.reads else no N2) f) ∙ h)))
    (cases_Bool (nat_le 2 n && nat_le n 16))

-- what an accepted step found
pub accepted : (p : PlanForm) (l : Name) (n : ℕ) (p' : PlanForm) → fission_of p l n ≡ Ok p' → Accepted p l n p'
accepted p l n p' h = op_found p l n p' (first_with (named_it l) p.ops) refl h

-- FORMS

-- the split of an operator by packs is the way
pub record IsPacks (p : PlanForm) (op : OpForm) (m : FissionNames) (n : ℕ) (source : Name) (t : FlatType) (w : Way) : Type 0 where
  pub out : Name
  pub type : FlatType
  pub may : MayPack p op source out t type
  pub is : w ≡ by_packs p op m n type

-- the split of an operator by blocks is the way
pub record IsBlocks (p : PlanForm) (op : OpForm) (m : FissionNames) (n : ℕ) (source : Name) (w : Way) : Type 0 where
  pub form : FilterForm
  pub may : MayBlock p op source form
  pub is : w ≡ by_blocks p op m n form.pop form.push

-- the split of an operator by what it adds is the way
pub record IsAdds (p : PlanForm) (op : OpForm) (m : FissionNames) (source : Name) (t : FlatType) (w : Way) : Type 0 where
  pub may : MayAdd p op source t
  pub is : w ≡ by_adds p op m

either_is : {A : Type 0} (o q : Option A) (a : A) → either o q ≡ Some a → (o ≡ Some a) ⊎ (q ≡ Some a)
either_is None q a h = inr h
either_is (Some x) q a h = inl h

packs_to_is : (p : PlanForm) (op : OpForm) (m : FissionNames) (n : ℕ) (source out : Name) (t : FlatType) (w : Way) (k : QueueType) → op.reads ≡ source ∷ []
    → kind_of (all_decls p) source ≡ Flat t
    → op.writes ≡ out ∷ [] → op.vars ≡ [] → kind_of (all_decls p) out ≡ k → packs_to p op m n k ≡ Some w → IsPacks p op m n source t w
packs_to_is p op m n source out t w (Flat u) r ki ws vs ko h =
    record { out = out; type = u; may = record { reads = r; writes = ws; vars = vs; kind_in = ki; kind_out = ko }; is = sym (same_Some _ _ h) }
packs_to_is p op m n source out t w (Pack u) r ki ws vs ko h = absurd (none-some w h)

-- one output and no variable
pub packs_is : (p : PlanForm) (op : OpForm) (m : FissionNames) (n : ℕ) (source : Name) (t : FlatType) (w : Way) (ws vs : List Name) → op.reads ≡ source ∷ []
    → kind_of (all_decls p) source ≡ Flat t
    → op.writes ≡ ws → op.vars ≡ vs → packs_way p op m n ws vs ≡ Some w → IsPacks p op m n source t w
packs_is p op m n source t w [] vs r ki ew ev h = absurd (none-some w h)
packs_is p op m n source t w (out ∷ []) [] r ki ew ev h = packs_to_is p op m n source out t w (kind_of (all_decls p) out) r ki ew ev refl h
packs_is p op m n source t w (out ∷ []) (v ∷ vs) r ki ew ev h = absurd (none-some w h)
packs_is p op m n source t w (out ∷ q ∷ qs) vs r ki ew ev h = absurd (none-some w h)

none_is : {A : Type 0} (o : Option A) → is_none o ≡ true → o ≡ None
none_is None h = refl
none_is (Some x) h = absurd (cc h)

nil_is : {A : Type 0} (xs : List A) → is_nil xs ≡ true → xs ≡ []
nil_is [] h = refl
nil_is (x ∷ xs) h = absurd (cc h)

-- a filter that takes all that it looks at
pub blocks_is : (p : PlanForm) (op : OpForm) (m : FissionNames) (n : ℕ) (source : Name) (w : Way) (k : Kern) → op.reads ≡ source ∷ [] → op.kernel ≡ k
    → blocks_way p op m n k ≡ Some w → IsBlocks p op m n source w
blocks_is p op m n source w (filter f) r e h = ⊎_elim
    (λ t.
    let a = and_parts (nat_eq f.peek f.pop) (is_nil f.starts && (is_none f.first && nat_le 1 f.push)) t in
    let b = and_parts (is_nil f.starts) (is_none f.first && nat_le 1 f.push) a.1 in
    let c = and_parts (is_none f.first) (nat_le 1 f.push) b.1 in
    record {
      form = f;
      may = record { reads = r; kernel = e; whole = grind (arith, a.0); starts = nil_is f.starts b.0; usual = none_is f.first c.0; gives = grind (arith, c.1) };
      is = sym (same_Some _ _ (sym (ap (λ c. if c then Some (by_blocks p op m n f.pop f.push) else None) t) ∙ h));
    })
    (λ g. absurd (none-some w (sym (ap (λ c. if c then Some (by_blocks p op m n f.pop f.push) else None) g) ∙ h)))
    (cases_Bool (nat_eq f.peek f.pop && (is_nil f.starts && (is_none f.first && nat_le 1 f.push))))
blocks_is p op m n source w kernel r e h = absurd (none-some w h)

each_table : (tables vs : List Name) → list_all (λ x. nat_lt 0 (count x tables)) vs ≡ true → (x : Name) → 0 < count x vs → 0 < count x tables
each_table tables [] h x lt = absurd (omega (arith, lt))
each_table tables (v ∷ vs) h x lt =
    let a = and_parts (nat_lt 0 (count v tables)) (list_all (λ y. nat_lt 0 (count y tables)) vs) h in
    let first : 0 < count v tables = grind (arith, a.0) in
    ⊎_elim
    (λ c. subst (λ y. 0 < count y tables) c.0 first)
    (λ c. each_table tables vs a.1 x (let e = ap one_if c.1 in omega (arith, lt, e)))
    (cases_name v x)

-- tables alone
pub adds_is : (p : PlanForm) (op : OpForm) (m : FissionNames) (source : Name) (t : FlatType) (w : Way) (ws vs : List Name) → op.reads ≡ source ∷ []
    → kind_of (all_decls p) source ≡ Flat t
    → op.writes ≡ ws → op.vars ≡ vs → adds_way p op m ws vs ≡ Some w → IsAdds p op m source t w
adds_is p op m source t w [] [] r ki ew ev h = absurd (none-some w h)
adds_is p op m source t w [] (v ∷ vs) r ki ew ev h = ⊎_elim
    (λ a.
    record {
      may =
          record {
            reads = r;
            writes = ew;
            kind_in = ki;
            tables =
                subst (λ ys. (x : Name) → 0 < count x ys → 0 < count x (table_names p.tables)) (sym ev) (each_table (table_names p.tables) (v ∷ vs) a);
          };
      is = sym (same_Some _ _ (sym (ap (λ c. if c then Some (by_adds p op m) else None) a) ∙ h));
    })
    (λ a. absurd (none-some w (sym (ap (λ c. if c then Some (by_adds p op m) else None) a) ∙ h)))
    (cases_Bool (list_all (λ x. nat_lt 0 (count x (table_names p.tables))) (v ∷ vs)))
adds_is p op m source t w (q ∷ qs) vs r ki ew ev h = absurd (none-some w h)

-- one of the three
pub record IsWay (p : PlanForm) (op : OpForm) (m : FissionNames) (n : ℕ) (source : Name) (w : Way) : Type 0 where
  pub type : FlatType
  pub kind : kind_of (all_decls p) source ≡ Flat type
  pub one : IsPacks p op m n source type w ⊎ (IsBlocks p op m n source w ⊎ IsAdds p op m source type w)

way_by : (p : PlanForm) (op : OpForm) (m : FissionNames) (n : ℕ) (source : Name) (w : Way) (k : QueueType) → op.reads ≡ source ∷ []
    → kind_of (all_decls p) source ≡ k
    → way_of p op m n k ≡ Some w → IsWay p op m n source w
way_by p op m n source w (Pack t) r e h = absurd (none-some w h)
way_by p op m n source w (Flat t) r e h = record {
  type = t;
  kind = e;
  one = ⊎_elim
      (λ a. inl (packs_is p op m n source t w op.writes op.vars r e refl refl a))
      (λ a. inr (⊎_elim
      (λ b. inl (blocks_is p op m n source w op.kernel r refl b))
      (λ b. inr (adds_is p op m source t w op.writes op.vars r e refl refl b))
      (either_is (blocks_way p op m n op.kernel) (adds_way p op m op.writes op.vars) w a)))
      (either_is (packs_way p op m n op.writes op.vars) (either (blocks_way p op m n op.kernel) (adds_way p op m op.writes op.vars)) w h);
}

-- a way that is found for an operator with one source is one of the three
pub way_is : (p : PlanForm) (op : OpForm) (m : FissionNames) (n : ℕ) (source : Name) (w : Way) → op.reads ≡ source ∷ []
    → way_of p op m n (kind_of (all_decls p) source) ≡ Some w → IsWay p op m n source w
way_is p op m n source w r h = way_by p op m n source w (kind_of (all_decls p) source) r refl h
