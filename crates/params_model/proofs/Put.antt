-- A filter in whose blocks parameters are written as their values exec what it exec under these values.
use Rattle.std.proofs.Common.{◌≡◌, ℕ, zero, suc, ℤ, pos, negsuc, Bool, true, false, Option, Some, None, ◌+◌, ◌*◌, List, [], ◌∷◌, ◌++◌, length, map, take, drop, replicate, refl, sym, ap, ◌∙◌, subst}
use Rattle.std.proofs.Common.{⊎_elim, nat_le, nat_eq}
use Rattle.std.specs.Prelude.{if◌then◌else◌, slice_index_or, max}
use Rattle.std.specs.Ordering.{int_eq}
use Rattle.brooklet_model.proofs.Lists.{at_here, at_other}
use Rattle.river_base.specs.Name.{name_eq}
use Rattle.river_base.specs.Number.{count_of, negate}
use Rattle.work_code.specs.declared.expr.BinOp.TheVariants as op
use Rattle.work_code.specs.Value.{applied, truth, is_true}
use Rattle.streamit_text.specs.Tree.{Expression}
use Rattle.streamit_text.specs.Tree as tree
use Rattle.river_plan.specs.Forms.{Name}
use Rattle.river_plan.proofs.NameLemmas.{cases_name, name_sym}
use Rattle.brooklet_model.specs.Machine.{at_name}
use Rattle.streamit_text.specs.Tree.{Statement, Declare, Assign, Push, Discard, If, For, Block, End, Then, Optional, Unwritten, Written}
use Rattle.streamit_model.specs.Meaning.{or_work, runs_in, start_at, waits_for, looked_at, pops, Store, eval, State, turns_between, each_turn, first_value, first_pops, exec, exec_all, exec_optional, pop_of, peek_of, at_start, fires, fires_from, pushed_by, look}
use Rattle.streamit_text.specs.Program.{WorkTree, FilterTree}
use Rattle.params_model.specs.Environment.{Environment, bound, under}
use Rattle.params_model.specs.Meaning.{started, initial_under, fires_under, fires_from_under, pushed_under}
use Rattle.params_model.specs.Plain.{literal, literal_or, put_in, put_option, put_statement, put_block, put_optional, put_work, put_prework, put_filter}
use Rattle.params_model.specs.Laws.{Differs, AllDiffer, SparesOnce, SparesAll, SparesOptional}
use Rattle.params_model.proofs.Values.{Fits, said_literal_or, not_given}

-- NAMES THAT ARE NO PARAMETERS

-- a name that is no parameter has no value
pub none_bound : (ps : List Name) (zs : List ℤ) (n : Name) → Differs ps n → look (bound ps zs) n ≡ None
none_bound [] zs n h = refl
none_bound (p ∷ ps) [] n h = refl
none_bound (p ∷ ps) (z ∷ zs) n h = ap (λ b. if b then Some z else look (bound ps zs) n) h.0 ∙ none_bound ps zs n h.1

look_rest : (e : Name × ℤ) (env : Environment) (n : Name) → look (e ∷ env) n ≡ None → (name_eq e.0 n ≡ false) × (look env n ≡ None)
look_rest e env n h = ⊎_elim
    (λ s. absurd (some_none (sym (ap (λ b. if b then Some e.1 else look env n) s.1) ∙ h)))
    (λ d. (d.1, sym (ap (λ b. if b then Some e.1 else look env n) d.1) ∙ h))
    (cases_name e.0 n)
  where
    some_none : Some e.1 ≡ None → ⊥
    some_none h = cc h

-- what is set under an environment that exec not give it
pub under_set : (env : Environment) (vs : Store) (n : Name) (z : ℤ) (m : Name) → look env n ≡ None
    → under env (at_name n z vs) m ≡ at_name n z (under env vs) m
under_set [] vs n z m h = refl
under_set (e ∷ env) vs n z m h =
    let r = look_rest e env n h in
    ⊎_elim
    (λ s.
    let other : name_eq n m ≡ false = subst (λ x. name_eq n x ≡ false) s.0 (flip e.0 n r.0) in
    at_here e.0 m e.1 (under env (at_name n z vs)) s.1 ∙ sym (at_here e.0 m e.1 (under env vs) s.1) ∙ sym (at_other n m z (under (e ∷ env) vs) other))
    (λ d.
    at_other e.0 m e.1 (under env (at_name n z vs)) d.1 ∙ under_set env vs n z m r.1
    ∙ ap (λ w. if name_eq n m then z else w) (sym (at_other e.0 m e.1 (under env vs) d.1)))
    (cases_name e.0 m)
  where
    flip : (a b : Name) → name_eq a b ≡ false → name_eq b a ≡ false
    flip a b h = name_sym b a ∙ h

-- EXPRESSIONS

-- the values of the source are those of the plain block under the environment
abbrev pub Sees : Environment → Store → Store → Type 0
Sees env plain source = (n : Name) → source n ≡ under env plain n

either_pops : (b : Bool) (n : ℕ)
    → pops (if b then tree.Bin op.Sub (tree.Neg (tree.Number 9223372036854775807)) (tree.Number 1) else tree.Neg (tree.Number (suc n))) ≡ 0
either_pops true n = refl
either_pops false n = refl

literal_pops : (z : ℤ) → pops (literal z) ≡ 0
literal_pops (pos n) = refl
literal_pops (negsuc n) = either_pops (nat_eq n 9223372036854775807) n

literal_or_pops : (n : Name) (o : Option ℤ) → pops (literal_or n o) ≡ 0
literal_or_pops n None = refl
literal_or_pops n (Some z) = literal_pops z

-- values in the place of names pop as often
pub put_pops : (env : Environment) (t : Expression) → pops (put_in env t) ≡ pops t
put_pops env (tree.Number v) = refl
put_pops env (tree.Name n) = literal_or_pops n (look env n)
put_pops env (tree.Peek t) = put_pops env t
put_pops env tree.Pop = refl
put_pops env (tree.Neg t) = put_pops env t
put_pops env (tree.Not t) = put_pops env t
put_pops env (tree.Bin o a b) = ap (λ k. k + pops (put_in env b)) (put_pops env a) ∙ ap (λ k. pops a + k) (put_pops env b)

module _ (env : Environment) (fits : Fits env) where
  -- they give the same value
  pub put_said : (t : Expression) (xs : List ℤ) (plain source : Store) (k : ℕ) → Sees env plain source → eval (put_in env t) xs plain k ≡ eval t xs source k
  put_said (tree.Number v) xs plain source k h = refl
  put_said (tree.Name n) xs plain source k h = said_literal_or env n xs plain k fits ∙ sym (h n)
  put_said (tree.Peek t) xs plain source k h = ap (λ z. slice_index_or xs (k + count_of z) (pos 0)) (put_said t xs plain source k h)
  put_said tree.Pop xs plain source k h = refl
  put_said (tree.Neg t) xs plain source k h = ap negate (put_said t xs plain source k h)
  put_said (tree.Not t) xs plain source k h = ap (λ z. truth (int_eq z (pos 0))) (put_said t xs plain source k h)
  put_said (tree.Bin o a b) xs plain source k h =
      ap (λ z. applied o z (eval (put_in env b) xs plain (k + pops (put_in env a)))) (put_said a xs plain source k h)
      ∙ ap (λ j. applied o (eval a xs source k) (eval (put_in env b) xs plain (k + j))) (put_pops env a)
      ∙ ap (λ z. applied o (eval a xs source k) z) (put_said b xs plain source (k + pops a) h)

  -- STATEMENTS

  pub record Alike (plain source : State) : Type 0 where
    pub values : Sees env plain.values source.values
    pub popped : plain.popped ≡ source.popped
    pub pushed : plain.pushed ≡ source.pushed

  said_alike : (t : Expression) (xs : List ℤ) (p s : State) → Alike p s → eval (put_in env t) xs p.values p.popped ≡ eval t xs s.values s.popped
  said_alike t xs p s h = put_said t xs p.values s.values p.popped h.values ∙ ap (eval t xs s.values) h.popped

  set_sees : (n : Name) (y z : ℤ) (plain source : Store) → look env n ≡ None → y ≡ z → Sees env plain source
      → Sees env (at_name n y plain) (at_name n z source)
  set_sees n y z plain source free e h =
      λ m. ap (λ w. if name_eq n m then z else w) (h m) ∙ ap (λ w. if name_eq n m then w else under env plain m) (sym e) ∙ sym (under_set env plain n y m free)

  popping : (t : Expression) (p s : State) → Alike p s → p.popped + pops (put_in env t) ≡ s.popped + pops t
  popping t p s h = ap (λ j. p.popped + j) (put_pops env t) ∙ ap (λ j. j + pops t) h.popped

  first_alike : (t : Option Expression) (xs : List ℤ) (p s : State) → Alike p s → first_value (put_option env t) xs p ≡ first_value t xs s
  first_alike None xs p s h = refl
  first_alike (Some t) xs p s h = said_alike t xs p s h

  first_popping : (t : Option Expression) (p s : State) → Alike p s → p.popped + first_pops (put_option env t) ≡ s.popped + first_pops t
  first_popping None p s h = ap (λ j. j + 0) h.popped
  first_popping (Some t) p s h = popping t p s h

  -- under this environment, a name that the blocks set
  module _ (ps : List Name) (free : (n : Name) → Differs ps n → look env n ≡ None) where
    turns_alike : (f g : State → State) (n : Name) → Differs ps n → ((p s : State) → Alike p s → Alike (f p) (g s)) → (vs : List ℕ) (p s : State) → Alike p s
        → Alike (each_turn f n vs p) (each_turn g n vs s)
    turns_alike f g n d block [] p s h = h
    turns_alike f g n d block (v ∷ vs) p s h =
        turns_alike f g n d block vs _ _ (block _ _ (record {
          values = set_sees n (pos v) (pos v) p.values s.values (free n d) refl h.values;
          popped = h.popped;
          pushed = h.pushed;
        }))

    either_alike : (a b : Bool) (p q s t : State) → a ≡ b → Alike p s → Alike q t → Alike (if a then p else q) (if b then s else t)
    either_alike true true p q s t e h g = h
    either_alike true false p q s t e h g = absurd (cc e)
    either_alike false true p q s t e h g = absurd (cc e)
    either_alike false false p q s t e h g = g

    mutual
      once_alike : (c : Statement) (xs : List ℤ) (p s : State) → SparesOnce ps c → Alike p s → Alike (exec (put_statement env c) xs p) (exec c xs s)
      once_alike (Declare n t) xs p s d h = record {
        values = set_sees n _ _ p.values s.values (free n d) (first_alike t xs p s h) h.values;
        popped = first_popping t p s h;
        pushed = h.pushed;
      }
      once_alike (Assign n t) xs p s d h = record {
        values = set_sees n _ _ p.values s.values (free n d) (said_alike t xs p s h) h.values;
        popped = popping t p s h;
        pushed = h.pushed;
      }
      once_alike (Push t) xs p s d h = record {
        values = h.values;
        popped = popping t p s h;
        pushed = ap (λ l. l ++ eval (put_in env t) xs p.values p.popped ∷ []) h.pushed ∙ ap (λ z. s.pushed ++ z ∷ []) (said_alike t xs p s h);
      }
      once_alike Discard xs p s d h = record { values = h.values; popped = ap (λ j. j + 1) h.popped; pushed = h.pushed }
      once_alike (If t a b) xs p s d h =
          let on : Alike (record p { popped = p.popped + pops (put_in env t) }) (record s { popped = s.popped + pops t }) =
          record { values = h.values; popped = popping t p s h; pushed = h.pushed } in
          either_alike (is_true (eval (put_in env t) xs p.values p.popped)) (is_true (eval t xs s.values s.popped)) _ _ _ _ (ap is_true (said_alike t xs p s h))
          (all_alike a xs _ _ d.0 on) (optional_alike b xs _ _ d.1 on)
      once_alike (For n low upto high b) xs p s d h =
          subst (λ vs. Alike (each_turn (exec_all (put_block env b) xs) n vs p)
          (each_turn (exec_all b xs) n (turns_between (eval low xs s.values s.popped) upto (eval high xs s.values s.popped)) s))
          (sym (ap (λ l. turns_between l upto (eval (put_in env high) xs p.values p.popped)) (said_alike low xs p s h)
          ∙ ap (λ k. turns_between (eval low xs s.values s.popped) upto k) (said_alike high xs p s h)))
          (turns_alike (exec_all (put_block env b) xs) (exec_all b xs) n d.0 (λ q t g. all_alike b xs q t d.1 g)
          (turns_between (eval low xs s.values s.popped) upto (eval high xs s.values s.popped)) p s h)

      -- a block does the same
      pub all_alike : (b : Block) (xs : List ℤ) (p s : State) → SparesAll ps b → Alike p s → Alike (exec_all (put_block env b) xs p) (exec_all b xs s)
      all_alike End xs p s d h = h
      all_alike (Then c b) xs p s d h = all_alike b xs _ _ d.1 (once_alike c xs p s d.0 h)

      -- and one that may be left out
      pub optional_alike : (b : Optional) (xs : List ℤ) (p s : State) → SparesOptional ps b → Alike p s
          → Alike (exec_optional (put_optional env b) xs p) (exec_optional b xs s)
      optional_alike Unwritten xs p s d h = h
      optional_alike (Written b) xs p s d h = all_alike b xs p s d h

    -- FIRINGS

    start_alike : (fields : List Name) (kept : List ℤ) → Alike (at_start fields kept) (started env fields kept)
    start_alike fields kept = record { values = λ n. refl; popped = refl; pushed = refl }

    -- fields are no parameters
    fields_same : (fields : List Name) (p s : Store) → AllDiffer ps fields → Sees env p s → map p fields ≡ map s fields
    fields_same [] p s d h = refl
    fields_same (f ∷ fs) p s d h =
        ap (λ z. z ∷ map p fs) (sym (h f ∙ not_given env p f (free f d.0))) ∙ ap (λ l. s f ∷ l) (fields_same fs p s d.1 h)

    module _ (t : FilterTree) (fields : AllDiffer ps t.fields) (init : SparesOptional ps t.init) (runs : (j : ℕ) → SparesAll ps (runs_in t j).block) where
      -- each firing runs the plain block of the source's, and waits for as many items
      first_put : (o : Option WorkTree) (w : WorkTree) → or_work (put_prework env o) (put_work env w) ≡ put_work env (or_work o w)
      first_put None w = refl
      first_put (Some p) w = refl

      runs_put : (j : ℕ) → runs_in (put_filter env t) j ≡ put_work env (runs_in t j)
      runs_put zero = first_put t.prework t.work
      runs_put (suc j) = refl

      starts_put : (j : ℕ) → start_at (put_filter env t) j ≡ start_at t j
      starts_put zero = refl
      starts_put (suc j) = ap (λ w. pop_of w + j * pop_of t.work) (runs_put 0)

      waits_put : (j : ℕ) → waits_for (put_filter env t) j ≡ waits_for t j
      waits_put zero = ap (λ w. max (peek_of w) 1) (runs_put 0)
      waits_put (suc j) = refl

      looked_put : (j : ℕ) (xs : List ℤ) → looked_at (put_filter env t) j xs ≡ looked_at t j xs
      looked_put j xs = ap (λ w. take (peek_of w) (drop (start_at (put_filter env t) j) xs)) (runs_put j)
          ∙ ap (λ k. take (peek_of (runs_in t j)) (drop k xs)) (starts_put j)

      fires_put : (j : ℕ) (kept xs : List ℤ)
          → fires (put_filter env t) j kept xs ≡ exec_all (put_block env (runs_in t j).block) (looked_at t j xs) (at_start t.fields kept)
      fires_put j kept xs =
          ap (λ w. exec_all w.block (looked_at (put_filter env t) j xs) (at_start t.fields kept)) (runs_put j)
          ∙ ap (λ l. exec_all (put_block env (runs_in t j).block) l (at_start t.fields kept)) (looked_put j xs)

      firings_same : (n j : ℕ) (kept xs : List ℤ) → fires_from (put_filter env t) n j kept xs ≡ fires_from_under env t n j kept xs
      firings_same zero j kept xs = refl
      firings_same (suc n) j kept xs =
          let s = fires_under env t j kept xs in
          let p = fires (put_filter env t) j kept xs in
          let h : Alike p s = subst (λ (q : State). Alike q s) (sym (fires_put j kept xs))
          (all_alike (runs_in t j).block (looked_at t j xs) _ _ (runs j) (start_alike t.fields kept)) in
          ap (λ k. if nat_le k (length xs) then p.pushed ++ fires_from (put_filter env t) n (suc j) (map p.values t.fields) xs else [])
          (ap (λ k. k + waits_for (put_filter env t) j) (starts_put j) ∙ ap (λ k. start_at t j + k) (waits_put j))
          ∙ ap (λ l. if nat_le (start_at t j + waits_for t j) (length xs) then l else []) (
          ap (λ l. l ++ fires_from (put_filter env t) n (suc j) (map p.values t.fields) xs) h.pushed
          ∙ ap (λ k. s.pushed ++ fires_from (put_filter env t) n (suc j) k xs) (fields_same t.fields p.values s.values fields h.values)
          ∙ ap (λ l. s.pushed ++ l) (firings_same n (suc j) (map s.values t.fields) xs))

      -- a filter with its parameters put in pushes what it pushes under their values
      pub filter_same : (xs : List ℤ) → pushed_by (put_filter env t) xs ≡ pushed_under env t xs
      filter_same xs =
          let zeros = replicate (length t.fields) (pos 0) in
          let h = optional_alike t.init [] _ _ init (start_alike t.fields zeros) in
          ap (λ k. fires_from (put_filter env t) (suc (length xs)) 0 k xs)
          (fields_same t.fields (exec_optional (put_optional env t.init) [] (at_start t.fields zeros)).values
          (exec_optional t.init [] (started env t.fields zeros)).values fields h.values)
          ∙ firings_same (suc (length xs)) 0 (initial_under env t) xs
