-- The bodies of instances: their steps, their children, and the instance as a whole.
use Rattle.std.proofs.Common.{◌≡◌, ℕ, ℤ, pos, ◌+◌, ◌-◌, Bool, List, [], ◌∷◌, ◌++◌, length, map, take, drop, get_or, Some, None, Result, Ok, refl, sym, ap, ◌∙◌, subst, arith}
use Rattle.std.proofs.lemmas.List.{map-append, take_all}
use Rattle.river_plan.specs.Forms.{Name}
use Rattle.streamit_text.specs.Program as plain
use Rattle.streamit_text.specs.Tree.{Expression}
use Rattle.streamit_model.specs.Meaning.{numbers_from, turns_between}
use Rattle.params_text.specs.Program.{Add, Loop, Steps, unit_form}
use Rattle.params_text.specs.declared.program.Unit as code_unit
use Rattle.params_model.specs.Environment.{Environment, value}
use Rattle.params_model.specs.declared.fault.Fault.TheVariants.{Range, Empty}
use Rattle.params_model.specs.Making.{SourceUnit, Made, nothing_made, Adding, on_fine, demand, begin, turn, made_once, steps_made}
use Rattle.params_model.specs.Making.{turns_made, some_adds, children_made, make, last_made}
use Rattle.params_model.specs.declared.fault.Refusal.{Refusal}
use Rattle.params_build.specs.declared.refused.Refused.{Refused}
use Rattle.params_build.specs.Judging.{IsWhyRefused}
use Rattle.params_print.specs.Heads.{name_written, names_written}
use Rattle.params_print.specs.declared.instance.Instance.{Instance}
use Rattle.params_front.specs.declared.body.Scope.{Scope}
use Rattle.params_front.specs.declared.making.Making.{Making}
use Rattle.params_front.specs.declared.span.Span.{Span}
use Rattle.params_front.specs.Standing.{Stands, Blames, MakesOne, MakesMore, MakesAll, adding, bodied, turn_steps, source_at, sources, turn_made}
use Rattle.params_front.specs.Turning.{Spans}
use Rattle.params_front.proofs.Faults.{fine, told-on, told-behind, told-blamed}
use Rattle.params_front.proofs.Sources.{sources-more}

-- AN `add`

abbrev one_name : Name × Made → Result (List Name × Made) Refusal
one_name x = fine (x.0 ∷ [], x.1)

-- where an `add` makes an instance, the child stands behind the others, and the same names are known
pub add-made : (add : Adding) (k : ℕ) (env : Environment) (n : Name) (cs : List Expression) (zs : List ℤ) (m m' : Made) (i : Instance) (old new : Scope)
    (s : Making)
    → zs ≡ map (value env) cs → add n zs m ≡ Ok (name_written i, m') → Stands s m' → new.children ≡ old.children ++ i ∷ [] → new.known ≡ old.known
    → MakesMore (Ok tt) old new s (made_once add k env (Add n cs) m)
add-made add k env n cs zs m m' i old new s z h st e kn = (
  name_written i ∷ [],
  m',
  ap (λ q. on_fine (add n q m) one_name) (sym z) ∙ ap (λ r. on_fine r one_name) h,
  st,
  ap names_written e ∙ map-append name_written old.children (i ∷ []),
  kn,
)

-- an `add` whose instance is refused
pub add-told : (add : Adding) (k : ℕ) (env : Environment) (n : Name) (cs : List Expression) (zs : List ℤ) (m : Made) (e : Refused)
    → zs ≡ map (value env) cs → IsWhyRefused (add n zs m) e → IsWhyRefused (made_once add k env (Add n cs) m) e
add-told add k env n cs zs m e z h = told-on e (add n (map (value env) cs) m) one_name (subst (λ q. IsWhyRefused (add n q m) e) z h)

-- A LOOP

-- a loop makes what its turns make, from the low bound up to the end
pub loop-is : (add : Adding) (k : ℕ) (env : Environment) (n : Name) (lo : Expression) (upto : Bool) (hi : Expression) (ss : Steps) (m : Made) (s : Span)
    → Spans (Some s) (value env lo) upto (value env hi)
    → made_once add k env (Loop n lo upto hi ss) m ≡ turns_made k (turn_steps add k env n ss) (numbers_from s.low (s.end - s.low)) m
loop-is add k env n lo upto hi ss m s h =
    let f = turn_steps add k env n ss in
    ap (λ b. on_fine (demand b k Range) (λ x. turns_made k f (turns_between (value env lo) upto (value env hi)) m)) h.0
    ∙ ap (λ vs. turns_made k f vs m) h.1

-- a loop with a bound that is out of range
pub loop-told : (add : Adding) (k : ℕ) (env : Environment) (n : Name) (lo : Expression) (upto : Bool) (hi : Expression) (ss : Steps) (m : Made) (e : Refused)
    → Spans None (value env lo) upto (value env hi) → Blames e k Range → IsWhyRefused (made_once add k env (Loop n lo upto hi ss) m) e
loop-told add k env n lo upto hi ss m e h b =
    let f = turn_steps add k env n ss in
    told-blamed e k Range (made_once add k env (Loop n lo upto hi ss) m) b
    (ap (λ q. on_fine (demand q k Range) (λ x. turns_made k f (turns_between (value env lo) upto (value env hi)) m)) h)

-- one turn of a loop makes what its steps make
pub one-turn : (add : Adding) (k : ℕ) (name : Name) (ss : Steps) (v : ℕ) (m t : Made) (old mid last new : Scope) (s : Making)
    → turn k m ≡ Ok t → mid.known ≡ (name, pos v) ∷ old.known → mid.children ≡ old.children → MakesMore (Ok tt) mid last s (steps_made add k mid.known ss t)
    → new.known ≡ drop 1 last.known → new.children ≡ last.children → MakesMore (Ok tt) old new s (turn_made k (turn_steps add k old.known name ss) v m)
one-turn add k name ss v m t old mid last new s h kn ch r nk nc = (
  r.0,
  r.1,
  ap (λ q. on_fine q (turn_steps add k old.known name ss v)) h ∙ ap (λ e. steps_made add k e ss t) (sym kn) ∙ r.2,
  r.3,
  ap names_written nc ∙ r.4 ∙ ap (λ l. names_written l ++ r.0) ch,
  nk ∙ ap (drop 1) (r.5 ∙ kn),
)

-- a turn whose steps are refused
pub turn-refused : (add : Adding) (k : ℕ) (name : Name) (ss : Steps) (v : ℕ) (m t : Made) (old mid : Scope) (e : Refused)
    → turn k m ≡ Ok t → mid.known ≡ (name, pos v) ∷ old.known → IsWhyRefused (steps_made add k mid.known ss t) e
    → IsWhyRefused (turn_made k (turn_steps add k old.known name ss) v m) e
turn-refused add k name ss v m t old mid e h kn r =
    told-behind e (turn k m) t (turn_steps add k old.known name ss v) h (subst (λ q. IsWhyRefused (steps_made add k q ss t) e) kn r)

-- CHILDREN

some-adds : (ns : List Name) → (ns ≡ [] → ⊥) → (a : plain.Adds) × (ns ≡ a.first ∷ a.others) × ((k : ℕ) → some_adds k ns ≡ Ok a)
some-adds [] h = absurd (h refl)
some-adds (n ∷ ns) h = (record { first = n; others = ns }, refl, λ k. refl)

none-named : (is : List Instance) → names_written is ≡ [] → is ≡ []
none-named [] h = refl
none-named (i ∷ is) h = absurd (cc h)

module _ (add : Adding) (k : ℕ) (env : Environment) (ss : Steps) (m : Made) where
  abbrev counted : List Name × Made → Result (plain.Adds × Made) Refusal
  counted x = on_fine (some_adds k x.0) (λ a. fine (a, x.1))

  -- the steps of a body that had no children, and has some now, have made them all
  pub all-made : (old new : Scope) (s : Making) → old.children ≡ [] → MakesMore (Ok tt) old new s (steps_made add k env ss m) → (new.children ≡ [] → ⊥)
      → MakesAll (Ok tt) old new s (children_made add k env ss m)
  all-made old new s none r some =
      let names : names_written new.children ≡ r.0 = r.4 ∙ ap (λ l. names_written l ++ r.0) none in
      let a = some-adds r.0 (λ e. some (none-named new.children (names ∙ e))) in (
        a.0,
        r.1,
        ap (λ q. on_fine q counted) r.2 ∙ ap (λ q. on_fine q (λ b. fine (b, r.1))) (a.2 k),
        r.3,
        names ∙ a.1,
        r.5,
      )

  -- where they made none, the body is refused as empty
  pub none-told : (old new : Scope) (s : Making) (e : Refused) → old.children ≡ [] → MakesMore (Ok tt) old new s (steps_made add k env ss m) → new.children ≡ []
      → Blames e k Empty → IsWhyRefused (children_made add k env ss m) e
  none-told old new s e none r empty b =
      let names : r.0 ≡ [] = sym (r.4 ∙ ap (λ l. names_written l ++ r.0) none) ∙ ap names_written empty in
      told-blamed e k Empty (children_made add k env ss m) b
      (ap (λ q. on_fine q counted) r.2 ∙ ap (λ ns. on_fine (some_adds k ns) (λ b. fine (b, r.1))) names)

  -- so is a body whose steps are refused
  pub steps-told : (e : Refused) → IsWhyRefused (steps_made add k env ss m) e → IsWhyRefused (children_made add k env ss m) e
  steps-told e h = told-on e (steps_made add k env ss m) counted h

-- AN INSTANCE

module _ (add : Adding) (u : SourceUnit) (depth : ℕ) (env : Environment) (m : Made) where
  -- where an instance is begun, it is made as its body is
  pub make-begun : (r : Result Instance Refused) (new : Making) (t : Made) → begin u depth m ≡ Ok t
      → MakesOne r new (bodied add u.unit u.stream.name env u.stream.body t) → MakesOne r new (make add u depth env m)
  make-begun r new t h g = subst (MakesOne r new) (sym (ap (λ q. on_fine q (bodied add u.unit u.stream.name env u.stream.body)) h)) g

  -- where no instance may be begun, none is made
  pub make-told : (e : Refused) → IsWhyRefused (begin u depth m) e → IsWhyRefused (make add u depth env m) e
  make-told e h = told-on e (begin u depth m) (bodied add u.unit u.stream.name env u.stream.body) h

-- THE LAST STREAM

-- what the units make is an instance of the last of them
pub top-is : (us : List code_unit.Unit) (i : ℕ) (u : code_unit.Unit) (sizes : List ℕ) → i + 1 ≡ length us → u ≡ get_or us i u
    → last_made (sources us sizes) ≡ on_fine (make (adding (take i us) sizes 2) (source_at i sizes (unit_form u)) 1 [] nothing_made) (λ x. fine x.1)
top-is us i u sizes len e =
    let all : take (i + 1) us ≡ us = take_all (i + 1) us (omega (arith, len)) in
    ap (λ l. last_made (sources l sizes)) (sym all) ∙ ap last_made (sources-more us i u sizes (omega (arith, len)) e)

-- what the last stream makes without arguments is what the units make
pub top-made : (us : List code_unit.Unit) (i j : ℕ) (u : code_unit.Unit) (sizes : List ℕ) (env : Environment) (name : Name) (m : Made) → i + 1 ≡ length us
    → u ≡ get_or us i u
    → j ≡ i → env ≡ [] → make (adding (take i us) sizes 2) (source_at j sizes (unit_form u)) 1 env nothing_made ≡ Ok (name, m)
    → last_made (sources us sizes) ≡ Ok m
top-made us i j u sizes env name m len is e none h =
    top-is us i u sizes len is
    ∙ ap (λ n. on_fine (make (adding (take i us) sizes 2) (source_at n sizes (unit_form u)) 1 [] nothing_made) (λ x. fine x.1)) (sym e)
    ∙ ap (λ v. on_fine (make (adding (take i us) sizes 2) (source_at j sizes (unit_form u)) 1 v nothing_made) (λ x. fine x.1)) (sym none)
    ∙ ap (λ q. on_fine q (λ x. fine x.1)) h

-- the fault of the last stream is the fault of the units
pub top-told : (us : List code_unit.Unit) (i j : ℕ) (u : code_unit.Unit) (sizes : List ℕ) (env : Environment) (r : Refused) → i + 1 ≡ length us → u ≡ get_or us i u
    → j ≡ i → env ≡ [] → IsWhyRefused (make (adding (take i us) sizes 2) (source_at j sizes (unit_form u)) 1 env nothing_made) r
    → IsWhyRefused (last_made (sources us sizes)) r
top-told us i j u sizes env r len is e none h =
    subst (λ q. IsWhyRefused q r)
    (sym
    (top-is us i u sizes len is
    ∙ ap (λ n. on_fine (make (adding (take i us) sizes 2) (source_at n sizes (unit_form u)) 1 [] nothing_made) (λ x. fine x.1)) (sym e)
    ∙ ap (λ v. on_fine (make (adding (take i us) sizes 2) (source_at j sizes (unit_form u)) 1 v nothing_made) (λ x. fine x.1)) (sym none)))
    (told-on r (make (adding (take i us) sizes 2) (source_at j sizes (unit_form u)) 1 env nothing_made) (λ x. fine x.1) h)
