-- The values of an emit.
use Rattle.std.proofs.Common.{◌≡◌, ℕ, zero, suc, ◌+◌, ◌<◌, ◌≤◌, List, [], ◌∷◌, ◌++◌, length, drop, map, get_or, Result, Ok, Err, refl, sym, ap}
use Rattle.std.proofs.Common.{◌∙◌, subst, arith, append_assoc, append-nil}
use Rattle.std.specs.Prelude.{if◌then◌else◌}
use Rattle.std.proofs.lemmas.List.{map-append}
use Rattle.std.proofs.lemmas.Bool.{lt-ltb, le-ltb}
use Rattle.river_base.proofs.Lists.{map_next, map_none}
use Rattle.work_code.specs.Term.{Term, term}
use Rattle.work_code.specs.declared.expr.Expr as work
use Rattle.saw_text.specs.Tree.{Expression}
use Rattle.saw_model.specs.declared.fault.Fault.{Fault}
use Rattle.saw_model.specs.declared.fault.Fault.TheVariants.{Limit}
use Rattle.saw_model.specs.Elaborate.{Scope, on_ok, term_of, indexes_of}
use Rattle.saw_text.specs.declared.tree.Expr.{Expr}
use Rattle.saw_text.specs.Tree.{expression}
use Rattle.saw_text.specs.View.{expressions}
use Rattle.saw_front.specs.declared.refused.RefusedUnit.{RefusedUnit}
use Rattle.saw_front.specs.Valued.{AllValues}
use Rattle.saw_front.specs.View.{IsWhyUnit}
use Rattle.saw_front.proofs.SoFar.{good, why_more}

-- what is read of a list of expressions
abbrev pub Terms : Type 0
Terms = Result (List Term) Fault

-- behind these values
abbrev pub behind_terms : List Term → Terms → Terms
behind_terms done r = on_ok r (λ us. Ok (done ++ us))

-- what was read of the indexes, and what is to be read, is what is read of all
pub record IndexesSoFar (sc : Scope) (all : List Expr) (i : ℕ) (done : List Term) : Type 0 where
  pub whole : indexes_of sc 0 (expressions all) ≡ behind_terms done (indexes_of sc i (expressions (drop i all)))
  pub values : AllValues (expressions (drop i all))

behind-none : (r : Terms) → r ≡ behind_terms [] r
behind-none (Ok us) = refl
behind-none (Err f) = refl

behind-both : (a b : List Term) (r : Terms) → behind_terms a (behind_terms b r) ≡ behind_terms (a ++ b) r
behind-both a b (Ok us) = ap good (sym (append_assoc a b us))
behind-both a b (Err f) = refl

pub indexes_start : (sc : Scope) (all : List Expr) → AllValues (expressions all) → IndexesSoFar sc all 0 []
indexes_start sc all v = record { whole = behind-none (indexes_of sc 0 (expressions all)); values = v }

abbrev one_more : Scope → ℕ → Expression → List Expression → Terms
one_more sc i t ts = on_ok (term_of sc t) (λ u. on_ok (indexes_of sc (i + 1) ts) (λ us. Ok (u ∷ us)))

module _ (sc : Scope) (all : List Expr) (i : ℕ) (e : Expr) (done : List Term) (lt : i < length all) (is : e ≡ get_or all i e)
    (f : IndexesSoFar sc all i done) where
  abbrev rest : List Expression
  rest = expressions (drop (i + 1) all)

  at : expressions (drop i all) ≡ expression e ∷ rest
  at = map_next expression all i e lt is

  pub index_value : AllValues (expression e ∷ rest)
  index_value = subst AllValues at f.values

  here : indexes_of sc 0 (expressions all) ≡ behind_terms done (indexes_of sc i (expression e ∷ rest))
  here = f.whole ∙ ap (λ ts. behind_terms done (indexes_of sc i ts)) at

  index_on : i < 8 → indexes_of sc 0 (expressions all) ≡ behind_terms done (one_more sc i (expression e) rest)
  index_on h = here ∙ ap (λ b. behind_terms done (if b then one_more sc i (expression e) rest else Err Limit)) (lt-ltb i 8 h)

  -- one index more
  pub index_next : i < 8 → (u : Term) → term_of sc (expression e) ≡ Ok u → IndexesSoFar sc all (i + 1) (done ++ u ∷ [])
  index_next h u t = record {
    whole =
        index_on h ∙ ap (λ r. behind_terms done (on_ok r (λ u. on_ok (indexes_of sc (i + 1) rest) (λ us. good (u ∷ us))))) t
        ∙ behind-both done (u ∷ []) (indexes_of sc (i + 1) rest);
    values = index_value.1;
  }

  -- an index that is refused
  pub index_fault : i < 8 → (k : RefusedUnit) → IsWhyUnit k (term_of sc (expression e)) → IsWhyUnit k (indexes_of sc 0 (expressions all))
  index_fault h k t =
      why_more k (term_of sc (expression e)) (indexes_of sc 0 (expressions all))
      (λ g q. index_on h ∙ ap (λ r. behind_terms done (on_ok r (λ u. on_ok (indexes_of sc (i + 1) rest) (λ us. good (u ∷ us))))) q) t

drop_some : (xs : List Expr) (i : ℕ) → i < length xs → 0 < length (drop i xs)
drop_some [] i lt = absurd (omega (arith, lt))
drop_some (x ∷ xs) zero lt = omega arith
drop_some (x ∷ xs) (suc i) lt = drop_some xs i (omega (arith, lt))

-- a ninth index, whatever it is
pub index_over : (sc : Scope) (all : List Expr) (i : ℕ) (done : List Term) → i < length all → 8 ≤ i → IndexesSoFar sc all i done
    → indexes_of sc 0 (expressions all) ≡ Err Limit
index_over sc all i done lt h f = f.whole ∙ by (drop i all) (drop_some all i lt) where
  by : (l : List Expr) → 0 < length l → behind_terms done (indexes_of sc i (expressions l)) ≡ Err Limit
  by [] some = absurd (omega (arith, some))
  by (e ∷ es) some = ap (λ b. behind_terms done (if b then one_more sc i (expression e) (expressions es) else Err Limit)) (le-ltb i 8 h)

-- all indexes
pub indexes_end : (sc : Scope) (all : List Expr) (i : ℕ) (done : List Term) → length all ≤ i → IndexesSoFar sc all i done
    → indexes_of sc 0 (expressions all) ≡ Ok done
indexes_end sc all i done le f = f.whole ∙ ap (λ ts. behind_terms done (indexes_of sc i ts)) (map_none expression all i le) ∙ ap good (append-nil done)

-- one value more at the end
pub terms-push : (xs : List work.Expr) (x : work.Expr) → map term (xs ++ x ∷ []) ≡ map term xs ++ term x ∷ []
terms-push xs x = map-append term xs (x ∷ [])

pub values-two : (us : List Term) (u w : Term) → (us ++ u ∷ []) ++ w ∷ [] ≡ us ++ u ∷ w ∷ []
values-two us u w = append_assoc us (u ∷ []) (w ∷ [])

pub ruleset rows = (terms-push, values-two)
