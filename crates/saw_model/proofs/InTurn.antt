-- Queues and tables are declared in the order in which the operators first use them.
use Rattle.std.proofs.Common.{◌≡◌, ◌+◌, List, [], ◌∷◌, ◌++◌, map, refl, sym, ap, ◌∙◌, arith, append-nil}
use Rattle.std.specs.Prelude.{fold, codes}
use Rattle.std.proofs.lemmas.List.Sums.{fold-append}
use Rattle.work_code.specs.Steps.{Steps}
use Rattle.river_plan.specs.declared.plan.TableDecl.{TableDecl}
use Rattle.river_plan.specs.Forms.{Name, decl_names, table_names}
use Rattle.river_plan.specs.InTurn.{mentioned}
use Rattle.river_plan.specs.Names.{with_name}
use Rattle.river_plan.specs.Uses.{all_vars}
use Rattle.river_plan.proofs.NameLemmas.{count-append, there_stays, all_new}
use Rattle.saw_model.specs.Elaborate.{At, nothing_read}
use Rattle.saw_model.specs.InTurn.{PlansInTurn}
use Rattle.saw_model.specs.Plan.{queue_name, queues_of, queue_decls, tally_op}
use Rattle.saw_text.specs.Tree.{Program}
use Rattle.saw_model.specs.Meaning.{tables_in}
use Rattle.saw_model.proofs.Elaborated.{fine}
use Rattle.saw_model.proofs.Parts.{parts_read, reads_parts, tables_once}
use Rattle.saw_model.proofs.Suffixed.{AreOnce}
use Rattle.saw_model.proofs.Valid.{names_of, in_and_queues}

-- what the tallies name and use
tallies_name : (ts : List TableDecl) → mentioned (map tally_op ts) ≡ queues_of ts
tallies_name [] = refl
tallies_name (t ∷ ts) = ap (λ l. queue_name t.name ∷ l) (tallies_name ts)

tallies_use : (ts : List TableDecl) → all_vars (map tally_op ts) ≡ table_names ts
tallies_use [] = refl
tallies_use (t ∷ ts) = ap (λ l. t.name ∷ l) (tallies_use ts)

module _ (p : Program) (read : Steps × At) (h : parts_read p nothing_read ≡ fine read) where
  abbrev ts : List TableDecl
  ts = tables_in p

  abbrev qs : List Name
  qs = queues_of ts

  abbrev input : List Name
  input = codes "in" ∷ []

  once : AreOnce (table_names ts)
  once = tables_once p nothing_read read h

  queues : fold with_name input (input ++ (qs ++ mentioned (map tally_op ts))) ≡ input ++ decl_names (queue_decls ts)
  queues =
      ap (λ l. fold with_name input (input ++ (qs ++ l))) (tallies_name ts)
      ∙ fold-append with_name input input (qs ++ qs)
      ∙ ap (λ s. fold with_name s (qs ++ qs)) (there_stays input input (λ z lt. lt))
      ∙ fold-append with_name input qs qs
      ∙ ap (λ s. fold with_name s qs) (all_new input qs (λ z. let a = in_and_queues ts once z in omega (arith, a)))
      ∙ there_stays (input ++ qs) qs (λ z lt. let a = count-append z input qs in omega (arith, a, lt))
      ∙ ap (λ l. input ++ l) (sym (names_of ts))

  vars : fold with_name [] (all_vars (map tally_op ts)) ≡ table_names ts ++ []
  vars =
      ap (fold with_name []) (tallies_use ts)
      ∙ all_new [] (table_names ts) (λ z. let a = once z in omega (arith, a))
      ∙ sym (append-nil (table_names ts))

-- queues and variables are declared in the order of the operators
pub plans_in_turn : PlansInTurn
plans_in_turn p read h = let k = reads_parts 1 p nothing_read read h in (queues p read k, vars p read k)
