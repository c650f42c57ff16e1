-- The lists of a plan, and what is known of its tables.
use Rattle.std.proofs.Common.{◌≡◌, ℕ, zero, suc, ◌+◌, ◌<◌, ◌≤◌, ◌^◌, true, List, [], ◌∷◌, ◌++◌, length, drop, get_or, Ok, refl, sym, ap, ◌∙◌}
use Rattle.std.proofs.Common.{subst, arith, append_assoc, append-nil, length-append}
use Rattle.std.specs.Prelude.{◌&&◌, codes, nat_le}
use Rattle.std.specs.List.{AllByRecursion, list_all}
use Rattle.std.proofs.lemmas.Bool.{and_parts, true≢false, and_from, le-leb}
use Rattle.std.proofs.lemmas.List.Folds.{list_all-append}
use Rattle.river_base.proofs.Lists.{map_next, map_none}
use Rattle.river_base.specs.Name.{is_letter, is_digit, is_word, is_name}
use Rattle.river_plan.specs.Forms.{Name, PlanForm, plan_form}
use Rattle.river_plan.specs.Valid.{IsPlan}
use Rattle.river_plan.specs.declared.plan.RawPlan.{RawPlan}
use Rattle.river_plan.specs.declared.plan.TableDecl.{TableDecl}
use Rattle.work_code.specs.Steps.{Steps}
use Rattle.saw_text.specs.Tree.{Program}
use Rattle.saw_text.specs.Tree.{TableUnit, StatementUnit}
use Rattle.saw_model.specs.Meaning.{tables_in, width, table_kind}
use Rattle.saw_model.specs.Elaborate.{At, nothing_read}
use Rattle.saw_model.specs.Judged.{judged}
use Rattle.saw_model.specs.Shallow.{AreShallowUnits}
use Rattle.saw_model.proofs.Elaborated.{fine}
use Rattle.saw_model.proofs.Formed.{parts_reach}
use Rattle.saw_model.proofs.Valid.{plans_are_valid}
use Rattle.saw_model.proofs.Parts.{parts_read, reads_parts, tabled_parts, split_parts}
use Rattle.saw_text.specs.declared.tree.Unit as tree
use Rattle.saw_text.specs.Tree.{UnitForm, unit_form, unit_forms}
use Rattle.saw_front.specs.Planning.{PlansBy}
use Rattle.saw_front.specs.Plans.{AreListed}
use Rattle.saw_front.specs.Valued.{AreValuedUnits}

-- LISTS

-- what holds of all holds of each
pub each_at : {A : Type 0} (P : A → Type 0) (xs : List A) (i : ℕ) (x : A) → AllByRecursion P xs → i < length xs → x ≡ get_or xs i x → P x
each_at P [] i x h lt e = absurd (omega (arith, lt))
each_at P (y ∷ ys) zero x h lt e = subst P (sym e) h.0
each_at P (y ∷ ys) (suc i) x h lt e = each_at P ys i x h.1 (omega (arith, lt)) e

-- NAMES

-- a name of at most 40 bytes with a few letters behind it is a name
longer_name : (name end : Name) → list_all is_word end ≡ true → length end ≤ 20 → is_name name ≡ true → length name ≤ 40 → is_name (name ++ end) ≡ true
unfolding is_word is_letter is_digit
longer_name [] end w few h len = absurd (true≢false (sym h))
longer_name (b ∷ bs) end w few h len =
    let p = and_parts (is_letter b) (list_all is_word bs && nat_le (length bs) 63) h in
    let q = and_parts (list_all is_word bs) (nat_le (length bs) 63) p.1 in
    let all : list_all is_word (bs ++ end) ≡ true = list_all-append is_word bs end ∙ and_from (list_all is_word bs) (list_all is_word end) q.0 w in
    let short : length (bs ++ end) ≤ 63 = (let a = length-append bs end in omega (arith, a, few, len)) in
    and_from (is_letter b) _ p.0 (and_from (list_all is_word (bs ++ end)) _ all (le-leb (length (bs ++ end)) 63 short))

-- the name of a queue is one
pub queue_is_name : (name : Name) → is_name name ≡ true → length name ≤ 40 → is_name (name ++ codes "@q") ≡ true
unfolding is_word is_letter is_digit
queue_is_name name h len = longer_name name (codes "@q") refl (omega arith) h len

-- and so is that of a tally
pub tally_is_name : (name : Name) → is_name name ≡ true → length name ≤ 40 → is_name (name ++ codes "@tally") ≡ true
unfolding is_word is_letter is_digit
tally_is_name name h len = longer_name name (codes "@tally") refl (omega arith) h len

-- WHAT JUDGING SEES TO

listed_from : (p : Program) (s : At) (y : Steps × At) → AreValuedUnits p → parts_read p s ≡ fine y → AreListed (tables_in p)
listed_from [] s y v h = tt
listed_from (TableUnit tb ∷ ps) s y v h =
    let d = split_parts (TableUnit tb) ps s y h in
    let t = tabled_parts tb.name (table_kind tb) s d.first d.first_is in
    (record { short = v.0; keys = t.keys }, listed_from ps d.first.1 d.others v.1 d.others_is)
listed_from (StatementUnit c ∷ ps) s y v h = let d = split_parts (StatementUnit c) ps s y h in listed_from ps d.first.1 d.others v.1 d.others_is

-- the tables of a program that is accepted have short names and few keys
pub judged_listed : (p : Program) (y : Steps × At) → AreValuedUnits p → judged p ≡ Ok y → AreListed (tables_in p)
judged_listed p y v h = listed_from p nothing_read y v (reads_parts 1 p nothing_read y h)

-- and it reads few fields
pub judged_wide : (p : Program) (y : Steps × At) → judged p ≡ Ok y → width p < 2 ^ 32
judged_wide p y h = let r = parts_reach p nothing_read y (reads_parts 1 p nothing_read y h) in omega (arith, r)

split_first : (c : UnitForm) (ps : Program) → tables_in (c ∷ []) ++ tables_in ps ≡ tables_in (c ∷ ps)
split_first (TableUnit tb) ps = refl
split_first (StatementUnit c) ps = refl

-- the tables so far and those that are left are all
pub tables_next : (us : List tree.Unit) (i : ℕ) (u : tree.Unit) (list more whole : List TableDecl) → i < length us → u ≡ get_or us i u
    → more ≡ list ++ tables_in (unit_form u ∷ [])
    → list ++ tables_in (unit_forms (drop i us)) ≡ whole → more ++ tables_in (unit_forms (drop (i + 1) us)) ≡ whole
tables_next us i u list more whole lt e is h =
    let rest = unit_forms (drop (i + 1) us) in
    ap (λ l. l ++ tables_in rest) is
    ∙ append_assoc list (tables_in (unit_form u ∷ [])) (tables_in rest)
    ∙ ap (λ l. list ++ l) (split_first (unit_form u) rest ∙ ap tables_in (sym (map_next unit_form us i u lt e)))
    ∙ h

-- behind the last unit all tables are listed
pub tables_end : (us : List tree.Unit) (i : ℕ) (list whole : List TableDecl) → length us ≤ i → list ++ tables_in (unit_forms (drop i us)) ≡ whole
    → list ≡ whole
tables_end us i list whole le h = sym (append-nil list) ∙ ap (λ (p : List UnitForm). list ++ tables_in p) (sym (map_none unit_form us i le)) ∙ h

-- THE PLAN OF LISTS THAT ARE VALID

-- the lists of a program that is accepted are valid, where no expression is too deep
pub lists-valid : (us : Program) (raw : RawPlan) → AreShallowUnits us → PlansBy plan_form (Ok raw) us (judged us) → IsPlan (plan_form raw)
lists-valid us raw low h = subst IsPlan (sym h.2) (plans_are_valid us h.0 low h.1)

-- and the plan that is checked is theirs
pub lists-plan : (us : Program) (raw : RawPlan) (plan : PlanForm) → PlansBy plan_form (Ok raw) us (judged us) → plan ≡ plan_form raw
    → PlansBy (λ (q : PlanForm). q) (Ok plan) us (judged us)
lists-plan us raw plan h is = (h.0, h.1, is ∙ h.2)
