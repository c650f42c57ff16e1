use Rattle.std.proofs.Common.{◌≡◌, ◌<◌, ◌+◌, ℕ, ℤ, suc, pos, List, [], ◌∷◌, ◌++◌, length, map, take, take-suc, slice_index_or, sym, ap, ◌∙◌, subst, arith}
use Rattle.std.proofs.lemmas.List.{map-append}
use Rattle.kern_tables.specs.declared.kind.TableKind.TheVariants.{Sum}
use Rattle.river_plan.specs.Forms.{PlanForm}
use Rattle.river_plan.specs.declared.plan.TableDecl.{TableDecl}
use Rattle.plan_classes.specs.Users.{having}
use Rattle.plan_classes.proofs.Named.{users_named, few_users}
use Rattle.plan_classes.proofs.users.table_users.Goals as goal

pub as_numbers-requires : goal.as_numbers-requires
as_numbers-requires c k d lt =
    subst (λ (us : List ℕ). slice_index_or us k d < 9223372036854775808) (sym c.users_of.ensures.users)
    (few_users c.args.plan.now c.raw.ensures.valid c.loop-table.table k d (subst (λ (us : List ℕ). k < length us) c.users_of.ensures.users lt))

-- the users of one table more
more : (p : PlanForm) (i : ℕ) (all new : List (List ℤ)) (numbers : List ℤ) (d : TableDecl) → all ≡ map (λ t. having t.name 0 p.ops) (take i p.tables)
    → i < length p.tables
    → numbers ≡ having (slice_index_or p.tables i d).name 0 p.ops → new ≡ all ++ numbers ∷ [] → new ≡ map (λ t. having t.name 0 p.ops) (take (i + 1) p.tables)
more p i all new numbers d h lt n e =
    let next : suc i ≡ i + 1 = omega arith in
    let x = slice_index_or p.tables i d in
    let taken : take (i + 1) p.tables ≡ take i p.tables ++ x ∷ [] = ap (λ (k : ℕ). take k p.tables) (sym next) ∙ take-suc p.tables i d lt in
    e ∙ (ap (λ (l : List (List ℤ)). l ++ numbers ∷ []) h ∙ (ap (λ (u : List ℤ). map (λ t. having t.name 0 p.ops) (take i p.tables) ++ u ∷ []) n
    ∙ (sym (map-append (λ (t : TableDecl). having t.name 0 p.ops) (take i p.tables) (x ∷ []))
    ∙ ap (map (λ (t : TableDecl). having t.name 0 p.ops)) (sym taken))))

pub loop-table-preserved : goal.loop-table-preserved
loop-table-preserved c =
    let p = c.args.plan.now in
    let lt : c.loop-table.table < length p.tables =
    (let a = c.loop-table-test.true in let b = c.len-table-end.ensures in let e =
    ap (λ (q : PlanForm). length q.tables) c.raw.ensures.raw in omega (arith, a, b, e)) in
    let d : TableDecl = record { name = []; kind = Sum 0 } in
    more p c.loop-table.table c.loop-table.all c.push.new.self c.in_ok-as_numbers.field-0 d c.loop-table.invariant lt
    (c.in_ok-as_numbers.ensures ∙ (ap (map pos) c.users_of.ensures.users ∙ users_named p c.raw.ensures.valid c.loop-table.table d lt)) c.in_ok-push.ensures.ok
