-- Blocks in which parameters are written as their values can be written out.
use Rattle.std.proofs.Common.{◌≡◌, ℕ, zero, suc, ℤ, pos, negsuc, ◌≤◌, Bool, true, false, Option, Some, None, ◌||◌, ◌&&◌, max, List, [], ◌∷◌, refl, sym, ap, ◌∙◌, subst, arith, nat_eq}
use Rattle.std.specs.Prelude.{if◌then◌else◌}
use Rattle.std.proofs.lemmas.Bool.{and_parts}
use Rattle.river_base.specs.Name.{name_eq}
use Rattle.river_base.specs.Number.{IsValue, count_of}
use Rattle.work_code.specs.declared.expr.BinOp.TheVariants as op
use Rattle.streamit_text.specs.Tree.{Expression, depth_of}
use Rattle.streamit_text.specs.Tree as tree
use Rattle.river_plan.specs.Forms.{Name}
use Rattle.streamit_text.specs.Tree.{Statement, Declare, Assign, Push, Discard, If, For, Block, End, Then, Optional, Unwritten, Written}
use Rattle.streamit_model.specs.Meaning.{look}
use Rattle.streamit_text.specs.Grammar.{is_still, is_still_first, stays, stay, stay_optional}
use Rattle.params_text.specs.Program.{ParamWork, ParamFilter}
use Rattle.params_model.specs.Environment.{Environment, bound, value, option_count, rated_work, rated_prework}
use Rattle.params_model.specs.Plain.{literal, literal_or, put_in, put_option, put_statement, put_block, put_optional, put_work, put_prework, plain_filter}
use Rattle.params_model.specs.Making.{is_ranged, is_ranged_option, is_ranged_work, is_ranged_prework, is_ranged_filter}
use Rattle.params_model.proofs.Values.{AllFit, bound_fits, look_fits}
use Rattle.params_text.specs.Told.{IsOwnName, IsToldTree, IsToldExpr, FirstBy, OnceBy, AllBy, OptionalBy, IsToldRate, IsToldWork, IsToldPrework, IsToldFilter}
use Rattle.params_text.specs.Params.{is_one_of, param_depth}
use Rattle.params_model.specs.Written.{IsWrittenExpr, IsWrittenPrework, IsWrittenFilter}

-- A LITERAL

value_small : (n : ℕ) → IsValue (pos n) → n ≤ 9223372036854775807
value_small n h = grind (arith, h)

value_low : (n : ℕ) → IsValue (negsuc n) → nat_eq n 9223372036854775807 ≡ false → suc n ≤ 9223372036854775807
value_low n h e = grind (arith, h, e)

either_told : (b : Bool) (n : ℕ) → nat_eq n 9223372036854775807 ≡ b → IsValue (negsuc n)
    → IsToldTree (if b then tree.Bin op.Sub (tree.Neg (tree.Number 9223372036854775807)) (tree.Number 1) else tree.Neg (tree.Number (suc n)))
either_told true n e h = (omega arith, omega arith)
either_told false n e h = value_low n h e

literal_told : (z : ℤ) → IsValue z → IsToldTree (literal z)
literal_told (pos n) h = value_small n h
literal_told (negsuc n) h = either_told (nat_eq n 9223372036854775807) n refl h

either_depth : (b : Bool) (n : ℕ)
    → depth_of (if b then tree.Bin op.Sub (tree.Neg (tree.Number 9223372036854775807)) (tree.Number 1) else tree.Neg (tree.Number (suc n))) ≤ 3
either_depth true n = omega arith
either_depth false n = omega arith

literal_depth : (z : ℤ) → depth_of (literal z) ≤ 3
literal_depth (pos n) = omega arith
literal_depth (negsuc n) = either_depth (nat_eq n 9223372036854775807) n

-- EXPRESSIONS

module _ (ps : List Name) (zs : List ℤ) (fits : AllFit zs) where
  abbrev env : Environment
  env = bound ps zs

  given_one : (qs : List Name) (ys : List ℤ) (n : Name) (z : ℤ) → look (bound qs ys) n ≡ Some z → is_one_of qs n ≡ true
  given_one [] ys n z h = absurd (cc h)
  given_one (q ∷ qs) [] n z h = absurd (cc h)
  given_one (q ∷ qs) (y ∷ ys) n z h = by (name_eq q n) refl (λ e. given_one qs ys n z e)
    where
      by : (b : Bool) → name_eq q n ≡ b → (look (bound qs ys) n ≡ Some z → is_one_of qs n ≡ true) → name_eq q n || is_one_of qs n ≡ true
      by true e more = ap (λ b. b || is_one_of qs n) e
      by false e more =
          ap (λ b. b || is_one_of qs n) e ∙ more (sym (ap (λ b. if b then Some y else look (bound qs ys) n) e) ∙ h)

  some_fits : (n : Name) (z : ℤ) → look env n ≡ Some z → IsValue z
  some_fits n z h = look_fits env n z (bound_fits ps zs fits) h

  name_told : (n : Name) (o : Option ℤ) → look env n ≡ o → IsOwnName n → IsToldTree (literal_or n o)
  name_told n None e h = h
  name_told n (Some z) e h = literal_told z (some_fits n z e)

  name_depth : (n : Name) (o : Option ℤ) → look env n ≡ o → depth_of (literal_or n o) ≤ (if is_one_of ps n then 3 else 1)
  name_depth n None e = one (is_one_of ps n)
    where
      one : (b : Bool) → 1 ≤ (if b then 3 else 1)
      one true = omega arith
      one false = omega arith
  name_depth n (Some z) e = subst (λ b. depth_of (literal z) ≤ (if b then 3 else 1)) (sym (given_one ps zs n z e)) (literal_depth z)

  put_told : (t : Expression) → IsToldTree t → IsToldTree (put_in env t)
  put_told (tree.Number v) h = h
  put_told (tree.Name n) h = name_told n (look env n) refl h
  put_told (tree.Peek t) h = put_told t h
  put_told tree.Pop h = tt
  put_told (tree.Neg t) h = put_told t h
  put_told (tree.Not t) h = put_told t h
  put_told (tree.Bin o a b) h = (put_told a h.0, put_told b h.1)

  max_both : (a b c d : ℕ) → a ≤ c → b ≤ d → max a b ≤ max c d
  max_both a b c d h g = grind (arith, h, g)

  put_depth : (t : Expression) → depth_of (put_in env t) ≤ param_depth ps t
  put_depth (tree.Number v) = omega arith
  put_depth (tree.Name n) = name_depth n (look env n) refl
  put_depth (tree.Peek t) = let e = put_depth t in omega (arith, e)
  put_depth tree.Pop = omega arith
  put_depth (tree.Neg t) = let e = put_depth t in omega (arith, e)
  put_depth (tree.Not t) = let e = put_depth t in omega (arith, e)
  put_depth (tree.Bin o a b) =
      let e = max_both (depth_of (put_in env a)) (depth_of (put_in env b)) (param_depth ps a) (param_depth ps b) (put_depth a) (put_depth b) in omega (arith, e)

  put_expr : (t : Expression) → IsWrittenExpr ps t → IsToldExpr (put_in env t)
  put_expr t h = (put_told t h.0, let e = put_depth t in omega (arith, e, h.1))

  -- BLOCKS

  first_by : (t : Option Expression) → FirstBy (IsWrittenExpr ps) t → FirstBy IsToldExpr (put_option env t)
  first_by None h = tt
  first_by (Some t) h = put_expr t h

  mutual
    once_by : (nest : ℕ) (c : Statement) → OnceBy (IsWrittenExpr ps) nest c → OnceBy IsToldExpr nest (put_statement env c)
    once_by nest (Declare n t) h = (h.0, first_by t h.1)
    once_by nest (Assign n t) h = (h.0, put_expr t h.1)
    once_by nest (Push t) h = put_expr t h
    once_by nest Discard h = tt
    once_by zero (If t a b) h = absurd h
    once_by (suc nest) (If t a b) h = (put_expr t h.0, all_by nest a h.1, optional_by nest b h.2)
    once_by zero (For n low upto high b) h = absurd h
    once_by (suc nest) (For n low upto high b) h = (h.0, put_expr low h.1, put_expr high h.2, all_by nest b h.3)

    all_by : (nest : ℕ) (b : Block) → AllBy (IsWrittenExpr ps) nest b → AllBy IsToldExpr nest (put_block env b)
    all_by nest End h = tt
    all_by nest (Then c b) h = (once_by nest c h.0, all_by nest b h.1)

    optional_by : (nest : ℕ) (b : Optional) → OptionalBy (IsWrittenExpr ps) nest b → OptionalBy IsToldExpr nest (put_optional env b)
    optional_by nest Unwritten h = tt
    optional_by nest (Written b) h = all_by nest b h

  -- `init` pushes, pops and looks at nothing still

  either_still : (b : Bool) (n : ℕ)
      → is_still (if b then tree.Bin op.Sub (tree.Neg (tree.Number 9223372036854775807)) (tree.Number 1) else tree.Neg (tree.Number (suc n))) ≡ true
  either_still true n = refl
  either_still false n = refl

  literal_still : (n : Name) (o : Option ℤ) → is_still (literal_or n o) ≡ true
  literal_still n None = refl
  literal_still n (Some (pos k)) = refl
  literal_still n (Some (negsuc k)) = either_still (nat_eq k 9223372036854775807) k

  put_still : (t : Expression) → is_still (put_in env t) ≡ is_still t
  put_still (tree.Number v) = refl
  put_still (tree.Name n) = literal_still n (look env n)
  put_still (tree.Peek t) = refl
  put_still tree.Pop = refl
  put_still (tree.Neg t) = put_still t
  put_still (tree.Not t) = put_still t
  put_still (tree.Bin o a b) = ap (λ x. x && is_still (put_in env b)) (put_still a) ∙ ap (λ x. is_still a && x) (put_still b)

  first_still : (t : Option Expression) → is_still_first (put_option env t) ≡ is_still_first t
  first_still None = refl
  first_still (Some t) = put_still t

  mutual
    once_stays : (c : Statement) → stays (put_statement env c) ≡ stays c
    once_stays (Declare n t) = first_still t
    once_stays (Assign n t) = put_still t
    once_stays (Push t) = refl
    once_stays Discard = refl
    once_stays (If t a b) =
        ap (λ x. x && (stay (put_block env a) && stay_optional (put_optional env b))) (put_still t)
        ∙ ap (λ x. is_still t && (x && stay_optional (put_optional env b))) (all_stay a)
        ∙ ap (λ x. is_still t && (stay a && x)) (optional_stay b)
    once_stays (For n low upto high b) =
        ap (λ x. x && (is_still (put_in env high) && stay (put_block env b))) (put_still low)
        ∙ ap (λ x. is_still low && (x && stay (put_block env b))) (put_still high)
        ∙ ap (λ x. is_still low && (is_still high && x)) (all_stay b)

    all_stay : (b : Block) → stay (put_block env b) ≡ stay b
    all_stay End = refl
    all_stay (Then c b) = ap (λ x. x && stay (put_block env b)) (once_stays c) ∙ ap (λ x. stays c && x) (all_stay b)

    optional_stay : (b : Optional) → stay_optional (put_optional env b) ≡ stay_optional b
    optional_stay Unwritten = refl
    optional_stay (Written b) = all_stay b

  -- RATES AND FILTERS

  -- a number in range counts at most 65,536
  pub ranged_count : (z : ℤ) → is_ranged z ≡ true → count_of z ≤ 65536
  ranged_count (pos n) h = grind (arith, h)
  ranged_count (negsuc n) h = omega arith

  rate_told : (o : Option Expression) → is_ranged_option env o ≡ true → IsToldRate (option_count env o)
  rate_told None h = tt
  rate_told (Some c) h = let e = ranged_count (value env c) h in omega (arith, e)

  work_told : (w : ParamWork) → AllBy (IsWrittenExpr ps) 16 w.block → is_ranged_work env w ≡ true → IsToldWork (put_work env (rated_work env w))
  work_told w h r =
      let a = and_parts (is_ranged_option env w.push) (is_ranged_option env w.pop && is_ranged_option env w.peek) r in
      let b = and_parts (is_ranged_option env w.pop) (is_ranged_option env w.peek) a.1 in
      record { push = rate_told w.push a.0; pop = rate_told w.pop b.0; peek = rate_told w.peek b.1; block = all_by 16 w.block h }

  prework_told : (o : Option ParamWork) → IsWrittenPrework ps o → is_ranged_prework env o ≡ true → IsToldPrework (put_prework env (rated_prework env o))
  prework_told None h r = tt
  prework_told (Some w) h r = work_told w h r

  -- a written filter whose numbers are in range is one that a text can stand for, once the values are put in
  pub filter_told : (t : ParamFilter) → IsWrittenFilter ps t → is_ranged_filter env t ≡ true → IsToldFilter (plain_filter env t)
  filter_told t h r =
      let a = and_parts (is_ranged_prework env t.prework) (is_ranged_work env t.work) r in
      record {
        fields = h.fields;
        init = optional_by 16 t.init h.init;
        stays = optional_stay t.init ∙ h.stays;
        prework = prework_told t.prework h.prework a.0;
        work = work_told t.work h.work a.1;
      }
