-- Codes by which proofs tell expressions, statements and kernels apart: each is written as a list, part before whole, and read
-- back from it with a stack.
use Rattle.std.specs.Prelude.{◌≡◌, ℕ, ℤ, pos, List, [], ◌∷◌, ◌++◌, refl}
use Rattle.std.specs.Coded.{Coded, code_by, coded_list, codes}
use Rattle.std.proofs.Common.{ap, ◌∙◌}
use Rattle.work_code.specs.declared.expr.BinOp.{BinOp}
use Rattle.work_code.specs.Term.{Term, Const, Input, Slot, Neg, Not, Bin}
use Rattle.work_code.specs.Steps.{Step, Steps, Set, Push, If, Done, Then}
use Rattle.kern_rows.specs.Forms.{CodeForm, FilterForm}
use Rattle.kern_bags.specs.declared.kernel.Window.{Window}
use Rattle.kern_bags.specs.declared.kernel.Streamer.{Streamer}
use Rattle.river_kernels.specs.Kern.{Kern, code, filter, duplicate, deal, collect, packed, unpack, window, select, project, cross, streamer, tally, fused}

-- a machine that reads a list with a stack
module _ {K A : Type 0} (act : K → List A → List A) where
  abbrev acts : List K → List A → List A
  acts [] st = st
  acts (k ∷ ks) st = acts ks (act k st)

  acts-append : (xs ys : List K) (st : List A) → acts (xs ++ ys) st ≡ acts ys (acts xs st)
  acts-append [] ys st = refl
  acts-append (x ∷ xs) ys st = acts-append xs ys (act x st)

data TermPart : Type 0 where
  a_const : ℤ → TermPart
  an_input : ℕ → TermPart
  a_slot : ℕ → TermPart
  a_neg : TermPart
  a_not : TermPart
  a_bin : BinOp → TermPart

abbrev term_parts : Term → List TermPart
term_parts (Const z) = a_const z ∷ []
term_parts (Input n) = an_input n ∷ []
term_parts (Slot n) = a_slot n ∷ []
term_parts (Neg t) = term_parts t ++ a_neg ∷ []
term_parts (Not t) = term_parts t ++ a_not ∷ []
term_parts (Bin op l r) = term_parts l ++ (term_parts r ++ a_bin op ∷ [])

abbrev add_term : TermPart → List Term → List Term
add_term (a_const z) st = Const z ∷ st
add_term (an_input n) st = Input n ∷ st
add_term (a_slot n) st = Slot n ∷ st
add_term a_neg [] = []
add_term a_neg (t ∷ st) = Neg t ∷ st
add_term a_not [] = []
add_term a_not (t ∷ st) = Not t ∷ st
add_term (a_bin op) [] = []
add_term (a_bin op) (r ∷ []) = []
add_term (a_bin op) (r ∷ l ∷ st) = Bin op l r ∷ st

term_read : (t : Term) (st : List Term) → acts add_term (term_parts t) st ≡ t ∷ st
term_read (Const z) st = refl
term_read (Input n) st = refl
term_read (Slot n) st = refl
term_read (Neg t) st = acts-append add_term (term_parts t) (a_neg ∷ []) st ∙ ap (acts add_term (a_neg ∷ [])) (term_read t st)
term_read (Not t) st = acts-append add_term (term_parts t) (a_not ∷ []) st ∙ ap (acts add_term (a_not ∷ [])) (term_read t st)
term_read (Bin op l r) st =
    acts-append add_term (term_parts l) (term_parts r ++ a_bin op ∷ []) st ∙ ap (acts add_term (term_parts r ++ a_bin op ∷ [])) (term_read l st)
    ∙ acts-append add_term (term_parts r) (a_bin op ∷ []) (l ∷ st) ∙ ap (acts add_term (a_bin op ∷ [])) (term_read r (l ∷ st))

abbrev top_term : List Term → Term
top_term [] = Const (pos 0)
top_term (t ∷ st) = t

term_part_code : Coded TermPart
term_part_code = hlevel codes

pub term_code : Coded Term
term_code = code_by (List TermPart) (coded_list term_part_code) term_parts (λ ks. top_term (acts add_term ks [])) (λ t. ap top_term (term_read t []))

data StepPart : Type 0 where
  a_set : ℕ → Term → StepPart
  a_push : ℕ → List Term → StepPart
  an_if : Term → StepPart
  a_done : StepPart
  a_then : StepPart

-- a statement or a list of statements
data Parsed : Type 0 where
  one : Step → Parsed
  many : Steps → Parsed

abbrev mutual
  step_parts : Step → List StepPart
  step_parts (Set n t) = a_set n t ∷ []
  step_parts (Push n ts) = a_push n ts ∷ []
  step_parts (If t ss us) = steps_parts ss ++ (steps_parts us ++ an_if t ∷ [])

  steps_parts : Steps → List StepPart
  steps_parts Done = a_done ∷ []
  steps_parts (Then s ss) = step_parts s ++ (steps_parts ss ++ a_then ∷ [])

abbrev add_if : Term → List Parsed → List Parsed
add_if t [] = []
add_if t (p ∷ []) = []
add_if t (one s ∷ p ∷ st) = []
add_if t (many us ∷ one s ∷ st) = []
add_if t (many us ∷ many ss ∷ st) = one (If t ss us) ∷ st

abbrev add_then : List Parsed → List Parsed
add_then [] = []
add_then (p ∷ []) = []
add_then (one s ∷ p ∷ st) = []
add_then (many ss ∷ many us ∷ st) = []
add_then (many ss ∷ one s ∷ st) = many (Then s ss) ∷ st

abbrev add_step : StepPart → List Parsed → List Parsed
add_step (a_set n t) st = one (Set n t) ∷ st
add_step (a_push n ts) st = one (Push n ts) ∷ st
add_step (an_if t) st = add_if t st
add_step a_done st = many Done ∷ st
add_step a_then st = add_then st

mutual
  step_read : (s : Step) (st : List Parsed) → acts add_step (step_parts s) st ≡ one s ∷ st
  step_read (Set n t) st = refl
  step_read (Push n ts) st = refl
  step_read (If t ss us) st =
      acts-append add_step (steps_parts ss) (steps_parts us ++ an_if t ∷ []) st ∙ ap (acts add_step (steps_parts us ++ an_if t ∷ [])) (steps_read ss st)
      ∙ acts-append add_step (steps_parts us) (an_if t ∷ []) (many ss ∷ st) ∙ ap (acts add_step (an_if t ∷ [])) (steps_read us (many ss ∷ st))

  steps_read : (ss : Steps) (st : List Parsed) → acts add_step (steps_parts ss) st ≡ many ss ∷ st
  steps_read Done st = refl
  steps_read (Then s ss) st =
      acts-append add_step (step_parts s) (steps_parts ss ++ a_then ∷ []) st ∙ ap (acts add_step (steps_parts ss ++ a_then ∷ [])) (step_read s st)
      ∙ acts-append add_step (steps_parts ss) (a_then ∷ []) (one s ∷ st) ∙ ap (acts add_step (a_then ∷ [])) (steps_read ss (one s ∷ st))

abbrev top_steps : List Parsed → Steps
top_steps [] = Done
top_steps (one s ∷ st) = Done
top_steps (many ss ∷ st) = ss

step_part_code : Coded StepPart
step_part_code = hlevel (codes, term_code)

-- steps are written as a list of their parts, from which they are read back
pub steps_code : Coded Steps
steps_code = code_by (List StepPart) (coded_list step_part_code) steps_parts (λ ks. top_steps (acts add_step ks [])) (λ ss. ap top_steps (steps_read ss []))

data KernPart : Type 0 where
  a_code : CodeForm → KernPart
  a_filter : FilterForm → KernPart
  a_duplicate : ℕ → KernPart
  a_deal : List ℤ → KernPart
  a_collect : List ℤ → KernPart
  a_packed : KernPart
  an_unpack : ℕ → KernPart
  a_window : Window → KernPart
  a_select : Term → KernPart
  a_project : List Term → KernPart
  a_cross : KernPart
  a_streamer : Streamer → KernPart
  a_tally : KernPart
  a_fused : ℕ → KernPart

abbrev kern_parts : Kern → List KernPart
kern_parts (code k) = a_code k ∷ []
kern_parts (filter f) = a_filter f ∷ []
kern_parts (duplicate n) = a_duplicate n ∷ []
kern_parts (deal ws) = a_deal ws ∷ []
kern_parts (collect ws) = a_collect ws ∷ []
kern_parts (packed k) = kern_parts k ++ a_packed ∷ []
kern_parts (unpack n) = an_unpack n ∷ []
kern_parts (window w) = a_window w ∷ []
kern_parts (select e) = a_select e ∷ []
kern_parts (project es) = a_project es ∷ []
kern_parts cross = a_cross ∷ []
kern_parts (streamer s) = a_streamer s ∷ []
kern_parts tally = a_tally ∷ []
kern_parts (fused a b at) = kern_parts a ++ (kern_parts b ++ a_fused at ∷ [])

abbrev add_packed : List Kern → List Kern
add_packed [] = []
add_packed (k ∷ st) = packed k ∷ st

abbrev add_fused : ℕ → List Kern → List Kern
add_fused at [] = []
add_fused at (b ∷ []) = []
add_fused at (b ∷ a ∷ st) = fused a b at ∷ st

abbrev add_kern : KernPart → List Kern → List Kern
add_kern (a_code k) st = code k ∷ st
add_kern (a_filter f) st = filter f ∷ st
add_kern (a_duplicate n) st = duplicate n ∷ st
add_kern (a_deal ws) st = deal ws ∷ st
add_kern (a_collect ws) st = collect ws ∷ st
add_kern a_packed st = add_packed st
add_kern (an_unpack n) st = unpack n ∷ st
add_kern (a_window w) st = window w ∷ st
add_kern (a_select e) st = select e ∷ st
add_kern (a_project es) st = project es ∷ st
add_kern a_cross st = cross ∷ st
add_kern (a_streamer s) st = streamer s ∷ st
add_kern a_tally st = tally ∷ st
add_kern (a_fused at) st = add_fused at st

kern_read : (k : Kern) (st : List Kern) → acts add_kern (kern_parts k) st ≡ k ∷ st
kern_read (packed k) st = acts-append add_kern (kern_parts k) (a_packed ∷ []) st ∙ ap (acts add_kern (a_packed ∷ [])) (kern_read k st)
kern_read (fused a b at) st =
    acts-append add_kern (kern_parts a) (kern_parts b ++ a_fused at ∷ []) st ∙ ap (acts add_kern (kern_parts b ++ a_fused at ∷ [])) (kern_read a st)
    ∙ acts-append add_kern (kern_parts b) (a_fused at ∷ []) (a ∷ st) ∙ ap (acts add_kern (a_fused at ∷ [])) (kern_read b (a ∷ st))
kern_read kernel st = refl

abbrev top_kern : List Kern → Kern
top_kern [] = tally
top_kern (k ∷ st) = k

kern_part_code : Coded KernPart
kern_part_code = hlevel (codes, term_code, steps_code)

-- kernels have a code
pub kern_code : Coded Kern
kern_code = code_by (List KernPart) (coded_list kern_part_code) kern_parts (λ ks. top_kern (acts add_kern ks [])) (λ k. ap top_kern (kern_read k []))
