-- Declarations and names that are made.
use Rattle.std.proofs.Common.{◌≡◌, ℕ, zero, suc, ◌<◌, Some, List, [], ◌∷◌, map, length, replicate, refl, ap, ◌∙◌, arith, ⊎_elim}
use Rattle.std.specs.Prelude.{All, IsTrue}
use Rattle.std.proofs.lemmas.List.Elements.{All-cons, All-nil}
use Rattle.river_base.proofs.PlaceLemmas.{if_true, if_false}
use Rattle.river_base.specs.Name.{name_eq}
use Rattle.river_base.specs.declared.kind.QueueType.{QueueType}
use Rattle.river_kernels.specs.Formed.{is_width}
use Rattle.river_plan.specs.Faults.{HasWidth, type_width}
use Rattle.river_plan.specs.Forms.{Name, decl_names}
use Rattle.river_plan.specs.Kinds.{kind_in}
use Rattle.river_plan.specs.Names.{one_if, count}
use Rattle.river_plan.proofs.NameLemmas.{cases_name}
use Rattle.brooklet_model.proofs.Solutions.{count_here}
use Rattle.rw_fission.specs.Fission.{decls}
use Rattle.rw_fission.specs.Made.{each_name}

-- the names of made declarations
pub names_of_decls : (t : QueueType) (ws : List Name) → decl_names (decls t ws) ≡ ws
names_of_decls t [] = refl
names_of_decls t (w ∷ ws) = ap (λ l. w ∷ l) (names_of_decls t ws)

-- all of one type
pub kind_decls : (t : QueueType) (ws : List Name) (q : Name) → 0 < count q ws → kind_in (decls t ws) q ≡ Some t
kind_decls t [] q lt = absurd (omega (arith, lt))
kind_decls t (w ∷ ws) q lt = ⊎_elim
    (λ c. if_true (name_eq w q) (Some t) (kind_in (decls t ws) q) c.1)
    (λ c. if_false (name_eq w q) (Some t) (kind_in (decls t ws) q) c.1 ∙ kind_decls t ws q (let e = ap one_if c.1 in omega (arith, e, lt)))
    (cases_name w q)

-- as many made names as replicas
pub length_each : (f : ℕ → Name) (n : ℕ) → length (each_name f n) ≡ n
length_each f zero = refl
length_each f (suc n) = ap suc (length_each (λ i. f (suc i)) n)

-- each made name is among them
pub count_each : (f : ℕ → Name) (n i : ℕ) → i < n → 0 < count (f i) (each_name f n)
count_each f zero i lt = absurd (omega (arith, lt))
count_each f (suc n) zero lt = count_here (f 0) (each_name (λ i. f (suc i)) n)
count_each f (suc n) (suc i) lt = let e = count_each (λ i. f (suc i)) n i (omega (arith, lt)) in omega (arith, e)

-- a function that is the same on all made names
pub map_each : {A : Type 0} (k : Name → A) (f : ℕ → Name) (n : ℕ) (t : A) → ((q : Name) → 0 < count q (each_name f n) → k q ≡ t)
    → map k (each_name f n) ≡ replicate n t
map_each k f zero t e = refl
map_each k f (suc n) t e =
    ap (λ x. x ∷ map k (each_name (λ i. f (suc i)) n)) (e (f 0) (count_here (f 0) (each_name (λ i. f (suc i)) n)))
    ∙ ap (λ l. t ∷ l) (map_each k (λ i. f (suc i)) n t (λ q lt. e q (omega (arith, lt))))

-- made declarations have a width
pub decls_sized : (t : QueueType) (ws : List Name) → IsTrue (is_width (type_width t)) → All HasWidth (decls t ws)
decls_sized t [] h = All-nil HasWidth
decls_sized t (w ∷ ws) h = All-cons HasWidth (record { name = w; kind = t }) (decls t ws) h (decls_sized t ws h)
