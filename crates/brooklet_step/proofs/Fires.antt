-- What firings give, and the plain forms of kernels.
use Rattle.std.proofs.Common.{◌≡◌, ℕ, zero, suc, ◌<◌, ◌≤◌, Ok, Err, List, [], ◌∷◌, ◌++◌, length, replicate, refl, sym, ap, ◌∙◌, subst, arith, get_or, nat_lt, append_assoc}
use Rattle.std.specs.Prelude.{if◌then◌else◌}
use Rattle.std.specs.Result.{OnOk}
use Rattle.std.specs.declared.result.Result.{Result}
use Rattle.river_base.specs.declared.memory.NoMemory.{NoMemory}
use Rattle.std.proofs.Math.ListN.{set}
use Rattle.std.proofs.lemmas.List.{length-replicate}
use Rattle.river_base.specs.declared.item.Flat as flat
use Rattle.river_base.specs.declared.item.Item as item
use Rattle.river_base.specs.declared.item.Item.TheVariants.{Flat, Pack}
use Rattle.river_base.specs.Held.{flats}
use Rattle.river_base.specs.Places.{append_at, each_grew, list_at}
use Rattle.river_base.proofs.PlaceLemmas.{if_lt, each_grew_cong, each_grew-none, each_grew-blanks}
use Rattle.river_kernels.specs.Kern.{Kern, filter, duplicate}
use Rattle.kern_rows.specs.Forms.{FilterForm}
use Rattle.brooklet_model.specs.Fire.{fire, outs, tabs}
use Rattle.brooklet_step.specs.declared.emit.Emit.{Emit}
use Rattle.brooklet_step.specs.declared.state.State.{State}
use Rattle.brooklet_step.specs.declared.state.State.TheVariants as state
use Rattle.brooklet_step.specs.Took.{HasLists, IsBlank}
use Rattle.brooklet_step.specs.Stands.{StandsForKept, Fires, MayTake}

-- PACKS OF WHAT ITEMS ARE

-- the parts of two lists of items, one after the other
pub flats-append : (xs ys : List item.Item) → flats (xs ++ ys) ≡ flats xs ++ flats ys
flats-append [] ys = refl
flats-append (Flat f ∷ xs) ys = ap (λ t. f ∷ t) (flats-append xs ys)
flats-append (Pack fs ∷ xs) ys = flats-append xs ys

-- one more item
pub flats_next : (all all' : List flat.Flat) (whole items rest : List item.Item) (x : item.Item) → all ++ flats items ≡ flats whole → items ≡ x ∷ rest
    → all' ≡ all ++ flats (x ∷ []) → all' ++ flats rest ≡ flats whole
flats_next all all' whole items rest x h e n =
    ap (λ l. l ++ flats rest) n ∙ append_assoc all (flats (x ∷ [])) (flats rest) ∙ ap (λ l. all ++ l) (sym (flats-append (x ∷ []) rest))
    ∙ ap (λ l. all ++ flats l) (sym e) ∙ h

-- ROOM

-- empty lists have a place for each port and table
pub blank_room : (k : Kern) (e : Emit) → IsBlank k e → HasLists k e
blank_room k e b = record { outs = ap length b.outs ∙ length-replicate (outs k) []; adds = ap length b.adds ∙ length-replicate (tabs k) [] }

-- what is in lists that were empty
pub grown_list : {A : Type 0} (n : ℕ) (ls ls' : List (List A)) (f : ℕ → List A) (p : ℕ) → ls ≡ replicate n [] → ls' ≡ each_grew ls f → p < n
    → list_at ls' p ≡ f p
grown_list n ls ls' f p b t h = ap (λ l. list_at l p) (t ∙ ap (λ l. each_grew l f) b) ∙ each_grew-blanks n f p [] h

-- ANSWERS WITHOUT A VALUE

-- what follows from what an answer says, it says too
pub on_ok : (P Q : Type 0) (r : Result Unit NoMemory) → (P → Q) → OnOk r P → OnOk r Q
on_ok P Q (Ok x) f h = f h
on_ok P Q (Err e) f h = h

-- the same of two things that it says
pub on_both : (P Q R : Type 0) (r : Result Unit NoMemory) → (P → Q → R) → OnOk r P → OnOk r Q → OnOk r R
on_both P Q R (Ok x) f h g = f h g
on_both P Q R (Err e) f h g = h

-- A FILTER, AND COPIES

-- a filter's firing on its one state is its firing on all states
pub filter_whole : (k : Kern) (f : FilterForm) (port : ℕ) (x : item.Item) (st : List State) (d s s' : State) (out out' : Emit) → k ≡ filter f
    → MayTake k port x st → s ≡ get_or st 0 d → Fires (filter f) out out' (s ∷ []) (s' ∷ []) (fire (filter f) 0 x)
    → Fires k out out' st (set st 0 s') (fire k port x)
filter_whole k f port x st d s s' out out' ek t g h =
    let a = subst (λ (j : Kern). StandsForKept j st t.fitted.keeps.kept) ek t.fitted.keeps.stands in
    let same : s ≡ state.Filter a.now = g ∙ ap (λ (l : List State). get_or l 0 d) a.code in
    let e : st ≡ s ∷ [] = a.code ∙ ap (λ (u : State). u ∷ []) (sym same) in
    let whole : Fires (filter f) out out' st (set st 0 s') (fire (filter f) port x) =
    subst (λ (l : List State). Fires (filter f) out out' l (set l 0 s') (fire (filter f) port x)) (sym e) h in
    subst (λ (j : Kern). Fires j out out' st (set st 0 s') (fire j port x)) (sym ek) whole

-- where no list is, none grows
pub append_past : {A : Type 0} (ls : List (List A)) (n : ℕ) (xs : List A) → length ls ≤ n → append_at ls n xs ≡ ls
append_past [] n xs h = refl
append_past (l ∷ ls) zero xs h = absurd (omega arith)
append_past (l ∷ ls) (suc n) xs h = ap (λ t. l ∷ t) (append_past ls n xs (omega arith))

-- giving an item at each port is the firing of a kernel that copies
pub duplicate_fires : (k : Kern) (n port : ℕ) (x : item.Item) (st : List State) (out out' : Emit) → k ≡ duplicate n → HasLists k out
    → out'.outs ≡ each_grew out.outs (λ p. x ∷ []) → out'.adds ≡ out.adds → Fires k out out' st st (fire k port x)
duplicate_fires k n port x st out out' ek room eo ea =
    let l : length out.outs ≡ n = room.outs ∙ ap outs ek in
    let copies : Fires (duplicate n) out out' st st (fire (duplicate n) port x) = record {
      given = λ ks h. (
        record {
          outs =
              eo ∙ each_grew_cong out.outs (λ p. x ∷ []) (λ q. if nat_lt q n then x ∷ [] else []) (λ p lt. sym (if_lt p n (x ∷ []) [] (omega (arith, l, lt))));
          adds = ea ∙ sym (each_grew-none out.adds);
        },
        h,
      );
    } in
    subst (λ (j : Kern). Fires j out out' st st (fire j port x)) (sym ek) copies
