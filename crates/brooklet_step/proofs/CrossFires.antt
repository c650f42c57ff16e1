-- Firings of products: a change comes to a port, and the changes of the pairs that pass are given.
use Rattle.std.proofs.Common.{◌≡◌, ℕ, zero, suc, ℤ, ◌+◌, ◌≤◌, true, ◌&&◌, List, [], ◌∷◌, ◌++◌, length, refl, sym, ap, ◌∙◌, subst}
use Rattle.std.specs.Prelude.{All, nat_le}
use Rattle.std.proofs.lemmas.Bool.{and_parts}
use Rattle.std.proofs.lemmas.List.{append-nil, map-append}
use Rattle.std.proofs.lemmas.List.Elements.{All-head, All-tail, All-cons, All-nil, All-append}
use Rattle.river_base.proofs.Tests.{le_by}
use Rattle.river_base.specs.declared.item.Batch.{Batch}
use Rattle.river_base.specs.declared.item.Change.{Change}
use Rattle.river_base.specs.declared.item.Flat as flat
use Rattle.river_base.specs.declared.item.Item as item
use Rattle.river_base.specs.declared.item.Item.TheVariants.{Flat}
use Rattle.river_base.specs.declared.item.Flat.TheVariants.{Batch as Batched, Change as Changed}
use Rattle.river_base.specs.declared.kind.QueueType.{QueueType}
use Rattle.river_base.specs.Changes.{change_to, changes, last_content, IsWideChange, IsChangeOf, IsChanged}
use Rattle.river_base.specs.Held.{held, held_from, content_from, IsHeld}
use Rattle.river_base.proofs.HeldLemmas.{held-relation, content-append}
use Rattle.kern_bags.specs.Contents.{product}
use Rattle.kern_bags.specs.Steps.{Pairing, put_pair, crosses, crossed}
use Rattle.kern_bags.proofs.Pairs.{zipped, crossed_is}
use Rattle.kern_bags.specs.Following.{stamped_as, CrossKept, Crossing, crossing, passing, passed_pairs, cross_start, put_change, StandsForCrossing}
use Rattle.kern_bags.specs.Following.{Crosses, IsCrossOf, CrossFits, CrossesFlat, as_changes}
use Rattle.kern_changes.proofs.Leading.{changes-append, last_content-append}
use Rattle.river_kernels.specs.declared.types.VarKind.{VarKind}
use Rattle.river_kernels.specs.declared.types.VarKind.TheVariants.{Private}
use Rattle.river_kernels.specs.Fits.{Fits, relation}
use Rattle.river_kernels.specs.Formed.{is_width}
use Rattle.river_kernels.specs.Kern.{cross}
use Rattle.brooklet_model.specs.Firings.{Kept, Crossing as Paired, Fired, gives}
use Rattle.brooklet_model.specs.Fire.{fire, first_kept}
use Rattle.brooklet_model.specs.Words.{Word, at_port}
use Rattle.brooklet_model.proofs.Free.{at_port-append}
use Rattle.brooklet_step.specs.declared.emit.Emit.{Emit}
use Rattle.brooklet_step.specs.declared.state.State.TheVariants as state
use Rattle.brooklet_step.specs.Took.{Took}
use Rattle.brooklet_step.specs.Given.{IsHeldOf, FitCross, FitState, as_batches, ran_from, CrossStands, StandsAfter, TookHeld, GivesAsDefined, FiresAt}
use Rattle.brooklet_step.proofs.GivenLemmas.{at_next, ran_more}
use Rattle.brooklet_step.proofs.OnePort.{change_held, held_change, relation_typed, came_content, took_first, came_first, does_at}

-- equal states of products keep the same
pub same_crossing : (u v : CrossKept) → state.Cross u ∷ [] ≡ state.Cross v ∷ [] → u ≡ v
same_crossing u v h = cc

-- THE FIRST STATE

abbrev pairing : List item.Item → List item.Item → Pairing
pairing xs ys = record { left = xs; right = ys }

-- a product to which no change has come
pub cross_first_after : (reads : List QueueType) → StandsAfter cross reads (first_kept cross) (state.Cross cross_start ∷ []) []
cross_first_after reads = record {
  now = cross_start;
  contents = crossing [] [] [] [];
  code = refl;
  defined = refl;
  stands = record { lefts = record { each = λ row. refl }; rights = record { each = λ row. refl }; left = refl; right = refl };
  given = refl;
  left = refl;
  right = refl;
}

-- both sides together have at most 16 columns
pub few_both : (a b : ℕ) → (is_width a && (is_width b && is_width (a + b))) ≡ true → a + b ≤ 16
few_both a b h =
    let p = and_parts (is_width a) (is_width b && is_width (a + b)) h in
    let q = and_parts (is_width b) (is_width (a + b)) p.1 in
    le_by (a + b) 16 (and_parts (nat_le 1 (a + b)) (nat_le (a + b) 16) q.1).1

-- equal ports
pub same_relations : (a b c d : ℕ) → relation a ∷ relation b ∷ [] ≡ relation c ∷ relation d ∷ [] → (a ≡ c) × (b ≡ d)
same_relations a b c d e = (cc e, cc e)

nothing_wide : (a b : ℕ) → a + b ≤ 16 → IsCrossOf a b cross_start
nothing_wide a b few = record {
  few = few;
  lefts = All-nil (λ (row : List ℤ). length row ≡ a);
  rights = All-nil (λ (row : List ℤ). length row ≡ b);
  wait_left = All-nil (IsWideChange a);
  wait_right = All-nil (IsWideChange b);
}

of_types : (a b c d : ℕ) (s : CrossKept) → relation a ∷ relation b ∷ [] ≡ relation c ∷ relation d ∷ [] → IsCrossOf a b s → IsCrossOf c d s
of_types a b c d s e h = let p = same_relations a b c d e in subst (λ i. IsCrossOf i d s) p.0 (subst (λ j. IsCrossOf a j s) p.1 h)

-- the first state of a product fits it
pub cross_first_fits : (reads writes : List QueueType) (vars : List VarKind) → Fits cross reads writes vars
    → FitState cross reads (state.Cross cross_start ∷ [])
cross_first_fits reads writes vars f = record {
  now = cross_start;
  code = refl;
  wide = λ a b e. of_types f.0 f.1 a b cross_start (sym f.2 ∙ e) (nothing_wide f.0 f.1 (few_both f.0 f.1 f.5));
}

-- WHAT PASSES

content_batches : (before : List (List ℤ)) (bs : List Batch) → content_from before (as_batches bs) ≡ last_content before bs
content_batches before [] = refl
content_batches before (b ∷ bs) = content_batches b.rows bs

held_batches : (before : List (List ℤ)) (bs : List Batch) → held_from before (as_batches bs) ≡ as_changes (changes before bs)
held_batches before [] = refl
held_batches before (b ∷ bs) = ap (λ l. Flat (Changed (change_to before b)) ∷ l) (held_batches b.rows bs)

-- what passes, by the definition of a firing
zipped_batches : (lefts rights : List (List ℤ)) (ls rs : List Batch) → zipped (as_batches ls) (as_batches rs)
    ≡ (as_batches (passing lefts rights ls rs).0, pairing (as_batches (passing lefts rights ls rs).1.left) (as_batches (passing lefts rights ls rs).1.right))
zipped_batches lefts rights [] rs = refl
zipped_batches lefts rights (l ∷ ls) [] = refl
zipped_batches lefts rights (l ∷ ls) (r ∷ rs) =
    ap (λ (d : List item.Item × Pairing). (Flat (Batched (stamped_as l (product l.rows r.rows))) ∷ d.0, d.1)) (zipped_batches l.rows r.rows ls rs)

passing_last : (lefts rights : List (List ℤ)) (ls rs : List Batch)
    → last_content (product lefts rights) (passing lefts rights ls rs).0 ≡ product (passing lefts rights ls rs).1.lefts (passing lefts rights ls rs).1.rights
passing_last lefts rights [] rs = refl
passing_last lefts rights (l ∷ ls) [] = refl
passing_last lefts rights (l ∷ ls) (r ∷ rs) = passing_last l.rows r.rows ls rs

passing_left : (lefts rights : List (List ℤ)) (ls rs : List Batch)
    → last_content (passing lefts rights ls rs).1.lefts (passing lefts rights ls rs).1.left ≡ last_content lefts ls
passing_left lefts rights [] rs = refl
passing_left lefts rights (l ∷ ls) [] = refl
passing_left lefts rights (l ∷ ls) (r ∷ rs) = passing_left l.rows r.rows ls rs

passing_right : (lefts rights : List (List ℤ)) (ls rs : List Batch)
    → last_content (passing lefts rights ls rs).1.rights (passing lefts rights ls rs).1.right ≡ last_content rights rs
passing_right lefts rights [] rs = refl
passing_right lefts rights (l ∷ ls) [] = refl
passing_right lefts rights (l ∷ ls) (r ∷ rs) = passing_right l.rows r.rows ls rs

last_pushed : (before : List (List ℤ)) (bs : List Batch) (b : Batch) → last_content before (bs ++ b ∷ []) ≡ b.rows
last_pushed before bs b = last_content-append before bs (b ∷ [])

other_zero : (w : Word) (x : item.Item) → at_port 0 (w ++ (1, x) ∷ []) ≡ at_port 0 w
other_zero w x = at_port-append 0 w ((1, x) ∷ []) ∙ append-nil (at_port 0 w)

other_one : (w : Word) (x : item.Item) → at_port 1 (w ++ (0, x) ∷ []) ≡ at_port 1 w
other_one w x = at_port-append 1 w ((0, x) ∷ []) ∙ append-nil (at_port 1 w)

-- FIRINGS

module _ (n k : ℕ) (out out' : Emit) (ds : List Change) (now now' : CrossKept) where
  -- what a firing on x gives, and what it keeps
  abbrev GivesFor : List Kept → Word → ℕ → item.Item → Type 0
  GivesFor start w p x = TookHeld (relation (n + k) ∷ []) (ran_from cross start w) out out' (fire cross p x (ran_from cross start w).states)
      × CrossStands start (state.Cross now' ∷ []) (w ++ (p, x) ∷ [])

  -- where the item has come to its port, and what is kept with it stands for that
  passed : (start : List Kept) (w : Word) (p : ℕ) (x : item.Item) (a : CrossStands start (state.Cross now ∷ []) w) (m : Crossing) (kept : CrossKept)
      → m.lefts ≡ a.contents.lefts → m.rights ≡ a.contents.rights
      → put_pair p x (pairing (as_batches a.contents.left) (as_batches a.contents.right)) ≡ pairing (as_batches m.left) (as_batches m.right)
      → content_from [] (at_port 0 (w ++ (p, x) ∷ [])) ≡ last_content m.lefts m.left
      → content_from [] (at_port 1 (w ++ (p, x) ∷ [])) ≡ last_content m.rights m.right → StandsForCrossing kept m → Crosses kept now' [] ds
      → Took out out' (gives 0 (as_changes ds) []) → GivesFor start w p x
  passed start w p x a m kept el er put left right stands f took =
      let c = f.each m stands in
      let gs = (passed_pairs m).0 in
      let rest = (passed_pairs m).1 in
      let before = ran_from cross start w in
      let prev = before.outs 0 in
      let was = pairing (as_batches a.contents.left) (as_batches a.contents.right) in
      let left_over = pairing (as_batches rest.left) (as_batches rest.right) in
      let crossed_to : crosses p x was ≡ (as_batches gs, left_over) =
      ap crossed put ∙ crossed_is (pairing (as_batches m.left) (as_batches m.right)) ∙ zipped_batches m.lefts m.rights m.left m.right in
      let fired : fire cross p x before.states ≡ gives 0 (as_batches gs) (Paired left_over ∷ []) =
      ap (fire cross p x) a.defined ∙ ap (λ (d : List item.Item × Pairing). gives 0 d.0 (Paired d.1 ∷ [])) crossed_to in
      let content : content_from [] prev ≡ product m.lefts m.rights = a.given ∙ (λ i. product (sym el i) (sym er i)) in
      let holds : held (relation (n + k)) prev (as_batches gs) ≡ as_changes ds =
      held-relation (n + k) prev (as_batches gs) ∙ ap (λ l. held_from l (as_batches gs)) content ∙ held_batches (product m.lefts m.rights) gs
      ∙ ap as_changes (sym c.0) in
      let more = ran_more cross start w p x in (
        subst (λ (q : Fired). TookHeld (relation (n + k) ∷ []) before out out' q) (sym fired)
            (took_first (relation (n + k)) before [] (Paired left_over ∷ []) out out' (as_changes ds) (as_batches gs) took holds),
        record {
          now = now';
          contents = rest;
          code = refl;
          defined = more.states ∙ ap (λ (q : Fired). q.states) fired;
          stands = c.1;
          given =
              ap (content_from []) (more.outs 0 ∙ ap (λ (q : Fired). prev ++ q.outs 0) fired) ∙ content-append [] prev (as_batches gs)
              ∙ ap (λ l. content_from l (as_batches gs)) content ∙ content_batches (product m.lefts m.rights) gs ∙ passing_last m.lefts m.rights m.left m.right;
          left = left ∙ sym (passing_left m.lefts m.rights m.left m.right);
          right = right ∙ sym (passing_right m.lefts m.rights m.left m.right);
        },
      )

  at_left : (c : Change) (start : List Kept) (w : Word) (b : Batch) → Crosses (put_change 0 c now) now' [] ds → Took out out' (gives 0 (as_changes ds) [])
      → CrossStands start (state.Cross now ∷ []) w → c ≡ change_to (content_from [] (at_port 0 w)) b → GivesFor start w 0 (Flat (Batched b))
  at_left c start w b f took a is =
      let x : item.Item = Flat (Batched b) in
      let h = a.contents in
      let s = subst (λ t. StandsForCrossing t h) (same_crossing a.now now (sym a.code)) a.stands in
      passed start w 0 x a (crossing h.lefts h.rights (h.left ++ b ∷ []) h.right) (put_change 0 c now) refl refl
      (ap (λ l. pairing l (as_batches h.right)) (sym (map-append (λ (d : Batch). Flat (Batched d)) h.left (b ∷ []))))
      (ap (content_from []) (at_next 0 w x) ∙ content-append [] (at_port 0 w) (x ∷ []) ∙ sym (last_pushed h.lefts h.left b))
      (ap (content_from []) (other_one w x) ∙ a.right)
      (record {
        lefts = s.lefts;
        rights = s.rights;
        left = (λ i. s.left i ++ (is ∙ ap (λ l. change_to l b) a.left) i ∷ []) ∙ sym (changes-append h.lefts h.left (b ∷ []));
        right = s.right;
      }) f took

  at_right : (c : Change) (start : List Kept) (w : Word) (b : Batch) → Crosses (put_change 1 c now) now' [] ds → Took out out' (gives 0 (as_changes ds) [])
      → CrossStands start (state.Cross now ∷ []) w → c ≡ change_to (content_from [] (at_port 1 w)) b → GivesFor start w 1 (Flat (Batched b))
  at_right c start w b f took a is =
      let x : item.Item = Flat (Batched b) in
      let h = a.contents in
      let s = subst (λ t. StandsForCrossing t h) (same_crossing a.now now (sym a.code)) a.stands in
      passed start w 1 x a (crossing h.lefts h.rights h.left (h.right ++ b ∷ [])) (put_change 1 c now) refl refl
      (ap (λ l. pairing (as_batches h.left) l) (sym (map-append (λ (d : Batch). Flat (Batched d)) h.right (b ∷ []))))
      (ap (content_from []) (other_zero w x) ∙ a.left)
      (ap (content_from []) (at_next 1 w x) ∙ content-append [] (at_port 1 w) (x ∷ []) ∙ sym (last_pushed h.rights h.right b))
      (record {
        lefts = s.lefts;
        rights = s.rights;
        left = s.left;
        right = (λ i. s.right i ++ (is ∙ ap (λ l. change_to l b) a.right) i ∷ []) ∙ sym (changes-append h.rights h.right (b ∷ []));
      }) f took

-- a change at either port
gives_left : (n k : ℕ) (out out' : Emit) (ds : List Change) (now now' : CrossKept) (c : Change) → Crosses (put_change 0 c now) now' [] ds
    → Took out out' (gives 0 (as_changes ds) [])
    → GivesAsDefined cross (relation n ∷ relation k ∷ []) (relation (n + k) ∷ []) 0 (Flat (Changed c)) out out' (state.Cross now ∷ []) (state.Cross now' ∷ [])
gives_left n k out out' ds now now' c f took = record {
  given = λ start w x is_start tw tx a h.
      let y = relation_typed n x tx in
      let is = came_content n (at_port 0 w) c y.batch x y.is h in
      subst (λ z. GivesFor n k out out' ds now now' start w 0 z) (sym y.is) (at_left n k out out' ds now now' c start w y.batch f took a is);
}

gives_right : (n k : ℕ) (out out' : Emit) (ds : List Change) (now now' : CrossKept) (c : Change) → Crosses (put_change 1 c now) now' [] ds
    → Took out out' (gives 0 (as_changes ds) [])
    → GivesAsDefined cross (relation n ∷ relation k ∷ []) (relation (n + k) ∷ []) 1 (Flat (Changed c)) out out' (state.Cross now ∷ []) (state.Cross now' ∷ [])
gives_right n k out out' ds now now' c f took = record {
  given = λ start w x is_start tw tx a h.
      let y = relation_typed k x tx in
      let is = came_content k (at_port 1 w) c y.batch x y.is h in
      subst (λ z. GivesFor n k out out' ds now now' start w 1 z) (sym y.is) (at_right n k out out' ds now now' c start w y.batch f took a is);
}

pair_gives : (n k p : ℕ) (out out' : Emit) (ds : List Change) (now now' : CrossKept) (c : Change) → IsHeldOf (relation n ∷ relation k ∷ []) p (Flat (Changed c))
    → Crosses (put_change p c now) now' [] ds → Took out out' (gives 0 (as_changes ds) [])
    → GivesAsDefined cross (relation n ∷ relation k ∷ []) (relation (n + k) ∷ []) p (Flat (Changed c)) out out' (state.Cross now ∷ []) (state.Cross now' ∷ [])
pair_gives n k zero out out' ds now now' c h f took = gives_left n k out out' ds now now' c f took
pair_gives n k (suc zero) out out' ds now now' c h f took = gives_right n k out out' ds now now' c f took
pair_gives n k (suc (suc p)) out out' ds now now' c h f took = absurd h

-- a change that comes to a port is as wide as the rows there
pub put_wide : (n k p : ℕ) (c : Change) (s : CrossKept) → IsHeldOf (relation n ∷ relation k ∷ []) p (Flat (Changed c)) → IsCrossOf n k s
    → IsCrossOf n k (put_change p c s)
put_wide n k zero c s h of = record {
  few = of.few;
  lefts = of.lefts;
  rights = of.rights;
  wait_left =
      All-append (IsWideChange n) s.left (c ∷ []) of.wait_left (All-cons (IsWideChange n) c [] (held_change n c h).wide (All-nil (IsWideChange n)));
  wait_right = of.wait_right;
}
put_wide n k (suc zero) c s h of = record {
  few = of.few;
  lefts = of.lefts;
  rights = of.rights;
  wait_left = of.wait_left;
  wait_right =
      All-append (IsWideChange k) s.right (c ∷ []) of.wait_right (All-cons (IsWideChange k) c [] (held_change k c h).wide (All-nil (IsWideChange k)));
}
put_wide n k (suc (suc p)) c s h of = absurd h

changes_held : (n : ℕ) (cs : List Change) → All (IsChangeOf n) cs → All (IsHeld (relation n)) (as_changes cs)
changes_held n [] h = All-nil (IsHeld (relation n))
changes_held n (c ∷ cs) h =
    All-cons (IsHeld (relation n)) (Flat (Changed c)) (as_changes cs) (change_held n c (All-head (IsChangeOf n) c cs h))
    (changes_held n cs (All-tail (IsChangeOf n) c cs h))

-- a product's step on a change at a port is a firing
cross_does : (port : ℕ) (c : Change) (ds : List Change) (now now' : CrossKept) (out out' : Emit) → Crosses (put_change port c now) now' [] ds
    → CrossFits (put_change port c now) now' [] ds → Took out out' (gives 0 (as_changes ds) [])
    → FiresAt cross port (Flat (Changed c)) out out' (state.Cross now ∷ []) (state.Cross now' ∷ [])
cross_does port c ds now now' out out' f fits took = record {
  each = λ reads writes vars t fs h.
      let n = t.0 in
      let k = t.1 in
      let fit : FitCross (relation n ∷ relation k ∷ []) (state.Cross now ∷ []) = subst (λ l. FitCross l (state.Cross now ∷ [])) t.2 fs in
      let item : IsHeldOf (relation n ∷ relation k ∷ []) port (Flat (Changed c)) = subst (λ l. IsHeldOf l port (Flat (Changed c))) t.2 h in
      let was : IsCrossOf n k now = subst (IsCrossOf n k) (same_crossing fit.now now (sym fit.code)) (fit.wide n k refl) in
      let r = fits.each n k (put_wide n k port c now item was) in
      let all : All (IsChangeOf (n + k)) ds = subst (All (IsChangeOf (n + k))) (sym r.0.grew) r.0.each in
      let again : FitCross (relation n ∷ relation k ∷ []) (state.Cross now' ∷ []) =
      record { now = now'; code = refl; wide = λ a b e. of_types n k a b now' e r.1 } in
      let reads' = relation n ∷ relation k ∷ [] in
      let st' = state.Cross now' ∷ [] in
      does_at cross port (Flat (Changed c)) out out' (state.Cross now ∷ []) st' reads reads' writes (relation (n + k) ∷ []) vars (Private ∷ []) t.2 t.3 t.4 (
      record {
        gives = pair_gives n k port out out' ds now now' c item f took;
        came = came_first cross (relation n ∷ relation k ∷ []) (relation (n + k)) (Private ∷ []) [] out out' (state.Cross now' ∷ []) (as_changes ds) took
            (changes_held (n + k) ds all) again;
      }
      );
}

-- so is what it gives
pub cross_flat_does : (p : ℕ) (x : flat.Flat) (items : List item.Item) (now now' : CrossKept) (out out' : Emit) → IsChanged x
    → CrossesFlat p x now now' [] items
    → Took out out' (gives 0 items []) → FiresAt cross p (Flat x) out out' (state.Cross now ∷ []) (state.Cross now' ∷ [])
cross_flat_does p x items now now' out out' k h took =
    let g = h.each k.change k.is in
    subst (λ y. FiresAt cross p (Flat y) out out' (state.Cross now ∷ []) (state.Cross now' ∷ [])) (sym k.is)
    (cross_does p k.change g.given now now' out out' g.is.contents g.is.fits (subst (λ l. Took out out' (gives 0 l [])) g.grew took))
