-- What the walk reckons holds of the histories.
use Rattle.std.proofs.Common.{◌≡◌, ℕ, zero, suc, ℤ, ◌+◌, ◌*◌, ◌/◌, ◌<◌, ◌≤◌, max, Bool, true, List, [], ◌∷◌, ◌++◌, length, map, drop, Option, Some, None, Result, Ok, Err}
use Rattle.std.proofs.Common.{IsTrue, refl, sym, ap, ◌∙◌, subst, arith, ⊎_elim, mul-pos, mul-le-mul_right, length-drop}
use Rattle.std.specs.Prelude.{if◌then◌else◌}
use Rattle.std.proofs.lemmas.List.{length-map, length-replicate}
use Rattle.std.proofs.Math.Path.{fun_ext}
use Rattle.river_base.specs.declared.item.Item as item
use Rattle.river_base.specs.declared.item.Item.TheVariants.{Flat}
use Rattle.river_base.specs.declared.item.Flat.TheVariants.{One}
use Rattle.river_base.specs.Name.{name_eq}
use Rattle.river_base.specs.Places.{list_at}
use Rattle.kern_rows.specs.Forms.{FilterForm}
use Rattle.kern_rows.specs.Turns.{shares}
use Rattle.river_kernels.specs.Formed.{is_filter}
use Rattle.river_kernels.specs.Kern.{Kern, code, filter, duplicate, deal, collect, packed, unpack, window, select, project, cross, streamer, tally, fused}
use Rattle.river_kernels.specs.Fits.{Fits}
use Rattle.river_plan.specs.Forms.{Name, OpForm, decl_names, all_decls}
use Rattle.river_plan.specs.Uses.{Each, total, writes_it}
use Rattle.river_plan.proofs.NameLemmas.{cases_name}
use Rattle.brooklet_model.specs.ByIndex.{cycle, dealt, collected}
use Rattle.brooklet_model.specs.Fire.{first_kept}
use Rattle.brooklet_model.specs.Histories.{History, Lists, Solves, lists_of, hist, inputs_of}
use Rattle.brooklet_model.specs.Shapes.{IsFormed}
use Rattle.brooklet_model.specs.Words.{feed_all}
use Rattle.brooklet_model.proofs.Cycles.{positive_cycle}
use Rattle.brooklet_model.proofs.Feeds.{one_input}
use Rattle.brooklet_model.proofs.Ports.{formed_shaped}
use Rattle.brooklet_model.proofs.Solutions.{solve_law}
use Rattle.brooklet_model.proofs.Turned.{deals_by_index, collects_by_index}
use Rattle.streamit_model.specs.Unrolled.{IsRound}
use Rattle.streamit_model.specs.UnrolledFilters.{filtered}
use Rattle.streamit_model.specs.Meaning.{Works, look}
use Rattle.streamit_model.specs.Laws.{as_items}
use Rattle.streamit_model.proofs.Kernels.{filter_means, duplicate_means}
use Rattle.streamit_model.proofs.Rounds.{dealt_map, collected_map}
use Rattle.river_base.specs.Number.{count_of}
use Rattle.river_base.specs.declared.kind.QueueType.{QueueType}
use Rattle.river_kernels.specs.declared.types.VarKind.{VarKind}
use Rattle.river_plan.specs.Kinds.{kind_of, var_kind}
use Rattle.river_plan.specs.Names.{one_if, count}
use Rattle.stream_periods.specs.Laws.{Grows, IsShifting}
use Rattle.stream_periods.specs.Periods.{NoPeriod, Period, beside, common, filter_fades, filter_period, in_cycles, times_for, weight}
use Rattle.stream_periods.specs.Walk.{IsTraced, Known, NoWalk, PlanPiecesGiveTheWhole, PlansSettle, Queues, at_input, behind_filter, dealt_to, each_known, in_turn, joined_at}
use Rattle.stream_periods.specs.Walk.{kernel_walk, on_known, or_lacks, rated, the_one, turns, walk}
use Rattle.stream_periods.proofs.Filters.{filter_settled}
use Rattle.stream_periods.proofs.Joiners.{collected_grows}
use Rattle.stream_periods.proofs.Late.{joiners_settle}
use Rattle.stream_periods.proofs.Numbers.{Beside, beside_parts, crossed, ok_is, parted, positive_part, some_is, times_enough, weight_some}
use Rattle.stream_periods.proofs.Plain.{filter_grows}
use Rattle.stream_periods.proofs.Settled.{one_after, shift_after, shift_by, shift_later, shift_times}
use Rattle.stream_periods.proofs.Splitters.{dealt_fading, dealt_grows, dealt_shifting}
use Rattle.stream_periods.proofs.Whole.{whole_is}

-- WHAT RESULTS ARE MADE OF

on_parts : {A B : Type 0} (r : Result A NoWalk) (f : A → Result B NoWalk) (y : B) → on_known r f ≡ Ok y → (x : A) × (r ≡ Ok x) × (f x ≡ Ok y)
on_parts (Ok x) f y h = (x, refl, h)
on_parts (Err e) f y h = absurd (cc h)

lacks_is : {A : Type 0} (label : Name) (o : Option A) (x : A) → or_lacks label o ≡ Ok x → o ≡ Some x
lacks_is label None x h = absurd (cc h)
lacks_is label (Some y) x h = ap Some (ok_is y x h)

rated_is : (r : Result Period NoPeriod) (p : Period) → rated r ≡ Ok p → r ≡ Ok p
rated_is (Ok q) p h = ap Ok (ok_is q p h)
rated_is (Err e) p h = absurd (cc h)

one_is : (label : Name) (qs : List Name) (q : Name) → the_one label qs ≡ Ok q → qs ≡ q ∷ []
one_is label [] q h = absurd (cc h)
one_is label (r ∷ []) q h = ap (λ z. z ∷ []) (ok_is r q h)
one_is label (r ∷ s ∷ ss) q h = absurd (cc h)

as_item : ℤ → item.Item
as_item x = Flat (One (x ∷ []))

-- QUEUES

-- this name stands at place j
abbrev Stands : Name → List Name → ℕ → Type 0
Stands w [] j = ⊥
Stands w (v ∷ vs) zero = v ≡ w
Stands w (v ∷ vs) (suc j) = Stands w vs j

stands_below : (w : Name) (vs : List Name) (j : ℕ) → Stands w vs j → j < length vs
stands_below w [] j s = absurd s
stands_below w (v ∷ vs) zero s = omega arith
stands_below w (v ∷ vs) (suc j) s = let l = stands_below w vs j s in omega (arith, l)

-- what stands in the queue at a place of a list
listed : (w : Name) (vs : List Name) (j : ℕ) (f : ℕ → List item.Item) (h : History) → Lists vs f h → Stands w vs j → h w ≡ f j
listed w [] j f h l s = absurd s
listed w (v ∷ vs) zero f h l s = ap h (sym s) ∙ l.0
listed w (v ∷ vs) (suc j) f h l s = listed w vs j (λ k. f (suc k)) h l.1 s

module _ (H : List ℤ → History) where
  abbrev Values : List ℤ → Name → List ℤ → Type 0
  Values xs q ys = H xs q ≡ as_items ys

  abbrev Traced : Name → Known → Type 0
  Traced q a = IsTraced (λ xs q ys. H xs q ≡ as_items ys) q a

  -- what is known is traced
  abbrev AllTraced : Queues → Type 0
  AllTraced known = (q : Name) (a : Known) → look known q ≡ Some a → IsTraced (λ xs q ys. H xs q ≡ as_items ys) q a

  one_more : (w : Name) (b : Known) (known : Queues) → IsTraced (λ xs q ys. H xs q ≡ as_items ys) w b → AllTraced known → AllTraced ((w, b) ∷ known)
  one_more w b known t all q a e = ⊎_elim
      (λ c.
      let s : b ≡ a = some_is b a (sym (ap (λ (z : Bool). if z then Some b else look known q) c.1) ∙ e) in
      subst (λ n. IsTraced (λ xs q ys. H xs q ≡ as_items ys) n a) c.0 (subst (λ z. IsTraced (λ xs q ys. H xs q ≡ as_items ys) w z) s t))
      (λ c. all q a (sym (ap (λ (z : Bool). if z then Some b else look known q) c.1) ∙ e))
      (cases_name w q)

  all_more : (f : ℕ → Known) (i : ℕ) (ws : List Name) (known : Queues)
      → ((j : ℕ) (w : Name) → Stands w ws j → IsTraced (λ xs q ys. H xs q ≡ as_items ys) w (f (i + j))) → AllTraced known → AllTraced (each_known f i ws known)
  all_more f i [] known t all = all
  all_more f i (w ∷ ws) known t all =
      all_more f (suc i) ws ((w, f i) ∷ known)
      (λ j v s. subst (λ k. IsTraced (λ xs q ys. H xs q ≡ as_items ys) v (f k)) (let e : i + suc j ≡ suc i + j = omega arith in e) (t (suc j) v s))
      (one_more w (f i) known (subst (λ k. IsTraced (λ xs q ys. H xs q ≡ as_items ys) w (f k)) (let e : i + 0 ≡ i = omega arith in e) (t 0 w refl)) all)

  -- A FILTER

  filter_traced : (f : FilterForm) (label q w : Name) (a : Known) (p : Period) → IsTrue (is_filter f) → filter_period label f ≡ Ok p
      → IsTraced (λ xs q ys. H xs q ≡ as_items ys) q a
      → ((xs : List ℤ) → H xs w ≡ (feed_all (filter f) (lists_of (H xs) (q ∷ [])) (first_kept (filter f))).outs 0)
      → IsTraced (λ xs q ys. H xs q ≡ as_items ys) w (behind_filter a p (filter_fades f f.first))
  filter_traced f label q w a p ok h t e =
      let s = shift_after t.works (filtered f) a.period p a.fades (filter_fades f f.first) t.takes t.shifting (filter_settled label f p ok h) in
      record {
        works = λ xs. filtered f (t.works xs);
        is = λ xs. e xs ∙ filter_means f (lists_of (H xs) (q ∷ [])) (t.works xs) ok (t.is xs);
        grows = one_after t.works (filtered f) t.grows (filter_grows f ok);
        takes = s.0;
        shifting = s.1;
      }

  -- SPLITTERS

  copy_traced : (n i : ℕ) (q w : Name) (a : Known) → i < n → IsTraced (λ xs q ys. H xs q ≡ as_items ys) q a
      → ((xs : List ℤ) → H xs w ≡ (feed_all (duplicate n) (lists_of (H xs) (q ∷ [])) (first_kept (duplicate n))).outs i)
      → IsTraced (λ xs q ys. H xs q ≡ as_items ys) w a
  copy_traced n i q w a lt t e = record {
    works = t.works;
    is = λ xs. e xs ∙ duplicate_means n i (lists_of (H xs) (q ∷ [])) lt ∙ t.is xs;
    grows = t.grows;
    takes = t.takes;
    shifting = t.shifting;
  }

  share_traced : (weights : List ℤ) (i : ℕ) (q w : Name) (a : Known) → IsFormed (deal weights) → IsTraced (λ xs q ys. H xs q ≡ as_items ys) q a
      → ((xs : List ℤ) → H xs w ≡ (feed_all (deal weights) (lists_of (H xs) (q ∷ [])) (first_kept (deal weights))).outs i)
      → IsTraced (λ xs q ys. H xs q ≡ as_items ys) w (dealt_to (shares weights) i a)
  share_traced weights i q w a formed t e =
      let ws = shares weights in
      let have = formed_shaped (deal weights) formed in
      let some = positive_cycle ws (length ws) 0 have.1 refl have.0 in
      let ψ : ℕ → ℕ = λ v. times_for v (cycle ws) * weight ws i in
      let s = shift_after t.works (dealt ws i) a.period (record { takes = cycle ws; gives = weight ws i; reach = 0 }) a.fades ψ t.takes t.shifting
      (record { takes = some; fading = dealt_fading ws some i; shifting = dealt_shifting ws some i (ψ 0) }) in
      record {
        works = λ xs. dealt ws i (t.works xs);
        is = λ xs.
            e xs
            ∙ ap (λ r. r.outs i)
            (one_input (deal weights) (lists_of (H xs) (q ∷ [])) (first_kept (deal weights)) refl
            ∙ sym (one_input (deal weights) (λ _. H xs q) (first_kept (deal weights)) refl))
            ∙ deals_by_index weights (H xs q) i formed
            ∙ ap (dealt ws i) (t.is xs)
            ∙ dealt_map (λ x. Flat (One (x ∷ []))) ws i 0 (t.works xs);
        grows = one_after t.works (dealt ws i) t.grows (dealt_grows ws i);
        takes = s.0;
        shifting = s.1;
      }

-- JOINERS

-- each stream from number i on gives the items of so many cycles
abbrev AllShift : List ℕ → ℕ → List Works → Known → Type 0
AllShift ws i [] b = Unit {0}
AllShift ws i (f ∷ fs) b = IsShifting f b.period.takes (b.period.gives * weight ws i) b.period.reach (b.fades * weight ws i) × AllShift ws (suc i) fs b

abbrev AllGrow : List Works → Type 0
AllGrow [] = Unit {0}
AllGrow (f ∷ fs) = Grows f × AllGrow fs

one_shift : (f : Works) (w k r fade : ℕ) (b : Known) → b.period.reach ≤ r → b.fades ≤ fade
    → IsShifting f b.period.takes (b.period.gives * w) b.period.reach (b.fades * w) → IsShifting f (k * b.period.takes) (k * b.period.gives * w) r (fade * w)
one_shift f w k r fade b le more a =
    shift_later f (k * b.period.takes) (k * b.period.gives * w) r (b.fades * w) (fade * w) (mul-le-mul_right w more)
    (shift_by f (k * b.period.takes) (k * b.period.takes) (k * (b.period.gives * w)) (k * b.period.gives * w) b.period.reach r (b.fades * w) refl (omega arith) le
    (shift_times f b.period.takes (b.period.gives * w) b.period.reach (b.fades * w) k a))

more_shift : (ws : List ℕ) (i k r fade : ℕ) (fs : List Works) (b : Known) → b.period.reach ≤ r → b.fades ≤ fade → AllShift ws i fs b
    → AllShift ws i fs (record { period = record { takes = k * b.period.takes; gives = k * b.period.gives; reach = r }; fades = fade })
more_shift ws i k r fade [] b le more a = tt
more_shift ws i k r fade (f ∷ fs) b le more a = (one_shift f (weight ws i) k r fade b le more a.0, more_shift ws (suc i) k r fade fs b le more a.1)

record Turned (H : List ℤ → History) (ws : List ℕ) (i : ℕ) (reads : List Name) (b : Known) : Type 0 where
  fs : List Works
  number : length fs ≡ length reads
  is : (xs : List ℤ) (j : ℕ) → lists_of (H xs) reads j ≡ as_items (list_at (map (λ f. f xs) fs) j)
  grows : AllGrow fs
  takes : 0 < b.period.takes
  shifting : AllShift ws i fs b

-- one queue in cycles of the joiner
record OneTurn (f : Works) (w : ℕ) (b : Known) : Type 0 where
  takes : 0 < b.period.takes
  shifting : IsShifting f b.period.takes (b.period.gives * w) b.period.reach (b.fades * w)

one_turn : (f : Works) (w : ℕ) (a : Known) → 0 < w → 0 < a.period.takes → IsShifting f a.period.takes a.period.gives a.period.reach a.fades → OneTurn f w (in_turn w a)
one_turn f w a lt some s =
    let c = common a.period.gives w in
    let x = a.period.gives / c in
    let y = w / c in
    let parts = parted a.period.gives w in
    record {
      takes = mul-pos (positive_part y c w parts.second lt) some;
      shifting =
          shift_later f (y * a.period.takes) (x * w) a.period.reach a.fades (times_for a.fades w * w) (times_enough a.fades w lt)
          (shift_by f (y * a.period.takes) (y * a.period.takes) (y * a.period.gives) (x * w) a.period.reach a.period.reach a.fades refl
          (crossed x y c a.period.gives w parts.first parts.second) (omega arith)
          (shift_times f a.period.takes a.period.gives a.period.reach a.fades y s));
    }

-- what is known of several streams, in cycles of the joiner
record AllTurn (ws : List ℕ) (i : ℕ) (fs : List Works) (b : Known) : Type 0 where
  takes : 0 < b.period.takes
  shifting : AllShift ws i fs b

module _ (fade : ℕ) (p q r : Period) (step : Beside p q r) where
  -- so many periods of the first are a period of both
  first_is : ◌≡◌ {A = Known} (record { period = record { takes = step.m * p.takes; gives = step.m * p.gives; reach = max p.reach q.reach }; fades = fade })
      (record { period = r; fades = fade })
  first_is = ap (λ z. record { period = z; fades = fade }) step.is

  -- and so many of the second
  second_is : ◌≡◌ {A = Known} (record { period = record { takes = step.n * q.takes; gives = step.n * q.gives; reach = max p.reach q.reach }; fades = fade })
      (record { period = r; fades = fade })
  second_is =
      ap (λ z. record { period = record { takes = z; gives = step.n * q.gives; reach = max p.reach q.reach }; fades = fade }) (sym step.takes)
      ∙ ap (λ z. record { period = record { takes = step.m * p.takes; gives = z; reach = max p.reach q.reach }; fades = fade }) (sym step.gives)
      ∙ first_is

-- one stream before others, where they keep step
kept_step : (f : Works) (fs : List Works) (ws : List ℕ) (i fade : ℕ) (a b : Known) (r : Period) (step : Beside a.period b.period r) → a.fades ≤ fade → b.fades ≤ fade
    → OneTurn f (weight ws i) a → 0 < b.period.takes → AllShift ws (suc i) fs b → AllTurn ws i (f ∷ fs) (record { period = r; fades = fade })
kept_step f fs ws i fade a b r step first second one some others =
    let w = weight ws i in
    let most = max a.period.reach b.period.reach in
    let here = one_shift f w step.m most fade a (omega arith) first one.shifting in
    let rest = more_shift ws (suc i) step.n most fade fs b (omega arith) second others in
    record {
      takes = subst (λ (k : Known). 0 < k.period.takes) (first_is fade a.period b.period r step) (mul-pos (step.some some) one.takes);
      shifting = (
        subst (λ (k : Known). IsShifting f k.period.takes (k.period.gives * w) k.period.reach (k.fades * w)) (first_is fade a.period b.period r step) here,
        subst (AllShift ws (suc i) fs) (second_is fade a.period b.period r step) rest,
      );
    }

turned : (H : List ℤ → History) (label : Name) (ws : List ℕ) (i : ℕ) (known : Queues) (reads : List Name) (b : Known) → AllTraced H known
    → ((j : ℕ) → j < length reads → 0 < weight ws (i + j)) → turns label ws i known reads ≡ Ok b → Turned H ws i reads b
turned H label ws i known [] b all pos h = absurd (cc h)
turned H label ws i known (q ∷ []) b all pos h =
    let a = on_parts (or_lacks label (look known q)) (λ z. Ok (in_turn (weight ws i) z)) b h in
    let t = all q a.0 (lacks_is label (look known q) a.0 a.1) in
    let one = one_turn t.works (weight ws i) a.0 (subst (λ k. 0 < weight ws k) (let e : i + 0 ≡ i = omega arith in e) (pos 0 (omega arith))) t.takes t.shifting in
    subst (Turned H ws i (q ∷ [])) (ok_is _ b a.2)
    (record { fs = t.works ∷ []; number = refl; is = λ xs j. place t.works xs j (t.is xs); grows = (t.grows, tt); takes = one.takes; shifting = (one.shifting, tt) })
  where
    place : (f : Works) (xs : List ℤ) (j : ℕ) → H xs q ≡ as_items (f xs) → lists_of (H xs) (q ∷ []) j ≡ as_items (list_at (map (λ g. g xs) (f ∷ [])) j)
    place f xs zero e = e
    place f xs (suc j) e = refl
turned H label ws i known (q ∷ r ∷ rs) b all pos h =
    let w = weight ws i in
    let last : Known → Known → Period → Known = λ a c p. record { period = p; fades = max (times_for a.fades w) c.fades } in
    let a = on_parts (or_lacks label (look known q))
    (λ z. on_known (turns label ws (suc i) known (r ∷ rs)) (λ c. on_known (rated (beside (in_cycles w z.period) c.period)) (λ p. Ok (last z c p)))) b h in
    let c = on_parts (turns label ws (suc i) known (r ∷ rs)) (λ z. on_known (rated (beside (in_cycles w a.0.period) z.period)) (λ p. Ok (last a.0 z p))) b a.2 in
    let p = on_parts (rated (beside (in_cycles w a.0.period) c.0.period)) (λ z. Ok (last a.0 c.0 z)) b c.2 in
    let t = all q a.0 (lacks_is label (look known q) a.0 a.1) in
    let one = one_turn t.works w a.0 (subst (λ k. 0 < weight ws k) (let e : i + 0 ≡ i = omega arith in e) (pos 0 (omega arith))) t.takes t.shifting in
    let others = turned H label ws (suc i) known (r ∷ rs) c.0 all
    (λ j lt. subst (λ k. 0 < weight ws k) (let e : i + suc j ≡ suc i + j = omega arith in e) (pos (suc j) (omega (arith, lt)))) c.1 in
    let step = beside_parts (in_cycles w a.0.period) c.0.period p.0 (rated_is _ p.0 p.1) in
    let fade = max (times_for a.0.fades w) c.0.fades in
    let both = kept_step t.works others.fs ws i fade (in_turn w a.0) c.0 p.0 step (omega arith) (omega arith) one others.takes others.shifting in
    subst (Turned H ws i (q ∷ r ∷ rs)) (ok_is _ b p.2)
    (record {
      fs = t.works ∷ others.fs;
      number = ap suc others.number;
      is = λ xs j. place t.works others.fs xs j (t.is xs) (others.is xs);
      grows = (t.grows, others.grows);
      takes = both.takes;
      shifting = both.shifting;
    })
  where
    place : (f : Works) (fs : List Works) (xs : List ℤ) (j : ℕ) → H xs q ≡ as_items (f xs)
        → ((k : ℕ) → lists_of (H xs) (r ∷ rs) k ≡ as_items (list_at (map (λ g. g xs) fs) k))
        → lists_of (H xs) (q ∷ r ∷ rs) j ≡ as_items (list_at (map (λ g. g xs) (f ∷ fs)) j)
    place f fs xs zero e more = e
    place f fs xs (suc j) e more = more j

-- what streams give, place by place
abbrev given : List Works → List ℤ → List (List ℤ)
given fs xs = map (λ f. f xs) fs

all_grow : (fs : List Works) → AllGrow fs → (xs ys : List ℤ) (i : ℕ) → (zs : List ℤ) × (list_at (given fs (xs ++ ys)) i ≡ list_at (given fs xs) i ++ zs)
all_grow [] g xs ys i = ([], refl)
all_grow (f ∷ fs) g xs ys zero = g.0 xs ys
all_grow (f ∷ fs) g xs ys (suc i) = all_grow fs g.1 xs ys i

all_behind : (ws : List ℕ) (i : ℕ) (fs : List Works) (b : Known) (xs : List ℤ) → AllShift ws i fs b → b.period.takes + b.period.reach ≤ length xs
    → (j : ℕ) → j < length fs
    → (length (list_at (given fs (drop b.period.takes xs)) j) + b.period.gives * weight ws (i + j) ≡ length (list_at (given fs xs) j))
    × (drop (b.fades * weight ws (i + j)) (list_at (given fs (drop b.period.takes xs)) j) ≡
    drop (b.period.gives * weight ws (i + j) + b.fades * weight ws (i + j)) (list_at (given fs xs) j))
all_behind ws i [] b xs a le j lt = absurd (omega (arith, lt))
all_behind ws i (f ∷ fs) b xs a le zero lt =
    subst (λ k. (length (f (drop b.period.takes xs)) + b.period.gives * weight ws k ≡ length (f xs))
    × (drop (b.fades * weight ws k) (f (drop b.period.takes xs)) ≡ drop (b.period.gives * weight ws k + b.fades * weight ws k) (f xs)))
    (let e : i ≡ i + 0 = omega arith in e) (a.0.fewer xs le, a.0.moves xs le)
all_behind ws i (f ∷ fs) b xs a le (suc j) lt =
    subst (λ k. (length (list_at (given fs (drop b.period.takes xs)) j) + b.period.gives * weight ws k ≡ length (list_at (given fs xs) j))
    × (drop (b.fades * weight ws k) (list_at (given fs (drop b.period.takes xs)) j) ≡
    drop (b.period.gives * weight ws k + b.fades * weight ws k) (list_at (given fs xs) j)))
    (let e : suc i + j ≡ i + suc j = omega arith in e) (all_behind ws (suc i) fs b xs a.1 le j (omega (arith, lt)))

list_at_map : (ls : List (List ℤ)) (j : ℕ) → list_at (map as_items ls) j ≡ as_items (list_at ls j)
list_at_map [] j = refl
list_at_map (l ∷ ls) zero = refl
list_at_map (l ∷ ls) (suc j) = list_at_map ls j

join_traced : (H : List ℤ → History) (weights : List ℤ) (reads : List Name) (w : Name) (b : Known) → IsFormed (collect weights) → length reads ≡ length weights
    → Turned H (shares weights) 0 reads b
    → ((xs : List ℤ) → H xs w ≡ (feed_all (collect weights) (lists_of (H xs) reads) (first_kept (collect weights))).outs 0)
    → IsTraced (λ xs q ys. H xs q ≡ as_items ys) w (joined_at (shares weights) b)
join_traced H weights reads w b formed many t e =
    let ws = shares weights in
    let have = formed_shaped (collect weights) formed in
    let shares_many = length-map weights count_of in
    let long : (xs : List ℤ) → length (given t.fs xs) ≡ length ws = λ xs. length-map t.fs (λ f. f xs) ∙ t.number ∙ many ∙ sym shares_many in
    let round : (xs : List ℤ) → IsRound ws (length (given t.fs xs)) = λ xs. record { number = sym (long xs); each = have.1 } in
    let some : (xs : List ℤ) → 0 < length (given t.fs xs) = λ xs. subst (λ n. 0 < n) (sym (long xs)) have.0 in
    let settle : (xs : List ℤ) → b.period.takes + b.period.reach ≤ length xs
    → (drop (b.fades * cycle ws) (collected ws (given t.fs (drop b.period.takes xs))) ≡ drop (b.period.gives * cycle ws + b.fades * cycle ws) (collected ws (given t.fs xs)))
    × (length (collected ws (given t.fs (drop b.period.takes xs))) + b.period.gives * cycle ws ≡ length (collected ws (given t.fs xs))) =
    λ xs le.
    joiners_settle ws b.period.gives b.fades (given t.fs xs) (given t.fs (drop b.period.takes xs)) (round xs) (some xs)
    (long (drop b.period.takes xs) ∙ sym (long xs))
    (λ j lt.
    let l = length-map t.fs (λ (f : Works). f xs) in
    subst (λ k. (length (list_at (given t.fs (drop b.period.takes xs)) j) + b.period.gives * weight ws k ≡ length (list_at (given t.fs xs) j))
    × (drop (b.fades * weight ws k) (list_at (given t.fs (drop b.period.takes xs)) j) ≡
    drop (b.period.gives * weight ws k + b.fades * weight ws k) (list_at (given t.fs xs) j)))
    (let z : 0 + j ≡ j = omega arith in z) (all_behind ws 0 t.fs b xs t.shifting le j (omega (arith, lt, l)))) in
    record {
      works = λ xs. collected ws (given t.fs xs);
      is = λ xs.
          e xs
          ∙ ap (λ g. (feed_all (collect weights) g (first_kept (collect weights))).outs 0) (fun_ext (λ j. t.is xs j ∙ sym (list_at_map (given t.fs xs) j)))
          ∙ collects_by_index weights (map as_items (given t.fs xs)) formed (length-map (given t.fs xs) as_items ∙ long xs ∙ shares_many)
          ∙ collected_map (λ x. Flat (One (x ∷ []))) ws (given t.fs xs);
      grows = λ xs ys. collected_grows ws (given t.fs xs) (given t.fs (xs ++ ys)) (round xs) (long (xs ++ ys) ∙ sym (long xs)) (all_grow t.fs t.grows xs ys);
      takes = t.takes;
      shifting = record { moves = λ xs le. (settle xs le).0; fewer = λ xs le. (settle xs le).1 };
    }

-- OPERATORS

module _ (H : List ℤ → History) (kind : Name → QueueType) (var : Name → VarKind) where
  kernel_traced : (k : Kern) (label : Name) (reads writes vars : List Name) (known next : Queues) → Fits k (map kind reads) (map kind writes) (map var vars)
      → ((xs : List ℤ) → Lists writes (feed_all k (lists_of (H xs) reads) (first_kept k)).outs (H xs)) → AllTraced H known
      → kernel_walk k label reads writes known ≡ Ok next → AllTraced H next
  kernel_traced (filter f) label reads writes vars known next fits solves all h =
      let q = on_parts (the_one label reads) (λ q. on_known (or_lacks label (look known q)) (λ a. on_known (rated (filter_period label f)) (λ p.
      on_known (the_one label writes) (λ w. Ok ((w, behind_filter a p (filter_fades f f.first)) ∷ known))))) next h in
      let a = on_parts (or_lacks label (look known q.0)) (λ a. on_known (rated (filter_period label f)) (λ p.
      on_known (the_one label writes) (λ w. Ok ((w, behind_filter a p (filter_fades f f.first)) ∷ known)))) next q.2 in
      let p = on_parts (rated (filter_period label f)) (λ p. on_known (the_one label writes) (λ w. Ok ((w, behind_filter a.0 p (filter_fades f f.first)) ∷ known))) next a.2 in
      let w = on_parts (the_one label writes) (λ w. Ok ((w, behind_filter a.0 p.0 (filter_fades f f.first)) ∷ known)) next p.2 in
      let r = one_is label reads q.0 q.1 in
      let o = one_is label writes w.0 w.1 in
      let t = all q.0 a.0 (lacks_is label (look known q.0) a.0 a.1) in
      subst (AllTraced H) (ok_is _ next w.2)
      (one_more H w.0 (behind_filter a.0 p.0 (filter_fades f f.first)) known
      (filter_traced H f label q.0 w.0 a.0 p.0 fits.3 (rated_is _ p.0 p.1) t
      (λ xs. (subst (λ rs. Lists (w.0 ∷ []) (feed_all (filter f) (lists_of (H xs) rs) (first_kept (filter f))).outs (H xs)) r
      (subst (λ os. Lists os (feed_all (filter f) (lists_of (H xs) reads) (first_kept (filter f))).outs (H xs)) o (solves xs))).0))
      all)
  kernel_traced (duplicate n) label reads writes vars known next fits solves all h =
      let q = on_parts (the_one label reads) (λ q. on_known (or_lacks label (look known q)) (λ a. Ok (each_known (λ i. a) 0 writes known))) next h in
      let a = on_parts (or_lacks label (look known q.0)) (λ a. Ok (each_known (λ i. a) 0 writes known)) next q.2 in
      let r = one_is label reads q.0 q.1 in
      let t = all q.0 a.0 (lacks_is label (look known q.0) a.0 a.1) in
      let many : length writes ≡ n = sym (length-map writes kind) ∙ ap length fits.2 ∙ length-replicate n _ in
      subst (AllTraced H) (ok_is _ next a.2)
      (all_more H (λ i. a.0) 0 writes known
      (λ j w s.
      let below = stands_below w writes j s in
      copy_traced H n j q.0 w a.0 (omega (arith, below, many)) t
      (λ xs. listed w writes j _ (H xs)
      (subst (λ rs. Lists writes (feed_all (duplicate n) (lists_of (H xs) rs) (first_kept (duplicate n))).outs (H xs)) r (solves xs)) s))
      all)
  kernel_traced (deal ws) label reads writes vars known next fits solves all h =
      let q = on_parts (the_one label reads) (λ q. on_known (or_lacks label (look known q)) (λ a. Ok (each_known (λ i. dealt_to (shares ws) i a) 0 writes known))) next h in
      let a = on_parts (or_lacks label (look known q.0)) (λ a. Ok (each_known (λ i. dealt_to (shares ws) i a) 0 writes known)) next q.2 in
      let r = one_is label reads q.0 q.1 in
      let t = all q.0 a.0 (lacks_is label (look known q.0) a.0 a.1) in
      let formed : IsFormed (deal ws) = record { reads = map kind reads; writes = map kind writes; vars = map var vars; fits = fits } in
      subst (AllTraced H) (ok_is _ next a.2)
      (all_more H (λ i. dealt_to (shares ws) i a.0) 0 writes known
      (λ j w s.
      subst (λ k. IsTraced (λ xs q ys. H xs q ≡ as_items ys) w (dealt_to (shares ws) k a.0)) (let e : j ≡ 0 + j = omega arith in e)
      (share_traced H ws j q.0 w a.0 formed t
      (λ xs. listed w writes j _ (H xs)
      (subst (λ rs. Lists writes (feed_all (deal ws) (lists_of (H xs) rs) (first_kept (deal ws))).outs (H xs)) r (solves xs)) s)))
      all)
  kernel_traced (collect ws) label reads writes vars known next fits solves all h =
      let b = on_parts (turns label (shares ws) 0 known reads) (λ a. on_known (the_one label writes) (λ w. Ok ((w, joined_at (shares ws) a) ∷ known))) next h in
      let w = on_parts (the_one label writes) (λ w. Ok ((w, joined_at (shares ws) b.0) ∷ known)) next b.2 in
      let o = one_is label writes w.0 w.1 in
      let formed : IsFormed (collect ws) = record { reads = map kind reads; writes = map kind writes; vars = map var vars; fits = fits } in
      let have = formed_shaped (collect ws) formed in
      let many : length reads ≡ length ws = sym (length-map reads kind) ∙ ap length fits.1 ∙ length-replicate (length ws) _ in
      let long = length-map ws count_of in
      let t = turned H label (shares ws) 0 known reads b.0 all
      (λ j lt. subst (λ k. 0 < weight (shares ws) k) (let e : j ≡ 0 + j = omega arith in e) (weight_some (shares ws) j have.1 (omega (arith, lt, many, long)))) b.1 in
      subst (AllTraced H) (ok_is _ next w.2)
      (one_more H w.0 (joined_at (shares ws) b.0) known
      (join_traced H ws reads w.0 b.0 formed many t
      (λ xs. (subst (λ os. Lists os (feed_all (collect ws) (lists_of (H xs) reads) (first_kept (collect ws))).outs (H xs)) o (solves xs)).0))
      all)
  kernel_traced (code k) label reads writes vars known next fits solves all h = absurd (cc h)
  kernel_traced (packed k) label reads writes vars known next fits solves all h = absurd (cc h)
  kernel_traced (unpack n) label reads writes vars known next fits solves all h = absurd (cc h)
  kernel_traced (window w) label reads writes vars known next fits solves all h = absurd (cc h)
  kernel_traced (select e) label reads writes vars known next fits solves all h = absurd (cc h)
  kernel_traced (project es) label reads writes vars known next fits solves all h = absurd (cc h)
  kernel_traced cross label reads writes vars known next fits solves all h = absurd (cc h)
  kernel_traced (streamer s) label reads writes vars known next fits solves all h = absurd (cc h)
  kernel_traced tally label reads writes vars known next fits solves all h = absurd (cc h)
  kernel_traced (fused a b at) label reads writes vars known next fits solves all h = absurd (cc h)

  walk_traced : (ops : List OpForm) (known last : Queues) → Each (λ op. Fits op.kernel (map kind op.reads) (map kind op.writes) (map var op.vars)) ops
      → ((xs : List ℤ) → Each (Solves (H xs)) ops) → AllTraced H known → walk ops known ≡ Ok last → AllTraced H last
  walk_traced [] known last fits solves all h = subst (AllTraced H) (ok_is known last h) all
  walk_traced (op ∷ ops) known last fits solves all h =
      let n = on_parts (kernel_walk op.kernel op.label op.reads op.writes known) (walk ops) last h in
      walk_traced ops n.0 last fits.1 (λ xs. (solves xs).1)
      (kernel_traced op.kernel op.label op.reads op.writes op.vars known n.0 fits.0 (λ xs. (solves xs).0) all n.1) n.2

-- PLANS

-- the input
input_traced : (H : List ℤ → History) (q : Name) → ((xs : List ℤ) → H xs q ≡ as_items xs) → AllTraced H (at_input q)
input_traced H q e =
    one_more H q (record { period = record { takes = 1; gives = 1; reach = 0 }; fades = 0 }) []
    (record {
      works = λ xs. xs;
      is = e;
      grows = λ xs ys. (ys, refl);
      takes = omega arith;
      shifting = record { moves = λ xs le. refl; fewer = λ xs le. (let d = length-drop 1 xs in omega (arith, d, le)) };
    })
    (λ n a h. absurd (cc h))

own_name : (q : Name) → name_eq q q ≡ true
own_name q = ⊎_elim (λ c. c.1) (λ c. absurd (c.0 refl)) (cases_name q q)

-- what is known of the queues of a plan is so
pub plans_settle : PlansSettle
plans_settle p d known v one h q a e =
    let H : List ℤ → History = λ xs. hist p (as_items xs ∷ []) in
    let free : total (writes_it d.name) p.ops ≡ 0 =
    (let once = subst (λ ds. count d.name (decl_names ds) + total (writes_it d.name) p.ops ≤ 1) one (v.written_once d.name) in
    let o = ap one_if (own_name d.name) in omega (arith, once, o)) in
    let input : (xs : List ℤ) → H xs d.name ≡ as_items xs =
    λ xs.
    (solve_law p (as_items xs ∷ []) v).1 d.name free
    ∙ ap (λ ds. inputs_of (decl_names ds) (list_at (as_items xs ∷ [])) d.name) one
    ∙ ap (λ (z : Bool). if z then as_items xs else []) (own_name d.name) in
    walk_traced H (kind_of (all_decls p)) (var_kind p.tables p.vars) p.ops (at_input d.name) known v.fits (λ xs. (solve_law p (as_items xs ∷ []) v).0)
    (input_traced H d.name input) h q a e

-- pieces of the input give what stands in the queue for the whole
pub plan_pieces_give_the_whole : PlanPiecesGiveTheWhole
plan_pieces_give_the_whole p d known v one h q a e =
    let t = plans_settle p d known v one h q a e in (
      t.works,
      t.is,
      λ early ks xs soon long. whole_is t.works a.period a.fades early t.grows t.shifting soon 0 ks xs (omega arith) long,
    )
