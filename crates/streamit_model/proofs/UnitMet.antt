-- Units are read spot by spot: the first spot that has a fault is told.
use Rattle.std.proofs.Common.{◌≡◌, ℕ, suc, ◌+◌, ◌<◌, ◌≤◌, ◌⊎◌, inl, inr, Bool, true, false, List, [], ◌∷◌, ◌++◌, length, map, max, Option, Some, None, Result}
use Rattle.std.proofs.Common.{Ok, refl, sym, ap, ◌∙◌, subst, arith, ⊎_elim, nat_lt, nat_le, nat_eq}
use Rattle.std.specs.Prelude.{◌&&◌, if◌then◌else◌}
use Rattle.std.specs.List.{list_all, AllByRecursion}
use Rattle.std.proofs.lemmas.Bool.{and_parts, ltb-true, ltb-false, leb-true, leb-false, eqb-true, eqb-false, and_from}
use Rattle.std.proofs.lemmas.List.{append-nil}
use Rattle.river_base.specs.Name.{name_eq}
use Rattle.river_plan.specs.Forms.{Name}
use Rattle.river_plan.specs.Names.{one_if, count}
use Rattle.river_plan.proofs.NameLemmas.{cases_name}
use Rattle.brooklet_model.specs.ByIndex.{cycle}
use Rattle.streamit_model.specs.Unrolled.{RoundRobin, Stream, Filter, Pipeline, SplitJoin, Streams, Last, Then, nesting, deepest, IsRound}
use Rattle.streamit_model.specs.Plan.{ops_in, ops_of}
use Rattle.streamit_model.specs.Elaborate.{on_ok, demand, Var, find, At, steps_of, optional_of}
use Rattle.streamit_model.specs.declared.fault.Fault.{Fault}
use Rattle.streamit_model.specs.declared.fault.Fault.TheVariants.{Rates, Limit, Weights}
use Rattle.streamit_text.specs.Program.{WorkTree, FilterTree, Dealing, Copies, Turns, Body, AFilter, APipeline, ASplitJoin, UnitForm}
use Rattle.streamit_model.specs.Meaning.{push_of, pop_of, peek_of, nought, weights_for, look, branch_count}
use Rattle.streamit_model.specs.ElaborateFilter.{read_field, read_fields, nothing_read, elaborated_form, judged_rates, kept_rates, elaborated}
use Rattle.streamit_model.specs.ElaborateFilter.{run_of, read_work, read_prework}
use Rattle.streamit_model.specs.Judged.{Streamed, found_stream, stream_added, streams_added, any, branches, round_of, splitter_of, stream_of, not_there, unit_of}
use Rattle.streamit_model.specs.Words.{ReadWord, Declares, Knows, pops_one, pushes_one, pops_beside, pushes_beside, popped_in, pushed_in}
use Rattle.streamit_model.specs.Text.{all_read, optional_read}
use Rattle.streamit_model.specs.Places.{Names, Rated, Counts, Branch, Added, Weighs, each_word, fields_read, work_spots, prework_spots, filter_spots, branch_spots, split_spots}
use Rattle.streamit_model.specs.Places.{body_spots, unit_spots, greatest_said, in_all, body_depth, depth_above, body_operators, operators_above, last_operators}
use Rattle.streamit_model.proofs.Meeting.{Meets, free, first_twice, first_unknown, first_limit, first_weights, first_rates, behind, chain, finish, test}
use Rattle.streamit_model.proofs.Meeting.{last_test, weaken, next}
use Rattle.streamit_model.proofs.Standing.{over-append, Stands, with_local, regrouped}
use Rattle.streamit_model.proofs.ReadMet.{Went, Within, knows_free, declares_met, all_met, optional_met, regroup}

three_true : (a b c : Bool) → a && (b && c) ≡ true → (a ≡ true) × (b ≡ true) × (c ≡ true)
three_true a b c h = let p = and_parts a (b && c) h in let q = and_parts b c p.1 in (p.0, q.0, q.1)

one_false : (a b c : Bool) → a && (b && c) ≡ false → (a ≡ false) ⊎ (b ≡ false) ⊎ (c ≡ false)
one_false true true true h = absurd (cc h)
one_false true true false h = inr (inr refl)
one_false true false c h = inr (inl refl)
one_false false b c h = inl refl

-- FILTERS

module _ (above : List UnitForm) where
  field_met : (n : Name) (before : List ReadWord) (s : At) → Stands before s nought
      → Meets above (each_word 0 before (Declares n ∷ Knows n ∷ [])) (read_field n s)
      (λ t. Stands ((before ++ Declares n ∷ []) ++ Knows n ∷ []) t nought × (t.popped ≡ s.popped) × (t.pushed ≡ s.pushed))
  field_met n before s h =
      declares_met above 0 before (Knows n ∷ []) s nought n (find s.scope n) (Ok (record s { scope = (n, Var s.slots) ∷ s.scope; slots = s.slots + 1 }))
      (λ t. Stands ((before ++ Declares n ∷ []) ++ Knows n ∷ []) t nought × (t.popped ≡ s.popped) × (t.pushed ≡ s.pushed)) refl h
      (λ new g. ((knows_free above 0 (before ++ Declares n ∷ []) n, tt), (with_local (before ++ Declares n ∷ []) s nought n new g, refl, refl)))

  fields_met : (ns : List Name) (before : List ReadWord) (s : At) → Stands before s nought
      → Meets above (each_word 0 before (fields_read ns)) (read_fields ns s)
      (λ t. Stands (before ++ fields_read ns) t nought × (t.popped ≡ s.popped) × (t.pushed ≡ s.pushed))
  fields_met [] before s h = (tt, (regrouped before (before ++ []) s nought (sym (append-nil before)) h, refl, refl))
  fields_met (n ∷ ns) before s h =
      let b = (before ++ Declares n ∷ []) ++ Knows n ∷ [] in
      let eq : b ++ fields_read ns ≡ before ++ fields_read (n ∷ ns) = regroup (before ++ Declares n ∷ []) (Knows n) (fields_read ns) ∙ regroup before
      (Declares n) (Knows n ∷ fields_read ns) in
      next above 0 before (Declares n ∷ Knows n ∷ []) (fields_read ns) (read_field n s) (read_fields ns)
      (λ t. Stands b t nought × (t.popped ≡ s.popped) × (t.pushed ≡ s.pushed))
      (λ t. Stands (before ++ fields_read (n ∷ ns)) t nought × (t.popped ≡ s.popped) × (t.pushed ≡ s.pushed)) (field_met n before s h)
      (λ t f. subst (λ x. Meets above (each_word 0 x (fields_read ns)) (read_fields ns t)
      (λ t. Stands (before ++ fields_read (n ∷ ns)) t nought × (t.popped ≡ s.popped) × (t.pushed ≡ s.pushed)))
      (regroup before (Declares n) (Knows n ∷ []))
      (weaken above (each_word 0 b (fields_read ns)) (read_fields ns t)
      (λ u. Stands (b ++ fields_read ns) u nought × (u.popped ≡ t.popped) × (u.pushed ≡ t.pushed))
      (λ t. Stands (before ++ fields_read (n ∷ ns)) t nought × (t.popped ≡ s.popped) × (t.pushed ≡ s.pushed)) (fields_met ns b t f.0)
      (λ u g. (regrouped (b ++ fields_read ns) (before ++ fields_read (n ∷ ns)) u nought eq g.0, g.1 ∙ f.1, g.2 ∙ f.2))))

  rates_met : (least push pop peek : ℕ) → Meets above (Rated least push pop peek ∷ []) (judged_rates least push pop peek) (λ u. peek ≤ 65536)
  rates_met least push pop peek =
      let spot = Rated least push pop peek in
      test above (spot ∷ []) (nat_le push 65536 && (nat_le pop 65536 && nat_le peek 65536)) tt Limit
      (λ u. on_ok (demand (nat_le least pop) Limit) (λ v. demand (nat_le pop peek) (Rates peek pop))) (λ u. peek ≤ 65536)
      (λ t.
      let all = three_true (nat_le push 65536) (nat_le pop 65536) (nat_le peek 65536) t in
      let a = leb-true push 65536 all.0 in let b = leb-true pop 65536 all.1 in let c = leb-true peek 65536 all.2 in
      test above (spot ∷ []) (nat_le least pop) tt Limit (λ v. demand (nat_le pop peek) (Rates peek pop)) (λ u. peek ≤ 65536)
      (λ t2.
      let some = leb-true least pop t2 in
      let low : (65536 < push) ⊎ (65536 < pop) ⊎ (65536 < peek) ⊎ (pop < least)
      → ⊥ = (λ h. ⊎_elim (λ x. omega (arith, a, x)) (λ h2. ⊎_elim (λ x. omega (arith, b, x))
      (λ h3. ⊎_elim (λ x. omega (arith, c, x)) (λ x. omega (arith, some, x)) h3) h2) h) in
      last_test above (spot ∷ []) (nat_le pop peek) tt (Rates peek pop) (λ u. peek ≤ 65536)
      (λ t3.
      let le = leb-true pop peek t3 in (
        (free above spot (λ h. h) (λ h. h) (λ d c h. let x = h.0 in omega (arith, le, x)) (λ i r h. h) (λ h. h) (λ h. h) low (λ h. h), tt),
        c,
      ))
      (λ f. inl (first_rates above spot peek pop (leb-false pop peek f, refl, refl) (λ h. h) (λ h. h) (λ h. h) (λ h. h) (λ i r h. h) low)))
      (λ f. inl (first_limit above spot (inr (inr (inr (leb-false least pop f)))) (λ h. h) (λ h. h) (λ h. h) (λ h. h) (λ i r h. h))))
      (λ f. inl (first_limit above spot
      (⊎_elim (λ x. inl (leb-false push 65536 x)) (λ y. ⊎_elim (λ x. inr (inl (leb-false pop 65536 x))) (λ x. inr (inr (inl (leb-false peek 65536 x)))) y)
      (one_false (nat_le push 65536) (nat_le pop 65536) (nat_le peek 65536) f))
      (λ h. h) (λ h. h) (λ h. h) (λ h. h) (λ i r h. h)))

  count_met : (d c k : ℕ) → c ≡ k → Meets above (Counts d c ∷ []) (demand (nat_eq k d) (Rates d k)) (λ u. Unit {0})
  count_met d c k same =
      let spot = Counts d c in
      last_test above (spot ∷ []) (nat_eq k d) tt (Rates d k) (λ u. Unit {0})
      (λ t.
      let e = eqb-true k d t in (
        (free above spot (λ h. h) (λ h. h) (λ x y h. h.0 (omega (arith, e, same))) (λ i r h. h) (λ h. h) (λ h. h) (λ h. h) (λ h. h), tt),
        tt,
      ))
      (λ f. inl (first_rates above spot d k ((λ h. eqb-false k d f (omega (arith, h, same))), refl, sym same) (λ h. h) (λ h. h) (λ h. h) (λ h. h) (λ i r h. h)
      (λ h. h)))

  counts_met : (push pop : ℕ) (work : List ReadWord) (s : At) → popped_in work ≡ s.popped → pushed_in work ≡ s.pushed
      → Meets above (Counts pop (popped_in work) ∷ Counts push (pushed_in work) ∷ []) (kept_rates push pop s) (λ u. Unit {0})
  counts_met push pop work s a b =
      chain above (Counts pop (popped_in work) ∷ []) (Counts push (pushed_in work) ∷ []) (demand (nat_eq s.popped pop) (Rates pop s.popped))
      (λ u. demand (nat_eq s.pushed push) (Rates push s.pushed)) (λ u. Unit {0}) (λ u. Unit {0}) (count_met pop (popped_in work) s.popped a)
      (λ u t. count_met push (pushed_in work) s.pushed b)

  -- what a block pops, behind fields that pop nothing
  work_pops : (fields work : List ReadWord) (s w : At) → Stands fields s nought → s.popped ≡ 0 → Stands (fields ++ work) w nought → popped_in work ≡ w.popped
  work_pops fields work s w h z g =
      let a = h.counts.pops_are in let b = g.counts.pops_are in
      let c = over-append pops_one fields work in let d = over-append pops_beside fields work in
      omega (arith, a, b, c, d, z)

  work_pushes : (fields work : List ReadWord) (s w : At) → Stands fields s nought → s.pushed ≡ 0 → Stands (fields ++ work) w nought → pushed_in work ≡ w.pushed
  work_pushes fields work s w h z g =
      let a = h.counts.pushes_are in let b = g.counts.pushes_are in
      let c = over-append pushes_one fields work in let d = over-append pushes_beside fields work in
      omega (arith, a, b, c, d, z)

  nothing_stands : Stands [] nothing_read nought
  nothing_stands = record {
    counts = record { slots_are = refl; size_is = refl; pops_are = omega arith; pushes_are = omega arith };
    names = λ n. (refl, refl);
  }

  -- what is known behind the fields, at which nothing is popped or pushed
  abbrev BehindFields : List ReadWord → At → Type 0
  BehindFields fields s = Stands fields s nought × (s.popped ≡ 0) × (s.pushed ≡ 0)

  -- `prework` or `work`
  work_met : (least : ℕ) (fields : List ReadWord) (w : WorkTree) (s : At) → BehindFields fields s
      → Meets above (work_spots least fields w) (read_work least w s) (λ r. Unit {0})
  work_met least fields w s h =
      let push = push_of w in let pop = pop_of w in let peek = peek_of w in
      let block = all_read w.block nought in
      let ends = Counts pop (popped_in block) ∷ Counts push (pushed_in block) ∷ [] in
      chain above (Rated least push pop peek ∷ []) (each_word peek fields block ++ ends) (judged_rates least push pop peek)
      (λ u. on_ok (steps_of peek w.block s) (λ r. on_ok (kept_rates push pop r.1) (λ v. Ok (run_of w r))))
      (λ u. peek ≤ 65536) (λ r. Unit {0}) (rates_met least push pop peek)
      (λ u small. chain above (each_word peek fields block) ends (steps_of peek w.block s) (λ r. on_ok (kept_rates push pop r.1) (λ v. Ok (run_of w r)))
      (Went above peek fields block s nought) (λ r. Unit {0}) (all_met above peek w.block fields s nought small h.0)
      (λ r g. finish above ends (kept_rates push pop r.1) (λ v. run_of w r) (λ u. Unit {0}) (λ r. Unit {0})
      (counts_met push pop block r.1 (work_pops fields block s r.1 h.0 h.1 g.stands) (work_pushes fields block s r.1 h.0 h.2 g.stands)) (λ v x. tt)))

  prework_met : (fields : List ReadWord) (o : Option WorkTree) (s : At) → BehindFields fields s
      → Meets above (prework_spots fields o) (read_prework o s) (λ p. Unit {0})
  prework_met fields None s h = (tt, tt)
  prework_met fields (Some w) s h =
      finish above (work_spots 0 fields w) (read_work 0 w s) Some (λ r. Unit {0}) (λ p. Unit {0}) (work_met 0 fields w s h) (λ r x. tt)

  pub filter_met : (t : FilterTree) → Meets above (filter_spots t) (elaborated t) (λ f. Unit {0})
  filter_met t =
      let fields = fields_read t.fields in
      let init = optional_read t.init nought in
      let first = prework_spots fields t.prework in
      let last = work_spots 1 fields t.work in
      chain above (each_word 0 [] fields) (each_word 0 fields init ++ (first ++ last)) (read_fields t.fields nothing_read)
      (λ s. on_ok (optional_of 0 t.init s) (λ i. on_ok (read_prework t.prework s) (λ p. on_ok (read_work 1 t.work s) (λ w. Ok (elaborated_form t i p w)))))
      (BehindFields fields) (λ f. Unit {0}) (fields_met t.fields [] nothing_read nothing_stands)
      (λ s h. chain above (each_word 0 fields init) (first ++ last) (optional_of 0 t.init s)
      (λ i. on_ok (read_prework t.prework s) (λ p. on_ok (read_work 1 t.work s) (λ w. Ok (elaborated_form t i p w))))
      (Within above 0 fields init s nought) (λ f. Unit {0}) (optional_met above 0 t.init fields s nought (omega arith) h.0)
      (λ i z. chain above first last (read_prework t.prework s) (λ p. on_ok (read_work 1 t.work s) (λ w. Ok (elaborated_form t i p w)))
      (λ p. Unit {0}) (λ f. Unit {0}) (prework_met fields t.prework s h)
      (λ p y. finish above last (read_work 1 t.work s) (elaborated_form t i p) (λ r. Unit {0}) (λ f. Unit {0}) (work_met 1 fields t.work s h) (λ r x. tt))))

-- WHAT IS KNOWN OF THE STREAMS ABOVE

abbrev pub IsSaid : Option Stream → ℕ → ℕ → ℕ → Type 0
IsSaid None times depth operators = times ≡ 0
IsSaid (Some s) times depth operators = (0 < times) × (nesting s ≡ depth) × (ops_in s ≡ operators)

abbrev pub SaysOf : List UnitForm → Option Stream → Name → Type 0
SaysOf above o n = IsSaid o (count n (map (λ u. u.name) above)) (depth_above above n) (operators_above above n)

-- how many operators the newest stream has
abbrev pub LastIs : Streamed → ℕ → Type 0
LastIs [] operators = operators ≡ 0
LastIs (e ∷ known) operators = ops_in e.1 ≡ operators

-- the trees of streams are as nested, and have as many operators, as is said of those that are declared above
pub record KnowsAbove (above : List UnitForm) (known : Streamed) : Type 0 where
  pub each : (n : Name) → SaysOf above (look known n) n
  pub last : LastIs known (last_operators above)

-- one stream more
pub one_more : (above : List UnitForm) (known : Streamed) (u : UnitForm) (s : Stream) → KnowsAbove above known
    → nesting s ≡ body_depth (depth_above above) u.body
    → ops_in s ≡ body_operators (operators_above above) u.body → KnowsAbove (u ∷ above) ((u.name, s) ∷ known)
one_more above known u s k d o = record {
  last = o;
  each = λ n. ⊎_elim
      (λ c.
      let q = ap one_if c.1 in
      subst (λ x. SaysOf (u ∷ above) x n) (sym (ap (λ b. if b then Some s else look known n) c.1)) (
        omega (arith, q),
        d ∙ sym (ap (λ b. if b then body_depth (depth_above above) u.body else depth_above above n) c.1),
        o ∙ sym (ap (λ b. if b then body_operators (operators_above above) u.body else operators_above above n) c.1),
      ))
      (λ c.
      let q = ap one_if c.1 in
      subst (λ x. SaysOf (u ∷ above) x n) (sym (ap (λ b. if b then Some s else look known n) c.1))
      (other (look known n) (count n (map (λ u. u.name) above)) (one_if (name_eq u.name n)) (depth_above above n) (depth_above (u ∷ above) n)
      (operators_above above n) (operators_above (u ∷ above) n) q
      (sym (ap (λ b. if b then body_depth (depth_above above) u.body else depth_above above n) c.1))
      (sym (ap (λ b. if b then body_operators (operators_above above) u.body else operators_above above n) c.1))
      (k.each n)))
      (cases_name u.name n);
}
  where
    other : (x : Option Stream) (times here depth depth' operators operators' : ℕ) → here ≡ 0 → depth ≡ depth' → operators ≡ operators'
        → IsSaid x times depth operators
        → IsSaid x (here + times) depth' operators'
    other None times here depth depth' operators operators' z a b h = omega (arith, z, h)
    other (Some s) times here depth depth' operators operators' z a b h = let p = h.0 in (omega (arith, p), h.1 ∙ a, h.2 ∙ b)

-- the tree of a stream is as nested, and has as many operators, as is said of what is declared
abbrev pub IsBodyAs : List UnitForm → Body → Stream → Type 0
IsBodyAs above b s = (nesting s ≡ body_depth (depth_above above) b) × (ops_in s ≡ body_operators (operators_above above) b)

module _ (above : List UnitForm) (known : Streamed) (k : KnowsAbove above known) where
  -- ADDED STREAMS

  abbrev IsAs : Name → Stream → Type 0
  IsAs n s = (nesting s ≡ depth_above above n) × (ops_in s ≡ operators_above above n)

  added_by : (n : Name) (o : Option Stream) → SaysOf above o n
      → Meets above (Added n ∷ []) (on_ok (found_stream o) (λ s. on_ok (demand (nat_lt (nesting s) 64) Limit) (λ v. Ok s))) (IsAs n)
  added_by n None h = inl (first_unknown above (Added n) (λ a. omega (arith, a, h)) (λ h. h))
  added_by n (Some s) h =
      let spot = Added n in
      let there = h.0 in
      let deep = h.1 in
      test above (spot ∷ []) (nat_lt (nesting s) 64) tt Limit (λ v. Ok s) (IsAs n)
      (λ t.
      let lt = ltb-true (nesting s) 64 t in (
        (free above spot (λ h. h there) (λ h. h) (λ d c h. h) (λ i r h. h) (λ h. h) (λ h. h) (λ h. omega (arith, lt, deep, h)) (λ h. h), tt),
        (h.1, h.2),
      ))
      (λ f. let le = ltb-false (nesting s) 64 f in inl
      (first_limit above spot (omega (arith, le, deep)) (λ h. h) (λ h. h there) (λ h. h) (λ h. h) (λ i r h. h)))

  -- added to a pipeline
  any_added : (i : ℕ) (n : Name) → Meets above (Added n ∷ []) (stream_added any known i n) (IsAs n)
  any_added i n = added_by n (look known n) (k.each n)

  -- added to a split-join
  branch_added : (i : ℕ) (n : Name) → Meets above (Branch i ∷ Added n ∷ []) (stream_added branches known i n) (IsAs n)
  branch_added i n =
      let spot = Branch i in
      test above (spot ∷ Added n ∷ []) (nat_lt i 64) tt Limit (λ u. on_ok (found_stream (look known n))
      (λ s. on_ok (demand (nat_lt (nesting s) 64) Limit) (λ v. Ok s))) (IsAs n)
      (λ t.
      let lt = ltb-true i 64 t in
      behind above (spot ∷ []) (Added n ∷ []) (on_ok (found_stream (look known n)) (λ s. on_ok (demand (nat_lt (nesting s) 64) Limit) (λ v. Ok s))) (IsAs n)
      (free above spot (λ h. h) (λ h. h) (λ d c h. h) (λ i r h. h) (λ h. h) (λ h. h) (λ h. omega (arith, lt, h)) (λ h. h), tt)
      (added_by n (look known n) (k.each n)))
      (λ f. let le = ltb-false i 64 f in inl (first_limit above spot (omega (arith, le)) (λ h. h) (λ h. h) (λ h. h) (λ h. h) (λ i r h. h)))

  abbrev AreAs : Name → List Name → Streams → Type 0
  AreAs n ms ss = (deepest ss ≡ greatest_said (depth_above above) n ms) × (ops_of ss ≡ in_all (operators_above above) n ms)

  both_as : (n m : Name) (ms : List Name) (s : Stream) (ss : Streams) → IsAs n s → AreAs m ms ss → AreAs n (m ∷ ms) (Then s ss)
  both_as n m ms s ss a b =
      let p = a.1 in let q = b.1 in
      (ap (λ x. max x (deepest ss)) a.0 ∙ ap (max (depth_above above n)) b.0, omega (arith, p, q))

  line_met : (n : Name) (ms : List Name) (i : ℕ) → Meets above (map Added (n ∷ ms)) (streams_added any known i n ms) (AreAs n ms)
  line_met n [] i = finish above (Added n ∷ []) (stream_added any known i n) Last (IsAs n) (AreAs n []) (any_added i n) (λ s h. h)
  line_met n (m ∷ ms) i =
      chain above (Added n ∷ []) (map Added (m ∷ ms)) (stream_added any known i n) (λ s. on_ok (streams_added any known (suc i) m ms) (λ ss. Ok (Then s ss)))
      (IsAs n)
      (AreAs n (m ∷ ms)) (any_added i n)
      (λ s h. finish above (map Added (m ∷ ms)) (streams_added any known (suc i) m ms) (Then s) (AreAs m ms) (AreAs n (m ∷ ms)) (line_met m ms (suc i))
      (λ ss g. both_as n m ms s ss h g))

  branches_met : (n : Name) (ms : List Name) (i : ℕ) → Meets above (branch_spots i (n ∷ ms)) (streams_added branches known i n ms) (AreAs n ms)
  branches_met n [] i = finish above (Branch i ∷ Added n ∷ []) (stream_added branches known i n) Last (IsAs n) (AreAs n []) (branch_added i n) (λ s h. h)
  branches_met n (m ∷ ms) i =
      chain above (Branch i ∷ Added n ∷ []) (branch_spots (suc i) (m ∷ ms)) (stream_added branches known i n)
      (λ s. on_ok (streams_added branches known (suc i) m ms) (λ ss. Ok (Then s ss)))
      (IsAs n) (AreAs n (m ∷ ms)) (branch_added i n)
      (λ s h. finish above (branch_spots (suc i) (m ∷ ms)) (streams_added branches known (suc i) m ms) (Then s) (AreAs m ms) (AreAs n (m ∷ ms))
      (branches_met m ms (suc i)) (λ ss g. both_as n m ms s ss h g))

  -- WEIGHTS

  each_some : (ws : List ℕ) → list_all (λ w. nat_le 1 w) ws ≡ true → AllByRecursion (λ w. 0 < w) ws
  each_some [] h = tt
  each_some (w ∷ ws) h = let p = and_parts (nat_le 1 w) (list_all (λ w. nat_le 1 w) ws) h in (let a = leb-true 1 w p.0 in omega (arith, a), each_some ws p.1)

  some_each : (ws : List ℕ) → AllByRecursion (λ w. 0 < w) ws → list_all (λ w. nat_le 1 w) ws ≡ true
  some_each [] h = refl
  some_each (w ∷ ws) h = and_from (nat_le 1 w) (list_all (λ w. nat_le 1 w) ws) (let a = h.0 in grind (arith, a)) (some_each ws h.1)

  fits : (vs : List ℕ) (n : ℕ) → nat_eq (length vs) n && list_all (λ w. nat_le 1 w) vs ≡ true → IsRound vs n
  fits vs n h =
      let p = and_parts (nat_eq (length vs) n) (list_all (λ w. nat_le 1 w) vs) h in record { number = eqb-true (length vs) n p.0; each = each_some vs p.1 }

  misfits : (vs : List ℕ) (n : ℕ) → nat_eq (length vs) n && list_all (λ w. nat_le 1 w) vs ≡ false → IsRound vs n → ⊥
  misfits vs n h r = let a = r.number in let b = some_each vs r.each in grind (arith, a, b, h)

  weights_met : (ws : Option (List ℕ)) (n : ℕ) → Meets above (Weighs ws n ∷ []) (round_of ws n) (λ vs. Unit {0})
  weights_met ws n =
      let vs = weights_for ws n in
      let spot = Weighs ws n in
      test above (spot ∷ []) (nat_eq (length vs) n && list_all (λ w. nat_le 1 w) vs) tt Weights
      (λ u. on_ok (demand (nat_le (cycle vs) 65536) Limit) (λ v. Ok vs)) (λ vs. Unit {0})
      (λ t.
      let r = fits vs n t in
      test above (spot ∷ []) (nat_le (cycle vs) 65536) tt Limit (λ v. Ok vs) (λ vs. Unit {0})
      (λ t2.
      let le = leb-true (cycle vs) 65536 t2 in (
        (free above spot (λ h. h) (λ h. h) (λ d c h. h) (λ i r h. h) (λ h. h) (λ h. h) (λ h. omega (arith, le, h)) (λ h. h r), tt),
        tt,
      ))
      (λ f. inl (first_limit above spot (leb-false (cycle vs) 65536 f) (λ h. h) (λ h. h) (λ h. h) (λ h. h r) (λ i r h. h))))
      (λ f. inl (first_weights above spot (misfits vs n f) (λ h. h) (λ h. h) (λ h. h)))

  split_met : (d : Dealing) (n : ℕ) → Meets above (split_spots d n) (splitter_of d n) (λ p. Unit {0})
  split_met Copies n = (tt, tt)
  split_met (Turns ws) n = finish above (Weighs ws n ∷ []) (round_of ws n) RoundRobin (λ vs. Unit {0}) (λ p. Unit {0}) (weights_met ws n) (λ vs h. h)

  -- WHAT IS DECLARED

  body_met : (name : Name) (b : Body) → Meets above (body_spots b) (stream_of known name b) (IsBodyAs above b)
  body_met name (AFilter t) =
      finish above (filter_spots t) (elaborated t) (Filter name) (λ f. Unit {0}) (IsBodyAs above (AFilter t)) (filter_met above t) (λ f h. (refl, refl))
  body_met name (APipeline a) =
      finish above (map Added (a.first ∷ a.others)) (streams_added any known 0 a.first a.others) Pipeline (AreAs a.first a.others)
      (IsBodyAs above (APipeline a))
      (line_met a.first a.others 0)
      (λ ss h. (ap suc h.0, h.1))
  body_met name (ASplitJoin d a ws) =
      let n = branch_count a in
      let bs = branch_spots 0 (a.first ∷ a.others) in
      let Q = IsBodyAs above (ASplitJoin d a ws) in
      chain above (split_spots d n) (bs ++ Weighs ws n ∷ []) (splitter_of d n)
      (λ p. on_ok (streams_added branches known 0 a.first a.others) (λ ss. on_ok (round_of ws n) (λ vs. Ok (SplitJoin p ss vs)))) (λ p. Unit {0}) Q
      (split_met d n)
      (λ p u. chain above bs (Weighs ws n ∷ []) (streams_added branches known 0 a.first a.others) (λ ss. on_ok (round_of ws n) (λ vs. Ok (SplitJoin p ss vs)))
      (AreAs a.first a.others) Q
      (branches_met a.first a.others 0)
      (λ ss h. finish above (Weighs ws n ∷ []) (round_of ws n) (λ vs. SplitJoin p ss vs) (λ vs. Unit {0}) Q (weights_met ws n)
      (λ vs v. (ap suc h.0, ap (λ x. 1 + (x + 1)) h.1))))

  name_met : (u : UnitForm) (o : Option Stream) → SaysOf above o u.name → (r : Result Stream Fault) (Q : Stream → Type 0) → Meets above (body_spots u.body) r Q
      → Meets above (unit_spots u) (on_ok (not_there o) (λ z. r)) Q
  name_met u None h r Q m =
      behind above (Names u.name ∷ []) (body_spots u.body) r Q
      (free above (Names u.name) (λ h. h) (λ a. omega (arith, a, h)) (λ d c h. h) (λ i r h. h) (λ h. h) (λ h. h) (λ h. h) (λ h. h), tt) m
  name_met u (Some s) h r Q m = inl (first_twice above (Names u.name) h.0)

  -- judging a unit tells the first fault of its places, or its stream
  pub unit_met : (u : UnitForm) → Meets above (unit_spots u) (unit_of known u) (IsBodyAs above u.body)
  unit_met u = name_met u (look known u.name) (k.each u.name) (stream_of known u.name u.body) (IsBodyAs above u.body) (body_met u.name u.body)
