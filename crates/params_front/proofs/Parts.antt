-- The parts of the making of one instance.
use Rattle.std.proofs.Common.{◌≡◌, ℕ, suc, pos, ◌+◌, Option, List, [], ◌∷◌, ◌++◌, length, Result, Ok, Err, refl, sym, ap, ◌∙◌, subst, arith, append_assoc, append-nil}
use Rattle.std.specs.Prelude.{nat_lt, nat_le, ◌&&◌, IfOk, OnOk}
use Rattle.std.proofs.lemmas.List.{map-append, length-append}
use Rattle.river_plan.specs.Forms.{Name}
use Rattle.streamit_text.specs.Program as plain
use Rattle.params_text.specs.Program.{ParamFilter, Dealing, Steps, UnitForm, AFilter, APipeline, ASplitJoin}
use Rattle.streamit_text.specs.Tree.{Expression}
use Rattle.text_tokens.specs.Spaced.{spaced}
use Rattle.params_text.specs.Toks.{unit_toks, units_toks, plain_text}
use Rattle.text_tokens.proofs.Spacing.{spaced-append}
use Rattle.params_model.specs.Environment.{Environment, dealing, option_counts}
use Rattle.params_model.specs.Plain.{instance_name, plain_filter}
use Rattle.params_model.specs.declared.fault.Fault.TheVariants.{Range, Budget}
use Rattle.params_model.specs.Making.{Made, Adding, on_fine, demand, begin, turn, children_made, is_ranged_filter, is_ranged_dealing, are_ranged_option}
use Rattle.params_model.specs.declared.fault.Refusal.{Refusal}
use Rattle.params_build.specs.declared.refused.Refused.{Refused}
use Rattle.params_build.specs.Judging.{IsWhyRefused}
use Rattle.params_print.specs.Heads.{name_written}
use Rattle.params_print.specs.declared.instance.Instance.{Instance}
use Rattle.params_front.specs.declared.making.Making.{Making}
use Rattle.params_front.specs.Standing.{Stands, Begins, MakesOne, WritesInstance, Wrote, finished, bodied}
use Rattle.params_front.proofs.Faults.{fine, told-on, told-behind}

-- COUNTS

-- an instance that may be begun
pub begun-stands : (s : Making) (m : Made) (k size depth : ℕ) (d : UnitForm) → Stands s m
    → demand (nat_lt s.begun 1024 && (nat_le depth 64 && nat_le (s.bytes + size) 1048576)) k Budget ≡ Ok tt
    → Begins (Ok tt) (record s { begun = s.begun + 1; bytes = s.bytes + size }) (begin (record { unit = k; bytes = size; stream = d }) depth m)
begun-stands s m k size depth d h is =
    let test = λ (b y : ℕ). demand (nat_lt b 1024 && (nat_le depth 64 && nat_le (y + size) 1048576)) k Budget in
    let next = record m { begun = suc m.begun; bytes = m.bytes + size } in
    let ok : test m.begun m.bytes ≡ Ok tt = ap (λ b. test b m.bytes) (sym h.begun) ∙ ap (test s.begun) (sym h.bytes) ∙ is in (
      next,
      ap (λ r. on_fine r (λ x. fine next)) ok,
      record {
        text = h.text;
        from = h.from;
        number = h.number;
        begun = omega (arith, h.begun);
        bytes = ap (λ n. n + size) h.bytes;
        turns = h.turns;
      },
    )

-- one that may not
pub begun-told : (s : Making) (m : Made) (k size depth : ℕ) (d : UnitForm) (e : Refused) → Stands s m
    → IsWhyRefused (demand (nat_lt s.begun 1024 && (nat_le depth 64 && nat_le (s.bytes + size) 1048576)) k Budget) e
    → IsWhyRefused (begin (record { unit = k; bytes = size; stream = d }) depth m) e
begun-told s m k size depth d e h t =
    let test = λ (b y : ℕ). demand (nat_lt b 1024 && (nat_le depth 64 && nat_le (y + size) 1048576)) k Budget in
    let next = record m { begun = suc m.begun; bytes = m.bytes + size } in
    told-on e (test m.begun m.bytes) (λ x. fine next)
    (subst (λ r. IsWhyRefused r e) (ap (λ b. test b s.bytes) h.begun ∙ ap (test m.begun) h.bytes) t)

-- a turn that may be begun
pub turn-stands : (s : Making) (m : Made) (k : ℕ) → Stands s m → demand (nat_lt s.turns 65536) k Budget ≡ Ok tt
    → Begins (Ok tt) (record s { turns = s.turns + 1 }) (turn k m)
turn-stands s m k h is =
    let next = record m { turns = suc m.turns } in
    let ok : demand (nat_lt m.turns 65536) k Budget ≡ Ok tt = ap (λ n. demand (nat_lt n 65536) k Budget) (sym h.turns) ∙ is in (
      next,
      ap (λ r. on_fine r (λ x. fine next)) ok,
      record {
        text = h.text;
        from = h.from;
        number = h.number;
        begun = h.begun;
        bytes = h.bytes;
        turns = omega (arith, h.turns);
      },
    )

-- one that may not
pub turn-told : (s : Making) (m : Made) (k : ℕ) (e : Refused) → Stands s m → IsWhyRefused (demand (nat_lt s.turns 65536) k Budget) e
    → IsWhyRefused (turn k m) e
turn-told s m k e h t =
    let next = record m { turns = suc m.turns } in
    told-on e (demand (nat_lt m.turns 65536) k Budget) (λ x. fine next)
    (subst (λ n. IsWhyRefused (demand (nat_lt n 65536) k Budget) e) h.turns t)

-- TEXTS

toks-append : (us vs : plain.Program) → units_toks (us ++ vs) ≡ units_toks us ++ units_toks vs
toks-append [] vs = refl
toks-append (u ∷ us) vs = ap (λ l. unit_toks u ++ l) (toks-append us vs) ∙ sym (append_assoc (unit_toks u) (units_toks us) (units_toks vs))

-- the text of one unit more
text-more : (us : plain.Program) (u : plain.UnitForm) → plain_text (us ++ u ∷ []) ≡ plain_text us ++ spaced (unit_toks u)
text-more us u =
    ap spaced (toks-append us (u ∷ []) ∙ ap (λ l. units_toks us ++ l) (append-nil (unit_toks u)))
    ∙ spaced-append (units_toks us) (unit_toks u)

-- an instance whose unit was written
pub written-stands : (s mid new : Making) (m : Made) (k : ℕ) (stream : Name) (b : plain.Body) (i : Instance) → Stands s m → i.stream ≡ stream
    → i.number ≡ suc s.number
    → mid ≡ record s { text = s.text ++ spaced (unit_toks (record { name = name_written i; body = b })) } → Wrote mid new k i.number
    → (name_written i ≡ (finished k stream (b, m)).0) × Stands new (finished k stream (b, m)).1
written-stands s mid new m k stream b i h one two is w =
    let number : i.number ≡ suc (length m.units) = two ∙ ap suc h.number in
    let name : name_written i ≡ instance_name stream (suc (length m.units)) = ap (λ n. instance_name n i.number) one ∙ ap (instance_name stream) number in (
      name,
      record {
        text =
            w.text ∙ ap (λ (q : Making). q.text) is
            ∙ ap (λ l. l ++ spaced (unit_toks (record { name = name_written i; body = b }))) h.text
            ∙ ap (λ n. plain_text m.units ++ spaced (unit_toks (record { name = n; body = b }))) name
            ∙ sym (text-more m.units (record { name = instance_name stream (suc (length m.units)); body = b }));
        from = w.from ∙ ap (λ (q : Making). q.from ++ pos k ∷ []) is ∙ ap (λ l. l ++ pos k ∷ []) h.from ∙ sym (map-append pos m.from (k ∷ []));
        number = w.number ∙ number ∙ sym (length-next m.units (record { name = instance_name stream (suc (length m.units)); body = b }));
        begun = w.begun ∙ ap (λ (q : Making). q.begun) is ∙ h.begun;
        bytes = w.bytes ∙ ap (λ (q : Making). q.bytes) is ∙ h.bytes;
        turns = w.turns ∙ ap (λ (q : Making). q.turns) is ∙ h.turns;
      },
    )
  where
    length-next : (us : plain.Program) (u : plain.UnitForm) → length (us ++ u ∷ []) ≡ suc (length us)
    length-next us u = length-append us (u ∷ []) ∙ (let e : length us + 1 ≡ suc (length us) = omega arith in e)

-- BODIES

-- a filter whose rates are in range
pub filter-made : (add : Adding) (k : ℕ) (name : Name) (env : Environment) (t : ParamFilter) (m : Made) (i : Instance) (new : Making)
    → demand (is_ranged_filter env t) k Range ≡ Ok tt → WritesInstance (fine i) new k name (plain.AFilter (plain_filter env t)) m
    → MakesOne (Ok i) new (bodied add k name env (AFilter t) m)
filter-made add k name env t m i new h w =
    let b = plain.AFilter (plain_filter env t) in (
      (finished k name (b, m)).1,
      ap (λ r. on_fine (on_fine r (λ x. fine (b, m))) (λ r. fine (finished k name r))) h ∙ ap (λ n. fine (n, (finished k name (b, m)).1)) (sym w.0),
      w.1,
    )

-- one whose rates are not
pub filter-told : (add : Adding) (k : ℕ) (name : Name) (env : Environment) (t : ParamFilter) (m : Made) (e : Refused)
    → IsWhyRefused (demand (is_ranged_filter env t) k Range) e → IsWhyRefused (bodied add k name env (AFilter t) m) e
filter-told add k name env t m e h =
    let b = plain.AFilter (plain_filter env t) in
    told-on e (on_fine (demand (is_ranged_filter env t) k Range) (λ x. fine (b, m))) (λ r. fine (finished k name r))
    (told-on e (demand (is_ranged_filter env t) k Range) (λ x. fine (b, m)) h)

-- a pipeline with children
pub pipeline-made : (add : Adding) (k : ℕ) (name : Name) (env : Environment) (ss : Steps) (m m1 : Made) (a : plain.Adds) (i : Instance) (new : Making)
    → children_made add k env ss m ≡ Ok (a, m1) → WritesInstance (fine i) new k name (plain.APipeline a) m1
    → MakesOne (Ok i) new (bodied add k name env (APipeline ss) m)
pipeline-made add k name env ss m m1 a i new h w =
    let b = plain.APipeline a in (
      (finished k name (b, m1)).1,
      ap (λ r. on_fine (on_fine r (λ x. fine (plain.APipeline x.0, x.1))) (λ r. fine (finished k name r))) h
          ∙ ap (λ n. fine (n, (finished k name (b, m1)).1)) (sym w.0),
      w.1,
    )

-- one whose children are refused
pub pipeline-told : (add : Adding) (k : ℕ) (name : Name) (env : Environment) (ss : Steps) (m : Made) (e : Refused)
    → IsWhyRefused (children_made add k env ss m) e → IsWhyRefused (bodied add k name env (APipeline ss) m) e
pipeline-told add k name env ss m e h =
    told-on e (on_fine (children_made add k env ss m) (λ x. fine (plain.APipeline x.0, x.1))) (λ r. fine (finished k name r))
    (told-on e (children_made add k env ss m) (λ x. fine (plain.APipeline x.0, x.1)) h)

-- a split-join: its splitter's weights, its children, its joiner's weights
module _ (add : Adding) (k : ℕ) (name : Name) (env : Environment) (d : Dealing) (ss : Steps) (ws : Option (List Expression)) (m : Made) where
  abbrev joined : plain.Adds × Made → Result (plain.Body × Made) Refusal
  joined c = on_fine (demand (are_ranged_option env ws) k Range) (λ y. fine (plain.ASplitJoin (dealing env d) c.0 (option_counts env ws), c.1))

  abbrev split : Result (plain.Body × Made) Refusal
  split = on_fine (demand (is_ranged_dealing env d) k Range) (λ x. on_fine (children_made add k env ss m) joined)

  -- the splitter's weights are out of range
  pub split-told : (e : Refused) → IsWhyRefused (demand (is_ranged_dealing env d) k Range) e
      → IsWhyRefused (bodied add k name env (ASplitJoin d ss ws) m) e
  split-told e h =
      told-on e split (λ r. fine (finished k name r))
      (told-on e (demand (is_ranged_dealing env d) k Range) (λ x. on_fine (children_made add k env ss m) joined) h)

  -- the children are refused
  pub branches-told : (e : Refused) → demand (is_ranged_dealing env d) k Range ≡ Ok tt → IsWhyRefused (children_made add k env ss m) e
      → IsWhyRefused (bodied add k name env (ASplitJoin d ss ws) m) e
  branches-told e h t =
      told-on e split (λ r. fine (finished k name r))
      (told-behind e (demand (is_ranged_dealing env d) k Range) tt (λ x. on_fine (children_made add k env ss m) joined) h
      (told-on e (children_made add k env ss m) joined t))

  -- the joiner's weights are out of range
  pub join-told : (c : plain.Adds × Made) (e : Refused) → demand (is_ranged_dealing env d) k Range ≡ Ok tt → children_made add k env ss m ≡ Ok c
      → IsWhyRefused (demand (are_ranged_option env ws) k Range) e → IsWhyRefused (bodied add k name env (ASplitJoin d ss ws) m) e
  join-told c e h g t =
      told-on e split (λ r. fine (finished k name r))
      (told-behind e (demand (is_ranged_dealing env d) k Range) tt (λ x. on_fine (children_made add k env ss m) joined) h
      (told-behind e (children_made add k env ss m) c joined g
      (told-on e (demand (are_ranged_option env ws) k Range) (λ y. fine (plain.ASplitJoin (dealing env d) c.0 (option_counts env ws), c.1)) t)))

  -- where its weights are in range and its children are made, a split-join is made and written
  pub split-made : (a : plain.Adds) (m1 : Made) (i : Instance) (new : Making) → demand (is_ranged_dealing env d) k Range ≡ Ok tt
      → children_made add k env ss m ≡ Ok (a, m1) → demand (are_ranged_option env ws) k Range ≡ Ok tt
      → WritesInstance (fine i) new k name (plain.ASplitJoin (dealing env d) a (option_counts env ws)) m1
      → MakesOne (Ok i) new (bodied add k name env (ASplitJoin d ss ws) m)
  split-made a m1 i new h g j w =
      let b = plain.ASplitJoin (dealing env d) a (option_counts env ws) in
      let end = λ (r : plain.Body × Made). fine (finished k name r) in (
        (finished k name (b, m1)).1,
        ap (λ r. on_fine (on_fine r (λ x. on_fine (children_made add k env ss m) joined)) end) h
            ∙ ap (λ r. on_fine (on_fine r joined) end) g
            ∙ ap (λ r. on_fine (on_fine r (λ y. fine (b, m1))) end) j
            ∙ ap (λ n. fine (n, (finished k name (b, m1)).1)) (sym w.0),
        w.1,
      )

-- an instance that may have been written
pub written-by : {E : Type 0} (r : Result Instance E) (s mid new : Making) (m : Made) (k : ℕ) (stream : Name) (b : plain.Body) (i : Instance) → Stands s m
    → i.stream ≡ stream → i.number ≡ suc s.number → mid ≡ record s { text = s.text ++ spaced (unit_toks (record { name = name_written i; body = b })) }
    → IfOk r (λ j. j ≡ i) → OnOk r (Wrote mid new k i.number) → WritesInstance r new k stream b m
written-by (Ok j) s mid new m k stream b i h one two is same w =
    subst (λ (x : Instance). (name_written x ≡ (finished k stream (b, m)).0) × Stands new (finished k stream (b, m)).1) (sym same)
    (written-stands s mid new m k stream b i h one two is w)
written-by (Err e) s mid new m k stream b i h one two is same w = tt
