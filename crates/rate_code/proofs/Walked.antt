-- What operators leave known.
use Rattle.std.proofs.Common.{◌≡◌, inl, inr, ℕ, suc, ℤ, Result, ◌+◌, ◌<◌, List, [], ◌∷◌, ◌++◌, length, drop, get_or, Ok, sym, ap, ◌∙◌, subst, arith}
use Rattle.river_base.proofs.Lists.{drop_next}
use Rattle.kern_rows.specs.Forms.{FilterForm}
use Rattle.river_kernels.specs.Kern.{filter, duplicate, deal, collect}
use Rattle.kern_rows.specs.Turns.{shares}
use Rattle.river_plan.specs.declared.op.Op.{Op}
use Rattle.river_plan.specs.Forms.{op_form, op_forms}
use Rattle.river_plan.specs.Forms.{Name}
use Rattle.stream_periods.specs.Periods.{filter_period, filter_fades}
use Rattle.stream_periods.specs.Walk.{Known, Queues, on_known, the_one, or_lacks, rated, each_known, behind_filter, dealt_to, joined_at, turns, walk, NoWalk, kernel_walk}
use Rattle.rate_code.specs.declared.queues.Entry.{Entry}
use Rattle.rate_code.specs.Entries.{known_of, queues_of}
use Rattle.streamit_model.specs.Meaning.{look}
use Rattle.rate_code.specs.declared.cause.NoRate.{NoRate}
use Rattle.rate_code.specs.declared.queues.Spot.{Spot}
use Rattle.rate_code.specs.Cause.{SaysCause, SaysCauseOf, StopsAt, the_known}
use Rattle.rate_code.specs.Walked.{walked_filter, reads_one, writes_one, walks, stops, walks_op}
use Rattle.rate_code.proofs.Causes.{on_cause, then_cause, twice}
use Rattle.rate_code.proofs.Entries.{pushed}

pub each_next : (f : ℕ → Known) (writes : List Name) (i : ℕ) (es : List Entry) (e : Entry) (told : Queues) → i < length writes → e.name ≡ get_or writes i e.name
    → known_of e.spot ≡ f i → each_known f i (drop i writes) (queues_of es) ≡ told → each_known f (i + 1) (drop (i + 1) writes) (queues_of (es ++ e ∷ [])) ≡ told
each_next f writes i es e told lt is same h =
    ap (each_known f (i + 1) (drop (i + 1) writes)) (pushed es e ∙ ap (λ k. (e.name, k) ∷ queues_of es) same)
    ∙ ap (λ n. each_known f n (drop (i + 1) writes) ((e.name, f i) ∷ queues_of es)) (let z : i + 1 ≡ suc i = omega arith in z)
    ∙ sym (ap (λ l. each_known f i l (queues_of es)) (drop_next writes i e.name lt is))
    ∙ h

-- FILTERS

filter_from : (f : FilterForm) (label : Name) (reads writes : List Name) (known : Queues) (a : Known) → reads_one reads known a
    → kernel_walk (filter f) label reads writes known ≡ on_known (rated (filter_period label f)) (λ p.
    on_known (the_one label writes) (λ w. Ok ((w, behind_filter a p (filter_fades f f.first)) ∷ known)))
filter_from f label reads writes known a one =
    ap (λ rs. kernel_walk (filter f) label rs writes known) one.1
    ∙ ap (λ o. on_known (or_lacks label o) (λ b. on_known (rated (filter_period label f)) (λ r.
    on_known (the_one label writes) (λ w. Ok ((w, behind_filter b r (filter_fades f f.first)) ∷ known))))) one.2

pub filter_walks : (f : FilterForm) (label : Name) (reads writes : List Name) (known next : Queues) (a : Known) (s : Spot) → reads_one reads known a
    → walked_filter f a s → writes_one writes (known_of s) known next → walks (filter f) label reads writes known next
filter_walks f label reads writes known next a s one own to =
    let p = own label in
    filter_from f label reads writes known a one
    ∙ ap (λ o. on_known (rated o) (λ r. on_known (the_one label writes) (λ w. Ok ((w, behind_filter a r (filter_fades f f.first)) ∷ known)))) p.1
    ∙ ap (λ ws. on_known (the_one label ws) (λ w. Ok ((w, behind_filter a p.0 (filter_fades f f.first)) ∷ known))) to.1
    ∙ ap (λ k. Ok ((to.0, k) ∷ known)) (sym p.2)
    ∙ ap Ok (sym to.2)

pub filter_keeps : (f : FilterForm) (label : Name) (reads writes : List Name) (known : Queues) (a : Known) (e : NoRate) → reads_one reads known a
    → SaysCause label (rated (filter_period label f)) e → stops (filter f) label reads writes known e
filter_keeps f label reads writes known a e one h =
    subst (λ r. SaysCause label r e) (sym (filter_from f label reads writes known a one))
    (on_cause label (rated (filter_period label f)) (λ p. on_known (the_one label writes) (λ w. Ok ((w, behind_filter a p (filter_fades f f.first)) ∷ known))) e h)

pub filter_unwritten : (f : FilterForm) (label : Name) (reads writes : List Name) (known : Queues) (a : Known) (s : Spot) (e : NoRate) → reads_one reads known a
    → walked_filter f a s → SaysCause label (the_one label writes) e → stops (filter f) label reads writes known e
filter_unwritten f label reads writes known a s e one own h =
    let p = own label in
    subst (λ r. SaysCause label r e) (sym (filter_from f label reads writes known a one
    ∙ ap (λ o. on_known (rated o) (λ r. on_known (the_one label writes) (λ w. Ok ((w, behind_filter a r (filter_fades f f.first)) ∷ known)))) p.1))
    (on_cause label (the_one label writes) (λ w. Ok ((w, behind_filter a p.0 (filter_fades f f.first)) ∷ known)) e h)

pub filter_unread : (f : FilterForm) (label : Name) (reads writes : List Name) (known : Queues) (e : NoRate)
    → SaysCause label (the_known label reads known) e → stops (filter f) label reads writes known e
filter_unread f label reads writes known e h =
    let behind : Known → Result Queues NoWalk = λ a. on_known (rated (filter_period label f)) (λ p.
    on_known (the_one label writes) (λ w. Ok ((w, behind_filter a p (filter_fades f f.first)) ∷ known))) in
    subst (λ r. SaysCause label r e) (twice (the_one label reads) (λ q. or_lacks label (look known q)) behind)
    (on_cause label (the_known label reads known) behind e h)

-- SPLITTERS

pub copy_walks : (n : ℕ) (label : Name) (reads writes : List Name) (known next : Queues) (a : Known) → reads_one reads known a
    → each_known (λ i. a) 0 writes known ≡ next → walks (duplicate n) label reads writes known next
copy_walks n label reads writes known next a one h =
    ap (λ rs. kernel_walk (duplicate n) label rs writes known) one.1
    ∙ ap (λ o. on_known (or_lacks label o) (λ b. Ok (each_known (λ i. b) 0 writes known))) one.2
    ∙ ap Ok h

pub copy_unread : (n : ℕ) (label : Name) (reads writes : List Name) (known : Queues) (e : NoRate)
    → SaysCause label (the_known label reads known) e → stops (duplicate n) label reads writes known e
copy_unread n label reads writes known e h =
    let behind : Known → Result Queues NoWalk = λ a. Ok (each_known (λ i. a) 0 writes known) in
    subst (λ r. SaysCause label r e) (twice (the_one label reads) (λ q. or_lacks label (look known q)) behind)
    (on_cause label (the_known label reads known) behind e h)

pub deal_walks : (ws : List ℤ) (label : Name) (reads writes : List Name) (known next : Queues) (a : Known) → reads_one reads known a
    → each_known (λ i. dealt_to (shares ws) i a) 0 writes known ≡ next → walks (deal ws) label reads writes known next
deal_walks ws label reads writes known next a one h =
    ap (λ rs. kernel_walk (deal ws) label rs writes known) one.1
    ∙ ap (λ o. on_known (or_lacks label o) (λ b. Ok (each_known (λ i. dealt_to (shares ws) i b) 0 writes known))) one.2
    ∙ ap Ok h

pub deal_unread : (ws : List ℤ) (label : Name) (reads writes : List Name) (known : Queues) (e : NoRate)
    → SaysCause label (the_known label reads known) e → stops (deal ws) label reads writes known e
deal_unread ws label reads writes known e h =
    let behind : Known → Result Queues NoWalk = λ a. Ok (each_known (λ i. dealt_to (shares ws) i a) 0 writes known) in
    subst (λ r. SaysCause label r e) (twice (the_one label reads) (λ q. or_lacks label (look known q)) behind)
    (on_cause label (the_known label reads known) behind e h)

-- JOINERS

pub join_walks : (ws : List ℤ) (label : Name) (reads writes : List Name) (known next : Queues) (a : Known) (s : Spot)
    → turns label (shares ws) 0 known reads ≡ Ok a → known_of s ≡ joined_at (shares ws) a → writes_one writes (known_of s) known next
    → walks (collect ws) label reads writes known next
join_walks ws label reads writes known next a s h own to =
    ap (λ o. on_known o (λ b. on_known (the_one label writes) (λ w. Ok ((w, joined_at (shares ws) b) ∷ known)))) h
    ∙ ap (λ l. on_known (the_one label l) (λ w. Ok ((w, joined_at (shares ws) a) ∷ known))) to.1
    ∙ ap (λ k. Ok ((to.0, k) ∷ known)) (sym own)
    ∙ ap Ok (sym to.2)

pub join_unturned : (ws : List ℤ) (label : Name) (reads writes : List Name) (known : Queues) (e : NoRate)
    → SaysCause label (turns label (shares ws) 0 known reads) e → stops (collect ws) label reads writes known e
join_unturned ws label reads writes known e h =
    on_cause label (turns label (shares ws) 0 known reads) (λ b. on_known (the_one label writes) (λ w. Ok ((w, joined_at (shares ws) b) ∷ known))) e h

pub join_unwritten : (ws : List ℤ) (label : Name) (reads writes : List Name) (known : Queues) (a : Known) (e : NoRate)
    → turns label (shares ws) 0 known reads ≡ Ok a → SaysCause label (the_one label writes) e → stops (collect ws) label reads writes known e
join_unwritten ws label reads writes known a e is h =
    then_cause label (turns label (shares ws) 0 known reads) a (λ b. on_known (the_one label writes) (λ w. Ok ((w, joined_at (shares ws) b) ∷ known))) e is
    (on_cause label (the_one label writes) (λ w. Ok ((w, joined_at (shares ws) a) ∷ known)) e h)

-- one operator, and those behind it
pub walk_next : (ops : List Op) (i : ℕ) (op : Op) (known next : Queues) (told : Result Queues NoWalk) → i < length ops → op ≡ get_or ops i op
    → walks_op (op_form op) known next → walk (op_forms (drop i ops)) known ≡ told → walk (op_forms (drop (i + 1) ops)) next ≡ told
walk_next ops i op known next told lt is step h =
    sym (ap (λ l. walk (op_forms l) known) (drop_next ops i op lt is) ∙ ap (λ o. on_known o (walk (op_forms (drop (i + 1) ops)))) step) ∙ h

-- the walk stops at this operator, or behind it
pub stop_here : (ops : List Op) (i : ℕ) (op : Op) (known : Queues) (e : NoRate) → i < length ops → op ≡ get_or ops i op
    → SaysCauseOf (op_form op) known e → StopsAt (op_forms (drop i ops)) known e
stop_here ops i op known e lt is h = subst (λ l. StopsAt (op_forms l) known e) (sym (drop_next ops i op lt is)) (inl h)

pub stop_behind : (ops : List Op) (i : ℕ) (op : Op) (known next : Queues) (e : NoRate) → i < length ops → op ≡ get_or ops i op
    → walks_op (op_form op) known next → StopsAt (op_forms (drop (i + 1) ops)) next e → StopsAt (op_forms (drop i ops)) known e
stop_behind ops i op known next e lt is step h =
    subst (λ l. StopsAt (op_forms l) known e) (sym (drop_next ops i op lt is)) (inr (next, step, h))
