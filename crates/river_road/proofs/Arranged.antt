-- What was read moves to the inputs that it is given to.
use Rattle.std.proofs.Common.{◌≡◌, ℕ, zero, suc, ◌+◌, ◌<◌, ◌≤◌, drop, get_or, Bool, true, false, List, [], ◌∷◌, ◌++◌, length, refl, sym, ap, ◌∙◌, arith}
use Rattle.std.specs.Prelude.{slice_set, if◌then◌else◌}
use Rattle.std.proofs.lemmas.List.{append_assoc, append-nil, drop_more, drop_all}
use Rattle.river_base.specs.Name.{name_eq}
use Rattle.river_plan.specs.declared.plan.Decl.{Decl}
use Rattle.river_plan.specs.Forms.{decl_names}
use Rattle.river_plan.specs.Names.{count, one_if}
use Rattle.river_plan.proofs.NameLemmas.{name_same, name_sym}
use Rattle.river_road.specs.Inputs.{content_named, contents_in_order, NamesPlace}
use Rattle.river_road.specs.declared.content.FileContent.{FileContent}
use Rattle.river_road.specs.declared.content.FileContent.TheVariants.{Rows as Plain}
use Rattle.command_line.specs.declared.command.InWord.{InWord}

-- another content at the place of a word is none of another name
pub other-kept : (ins : List InWord) (all : List FileContent) (i : ℕ) (w : InWord) (x : FileContent) (q : List ℕ) → i < length ins → w ≡ get_or ins i w
    → name_eq w.name q ≡ false
    → content_named ins (slice_set all i x) q ≡ content_named ins all q
other-kept [] all i w x q lt e other = absurd (omega (arith, lt))
other-kept (v ∷ ins) [] i w x q lt e other = refl
other-kept (v ∷ ins) (content ∷ all) zero w x q lt e other =
    let n : name_eq v.name q ≡ false = ap (λ (u : InWord). name_eq u.name q) (sym e) ∙ other in
    rw n refl
other-kept (v ∷ ins) (content ∷ all) (suc i) w x q lt e other =
    ap (λ t. if name_eq v.name q then content else t) (other-kept ins all i w x q (omega (arith, lt)) e other)

-- the content at the place of the first word of a name
pub named-at : (ins : List InWord) (all : List FileContent) (name : List ℕ) (i : ℕ) (w : InWord) (whole d : FileContent) → i < length ins → length all ≡ length ins
    → w ≡ get_or ins i w
    → name_eq w.name name ≡ true → content_named (drop i ins) (drop i all) name ≡ whole → whole ≡ get_or all i d
named-at ins all name i w whole d lt same w_is here so_far =
    let rest = drop (i + 1) ins in
    let left : drop i ins ≡ w ∷ rest = drop_more ins i w lt ∙ ap (λ y. y ∷ rest) (sym w_is) in
    let files : drop i all ≡ get_or all i d ∷ drop (i + 1) all = drop_more all i d (omega (arith, lt, same)) in
    sym so_far
    ∙ ap (λ l. content_named l (drop i all) name) left
    ∙ ap (λ l. content_named (w ∷ rest) l name) files
    ∙ ap (λ b. if b then get_or all i d else content_named rest (drop (i + 1) all) name) here

-- no word is left
pub named-none : (ins : List InWord) (all : List FileContent) (name : List ℕ) (i : ℕ) (whole : FileContent) → length ins ≤ i
    → content_named (drop i ins) (drop i all) name ≡ whole → whole ≡ Plain []
named-none ins all name i whole le so_far = sym so_far ∙ ap (λ l. content_named l (drop i all) name) (drop_all i ins le)

-- another content stands at the place of a name
pub taken-there : (ins : List InWord) (all : List FileContent) (name : List ℕ) (i : ℕ) (x : FileContent) (q : List ℕ) → NamesPlace ins name i → name_eq name q ≡ false
    → content_named ins (slice_set all i x) q ≡ content_named ins all q
taken-there ins all name i x q p other = other-kept ins all i p.word x q p.within p.word_is (ap (λ n. name_eq n q) p.named ∙ other)

no_name : (b : Bool) (n : ℕ) → one_if b + n ≡ 0 → (b ≡ false) × (n ≡ 0)
no_name true n e = absurd (omega (arith, e))
no_name false n e = (refl, omega (arith, e))

-- inputs of other names have what they had
others-kept : (ds : List Decl) (ins : List InWord) (all all' : List FileContent) (name : List ℕ) → count name (decl_names ds) ≡ 0
    → ((q : List ℕ) → name_eq name q ≡ false → content_named ins all' q ≡ content_named ins all q)
    → contents_in_order ds ins all' ≡ contents_in_order ds ins all
others-kept [] ins all all' name none same = refl
others-kept (d ∷ ds) ins all all' name none same =
    let p = no_name (name_eq d.name name) (count name (decl_names ds)) none in
    ap (λ t. t ∷ contents_in_order ds ins all') (same d.name (name_sym name d.name ∙ p.0))
    ∙ ap (λ t. content_named ins all d.name ∷ t) (others-kept ds ins all all' name p.1 same)

fewer : (b : Bool) (n : ℕ) → b ≡ true → one_if b + n ≤ 1 → n ≡ 0
fewer true n e le = omega (arith, le)
fewer false n e le = cc

less : (b : Bool) (n : ℕ) → one_if b + n ≤ 1 → n ≤ 1
less true n le = omega (arith, le)
less false n le = omega (arith, le)

-- no later input has the name of one
pub later_apart : (ds : List Decl) (i : ℕ) (d : Decl) → i < length ds → d ≡ get_or ds i d → ((q : List ℕ) → count q (decl_names ds) ≤ 1)
    → count d.name (decl_names (drop (i + 1) ds)) ≡ 0
later_apart [] i d lt e apart = absurd (omega (arith, lt))
later_apart (v ∷ ds) zero d lt e apart =
    let same : name_eq v.name d.name ≡ true = ap (λ (u : Decl). name_eq u.name d.name) (sym e) ∙ name_same d.name in
    fewer (name_eq v.name d.name) (count d.name (decl_names ds)) same (apart d.name)
later_apart (v ∷ ds) (suc i) d lt e apart =
    let s : suc i + 1 ≡ suc (i + 1) = omega arith in
    ap (λ n. count d.name (decl_names (drop n (v ∷ ds)))) s
    ∙ later_apart ds i d (omega (arith, lt)) e (λ q. less (name_eq v.name q) (count q (decl_names ds)) (apart q))

-- one input more has what the words give to it
pub arranged-next : (ds : List Decl) (ins : List InWord) (all all' files files' whole : List FileContent) (i : ℕ) (d : Decl) (x : FileContent) → i < length ds
    → d ≡ get_or ds i d
    → ((q : List ℕ) → count q (decl_names ds) ≤ 1) → x ≡ content_named ins all d.name
    → ((q : List ℕ) → name_eq d.name q ≡ false → content_named ins all' q ≡ content_named ins all q)
    → files ++ contents_in_order (drop i ds) ins all ≡ whole → files' ≡ files ++ x ∷ [] → files' ++ contents_in_order (drop (i + 1) ds) ins all' ≡ whole
arranged-next ds ins all all' files files' whole i d x lt is apart taken others so_far grown =
    let rest = drop (i + 1) ds in
    let left : drop i ds ≡ d ∷ rest = drop_more ds i d lt ∙ ap (λ y. y ∷ rest) (sym is) in
    ap (λ l. l ++ contents_in_order rest ins all') grown
    ∙ ap (λ l. (files ++ x ∷ []) ++ l) (others-kept rest ins all all' d.name (later_apart ds i d lt is apart) others)
    ∙ append_assoc files (x ∷ []) (contents_in_order rest ins all)
    ∙ ap (λ c. files ++ (c ∷ contents_in_order rest ins all)) taken
    ∙ ap (λ l. files ++ contents_in_order l ins all) (sym left)
    ∙ so_far

-- all inputs have it
pub arranged-all : (ds : List Decl) (ins : List InWord) (all files whole : List FileContent) (i : ℕ) → length ds ≤ i
    → files ++ contents_in_order (drop i ds) ins all ≡ whole
    → files ≡ whole
arranged-all ds ins all files whole i le so_far =
    sym (append-nil files) ∙ ap (λ l. files ++ contents_in_order l ins all) (sym (drop_all i ds le)) ∙ so_far
