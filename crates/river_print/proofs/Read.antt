-- What a text stands for has the ranges of numbers, and keeps the bounds of the grammar.
use Rattle.std.proofs.Common.{◌≡◌, ℕ, zero, suc, ◌≤◌, ℤ, pos, Bool, true, false, Option, Some, None, List, [], ◌∷◌, ◌++◌, map, refl, sym, subst, arith, ⊎_elim}
use Rattle.std.specs.Prelude.{neg_ℤ, codes}
use Rattle.std.specs.List.{AllByRecursion}
use Rattle.std.specs.Str.{bytes_eq}
use Rattle.river_base.proofs.Tests.{le_by}
use Rattle.text_tokens.specs.Tok.{Tok}
use Rattle.work_code.specs.Term.{Term}
use Rattle.work_code.specs.Steps.{Step, Steps, If, in_turn}
use Rattle.text_tokens.specs.declared.sign.Symbol.{Symbol}
use Rattle.text_tokens.specs.declared.sign.Symbol.TheVariants as s
use Rattle.river_base.specs.Name.{is_name}
use Rattle.river_base.specs.declared.kind.FlatType.TheVariants.{Rows, Stream, Relation}
use Rattle.river_base.specs.declared.kind.QueueType.TheVariants.{Flat, Pack}
use Rattle.kern_tables.specs.declared.kind.TableKind.TheVariants.{Sum, Collection}
use Rattle.kern_bags.specs.declared.kernel.Window.TheVariants.{Range}
use Rattle.text_forms.specs.Levels as levels
use Rattle.text_forms.specs.Forms as form
use Rattle.text_forms.specs.Parse.{is_count}
use Rattle.text_forms.specs.Texts.{AllFormed}
use Rattle.text_blocks.specs.Parts.{Round, optional}
use Rattle.text_blocks.specs.declared.sign.Sign.{Sign}
use Rattle.text_blocks.specs.declared.sign.Sign.TheVariants as sign
use Rattle.text_blocks.proofs.Every.{IfThere, every-block}
use Rattle.river_kernels.specs.Fits.{width_of}
use Rattle.river_kernels.specs.Kern.{Kern}
use Rattle.river_kernels.specs.Kern as kern
use Rattle.river_plan.specs.Forms.{OpForm, PlanForm, empty_form}
use Rattle.river_text.specs.Bodies as bodies
use Rattle.river_text.specs.Expressions as rule
use Rattle.river_text.specs.Kernels as g
use Rattle.river_text.specs.Plans as t
use Rattle.river_text.specs.declared.decl.QueueDecl.{QueueDecl}
use Rattle.river_text.specs.declared.entry.Place.{Place}
use Rattle.river_print.specs.Writable as w
use Rattle.river_print.specs.Printable as r
use Rattle.river_print.specs.Ranged as ranges

-- FORMS

-- the form stands for values of which this holds alone
pub record Gives {A : Type 0} (F : A → List Tok → Type 0) (P : A → Type 0) : Type 0 where
  pub give : (v : A) (ts : List Tok) → F v ts → P v

-- what holds of the values of a form that is seen as another value
pub gives-seen : {A B : Type 0} {F : A → List Tok → Type 0} {P : A → Type 0} (f : A → B) (Q : B → Type 0) → Gives F P → ((v : A) → P v → Q (f v))
    → Gives (form.Seen f F) Q
gives-seen f Q g k = record { give = λ v ts h. subst Q (sym h.is) (k h.value (g.give h.value ts h.formed)) }

gives-tested : {A : Type 0} (test : A → Bool) (F : A → List Tok → Type 0) (P : A → Type 0) → ((v : A) → test v ≡ true → P v) → Gives (form.Tested test F) P
gives-tested test F P k = record { give = λ v ts h. k v h.passes }

-- of one and then the other
pub gives-both : {A B : Type 0} {F : A → List Tok → Type 0} {G : B → List Tok → Type 0} {P : A → Type 0} {Q : B → Type 0} → Gives F P → Gives G Q
    → Gives (form.Both F G) (λ v. P v.0 × Q v.1)
gives-both f g = record { give = λ v ts h. (f.give v.0 h.front h.first, g.give v.1 h.back h.second) }

-- behind some symbols
pub gives-after : {A : Type 0} {F : A → List Tok → Type 0} {P : A → Type 0} (run : List Symbol) → Gives F P → Gives (form.After run F) P
gives-after run f = record { give = λ v ts h. f.give v h.back h.formed }

-- before some symbols
pub gives-before : {A : Type 0} {F : A → List Tok → Type 0} {P : A → Type 0} (run : List Symbol) → Gives F P → Gives (form.Before F run) P
gives-before run f = record { give = λ v ts h. f.give v h.front h.formed }

-- behind a word
pub gives-after_word : {A : Type 0} {F : A → List Tok → Type 0} {P : A → Type 0} (word : List ℕ) → Gives F P → Gives (form.AfterWord word F) P
gives-after_word word f = record { give = λ v ts h. f.give v h.back h.formed }

gives-merged : {A : Type 0} {F G : A → List Tok → Type 0} {P : A → Type 0} → Gives F P → Gives G P → Gives (form.Merged F G) P
gives-merged f g = record { give = λ v ts h. ⊎_elim (λ x. f.give v ts x) (λ x. g.give v ts x) h }

gives-nothing : {A : Type 0} (P : A → Type 0) (v : A) → P v → Gives (form.Nothing v) P
gives-nothing P v p = record { give = λ x ts h. subst P (sym h.0) p }

-- nothing is asked
pub gives-any : {A : Type 0} (F : A → List Tok → Type 0) → Gives F (λ v. Unit {0})
gives-any F = record { give = λ v ts h. tt }

gives-never : {A : Type 0} (P : A → Type 0) → Gives (form.Never {A = A}) P
gives-never P = record { give = λ x ts h. absurd h }

gives-choose : {A : Type 0} {F G : A → List Tok → Type 0} {P : A → Type 0} (b : Bool) → Gives F P → Gives G P → Gives (form.Choose b F G) P
gives-choose true f g = f
gives-choose false f g = g

gives-headed : {A : Type 0} {F : List ℕ → A → List Tok → Type 0} {P : A → Type 0} → ((word : List ℕ) → Gives (F word) P) → Gives (form.Headed F) P
gives-headed f = record { give = λ v ts h. let g = f h.word in g.give v h.back h.formed }

gives-each : {A : Type 0} {F : A → List Tok → Type 0} {P : A → Type 0} → Gives F P → Gives (form.Many F) (w.Every P)
gives-each {A = A} {F = F} {P = P} f = record { give = given }
  where
    given : (vs : List A) (ts : List Tok) → form.Many F vs ts → w.Every P vs
    given [] ts h = tt
    given (v ∷ vs) ts h = (f.give v h.0 h.3, given vs h.1 h.4)

gives-commas : {A : Type 0} {F : A → List Tok → Type 0} {P : A → Type 0} → Gives F P → Gives (form.Commas F) (w.Every P)
gives-commas {P = P} f = gives-seen (λ v. v.0 ∷ v.1) (w.Every P) (gives-both f (gives-each (gives-after _ f))) (λ v h. h)

gives-listing : {A : Type 0} {F : A → List Tok → Type 0} {P : A → Type 0} → Gives F P → Gives (form.Listing F) (w.Every P)
gives-listing {P = P} f = gives-merged (gives-nothing (w.Every P) [] tt) (gives-commas f)

gives-enclosed : {A : Type 0} {F : ℕ → A → List Tok → Type 0} {P : A → Type 0} (left right : Symbol) → ((m : ℕ) → Gives (F m) P) → (n : ℕ)
    → Gives (form.Enclosed left right F n) P
gives-enclosed {P = P} left right f zero = record { give = λ v ts h. absurd h }
gives-enclosed left right f (suc n) = record { give = λ v ts h. let g = gives-after (left ∷ []) (gives-before (right ∷ []) (f n)) in g.give v ts h }

-- NUMBERS

count : Gives form.Count w.IsCount
count = gives-tested is_count form.Number w.IsCount (λ n h. let a = le_by n 4294967295 h in omega (arith, a))

value : Gives form.Value w.IsNatural
value = record { give = λ v ts h. subst w.IsNatural (sym h.is) (h.number, refl, le_by h.number 9223372036854775807 h.fits) }

start-natural : (z : ℤ) → w.IsNatural z → w.IsWritableStart z
start-natural z h = subst w.IsWritableStart (sym h.1) h.2

value-start : Gives form.Value w.IsWritableStart
value-start = record { give = λ v ts h. start-natural v (value.give v ts h) }

width : Gives g.Width w.IsWritableStart
width = gives-seen (λ n. pos n) w.IsWritableStart count (λ n h. omega (arith, h))

neg-start : (z : ℤ) → w.IsNatural z → w.IsWritableStart (neg_ℤ z)
neg-start z h = subst (λ y. w.IsWritableStart (neg_ℤ y)) (sym h.1) (of_pos h.0 h.2)
  where
    of_pos : (n : ℕ) → n ≤ 9223372036854775807 → w.IsWritableStart (neg_ℤ (pos n))
    of_pos zero le = omega arith
    of_pos (suc n) le = omega (arith, le)

signed : Gives g.Signed w.IsWritableStart
signed =
    gives-merged (gives-after _ (gives-seen neg_ℤ w.IsWritableStart value neg-start))
    (gives-merged (gives-after_word (codes "min") (gives-nothing w.IsWritableStart g.least (omega arith))) value-start)

starts : (n : ℕ) → Gives (g.IsStarts n) (w.Every w.IsWritableStart)
starts n = gives-enclosed _ _ (λ m. gives-listing signed) n

-- EXPRESSIONS

leaf-ranged : (n : ℕ) (t : Term) (ts : List Tok) → rule.IsLeaf n t ts → ranges.IsRangedTerm t
leaf-ranged n t ts (rule.number m v fits) = le_by v 9223372036854775807 fits
leaf-ranged n t ts (rule.input m i fits) = let a = le_by i 4294967295 fits in omega (arith, a)
leaf-ranged n t ts (rule.slot m i fits) = let a = le_by i 4294967295 fits in omega (arith, a)

marked-ranged : (p : Sign) (t : Term) → ranges.IsRangedTerm t → ranges.IsRangedTerm (rule.marked p t)
marked-ranged sign.Neg t h = h
marked-ranged sign.Not t h = h

ranged : (n k : ℕ) (t : Term) (ts : List Tok) → levels.Spells rule.syntax rule.IsLeaf n k t ts → ranges.IsRangedTerm t
ranged n k t ts (levels.leaf m u us x) = leaf-ranged m u us x
ranged n k t ts (levels.bracket m u us x) = ranged m 7 u us x
ranged n k t ts (levels.call m y p u us c x) = marked-ranged p u (ranged m 7 u us x)
ranged n k t ts (levels.tighter m j u us x) = ranged m j u us x
ranged n k t ts (levels.chain m j y o a b us vs f c x z) = (ranged m (suc j) a us x, ranged m j b vs z)
ranged n k t ts (levels.once m j y o a b us vs f c x z) = (ranged m j a us x, ranged m j b vs z)
ranged n k t ts (levels.prefix m j y p u us c x) = marked-ranged p u (ranged m (suc j) u us x)

term_ranged : (n : ℕ) → Gives (rule.IsTerm n) ranges.IsRangedTerm
term_ranged n = record { give = λ v ts h. ranged n 7 v ts h.0 }

-- STATEMENTS

-- a statement, and a list of statements, in which `if` nests at most so deep
abbrev IsStep : ℕ → Step → Type 0
IsStep nest x = ranges.IsRangedStep x × (w.depth_once x ≤ nest)

abbrev IsSteps : ℕ → Steps → Type 0
IsSteps nest xs = ranges.IsRangedSteps xs × (w.depths xs ≤ nest)

turned : (nest : ℕ) (xs : List Step) → AllByRecursion (IsStep nest) xs → IsSteps nest (in_turn xs)
turned nest [] h = (tt, omega arith)
turned nest (x ∷ xs) h = let t = turned nest xs h.1 in let a = h.0.1 in let b = t.1 in ((h.0.0, t.0), omega (arith, a, b))

set-step : (nest n : ℕ) → Gives (bodies.IsSet n) (IsStep nest)
set-step nest n = gives-seen bodies.made_set (IsStep nest)
    (gives-both (gives-enclosed _ _ (λ m. count) n) (gives-after _ (gives-before _ (term_ranged n))))
    (λ v h. (h, omega arith))

push-step : (nest n : ℕ) → Gives (bodies.IsPush n) (IsStep nest)
push-step nest n = gives-seen bodies.made_push (IsStep nest)
    (gives-both count (gives-before _ (gives-enclosed _ _ (λ m. gives-commas (term_ranged m)) n)))
    (λ v h. (h, omega arith))

plain-step : (nest n : ℕ) (word : List ℕ) → Gives (bodies.PlainAfter n word) (IsStep nest)
plain-step nest n word =
    gives-choose (bytes_eq word (codes "slot")) (set-step nest n) (gives-choose (bytes_eq word (codes "push")) (push-step nest n) (gives-never (IsStep nest)))

branch-step : (nest n : ℕ) (c : Term) (ts : List Tok) (a : Steps) (o : Option Steps) → Round rule.IsTerm n c ts → IsSteps nest a → IfThere (IsSteps nest) o
    → IsStep (suc nest) (If c a (bodies.or_done o))
branch-step nest n c ts a None h x y =
    let f = gives-enclosed s.Open s.Close term_ranged n in let b = x.1 in ((f.give c ts h, x.0, tt), omega (arith, b))
branch-step nest n c ts a (Some d) h x y =
    let f = gives-enclosed s.Open s.Close term_ranged n in let b = x.1 in let e = y.1 in ((f.give c ts h, x.0, y.0), omega (arith, b, e))

body : (n : ℕ) → Gives (bodies.IsBody 16 n) (IsSteps 16)
body n = record {
  give = every-block bodies.style bodies.holes IsStep IsSteps branch-step (λ k m word x ts b f q. absurd f)
      (λ k m word v ts h. let f = plain-step k m word in f.give v ts h) turned 16 n;
}

-- KERNELS

abbrev IsKernel : Kern → Type 0
IsKernel k = ranges.IsRangedKernel k × r.IsShallow k × r.HasForward k

code : (n : ℕ) → Gives (g.IsCode n) IsKernel
code n = gives-seen g.made_code IsKernel
    (gives-both (gives-enclosed _ _ (λ m. gives-both count (gives-after _ count)) n)
    (gives-both (gives-enclosed _ _ (λ m. gives-listing width) n) (gives-both (starts n) (body n))))
    (λ v h. (((h.0.0, h.0.1, h.1.1.1.0), h.1.0, h.1.1.0), h.1.1.1.1, tt))

-- the parts of a first run, and of one that may be there
abbrev AreFirst : g.FirstParts → Type 0
AreFirst v = (w.IsCount v.0.0 × (w.IsCount v.0.1.0 × w.IsCount v.0.1.1)) × IsSteps 16 v.1

abbrev AreFirsts : Option g.FirstParts → Type 0
AreFirsts None = Unit {0}
AreFirsts (Some v) = AreFirst v

first : (n : ℕ) → Gives (form.AfterWord (codes "first") (g.AreFirstParts n)) AreFirst
first n = gives-after_word (codes "first")
    (gives-both (gives-enclosed _ _ (λ m. gives-both count (gives-after _ (gives-both count (gives-after _ count)))) n) (body n))

firsts : (n : ℕ) → Gives (form.Maybe (form.AfterWord (codes "first") (g.AreFirstParts n))) AreFirsts
firsts n = record { give = give }
  where
    give : (v : Option g.FirstParts) (ts : List Tok) → form.Maybe (form.AfterWord (codes "first") (g.AreFirstParts n)) v ts → AreFirsts v
    give None ts h = tt
    give (Some v) ts h = let f = first n in f.give v ts h

ranged-first : (slots : ℕ) (o : Option g.FirstParts) → w.IsCount slots → AreFirsts o
    → ranges.IsRangedFirst (optional (g.made_first slots) o) × r.IsShallowFirst (optional (g.made_first slots) o)
ranged-first slots None few h = (tt, tt)
ranged-first slots (Some v) few h = ((h.0.0, h.0.1.0, h.0.1.1, (h.0.0, few, h.1.0)), h.1.1)

filter : (n : ℕ) → Gives (g.IsFilter n) IsKernel
filter n = gives-seen g.made_filter IsKernel
    (gives-both (gives-enclosed _ _ (λ m. gives-both count (gives-after _ (gives-both count (gives-after _ (gives-both count (gives-after _ count)))))) n)
    (gives-both (starts n) (gives-both (body n) (firsts n))))
    (λ v h. let f = ranged-first v.0.1.1.1 v.1.1.1 h.0.1.1.1 h.1.1.1 in
    ((h.0.0, h.0.1.0, h.0.1.1.0, (h.0.0, h.0.1.1.1, h.1.1.0.0), h.1.0, f.0), (h.1.1.0.1, f.1), tt))

-- a kernel that is one number in brackets, or some weights
counted : (f : ℕ → Kern) → ((n : ℕ) → w.IsCount n → IsKernel (f n)) → (n : ℕ) → Gives (form.Seen f (Round (λ m. form.Count) n)) IsKernel
counted f k n = gives-seen f IsKernel (gives-enclosed _ _ (λ m. count) n) k

weighed : (f : List ℤ → Kern) → ((ws : List ℤ) → w.Every w.IsWritableStart ws → IsKernel (f ws)) → (n : ℕ)
    → Gives (form.Seen f (Round (λ m. form.Commas form.Value) n)) IsKernel
weighed f k n = gives-seen f IsKernel (gives-enclosed _ _ (λ m. gives-commas value-start) n) k

fused : (braced : Kern → List Tok → Type 0) → Gives braced IsKernel → (n : ℕ) → Gives (g.IsFusedKernel braced n) IsKernel
fused braced f n = gives-seen g.made_fused IsKernel (gives-both (gives-enclosed _ _ (λ m. count) n) (gives-both f f))
    (λ v h. ((h.1.0.0, h.1.1.0, h.0), (h.1.0.1, h.1.1.1), (h.1.0.2, h.1.1.2)))

range : (z : ℤ) → w.IsNatural z → IsKernel (kern.window (Range z))
range z h = (start-natural z h, tt, subst (λ y. r.IsForward (Range y)) (sym h.1) tt)

bag : (n : ℕ) (word : List ℕ) → Gives (g.BagAfter n word) IsKernel
bag n word =
    gives-choose (bytes_eq word (codes "now")) (gives-nothing IsKernel _ (tt, tt, tt))
    (gives-choose (bytes_eq word (codes "range")) (gives-seen _ IsKernel (gives-enclosed _ _ (λ m. value) n) range)
    (gives-choose (bytes_eq word (codes "unbounded")) (gives-nothing IsKernel _ (tt, tt, tt))
    (gives-choose (bytes_eq word (codes "latest")) (counted _ (λ k h. (h, tt, tt)) n)
    (gives-choose (bytes_eq word (codes "select")) (gives-seen kern.select IsKernel (gives-enclosed _ _ term_ranged n) (λ e h. (h, tt, tt)))
    (gives-choose (bytes_eq word (codes "project"))
    (gives-seen kern.project IsKernel (gives-enclosed _ _ (λ m. gives-commas (term_ranged m)) n) (λ es h. (h, tt, tt)))
    (gives-choose (bytes_eq word (codes "cross")) (gives-nothing IsKernel _ (tt, tt, tt))
    (gives-choose (bytes_eq word (codes "istream")) (gives-nothing IsKernel _ (tt, tt, tt))
    (gives-choose (bytes_eq word (codes "dstream")) (gives-nothing IsKernel _ (tt, tt, tt))
    (gives-choose (bytes_eq word (codes "rstream")) (gives-nothing IsKernel _ (tt, tt, tt))
    (gives-choose (bytes_eq word (codes "tally")) (gives-nothing IsKernel _ (tt, tt, tt))
    (gives-never IsKernel)))))))))))

kernel-after : (braced : Kern → List Tok → Type 0) → Gives braced IsKernel → (n : ℕ) (word : List ℕ) → Gives (g.KernelAfter braced n word) IsKernel
kernel-after braced f n word =
    gives-choose (bytes_eq word (codes "code")) (code n)
    (gives-choose (bytes_eq word (codes "filter")) (filter n)
    (gives-choose (bytes_eq word (codes "duplicate")) (counted kern.duplicate (λ k h. (h, tt, tt)) n)
    (gives-choose (bytes_eq word (codes "deal")) (weighed kern.deal (λ ws h. (h, tt, tt)) n)
    (gives-choose (bytes_eq word (codes "collect")) (weighed kern.collect (λ ws h. (h, tt, tt)) n)
    (gives-choose (bytes_eq word (codes "packed")) (gives-seen kern.packed IsKernel f (λ k h. h))
    (gives-choose (bytes_eq word (codes "unpack")) (counted kern.unpack (λ k h. (h, tt, tt)) n)
    (gives-choose (bytes_eq word (codes "fused")) (fused braced f n)
    (bag n word))))))))

kernel : (n : ℕ) → Gives (g.IsBraced n) IsKernel
unfolding g.IsBraced
kernel zero = gives-never IsKernel
kernel (suc n) = gives-after _ (gives-before _ (gives-headed (λ word. kernel-after (g.IsBraced n) (kernel n) n word)))

-- UNITS

named : Gives t.IsName w.IsNamed
named = gives-tested is_name form.NameToken w.IsNamed (λ v h. h)

named-var : Gives t.IsVar w.IsNamed
named-var = gives-tested is_name form.Var w.IsNamed (λ v h. h)

flat-after : (n : ℕ) (word : List ℕ) → Gives (t.FlatAfter n word) (λ x. w.IsCount (width_of x))
flat-after n word =
    gives-choose (bytes_eq word (codes "rows")) (gives-seen Rows _ (gives-enclosed _ _ (λ m. count) n) (λ k h. h))
    (gives-choose (bytes_eq word (codes "stream")) (gives-seen Stream _ (gives-enclosed _ _ (λ m. count) n) (λ k h. h))
    (gives-choose (bytes_eq word (codes "relation")) (gives-seen Relation _ (gives-enclosed _ _ (λ m. count) n) (λ k h. h))
    (gives-never _)))

type : Gives t.IsType w.IsWritableType
type = gives-headed (λ word. gives-choose (bytes_eq word (codes "pack"))
    (gives-seen Pack w.IsWritableType (gives-enclosed _ _ (λ n. gives-headed (λ v. flat-after n v)) t.brackets) (λ k h. h))
    (gives-seen Flat w.IsWritableType (flat-after t.brackets word) (λ k h. h)))

decl : Gives t.IsDecl w.IsWritableDecl
decl = gives-seen t.made_decl w.IsWritableDecl (gives-both named (gives-after _ (gives-before _ type))) (λ v h. h)

kind : (word : List ℕ) → Gives (t.KindAfter word) w.IsWritableKind
kind word =
    gives-choose (bytes_eq word (codes "sum")) (gives-seen Sum w.IsWritableKind (gives-enclosed _ _ (λ m. count) t.brackets) (λ k h. h))
    (gives-choose (bytes_eq word (codes "collection")) (gives-seen Collection w.IsWritableKind (gives-enclosed _ _ (λ m. count) t.brackets) (λ k h. h))
    (gives-choose (bytes_eq word (codes "maximum"))
    (gives-seen t.made_maximum w.IsWritableKind
    (gives-enclosed s.Open s.Close (λ m. gives-both count (gives-after (s.Comma ∷ []) count)) t.brackets) (λ k h. h))
    (gives-never w.IsWritableKind)))

table : Gives t.IsTable w.IsWritableTable
table = gives-seen t.made_table w.IsWritableTable (gives-both named-var (gives-after _ (gives-before _ (gives-headed kind)))) (λ v h. h)

-- the names of ports
abbrev IsPort : t.Port → Type 0
IsPort (t.queue q) = w.IsNamed q
IsPort (t.variable v) = w.IsNamed v

port : Gives t.IsPort IsPort
port = gives-merged (gives-seen t.variable IsPort named-var (λ v h. h)) (gives-seen t.queue IsPort named (λ v h. h))

split-ports : (qs vs : List (List ℕ)) → w.Every IsPort (map t.queue qs ++ map t.variable vs) → w.Every w.IsNamed qs × w.Every w.IsNamed vs
split-ports [] [] h = (tt, tt)
split-ports [] (v ∷ vs) h = let s = split-ports [] vs h.1 in (tt, (h.0, s.1))
split-ports (q ∷ qs) vs h = let s = split-ports qs vs h.1 in ((h.0, s.0), s.1)

ports : Gives t.IsPorts (λ v. w.Every w.IsNamed v.0 × w.Every w.IsNamed v.1)
ports = record { give = λ v ts h. let l = gives-listing port in split-ports v.0 v.1 (l.give (map t.queue v.0 ++ map t.variable v.1) ts h) }

abbrev IsOp : OpForm → Type 0
IsOp op = ranges.IsRangedOp op × r.IsShallow op.kernel × r.HasForward op.kernel

operator : Gives t.IsOp IsOp
operator = gives-seen t.made_op IsOp
    (record {
      give = λ v ts h.
          let f = gives-both named (gives-after _ (gives-both (gives-enclosed _ _ (λ m. ports) t.brackets)
          (gives-after _ (gives-both (gives-enclosed _ _ (λ m. ports) t.brackets) (kernel t.brackets))))) in
          f.give v ts h.formed;
    })
    (λ v h. ((h.0, h.1.1.1.0, h.1.1.0.0, h.1.0.0, h.1.0.1), h.1.1.1.1, h.1.1.1.2))

-- PLANS

-- a declaration with a capacity
queue : Gives t.IsQueue (λ q. w.IsWritableDecl q.decl)
queue = record {
  give = λ q ts h.
      let b = h.formed.second.formed.formed in
      subst (λ (x : QueueDecl). w.IsWritableDecl x.decl) (sym h.is) (named.give h.value.0 h.formed.front h.formed.first, type.give h.value.1.0 b.front b.first);
}

abbrev IsEntry : t.EntryForm → Type 0
IsEntry t.header = Unit {0}
IsEntry (t.output d) = w.IsWritableDecl d
IsEntry (t.input d) = w.IsWritableDecl d
IsEntry (t.inner q) = w.IsWritableDecl q.decl
IsEntry (t.table x) = w.IsWritableTable x
IsEntry (t.private v) = w.IsNamed v
IsEntry (t.operator o) = IsOp o

-- a header says nothing of a plan
heading : Gives t.IsHeader (λ n. Unit {0})
heading = record { give = λ n ts h. tt }

unit : Gives t.IsUnit IsEntry
unit = gives-headed (λ word.
    gives-choose (bytes_eq word (codes "output")) (gives-seen t.output IsEntry decl (λ v h. h))
    (gives-choose (bytes_eq word (codes "input")) (gives-seen t.input IsEntry decl (λ v h. h))
    (gives-choose (bytes_eq word (codes "queue")) (gives-seen t.inner IsEntry queue (λ v h. h))
    (gives-choose (bytes_eq word (codes "table")) (gives-seen t.table IsEntry table (λ v h. h))
    (gives-choose (bytes_eq word (codes "var")) (gives-seen t.private IsEntry (gives-before _ named-var) (λ v h. h))
    (gives-choose (bytes_eq word (codes "op")) (gives-seen t.operator IsEntry operator (λ v h. h))
    (gives-choose (bytes_eq word (codes "river")) (gives-seen t.as_header IsEntry heading (λ v h. tt))
    (gives-never IsEntry))))))))

entries : (at : Place) (es : List t.EntryForm) (us : List (List Tok)) → AllFormed t.IsUnitAt t.next_place at es us → w.Every IsEntry es
entries at [] us h = tt
entries at (e ∷ es) [] h = absurd h
entries at (e ∷ es) (u ∷ us) h = (unit.give e u h.0.formed, entries (t.next_place at e) es us h.1)

every-append : {A : Type 0} (P : A → Type 0) (xs : List A) (y : A) → w.Every P xs → P y → w.Every P (xs ++ y ∷ [])
every-append P [] y h k = (k, tt)
every-append P (x ∷ xs) y h k = (h.0, every-append P xs y h.1 k)

-- the plan without its validity
record IsSaid (p : PlanForm) : Type 0 where
  ranged : ranges.IsRanged p
  shallow : w.Every (λ op. r.IsShallow op.kernel) p.ops
  forward : w.Every (λ op. r.HasForward op.kernel) p.ops

said-empty : IsSaid empty_form
said-empty = record { ranged = record { outputs = tt; inputs = tt; queues = tt; tables = tt; vars = tt; ops = tt }; shallow = tt; forward = tt }

said-add : (x : t.TextForm) (e : t.EntryForm) → IsSaid x.plan → IsEntry e → IsSaid (t.add_entry x e).plan
said-add x t.header s h = s
said-add x (t.output d) s h = let k = s.ranged in
    record {
      ranged = record {
        outputs = every-append w.IsWritableDecl x.plan.outputs d k.outputs h;
        inputs = k.inputs;
        queues = k.queues;
        tables =
            k.tables;
        vars = k.vars;
        ops = k.ops;
      };
      shallow = s.shallow;
      forward = s.forward;
    }
said-add x (t.input d) s h = let k = s.ranged in
    record {
      ranged = record {
        outputs = k.outputs;
        inputs = every-append w.IsWritableDecl x.plan.inputs d k.inputs h;
        queues = k.queues;
        tables =
            k.tables;
        vars = k.vars;
        ops = k.ops;
      };
      shallow = s.shallow;
      forward = s.forward;
    }
said-add x (t.inner q) s h = let k = s.ranged in
    record {
      ranged = record {
        outputs = k.outputs;
        inputs = k.inputs;
        queues =
            every-append w.IsWritableDecl x.plan.queues q.decl k.queues h;
        tables = k.tables;
        vars = k.vars;
        ops = k.ops;
      };
      shallow =
          s.shallow;
      forward = s.forward;
    }
said-add x (t.table y) s h = let k = s.ranged in
    record {
      ranged = record {
        outputs = k.outputs;
        inputs = k.inputs;
        queues = k.queues;
        tables =
            every-append w.IsWritableTable x.plan.tables y k.tables h;
        vars = k.vars;
        ops = k.ops;
      };
      shallow = s.shallow;
      forward = s.forward;
    }
said-add x (t.private v) s h = let k = s.ranged in
    record {
      ranged = record {
        outputs = k.outputs;
        inputs = k.inputs;
        queues = k.queues;
        tables = k.tables;
        vars =
            every-append w.IsNamed x.plan.vars v k.vars h;
        ops = k.ops;
      };
      shallow = s.shallow;
      forward = s.forward;
    }
said-add x (t.operator o) s h = let k = s.ranged in
    record {
      ranged =
          record {
            outputs = k.outputs;
            inputs = k.inputs;
            queues = k.queues;
            tables = k.tables;
            vars = k.vars;
            ops =
                every-append ranges.IsRangedOp x.plan.ops o k.ops h.0;
          };
      shallow = every-append (λ op. r.IsShallow op.kernel) x.plan.ops o s.shallow h.1;
      forward = every-append (λ op. r.HasForward op.kernel) x.plan.ops o s.forward h.2;
    }

said-all : (x : t.TextForm) (es : List t.EntryForm) → IsSaid x.plan → w.Every IsEntry es → IsSaid (t.add_all x es).plan
said-all x [] s h = s
said-all x (e ∷ es) s h = said-all (t.add_entry x e) es (said-add x e s h.0) h.1

-- lists that a text stands for have the ranges of their types and keep the grammar's bounds
pub read-printable : (text : List ℕ) (x : t.TextForm) → t.IsText text x → ranges.IsRanged x.plan × r.IsPrintable x.plan
read-printable text x h =
    let s = subst (λ (y : t.TextForm). IsSaid y.plan) (sym h.is)
    (said-all t.empty_text h.entries said-empty (entries (t.first_place h.marks) h.entries _ h.formed)) in
    (s.ranged, record { shallow = s.shallow; forward = s.forward })
