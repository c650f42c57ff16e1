-- A command that runs a free program has a worker at least.
use Rattle.std.proofs.Common.{◌≡◌, ◌<◌, ℕ, zero, suc, Bool, true, false, List, [], ◌∷◌, nat_lt, refl, subst, arith}
use Rattle.std.specs.Prelude.{Option, Some, None, codes, if◌then◌else◌, ◌++◌, ◌&&◌, nat_le, map, option_map}
use Rattle.std.specs.Str.{bytes_eq}
use Rattle.std.proofs.lemmas.Bool.{and_parts, ltb-true}
use Rattle.command_line.specs.Commands.{with_header, with_counts, with_script, with_workers, with_cap, with_start, with_input, with_tasks}
use Rattle.command_line.specs.Limits.{most_workers, most_cap, most_start}
use Rattle.command_line.specs.Phrases.{Phrase, phrase_of, phrases, one_more, made_by_phrases, are_apart, with_phrases, script, with_number, number_ahead, zero_ahead, input}
use Rattle.command_line.specs.Sentences.{command_of, asked_free, asked_other, asked_two, asked, with_words, plain, plain_run, plain_free}
use Rattle.command_line.specs.Words.{is_file, in_word_of, lang_named, number_to, is_number_word, up_to_most}
use Rattle.command_line.specs.declared.command.Command.{Command}
use Rattle.command_line.specs.declared.command.Command.TheVariants.{Run, Plan, Mean, Upgrade, Load, Free}
use Rattle.command_line.specs.declared.command.FreeWords.{FreeWords}
use Rattle.command_line.specs.declared.command.InWord.{InWord}
use Rattle.command_line.specs.declared.command.Lang.{Lang}
use Rattle.command_line.specs.declared.command.RunBy.TheVariants.{Workers, Tasks}

-- where it runs a free program, it has a worker
abbrev IsWorked : Command → Type 0
IsWorked (Run w) = Unit {0}
IsWorked (Plan lang file s) = Unit {0}
IsWorked (Mean lang file ins header) = Unit {0}
IsWorked (Upgrade file) = Unit {0}
IsWorked (Load number) = Unit {0}
IsWorked (Free w) = 0 < w.workers

-- a command, if there is one, has one
abbrev Worked : Option Command → Type 0
Worked o = (d : Command) → o ≡ Some d → IsWorked d

some : (c : Command) → IsWorked c → Worked (Some c)
some c h d e = let is : c ≡ d = cc e in subst IsWorked is h

no : Worked None
no d e = absurd (cc e)

-- what is made of a command that has a worker has one
abbrev Keeps : (Command → Option Command) → Type 0
Keeps makes = (c : Command) → IsWorked c → Worked (makes c)

headed : Keeps with_header
headed (Run w) h = some (Run (record w { header = true })) tt
headed (Plan lang file s) h = no
headed (Mean lang file ins header) h = some (Mean lang file ins true) tt
headed (Upgrade file) h = no
headed (Load number) h = no
headed (Free w) h = some (Free (record w { header = true })) h

counts : Keeps with_counts
counts (Run w) h = some (Run (record w { counts = true })) tt
counts (Plan lang file s) h = no
counts (Mean lang file ins header) h = no
counts (Upgrade file) h = no
counts (Load number) h = no
counts (Free w) h = no

scripted : (name : List ℕ) → Keeps (with_script name)
scripted name (Run w) h = some (Run (record w { script = Some name })) tt
scripted name (Plan lang file s) h = some (Plan lang file (Some name)) tt
scripted name (Mean lang file ins header) h = no
scripted name (Upgrade file) h = no
scripted name (Load number) h = no
scripted name (Free w) h = no

workers : (n : ℕ) → 0 < n → Keeps (with_workers n)
workers n lt (Run w) h = some (Run (record w { by = Workers n })) tt
workers n lt (Plan lang file s) h = no
workers n lt (Mean lang file ins header) h = no
workers n lt (Upgrade file) h = no
workers n lt (Load number) h = no
workers n lt (Free w) h = some (Free (record w { workers = n })) lt

tasks : Keeps with_tasks
tasks (Run w) h = some (Run (record w { by = Tasks })) tt
tasks (Plan lang file s) h = no
tasks (Mean lang file ins header) h = no
tasks (Upgrade file) h = no
tasks (Load number) h = no
tasks (Free w) h = no

cap : (n : ℕ) → Keeps (with_cap n)
cap n (Run w) h = some (Run (record w { cap = n })) tt
cap n (Plan lang file s) h = no
cap n (Mean lang file ins header) h = no
cap n (Upgrade file) h = no
cap n (Load number) h = no
cap n (Free w) h = no

start : (n : ℕ) → Keeps (with_start n)
start n (Run w) h = no
start n (Plan lang file s) h = no
start n (Mean lang file ins header) h = no
start n (Upgrade file) h = no
start n (Load number) h = no
start n (Free w) h = some (Free (record w { start = n })) h

one_input : (i : InWord) → Keeps (with_input i)
one_input i (Run w) h = some (Run (record w { ins = w.ins ++ i ∷ [] })) tt
one_input i (Plan lang file s) h = no
one_input i (Mean lang file ins header) h = some (Mean lang file (ins ++ i ∷ []) header) tt
one_input i (Upgrade file) h = no
one_input i (Load number) h = no
one_input i (Free w) h = some (Free (record w { ins = w.ins ++ i ∷ [] })) h

-- PHRASES

-- a phrase that keeps
abbrev Quiet : Option Phrase → Type 0
Quiet o = (p : Phrase) → o ≡ Some p → Keeps p.makes

quiet : (p : Phrase) → Keeps p.makes → Quiet (Some p)
quiet p k q e = let is : p ≡ q = cc e in subst (λ (x : Phrase). Keeps x.makes) is k

none : Quiet None
none p e = absurd (cc e)

either : (b : Bool) (x y : Option Phrase) → Quiet x → Quiet y → Quiet (if b then x else y)
either true x y hx hy = hx
either false x y hx hy = hy

script_quiet : (words : List (List ℕ)) → Quiet (script words)
script_quiet [] = none
script_quiet ([] ∷ words) = none
script_quiet ((c ∷ cs) ∷ words) = quiet (record { takes = 1; once = codes "-r"; makes = with_script (c ∷ cs) }) (scripted (c ∷ cs))

number_quiet : (word : List ℕ) (makes : ℕ → Command → Option Command) → ((n : ℕ) → Keeps (makes n)) → (o : Option ℕ) → Quiet (with_number word makes o)
number_quiet word makes k None = none
number_quiet word makes k (Some n) = quiet (record { takes = 1; once = word; makes = makes n }) (k n)

-- a number that may stand behind `-w` is not 0
above : (most n : ℕ) (b : Bool) → (nat_lt 0 n && nat_le n most) ≡ b → (m : ℕ) → (if b then Some n else None) ≡ Some m → 0 < m
above most n true e m g =
    let is : n ≡ m = cc g in
    subst (λ k. 0 < k) is (ltb-true 0 n (and_parts (nat_lt 0 n) (nat_le n most) e).0)
above most n false e m g = absurd (cc g)

number_above : (most n : ℕ) (b : Bool) (m : ℕ) → (if b then up_to_most most n else None) ≡ Some m → 0 < m
number_above most n true m g = above most n (nat_lt 0 n && nat_le n most) refl m g
number_above most n false m g = absurd (cc g)

workers_quiet : (word : List ℕ) (o : Option ℕ) → ((m : ℕ) → o ≡ Some m → 0 < m) → Quiet (with_number word with_workers o)
workers_quiet word None h = none
workers_quiet word (Some n) h = quiet (record { takes = 1; once = word; makes = with_workers n }) (workers n (h n refl))

ahead_above : (most : ℕ) (words : List (List ℕ)) (m : ℕ) → number_ahead most words ≡ Some m → 0 < m
ahead_above most [] m e = absurd (cc e)
ahead_above most (word ∷ words) m e = number_above most _ (is_number_word word) m e

input_quiet : (o : Option InWord) → Quiet (input o)
input_quiet None = none
input_quiet (Some w) = quiet (record { takes = 0; once = w.name; makes = with_input w }) (one_input w)

phrase_quiet : (word : List ℕ) (behind : List (List ℕ)) → Quiet (phrase_of (word ∷ behind))
phrase_quiet word behind =
    either (bytes_eq word (codes "-H")) _ _ (quiet (record { takes = 0; once = word; makes = with_header }) headed)
    (either (bytes_eq word (codes "-c")) _ _ (quiet (record { takes = 0; once = word; makes = with_counts }) counts)
    (either (bytes_eq word (codes "-r")) _ _ (script_quiet behind)
    (either (bytes_eq word (codes "-w")) _ _ (workers_quiet word (number_ahead most_workers behind) (ahead_above most_workers behind))
    (either (bytes_eq word (codes "-q")) _ _ (number_quiet word with_cap cap (number_ahead most_cap behind))
    (either (bytes_eq word (codes "-s")) _ _ (number_quiet word with_start start (zero_ahead most_start behind))
    (either (bytes_eq word (codes "-L")) _ _ (quiet (record { takes = 0; once = codes "-w"; makes = with_tasks }) tasks)
    (either (is_file word) _ _ (input_quiet (in_word_of word)) none)))))))

abbrev AreQuiet : List Phrase → Type 0
AreQuiet [] = Unit {0}
AreQuiet (p ∷ ps) = Keeps p.makes × AreQuiet ps

more_quiet : (p : Phrase) (o : Option (List Phrase)) → Keeps p.makes → ((qs : List Phrase) → o ≡ Some qs → AreQuiet qs) → (ps : List Phrase) → one_more p o ≡ Some ps → AreQuiet ps
more_quiet p None k i ps e = absurd (cc e)
more_quiet p (Some qs) k i ps e = let is : p ∷ qs ≡ ps = cc e in subst AreQuiet is (k, i qs refl)

next_quiet : (o : Option Phrase) (words : List (List ℕ)) → Quiet o → ((k : ℕ) (qs : List Phrase) → phrases k words ≡ Some qs → AreQuiet qs) → (ps : List Phrase)
    → (elim o [ None ↦ None | Some p ↦ one_more p (phrases p.takes words) ]) ≡ Some ps → AreQuiet ps
next_quiet None words q i ps e = absurd (cc e)
next_quiet (Some p) words q i ps e = more_quiet p (phrases p.takes words) (q p refl) (i p.takes) ps e

phrases_quiet : (skip : ℕ) (words : List (List ℕ)) (ps : List Phrase) → phrases skip words ≡ Some ps → AreQuiet ps
phrases_quiet skip [] ps e = let is : [] ≡ ps = cc e in subst AreQuiet is tt
phrases_quiet (suc skip) (word ∷ words) ps e = phrases_quiet skip words ps e
phrases_quiet zero (word ∷ words) ps e = next_quiet (phrase_of (word ∷ words)) words (phrase_quiet word words) (λ k qs g. phrases_quiet k words qs g) ps e

-- COMMANDS

made_next : (o : Option Command) (ps : List Phrase) → Worked o → ((n : Command) → IsWorked n → Worked (made_by_phrases ps n))
    → Worked (elim o [ None ↦ None | Some next ↦ made_by_phrases ps next ])
made_next None ps k i = no
made_next (Some n) ps k i = i n (k n refl)

made_worked : (ps : List Phrase) (c : Command) → AreQuiet ps → IsWorked c → Worked (made_by_phrases ps c)
made_worked [] c q h = some c h
made_worked (p ∷ ps) c q h = made_next (p.makes c) ps (q.0 c h) (λ n g. made_worked ps n q.1 g)

one_of : (b : Bool) (x y : Option Command) → Worked x → Worked y → Worked (if b then x else y)
one_of true x y hx hy = hx
one_of false x y hx hy = hy

with_worked : (c : Command) (o : Option (List Phrase)) → IsWorked c → ((ps : List Phrase) → o ≡ Some ps → AreQuiet ps) → Worked (with_phrases c o)
with_worked c None h q = no
with_worked c (Some ps) h q = one_of (are_apart (map (λ p. p.once) ps)) _ _ (made_worked ps c (q ps refl) h) no

words_worked : (words : List (List ℕ)) (o : Option Command) → Worked o → Worked (with_words words o)
words_worked words None k = no
words_worked words (Some c) k = with_worked c (phrases 0 words) (k c refl) (phrases_quiet 0 words)

plain_worked : (word : List ℕ) (lang : Lang) (file : List ℕ) → Worked (plain word lang file)
plain_worked word lang file =
    one_of (bytes_eq word (codes "run")) _ _ (some (Run (plain_run lang file)) tt)
    (one_of (bytes_eq word (codes "mean")) _ _ (some (Mean lang file [] false) tt)
    (one_of (bytes_eq word (codes "plan")) _ _ (some (Plan lang file None) tt) no))

asked_worked : (word : List ℕ) (o : Option Lang) (file : List ℕ) (words : List (List ℕ)) → Worked (asked word o file words)
asked_worked word None file words = no
asked_worked word (Some lang) file words = one_of (is_file file) _ _ (words_worked words (plain word lang file) (plain_worked word lang file)) no

load_worked : (o : Option ℕ) → Worked (option_map (λ n. Load n) o)
load_worked None = no
load_worked (Some n) = some (Load n) tt

two_worked : (word second : List ℕ) → Worked (asked_two word second)
two_worked word second =
    one_of (bytes_eq word (codes "load")) _ _
    (one_of (bytes_eq word (codes "load")) _ _ (load_worked (number_to 100000 second)) no)
    (one_of _ _ _ (some (Upgrade second) tt) no)

other_worked : (word second : List ℕ) (words : List (List ℕ)) → Worked (asked_other word second words)
other_worked word second [] = two_worked word second
other_worked word second (file ∷ words) = asked_worked word (lang_named second) file words

command_worked : (words : List (List ℕ)) → Worked (command_of words)
command_worked [] = no
command_worked (word ∷ []) = no
command_worked (word ∷ second ∷ words) =
    one_of (bytes_eq word (codes "free")) (asked_free second words) (asked_other word second words)
    (one_of (is_file second) _ _ (words_worked words (Some (Free (plain_free second))) (some (Free (plain_free second)) (omega arith))) no)
    (other_worked word second words)

-- a free program that the words ask for has a worker
pub free-worked : (words : List (List ℕ)) (w : FreeWords) → command_of words ≡ Some (Free w) → 0 < w.workers
free-worked words w e = command_worked words (Free w) e
