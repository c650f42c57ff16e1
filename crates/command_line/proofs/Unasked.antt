-- Where no word is `-L`, no command is a run by tasks that wait.
use Rattle.std.proofs.Common.{◌≡◌, ℕ, zero, suc, Bool, true, false, List, [], ◌∷◌, All, refl, sym, ap, ◌∙◌, subst}
use Rattle.std.specs.Prelude.{Option, Some, None, codes, if◌then◌else◌, ◌++◌, map, option_map}
use Rattle.std.specs.Str.{bytes_eq}
use Rattle.std.proofs.lemmas.List.Elements.{All-head, All-tail}
use Rattle.river_base.proofs.PlaceLemmas.{if_false}
use Rattle.command_line.specs.Commands.{is_live, with_header, with_counts, with_script, with_workers, with_cap, with_start, with_input, with_tasks}
use Rattle.command_line.specs.Limits.{most_workers, most_cap, most_start}
use Rattle.command_line.specs.Phrases.{Phrase, phrase_of, phrases, one_more, made_by_phrases, are_apart, with_phrases, option, script, with_number, number_ahead, zero_ahead, input}
use Rattle.command_line.specs.Sentences.{command_of, asked_any, asked_free, asked_other, asked_two, asked, asked_load, asked_upgrade, with_words, plain, plain_run, plain_free}
use Rattle.command_line.specs.Unasked.{AreWithoutTasks, WithoutTasks}
use Rattle.command_line.specs.Words.{is_file, in_word_of, lang_named, number_to}
use Rattle.command_line.specs.declared.command.Command.{Command}
use Rattle.command_line.specs.declared.command.Command.TheVariants.{Run, Plan, Mean, Upgrade, Load, Free}
use Rattle.command_line.specs.declared.command.InWord.{InWord}
use Rattle.command_line.specs.declared.command.Lang.{Lang}
use Rattle.command_line.specs.declared.command.RunBy.TheVariants.{Workers}

-- a word that is not `-L`
abbrev IsOther : List ℕ → Type 0
IsOther word = bytes_eq word (codes "-L") ≡ false

-- what is made of a command that is no such run is none
abbrev Keeps : (Command → Option Command) → Type 0
Keeps makes = (c d : Command) → is_live c ≡ false → makes c ≡ Some d → is_live d ≡ false

stays : (c d : Command) → is_live c ≡ false → Some c ≡ Some d → is_live d ≡ false
stays c d l e = let is : c ≡ d = cc e in subst (λ x. is_live x ≡ false) is l

headed : Keeps (with_header)
headed (Run w) d l e = stays (Run (record w { header = true })) d l e
headed (Plan lang file s) d l e = cc e
headed (Mean lang file ins header) d l e = stays (Mean lang file ins true) d refl e
headed (Upgrade file) d l e = cc e
headed (Load number) d l e = cc e
headed (Free w) d l e = stays (Free (record w { header = true })) d refl e

counts : Keeps (with_counts)
counts (Run w) d l e = stays (Run (record w { counts = true })) d l e
counts (Plan lang file s) d l e = cc e
counts (Mean lang file ins header) d l e = cc e
counts (Upgrade file) d l e = cc e
counts (Load number) d l e = cc e
counts (Free w) d l e = cc e

scripted : (name : List ℕ) → Keeps (with_script name)
scripted name (Run w) d l e = stays (Run (record w { script = Some name })) d l e
scripted name (Plan lang file s) d l e = stays (Plan lang file (Some name)) d refl e
scripted name (Mean lang file ins header) d l e = cc e
scripted name (Upgrade file) d l e = cc e
scripted name (Load number) d l e = cc e
scripted name (Free w) d l e = cc e

workers : (n : ℕ) → Keeps (with_workers n)
workers n (Run w) d l e = stays (Run (record w { by = Workers n })) d refl e
workers n (Plan lang file s) d l e = cc e
workers n (Mean lang file ins header) d l e = cc e
workers n (Upgrade file) d l e = cc e
workers n (Load number) d l e = cc e
workers n (Free w) d l e = stays (Free (record w { workers = n })) d refl e

cap : (n : ℕ) → Keeps (with_cap n)
cap n (Run w) d l e = stays (Run (record w { cap = n })) d l e
cap n (Plan lang file s) d l e = cc e
cap n (Mean lang file ins header) d l e = cc e
cap n (Upgrade file) d l e = cc e
cap n (Load number) d l e = cc e
cap n (Free w) d l e = cc e

start : (n : ℕ) → Keeps (with_start n)
start n (Run w) d l e = cc e
start n (Plan lang file s) d l e = cc e
start n (Mean lang file ins header) d l e = cc e
start n (Upgrade file) d l e = cc e
start n (Load number) d l e = cc e
start n (Free w) d l e = stays (Free (record w { start = n })) d refl e

one_input : (i : InWord) → Keeps (with_input i)
one_input i (Run w) d l e = stays (Run (record w { ins = w.ins ++ i ∷ [] })) d l e
one_input i (Plan lang file s) d l e = cc e
one_input i (Mean lang file ins header) d l e = stays (Mean lang file (ins ++ i ∷ []) header) d refl e
one_input i (Upgrade file) d l e = cc e
one_input i (Load number) d l e = cc e
one_input i (Free w) d l e = stays (Free (record w { ins = w.ins ++ i ∷ [] })) d refl e

-- a phrase that keeps
abbrev Quiet : Option Phrase → Type 0
Quiet o = (p : Phrase) → o ≡ Some p → Keeps p.makes

quiet : (p : Phrase) → Keeps p.makes → Quiet (Some p)
quiet p k q e = let is : p ≡ q = cc e in subst (λ (x : Phrase). Keeps x.makes) is k

none : Quiet None
none p e = cc e

either : (b : Bool) (x y : Option Phrase) → Quiet x → Quiet y → Quiet (if b then x else y)
either true x y hx hy = hx
either false x y hx hy = hy

script_quiet : (words : List (List ℕ)) → Quiet (script words)
script_quiet [] = none
script_quiet ([] ∷ words) = none
script_quiet ((c ∷ cs) ∷ words) = quiet (record { takes = 1; once = codes "-r"; makes = with_script (c ∷ cs) }) (scripted (c ∷ cs))

number_quiet : (word : List ℕ) (makes : ℕ → Command → Option Command) → ((n : ℕ) → Keeps (makes n)) → (o : Option ℕ) → Quiet (with_number word makes o)
number_quiet word makes k None = none
number_quiet word makes k (Some n) = quiet (record { takes = 1; once = word; makes = makes n }) (k n)

input_quiet : (o : Option InWord) → Quiet (input o)
input_quiet None = none
input_quiet (Some w) = quiet (record { takes = 0; once = w.name; makes = with_input w }) (one_input w)

phrase_quiet : (word : List ℕ) (behind : List (List ℕ)) → bytes_eq word (codes "-L") ≡ false → Quiet (phrase_of (word ∷ behind))
phrase_quiet word behind h =
    either (bytes_eq word (codes "-H")) _ _ (quiet (record { takes = 0; once = word; makes = with_header }) headed)
    (either (bytes_eq word (codes "-c")) _ _ (quiet (record { takes = 0; once = word; makes = with_counts }) counts)
    (either (bytes_eq word (codes "-r")) _ _ (script_quiet behind)
    (either (bytes_eq word (codes "-w")) _ _ (number_quiet word with_workers workers (number_ahead most_workers behind))
    (either (bytes_eq word (codes "-q")) _ _ (number_quiet word with_cap cap (number_ahead most_cap behind))
    (either (bytes_eq word (codes "-s")) _ _ (number_quiet word with_start start (zero_ahead most_start behind))
    (subst Quiet (sym (if_false (bytes_eq word (codes "-L")) (option (codes "-w") with_tasks) (if is_file word then input (in_word_of word) else None) h))
    (either (is_file word) _ _ (input_quiet (in_word_of word)) none)))))))

abbrev AreQuiet : List Phrase → Type 0
AreQuiet [] = Unit {0}
AreQuiet (p ∷ ps) = Keeps p.makes × AreQuiet ps

more_quiet : (p : Phrase) (o : Option (List Phrase)) → Keeps p.makes → ((qs : List Phrase) → o ≡ Some qs → AreQuiet qs) → (ps : List Phrase) → one_more p o ≡ Some ps → AreQuiet ps
more_quiet p None k i ps e = cc e
more_quiet p (Some qs) k i ps e = let is : p ∷ qs ≡ ps = cc e in subst AreQuiet is (k, i qs refl)

next_quiet : (o : Option Phrase) (words : List (List ℕ)) → Quiet o → ((k : ℕ) (qs : List Phrase) → phrases k words ≡ Some qs → AreQuiet qs) → (ps : List Phrase)
    → (elim o [ None ↦ None | Some p ↦ one_more p (phrases p.takes words) ]) ≡ Some ps → AreQuiet ps
next_quiet None words q i ps e = cc e
next_quiet (Some p) words q i ps e = more_quiet p (phrases p.takes words) (q p refl) (i p.takes) ps e

phrases_quiet : (skip : ℕ) (words : List (List ℕ)) → AreWithoutTasks words → (ps : List Phrase) → phrases skip words ≡ Some ps → AreQuiet ps
phrases_quiet skip [] h ps e = let is : [] ≡ ps = cc e in subst AreQuiet is tt
phrases_quiet (suc skip) (word ∷ words) h ps e = phrases_quiet skip words (All-tail IsOther word words h) ps e
phrases_quiet zero (word ∷ words) h ps e =
    next_quiet (phrase_of (word ∷ words)) words (phrase_quiet word words (All-head IsOther word words h)) (λ k qs g. phrases_quiet k words (All-tail IsOther word words h) qs g) ps e

made_next : (o : Option Command) (ps : List Phrase) (d : Command) → ((n : Command) → o ≡ Some n → is_live n ≡ false)
    → ((n : Command) → is_live n ≡ false → made_by_phrases ps n ≡ Some d → is_live d ≡ false)
    → (elim o [ None ↦ None | Some next ↦ made_by_phrases ps next ]) ≡ Some d → is_live d ≡ false
made_next None ps d k i e = cc e
made_next (Some n) ps d k i e = i n (k n refl) e

made_quiet : (ps : List Phrase) (c d : Command) → AreQuiet ps → is_live c ≡ false → made_by_phrases ps c ≡ Some d → is_live d ≡ false
made_quiet [] c d q l e = stays c d l e
made_quiet (p ∷ ps) c d q l e = made_next (p.makes c) ps d (λ n g. q.0 c n l g) (λ n m g. made_quiet ps n d q.1 m g) e

-- a command, if there is one, that is no such run
abbrev Now : Option Command → Type 0
Now o = (d : Command) → o ≡ Some d → is_live d ≡ false

now : (c : Command) → is_live c ≡ false → Now (Some c)
now c l d e = stays c d l e

never : Now None
never d e = cc e

one_of : (b : Bool) (x y : Option Command) → Now x → Now y → Now (if b then x else y)
one_of true x y hx hy = hx
one_of false x y hx hy = hy

with_now : (c : Command) (o : Option (List Phrase)) → is_live c ≡ false → ((ps : List Phrase) → o ≡ Some ps → AreQuiet ps) → Now (with_phrases c o)
with_now c None l q = never
with_now c (Some ps) l q = one_of (are_apart (map (λ p. p.once) ps)) _ _ (λ d e. made_quiet ps c d (q ps refl) l e) never

words_now : (words : List (List ℕ)) → AreWithoutTasks words → (o : Option Command) → Now o → Now (with_words words o)
words_now words h None k = never
words_now words h (Some c) k = with_now c (phrases 0 words) (k c refl) (phrases_quiet 0 words h)

plain_now : (word : List ℕ) (lang : Lang) (file : List ℕ) → Now (plain word lang file)
plain_now word lang file =
    one_of (bytes_eq word (codes "run")) _ _ (now (Run (plain_run lang file)) refl)
    (one_of (bytes_eq word (codes "mean")) _ _ (now (Mean lang file [] false) refl)
    (one_of (bytes_eq word (codes "plan")) _ _ (now (Plan lang file None) refl) never))

asked_now : (word : List ℕ) (o : Option Lang) (file : List ℕ) (words : List (List ℕ)) → AreWithoutTasks words → Now (asked word o file words)
asked_now word None file words h = never
asked_now word (Some lang) file words h = one_of (is_file file) _ _ (words_now words h (plain word lang file) (plain_now word lang file)) never

load_now : (o : Option ℕ) → Now (option_map (λ n. Load n) o)
load_now None = never
load_now (Some n) = now (Load n) refl

two_now : (word second : List ℕ) → Now (asked_two word second)
two_now word second =
    one_of (bytes_eq word (codes "load")) _ _
    (one_of (bytes_eq word (codes "load")) _ _ (load_now (number_to 100000 second)) never)
    (one_of _ _ _ (now (Upgrade second) refl) never)

other_now : (word second : List ℕ) (words : List (List ℕ)) → AreWithoutTasks words → Now (asked_other word second words)
other_now word second [] h = two_now word second
other_now word second (file ∷ words) h = asked_now word (lang_named second) file words (All-tail IsOther file words h)

pub without_tasks : WithoutTasks
without_tasks [] h command e = cc e
without_tasks (word ∷ []) h command e = cc e
without_tasks (word ∷ second ∷ words) h command e =
    let rest = All-tail IsOther second words (All-tail IsOther word (second ∷ words) h) in
    one_of (bytes_eq word (codes "free")) (asked_free second words) (asked_other word second words)
    (one_of (is_file second) _ _ (words_now words rest (Some (Free (plain_free second))) (now (Free (plain_free second)) refl)) never)
    (other_now word second words rest) command e
