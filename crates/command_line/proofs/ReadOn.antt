-- Phrases that are read from left to right.
use Rattle.std.proofs.Common.{◌≡◌, ℕ, zero, suc, ◌+◌, ◌<◌, Bool, true, false, List, [], ◌∷◌, ◌++◌, length, drop, refl, sym, ap, ◌∙◌, arith}
use Rattle.std.specs.Prelude.{Option, Some, None, Err, IsErrOf, ◌==◌, if◌then◌else◌, map}
use Rattle.std.proofs.lemmas.List.{append_assoc, append-nil}
use Rattle.std.proofs.lemmas.Bool.Decides.{nat_tests}
use Rattle.river_base.specs.Name.{name_eq}
use Rattle.river_plan.specs.Names.{count, one_if}
use Rattle.river_plan.proofs.NameLemmas.{count-append, name_sym}
use Rattle.command_line.specs.Phrases.{Phrase, phrase_of, one_more, phrases, made_by_phrases, are_apart, with_phrases}
use Rattle.command_line.specs.Commands.{MayMake}
use Rattle.command_line.specs.Said.{Grown, grown_if_taken, said_once, said_fitting, with_phrase}
use Rattle.command_line.specs.declared.command.Command.{Command}
use Rattle.command_line.specs.declared.command.WordFault.{WordFault}
use Rattle.command_line.specs.declared.command.WordFault.TheVariants as fault

-- words of which one stands before are not apart
one_before : (w : List ℕ) (ws more : List (List ℕ)) → 0 < count w ws → are_apart (ws ++ w ∷ more) ≡ false
one_before w [] more lt = absurd (omega (arith, lt))
one_before w (v ∷ vs) more lt = by (name_eq v w) refl (one_before w vs more)
  where
    by : (b : Bool) → name_eq v w ≡ b → (0 < count w vs → are_apart (vs ++ w ∷ more) ≡ false) → are_apart ((v ∷ vs) ++ w ∷ more) ≡ false
    by true e later =
        let n = count-append v vs (w ∷ more) in
        let t : name_eq w v ≡ true = name_sym w v ∙ e in
        grind (arith, nat_tests, n, t)
    by false e later =
        let l = later (grind (arith, lt, e)) in
        grind (arith, nat_tests, l)

-- one word more, which did not stand before
still_apart : (w : List ℕ) (ws : List (List ℕ)) → are_apart ws ≡ true → count w ws ≡ 0 → are_apart (ws ++ w ∷ []) ≡ true
still_apart w [] a z = refl
still_apart w (v ∷ vs) a z = by (name_eq v w) refl (still_apart w vs)
  where
    by : (b : Bool) → name_eq v w ≡ b → (are_apart vs ≡ true → count w vs ≡ 0 → are_apart (vs ++ w ∷ []) ≡ true) → are_apart ((v ∷ vs) ++ w ∷ []) ≡ true
    by true e later = absurd (let one : one_if (name_eq v w) ≡ 1 = ap one_if e in omega (arith, z, one))
    by false e later =
        let n = count-append v vs (w ∷ []) in
        let f : name_eq w v ≡ false = name_sym w v ∙ e in
        let rest : are_apart vs ≡ true = grind (arith, nat_tests, a) in
        let none : count w vs ≡ 0 = grind (arith, z, e) in
        let l = later rest none in
        grind (arith, nat_tests, a, n, f, l)

-- WHAT A PHRASE MAKES

-- the command takes the phrase, which was not said before
pub noted : (fits : Bool) (takes : ℕ) (made_by_phrases : Option Command) (command : Command) (key : List ℕ) (said said' : List (List ℕ)) → MayMake fits made_by_phrases command
    → said_fitting fits key said ≡ Some said'
    → grown_if_taken takes made_by_phrases (said_once key said) ≡ Some (record { takes = takes; said = said'; command = command })
noted true takes made_by_phrases command key said said' m e = rw (m, e) refl
noted false takes made_by_phrases command key said said' m e = cc

-- it does not, or it was
pub not_noted : (fits : Bool) (takes : ℕ) (made_by_phrases : Option Command) (command : Command) (key : List ℕ) (said : List (List ℕ)) → MayMake fits made_by_phrases command
    → said_fitting fits key said ≡ None → grown_if_taken takes made_by_phrases (said_once key said) ≡ None
not_noted true takes made_by_phrases command key said m e = rw (m, e) refl
not_noted false takes made_by_phrases command key said m e = rw m refl

-- the command that further phrases make, where this was said before
abbrev pub on_by : List (List ℕ) → Command → Option (List Phrase) → Option Command
on_by said command None = None
on_by said command (Some ps) = if are_apart (said ++ map (λ p. p.once) ps) then made_by_phrases ps command else None

pub on-nothing : (command : Command) (ps : Option (List Phrase)) → on_by [] command ps ≡ with_phrases command ps
on-nothing command None = refl
on-nothing command (Some ps) = refl

-- at the end of the words
pub on-end : (said : List (List ℕ)) (command : Command) → are_apart said ≡ true → on_by said command (Some []) ≡ Some command
on-end said command apart = ap (λ l. if are_apart l then Some command else None) (append-nil said) ∙ rw apart refl

-- words that a phrase takes are passed over
taken : (k : ℕ) (words : List (List ℕ)) → phrases k words ≡ phrases 0 (drop k words)
taken zero words = refl
taken (suc k) [] = refl
taken (suc k) (word ∷ words) = taken k words

abbrev after : List (List ℕ) → Option Phrase → Option (List Phrase)
after behind None = None
after behind (Some p) = one_more p (phrases p.takes behind)

module _ (behind said : List (List ℕ)) (command : Command) where
  -- a phrase that the command takes
  one_phrase : (p : Phrase) (next : Command) (later : Option (List Phrase)) → p.makes command ≡ Some next
      → on_by said command (one_more p later) ≡ on_by (said ++ p.once ∷ []) next later
  one_phrase p next None e = refl
  one_phrase p next (Some ps) e =
      ap (λ (o : Option Command). if are_apart (said ++ p.once ∷ map (λ q. q.once) ps) then (elim o [ None ↦ None | Some n ↦ made_by_phrases ps n ]) else None) e
      ∙ ap (λ l. if are_apart l then made_by_phrases ps next else None) (sym (append_assoc said (p.once ∷ []) (map (λ q. q.once) ps)))

  -- one that it does not take
  no_phrase : (p : Phrase) (later : Option (List Phrase)) → p.makes command ≡ None → on_by said command (one_more p later) ≡ None
  no_phrase p None e = refl
  no_phrase p (Some ps) e = by (are_apart (said ++ p.once ∷ map (λ q. q.once) ps))
    where
      by : (apart : Bool) → (if apart then made_by_phrases (p ∷ ps) command else None) ≡ None
      by true = ap (λ (o : Option Command). elim o [ None ↦ None | Some n ↦ made_by_phrases ps n ]) e
      by false = refl

  -- one that was said before
  twice : (p : Phrase) (later : Option (List Phrase)) → 0 < count p.once said → on_by said command (one_more p later) ≡ None
  twice p None lt = refl
  twice p (Some ps) lt = rw (one_before p.once said (map (λ q. q.once) ps) lt) refl

  pub one-more : (o : Option Phrase) (g : Grown) → with_phrase o said command ≡ Some g
      → on_by said command (after behind o) ≡ on_by g.said g.command (phrases 0 (drop g.takes behind))
  one-more None g e = cc
  one-more (Some p) g e = by (p.makes command) (count p.once said == 0) refl refl e
    where
      by : (makes : Option Command) (fresh : Bool) → p.makes command ≡ makes → (count p.once said == 0) ≡ fresh
          → grown_if_taken p.takes makes (if fresh then Some (said ++ p.once ∷ []) else None) ≡ Some g
          → on_by said command (one_more p (phrases p.takes behind)) ≡ on_by g.said g.command (phrases 0 (drop g.takes behind))
      by (Some next) true m fresh e =
          let is : record { takes = p.takes; said = said ++ p.once ∷ []; command = next } ≡ g = cc in
          one_phrase p next (phrases p.takes behind) m ∙ ap (on_by (said ++ p.once ∷ []) next) (taken p.takes behind)
          ∙ ap (λ (h : Grown). on_by h.said h.command (phrases 0 (drop h.takes behind))) is
      by (Some next) false m fresh e = cc
      by None fresh m _ e = cc

  pub no-more : (o : Option Phrase) → with_phrase o said command ≡ None → on_by said command (after behind o) ≡ None
  no-more None e = refl
  no-more (Some p) e = by (p.makes command) (count p.once said == 0) refl refl e
    where
      by : (makes : Option Command) (fresh : Bool) → p.makes command ≡ makes → (count p.once said == 0) ≡ fresh
          → grown_if_taken p.takes makes (if fresh then Some (said ++ p.once ∷ []) else None) ≡ None
          → on_by said command (one_more p (phrases p.takes behind)) ≡ None
      by (Some next) true m fresh e = cc
      by (Some next) false m fresh e = twice p (phrases p.takes behind) (grind (arith, nat_tests, fresh))
      by None fresh m _ e = no_phrase p (phrases p.takes behind) m

  -- what was said is still apart
  pub still-apart : (o : Option Phrase) (g : Grown) → with_phrase o said command ≡ Some g → are_apart said ≡ true → are_apart g.said ≡ true
  still-apart None g e a = cc
  still-apart (Some p) g e a = by (p.makes command) (count p.once said == 0) refl e
    where
      by : (makes : Option Command) (fresh : Bool) → (count p.once said == 0) ≡ fresh
          → grown_if_taken p.takes makes (if fresh then Some (said ++ p.once ∷ []) else None) ≡ Some g
          → are_apart g.said ≡ true
      by (Some next) true fresh e =
          let is : record { takes = p.takes; said = said ++ p.once ∷ []; command = next } ≡ g = cc in
          ap (λ (h : Grown). are_apart h.said) (sym is) ∙ still_apart p.once said a (grind (arith, nat_tests, fresh))
      by (Some next) false fresh e = cc
      by None fresh _ e = cc

-- the words from here on begin with a phrase
pub more-words : (rest said : List (List ℕ)) (command : Command) (g : Grown) → 0 < length rest
    → with_phrase (phrase_of rest) said command ≡ Some g
    → on_by said command (phrases 0 rest) ≡ on_by g.said g.command (phrases 0 (drop (1 + g.takes) rest))
more-words [] said command g some e = absurd (omega (arith, some))
more-words (word ∷ behind) said command g some e =
    let n : suc g.takes ≡ 1 + g.takes = omega arith in
    one-more behind said command (phrase_of (word ∷ behind)) g e ∙ ap (λ k. on_by g.said g.command (phrases 0 (drop k (word ∷ behind)))) n

-- they begin with none that may be added
pub no-words : (rest said : List (List ℕ)) (command : Command) → 0 < length rest → with_phrase (phrase_of rest) said command ≡ None
    → on_by said command (phrases 0 rest) ≡ None
no-words [] said command some e = absurd (omega (arith, some))
no-words (word ∷ behind) said command some e = no-more behind said command (phrase_of (word ∷ behind)) e

-- a fault is the same behind `?`
pub same-fault : (A B : Type 0) (f : WordFault) → IsErrOf {T = A} (Err f) fault.Usage → IsErrOf {T = B} (Err f) fault.Usage
same-fault A B f e = let is : f ≡ fault.Usage = cc in rw is refl
