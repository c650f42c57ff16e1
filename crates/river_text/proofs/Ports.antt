-- The steps by which code reads what operators read and write.
use Rattle.std.proofs.Common.{◌≡◌, ℕ, ◌<◌, ◌≤◌, ◌+◌, List, [], ◌∷◌, ◌++◌, length, drop, get_or, Option, Some, None, refl, sym, ap, ◌∙◌}
use Rattle.std.specs.Prelude.{map}
use Rattle.std.proofs.lemmas.List.{drop_more, drop_all}
use Rattle.text_forms.proofs.Symbols.{taken-shorter}
use Rattle.text_tokens.specs.Tok.{Tok}
use Rattle.text_tokens.specs.declared.sign.Symbol.{Symbol}
use Rattle.text_forms.specs.Parse.{Parse, symbols_at, then_rest, then_parsed, after}
use Rattle.text_forms.proofs.Many.{comma-stop, comma-bad}
use Rattle.river_text.specs.declared.port.Port as read
use Rattle.river_text.specs.declared.port.Port.TheVariants as kind
use Rattle.river_text.specs.Plans.{Port, queue, variable}
use Rattle.river_text.specs.Listed.{port_of}
use Rattle.river_text.specs.ReadPlans.{port_at, split_from}
use Rattle.river_text.proofs.Plans.{exact-port}
use Rattle.river_text.proofs.Steps.{shorter}

pub ports-shorter : (ts us : List Tok) (v : Port) → port_at ts ≡ Some (v, us) → length us ≤ length ts
ports-shorter = shorter exact-port

pub ruleset port_steps = (ports-shorter, taken-shorter, comma-stop, comma-bad)

split-variable : (qs : List (List ℕ)) (w : List ℕ) (ps : List Port) (vs : List (List ℕ)) → split_from qs vs (variable w ∷ ps) ≡ split_from qs (vs ++ w ∷ []) ps
unfolding split_from
split-variable qs w ps [] = refl
split-variable qs w ps (v ∷ vs) = refl

split-too_late : (qs : List (List ℕ)) (w : List ℕ) (ps : List Port) (vs : List (List ℕ)) → (vs ≡ [] → ⊥) → split_from qs vs (queue w ∷ ps) ≡ None
unfolding split_from
split-too_late qs w ps [] some = absurd (some refl)
split-too_late qs w ps (v ∷ vs) some = refl

pub split-var : (qs vs : List (List ℕ)) (ps : List read.Port) (i : ℕ) (d : read.Port) (w : List ℕ) → i < length ps → get_or ps i d ≡ kind.Variable w
    → split_from qs (vs ++ w ∷ []) (map port_of (drop (i + 1) ps)) ≡ split_from qs vs (map port_of (drop i ps))
split-var qs vs ps i d w h is =
    sym (ap (λ (l : List read.Port). split_from qs vs (map port_of l)) (drop_more ps i d h)
    ∙ ap (λ (p : read.Port). split_from qs vs (port_of p ∷ map port_of (drop (i + 1) ps))) is ∙ split-variable qs w (map port_of (drop (i + 1) ps)) vs)

pub split-queue : (qs vs : List (List ℕ)) (ps : List read.Port) (i : ℕ) (d : read.Port) (w : List ℕ) → i < length ps → get_or ps i d ≡ kind.Queue w → vs ≡ []
    → split_from (qs ++ w ∷ []) vs (map port_of (drop (i + 1) ps)) ≡ split_from qs vs (map port_of (drop i ps))
unfolding split_from
split-queue qs vs ps i d w h is none =
    ap (λ (l : List (List ℕ)). split_from (qs ++ w ∷ []) l (map port_of (drop (i + 1) ps))) none
    ∙ sym (ap (λ (l : List read.Port). split_from qs vs (map port_of l)) (drop_more ps i d h)
    ∙ ap (λ (p : read.Port). split_from qs vs (port_of p ∷ map port_of (drop (i + 1) ps))) is
    ∙ ap (λ (l : List (List ℕ)). split_from qs l (queue w ∷ map port_of (drop (i + 1) ps))) none)

pub split-late : (qs vs : List (List ℕ)) (ps : List read.Port) (i : ℕ) (d : read.Port) (w : List ℕ) → i < length ps → get_or ps i d ≡ kind.Queue w
    → (vs ≡ [] → ⊥) → split_from qs vs (map port_of (drop i ps)) ≡ None
split-late qs vs ps i d w h is some =
    ap (λ (l : List read.Port). split_from qs vs (map port_of l)) (drop_more ps i d h)
    ∙ ap (λ (p : read.Port). split_from qs vs (port_of p ∷ map port_of (drop (i + 1) ps))) is ∙ split-too_late qs w (map port_of (drop (i + 1) ps)) vs some

pub split-end : (qs vs : List (List ℕ)) (ps : List read.Port) (i : ℕ) → length ps ≤ i → split_from qs vs (map port_of (drop i ps)) ≡ Some (qs, vs)
unfolding split_from
split-end qs vs ps i h = ap (λ (l : List read.Port). split_from qs vs (map port_of l)) (drop_all i ps h)

-- what goes on behind what stands behind symbols
pub after-then : {A B : Type 0} (run : List Symbol) (p : Parse A) (more : A → List Tok → Option (B × List Tok)) (ts : List Tok)
    → then_rest (symbols_at run ts) (λ us. then_parsed (p us) more) ≡ then_parsed (after run p ts) more
after-then run p more ts = by (symbols_at run ts) where
  by : (o : Option (List Tok)) → then_rest o (λ us. then_parsed (p us) more) ≡ then_parsed (then_rest o p) more
  by None = refl
  by (Some us) = refl

pub ruleset splits = (split-end, split-var, split-queue, split-late)

pub ruleset steps = (after-then)
