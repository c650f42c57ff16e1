-- Children that were made so far, and those that are made behind them.
use Rattle.std.proofs.Common.{◌≡◌, ℕ, ◌-◌, ◌≤◌, List, [], ◌∷◌, ◌++◌, Result, Ok, Err, refl, sym, ap, ◌∙◌, arith, append_assoc, append-nil}
use Rattle.river_plan.specs.Forms.{Name}
use Rattle.streamit_model.specs.Meaning.{numbers_from}
use Rattle.params_model.specs.Environment.{Environment}
use Rattle.params_model.specs.Making.{Made, Added, on_fine, also, turn, turns_made}
use Rattle.params_model.specs.declared.fault.Refusal.{Refusal}
use Rattle.params_build.specs.declared.refused.Refused.{Refused}
use Rattle.params_build.specs.Judging.{IsWhyRefused}
use Rattle.params_print.specs.Heads.{names_written}
use Rattle.params_front.specs.declared.body.Scope.{Scope}
use Rattle.params_front.specs.declared.making.Making.{Making}
use Rattle.params_front.specs.Standing.{Stands, MakesMore, turn_made}
use Rattle.params_front.proofs.Faults.{fine, told-more}

-- behind these names
abbrev pub after : List Name → Added → Added
after ns r = on_fine r (λ y. fine (ns ++ y.0, y.1))

after-none : (r : Added) → after [] r ≡ r
after-none (Ok y) = refl
after-none (Err e) = refl

after-both : (a b : List Name) (r : Added) → after a (after b r) ≡ after (a ++ b) r
after-both a b (Ok y) = ap (λ l. fine (l, y.1)) (sym (append_assoc a b y.0))
after-both a b (Err e) = refl

after-end : (a : List Name) (m : Made) → after a (fine ([], m)) ≡ fine (a, m)
after-end a m = ap (λ l. fine (l, m)) (append-nil a)

-- what was made of these children, and what is to be made behind them, is what is made of all
pub record SoFar (whole : Added) (rest : Made → Added) (first now : Scope) (new : Making) : Type 0 where
  pub names : List Name
  pub made : Made
  pub is : whole ≡ after names (rest made)
  pub stands : Stands new made
  pub grew : names_written now.children ≡ names_written first.children ++ names
  pub known : now.known ≡ first.known

-- before the first child nothing is made yet
pub so-start : (rest : Made → Added) (scope : Scope) (s : Making) (m : Made) → Stands s m → SoFar (rest m) rest scope scope s
so-start rest scope s m h = record {
  names = [];
  made = m;
  is = sym (after-none (rest m));
  stands = h;
  grew = sym (append-nil (names_written scope.children));
  known = refl;
}

-- one part more
pub so-next : (whole : Added) (one : Environment → Made → Added) (rest rest' : Made → Added) (first now next : Scope) (s s' : Making)
    → ((m : Made) → rest m ≡ also (one first.known m) rest') → (f : SoFar whole rest first now s) → MakesMore (Ok tt) now next s' (one now.known f.made)
    → SoFar whole rest' first next s'
so-next whole one rest rest' first now next s s' h f r = record {
  names = f.names ++ r.0;
  made = r.1;
  is =
      f.is
      ∙ ap (after f.names) (h f.made ∙ ap (λ a. also a rest') (ap (λ e. one e f.made) (sym f.known) ∙ r.2))
      ∙ after-both f.names r.0 (rest' r.1);
  stands = r.3;
  grew = r.4 ∙ ap (λ l. l ++ r.0) f.grew ∙ append_assoc (names_written first.children) f.names r.0;
  known = r.5 ∙ f.known;
}

-- a part that is refused
pub so-fault : (whole : Added) (one : Environment → Made → Added) (rest rest' : Made → Added) (first now : Scope) (s : Making) (e : Refused)
    → ((m : Made) → rest m ≡ also (one first.known m) rest') → (f : SoFar whole rest first now s) → IsWhyRefused (one now.known f.made) e
    → IsWhyRefused whole e
so-fault whole one rest rest' first now s e h f t =
    told-more e (one now.known f.made) whole
    (λ g q. f.is ∙ ap (after f.names) (h f.made ∙ ap (λ a. also a rest') (ap (λ k. one k f.made) (sym f.known) ∙ q)))
    t

-- where nothing is left
pub so-end : (whole : Added) (rest : Made → Added) (first now : Scope) (s : Making) → ((m : Made) → rest m ≡ Ok ([], m)) → SoFar whole rest first now s
    → MakesMore (Ok tt) first now s whole
so-end whole rest first now s h f = (f.names, f.made, f.is ∙ ap (after f.names) (h f.made) ∙ after-end f.names f.made, f.stands, f.grew, f.known)

-- TURNS

also-on : (r : Result Made Refusal) (f g : Made → Added) → on_fine r (λ t. also (f t) g) ≡ also (on_fine r f) g
also-on (Ok t) f g = refl
also-on (Err e) f g = refl

-- the turns of a loop are its first turn, and then the others
pub turns-next : (k : ℕ) (f : ℕ → Made → Added) (v : ℕ) (vs : List ℕ) (m : Made) → turns_made k f (v ∷ vs) m ≡ also (turn_made k f v m) (turns_made k f vs)
turns-next k f v vs m = also-on (turn k m) (f v) (turns_made k f vs)

-- from the end on there are none
pub numbers-end : (v end : ℕ) → end ≤ v → numbers_from v (end - v) ≡ []
numbers-end v end le = ap (numbers_from v) (let e : end - v ≡ 0 = omega (arith, le) in e)
