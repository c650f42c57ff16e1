-- The capacities that a text gives are in their bounds.
use Rattle.std.proofs.Common.{◌≡◌, ℕ, Bool, true, false, List, [], ◌∷◌, Option, Some, None, refl, sym, subst, arith}
use Rattle.std.specs.Prelude.{nat_le, ◌&&◌}
use Rattle.std.proofs.lemmas.List.Elements.{All-nil, All-cons, All-append}
use Rattle.std.proofs.lemmas.Bool.{and_parts}
use Rattle.std.proofs.lemmas.Bool.Decides.{nat_tests}
use Rattle.text_tokens.specs.Tok.{Tok}
use Rattle.river_plan.specs.Caps.{IsCap, AreCaps, cap_of}
use Rattle.river_plan.specs.Forms.{Name}
use Rattle.river_plan.specs.declared.caps.Cap.{Cap}
use Rattle.text_forms.specs.Texts.{AllFormed}
use Rattle.river_text.specs.Laws.{CapsFit}
use Rattle.river_text.specs.Plans.{EntryForm, header, output, input, inner, table, private, operator, TextForm, IsUnitAt, next_place, add_entry, add_all}
use Rattle.river_text.specs.Plans.{cap_stands, is_cap, may_stand, empty_text, first_place}
use Rattle.river_text.specs.declared.entry.Place.{Place}

fits : (n : ℕ) → is_cap n ≡ true → IsCap n
fits n h = by (nat_le 1 n) (nat_le n 65536) refl refl h where
  by : (a b : Bool) → nat_le 1 n ≡ a → nat_le n 65536 ≡ b → a && b ≡ true → IsCap n
  by true true p q e = (grind (arith, nat_tests), grind (arith, nat_tests))
  by true false p q e = cc
  by false b p q e = cc

one : (headed : Bool) (q : Name) (most : Option ℕ) → cap_stands headed most ≡ true → AreCaps (cap_of q most)
one headed q None h = All-nil (λ (c : Cap). IsCap c.most)
one headed q (Some n) h =
    All-cons (λ (c : Cap). IsCap c.most) (record { queue = q; most = n }) [] (fits n (and_parts headed (is_cap n) h).1) (All-nil (λ (c : Cap). IsCap c.most))

-- with one entry more they still are
more : (at : Place) (t : TextForm) (e : EntryForm) → may_stand at e ≡ true → AreCaps t.caps → AreCaps (add_entry t e).caps
more at t header h all = all
more at t (output d) h all = all
more at t (input d) h all = all
more at t (inner q) h all =
    All-append (λ (c : Cap). IsCap c.most) t.caps (cap_of q.decl.name q.most) all
    (one at.headed q.decl.name q.most (and_parts (nat_le at.stage 3) (cap_stands at.headed q.most) h).1)
more at t (table d) h all = all
more at t (private v) h all = all
more at t (operator o) h all = all

all_fit : (at : Place) (t : TextForm) (es : List EntryForm) (us : List (List Tok)) → AllFormed IsUnitAt next_place at es us → AreCaps t.caps
    → AreCaps (add_all t es).caps
all_fit at t [] us h all = all
all_fit at t (e ∷ es) [] h all = absurd h
all_fit at t (e ∷ es) (u ∷ us) h all = all_fit (next_place at e) (add_entry t e) es us h.1 (more at t e h.0.passes all)

-- the law
pub caps_fit : CapsFit
caps_fit text t is =
    subst (λ (x : TextForm). AreCaps x.caps) (sym is.is)
    (all_fit (first_place is.marks) empty_text is.entries _ is.formed (All-nil (λ (c : Cap). IsCap c.most)))
