-- The steps by which code reads whole units.
use Rattle.std.proofs.Common.{◌≡◌, List, [], ◌∷◌, Bool, true, false, cond, Some, None, Result, Ok, Err, refl, sym, ap, ◌∙◌, subst}
use Rattle.std.specs.Prelude.{◌↔◌}
use Rattle.text_tokens.specs.Tok.{Tok}
use Rattle.text_forms.specs.Gives.{Makes}
use Rattle.text_forms.specs.Texts.{whole, ended}
use Rattle.text_forms.specs.declared.fault.ParseFault.{ParseFault}
use Rattle.text_forms.specs.declared.fault.ParseFault.TheVariants.{Syntax}
use Rattle.river_text.specs.declared.entry.Entry as read
use Rattle.river_text.specs.Entries.{entry_form}
use Rattle.river_text.specs.Plans.{EntryForm, may_stand}
use Rattle.river_text.specs.declared.entry.Place.{Place}
use Rattle.river_text.specs.ReadPlans.{unit_at, unit_from}

-- where no unit is read of the tokens there is none
pub whole_none : (at : Place) (ts : List Tok) → unit_at ts ≡ None → whole (unit_from at) ts ≡ None
whole_none at ts e = rw e refl

pub whole-stands : (at : Place) (ts : List Tok) (e : EntryForm) → unit_at ts ≡ Some (e, []) → may_stand at e ≡ true → whole (unit_from at) ts ≡ Some e
whole-stands at ts e read stands = rw read (ap (λ b. ended {A = EntryForm} (cond b (Some (e, [])) None)) stands)

-- a unit that may not stand there is none
pub whole-early : (at : Place) (ts rest : List Tok) (e : EntryForm) → unit_at ts ≡ Some (e, rest) → may_stand at e ≡ false → whole (unit_from at) ts ≡ None
whole-early at ts rest e read stands = rw read (ap (λ b. ended {A = EntryForm} (cond b (Some (e, rest)) None)) stands)

-- a unit with tokens behind it is none
pub whole-more : (at : Place) (ts rest : List Tok) (e : EntryForm) → unit_at ts ≡ Some (e, rest) → (rest ≡ [] → ⊥) → whole (unit_from at) ts ≡ None
whole-more at ts [] e read more = absurd (more refl)
whole-more at ts (t ∷ rest) e read more = rw read (by (may_stand at e)) where
  by : (b : Bool) → ended {A = EntryForm} (cond b (Some (e, t ∷ rest)) None) ≡ None
  by true = refl
  by false = refl

left : (t : Tok) (rest : List Tok) → t ∷ rest ≡ [] → ⊥
left t rest e = cc

-- an entry that may not stand there, or with tokens behind it, is none
whole-unfit : (at : Place) (ts rest : List Tok) (e : EntryForm) → unit_at ts ≡ Some (e, rest) → ((rest ≡ []) × (may_stand at e ≡ true) → ⊥)
    → whole (unit_from at) ts ≡ None
whole-unfit at ts (t ∷ rest) e read unfit = whole-more at ts (t ∷ rest) e read (left t rest)
whole-unfit at ts [] e read unfit = by (may_stand at e) refl where
  by : (b : Bool) → may_stand at e ≡ b → whole (unit_from at) ts ≡ None
  by true is = absurd (unfit (refl, is))
  by false is = whole-early at ts [] e read is

-- an entry is given where it fits
pub whole-kept : (at : Place) (ts rest : List Tok) (x : read.Entry) (fits : Bool) (r : Result read.Entry ParseFault) → unit_at ts ≡ Some (entry_form x, rest)
    → (fits ≡ true) ↔ ((rest ≡ []) × (may_stand at (entry_form x) ≡ true)) → r ≡ cond fits (Ok x) (Err Syntax) → Makes entry_form r (whole (unit_from at) ts)
whole-kept at ts rest x true r read fits is =
    let fit = fits.0 refl in
    subst (λ q. Makes entry_form q (whole (unit_from at) ts)) (sym is) (whole-stands at ts (entry_form x) (read ∙ ap (λ l. Some (entry_form x, l)) fit.0) fit.1)
whole-kept at ts rest x false r read fits is =
    subst (λ q. Makes entry_form q (whole (unit_from at) ts)) (sym is) (whole-unfit at ts rest (entry_form x) read (λ fit. never (fits.1 fit))) where
      never : false ≡ true → ⊥
      never e = cc
