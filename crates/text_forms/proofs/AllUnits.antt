-- The steps by which code reads whole units, one behind the other.
use Rattle.std.proofs.Common.{◌≡◌, ℕ, ◌<◌, ◌≤◌, ◌+◌, List, [], ◌∷◌, ◌++◌, length, drop, get_or, Some, None, Result, Ok, Err, Bool, true, false, cond, refl, sym}
use Rattle.std.proofs.Common.{ap, ◌∙◌, subst, append_assoc, append-nil, arith}
use Rattle.std.specs.Prelude.{map, ◌↔◌}
use Rattle.std.specs.Borrow.{Bor}
use Rattle.std.proofs.lemmas.List.{drop_more, drop_all, length-map}
use Rattle.text_tokens.specs.Cut.{unit_tokens, units_of}
use Rattle.text_tokens.specs.Tok.{Tok, Mark, toks}
use Rattle.text_tokens.specs.declared.token.Lexeme.{Lexeme}
use Rattle.text_tokens.proofs.Counts.{units-few}
use Rattle.text_forms.specs.Gives.{Makes}
use Rattle.text_forms.specs.Parse.{Parse}
use Rattle.text_forms.specs.Texts.{whole, after_unit, put_first}
use Rattle.text_forms.specs.AllUnits.{units_from, all_units, some_units}
use Rattle.text_forms.specs.declared.fault.ParseFault.{ParseFault}
use Rattle.text_forms.specs.declared.fault.ParseFault.TheVariants.{Syntax}

-- there are no more units than tokens
pub parts-few : (ms : List Mark) (parts : List (Bor (List Lexeme))) → map unit_tokens parts ≡ units_of (toks ms) → length parts ≤ length ms
parts-few ms parts cut =
    let same : length parts ≡ length (units_of (toks ms)) = sym (length-map parts unit_tokens) ∙ ap length cut in
    omega (arith, same, units-few ms)

-- what is read behind some units
abbrev pub behind : {A : Type 0} → List A → Result (List A) ℕ → Result (List A) ℕ
behind done (Ok vs) = Ok (done ++ vs)
behind done (Err n) = Err n

behind-first : {A : Type 0} (done : List A) (v : A) (r : Result (List A) ℕ) → behind (done ++ v ∷ []) r ≡ behind done (put_first v r)
behind-first done v (Ok vs) = ap Ok (append_assoc done (v ∷ []) vs)
behind-first done v (Err n) = refl

module _ {A : Type 0} (unit : Parse A) where
  -- where no unit comes, none is all of the tokens
  pub whole_none : (ts : List Tok) → unit ts ≡ None → whole unit ts ≡ None
  whole_none ts e = rw e refl

  whole-all : (ts : List Tok) (v : A) → unit ts ≡ Some (v, []) → whole unit ts ≡ Some v
  whole-all ts v e = rw e refl

  -- a unit with tokens behind it is none
  whole-more : (ts rest : List Tok) (v : A) → unit ts ≡ Some (v, rest) → (rest ≡ [] → ⊥) → whole unit ts ≡ None
  whole-more ts [] v read more = absurd (more refl)
  whole-more ts (t ∷ rest) v read more = rw read refl

  -- a unit is given where no token is left behind it
  pub whole-kept : {X : Type 0} (view : X → A) (ts rest : List Tok) (x : X) (end : Bool) (r : Result X ParseFault) → unit ts ≡ Some (view x, rest)
      → (end ≡ true) ↔ (rest ≡ []) → r ≡ cond end (Ok x) (Err Syntax) → Makes view r (whole unit ts)
  whole-kept view ts rest x true r read end is =
      subst (λ q. Makes view q (whole unit ts)) (sym is) (whole-all ts (view x) (read ∙ ap (λ l. Some (view x, l)) (end.0 refl)))
  whole-kept view ts rest x false r read end is =
      subst (λ q. Makes view q (whole unit ts)) (sym is) (whole-more ts rest (view x) read (λ e. never (end.1 e))) where
        never : false ≡ true → ⊥
        never e = cc

  at : (n : ℕ) (parts : List (Bor (List Lexeme))) (i : ℕ) (e : Bor (List Lexeme)) → i < length parts
      → units_from unit n (map unit_tokens (drop i parts))
      ≡ after_unit n (λ v. units_from unit (n + 1) (map unit_tokens (drop (i + 1) parts))) (whole unit (unit_tokens (get_or parts i e)))
  at n parts i e h = ap (λ (l : List (Bor (List Lexeme))). units_from unit n (map unit_tokens l)) (drop_more parts i e h)

  -- one unit more
  pub units-next : (done : List A) (n : ℕ) (parts : List (Bor (List Lexeme))) (i : ℕ) (e : Bor (List Lexeme)) (v : A) → i < length parts
      → whole unit (unit_tokens (get_or parts i e)) ≡ Some v
      → behind (done ++ v ∷ []) (units_from unit (n + 1) (map unit_tokens (drop (i + 1) parts)))
      ≡ behind done (units_from unit n (map unit_tokens (drop i parts)))
  units-next done n parts i e v h read =
      behind-first done v (units_from unit (n + 1) (map unit_tokens (drop (i + 1) parts)))
      ∙ sym (ap (behind done) (at n parts i e h ∙ ap (after_unit n (λ f. units_from unit (n + 1) (map unit_tokens (drop (i + 1) parts)))) read))

  -- a unit that is none is told by its number
  pub units-bad : (done : List A) (n : ℕ) (parts : List (Bor (List Lexeme))) (i : ℕ) (e : Bor (List Lexeme)) → i < length parts
      → whole unit (unit_tokens (get_or parts i e)) ≡ None → behind done (units_from unit n (map unit_tokens (drop i parts))) ≡ Err n
  units-bad done n parts i e h read =
      ap (behind done) (at n parts i e h ∙ ap (after_unit n (λ f. units_from unit (n + 1) (map unit_tokens (drop (i + 1) parts)))) read)

  -- behind the last unit all are read
  pub units-end : (done : List A) (n : ℕ) (parts : List (Bor (List Lexeme))) (i : ℕ) → length parts ≤ i
      → behind done (units_from unit n (map unit_tokens (drop i parts))) ≡ Ok done
  units-end done n parts i h =
      ap (λ (l : List (Bor (List Lexeme))). behind done (units_from unit n (map unit_tokens l))) (drop_all i parts h) ∙ ap Ok (append-nil done)

  -- where there is a unit, all units are read
  pub units-some : (parts : List (Bor (List Lexeme))) → (length parts ≡ 0 → ⊥) → some_units unit (map unit_tokens parts) ≡ all_units unit (map unit_tokens parts)
  units-some [] h = absurd (h refl)
  units-some (u ∷ us) h = refl

pub ruleset some = (units-some)
