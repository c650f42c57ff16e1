-- Splitters and joiners of relations: what is owed leads from content to content, and is never much.
use Rattle.std.proofs.Common.{zero, suc, ◌≡◌, ◌<◌, ◌≤◌, ◌+◌, ◌*◌, ℕ, ℤ, pos, Bool, true, false, List, [], ◌++◌, length, map, refl, sym, ap, ◌∙◌, arith}
use Rattle.std.proofs.Common.{subst, append_assoc, ⊎_elim, inl}
use Rattle.std.specs.Prelude.{set, nat_le, if◌then◌else◌, ◌≢◌}
use Rattle.std.proofs.lemmas.List.{length-set, length-map, get_or-set_same, get_or-set_other, get_or-map, append-nil}
use Rattle.std.proofs.lemmas.List.Elements.{All-nil}
use Rattle.std.proofs.lemmas.List.Sums.{sum_by-append}
use Rattle.std.proofs.lemmas.Bool.{cases_eq}
use Rattle.river_base.proofs.PlaceLemmas.{if_eq, if_ne}
use Rattle.river_base.specs.Held.{HaveWidth}
use Rattle.river_base.specs.Changes.{difference}
use Rattle.river_base.specs.declared.item.Change.{Change}
use Rattle.kern_changes.specs.declared.owed.Debt.{Debt}
use Rattle.river_base.specs.Changes.{change_to, cancelled, LeadsTo, IsNormal, IsWideChange}
use Rattle.kern_changes.specs.Owed.{no_debt, debt_at, owed_start, owing_more, netted, tidied, owing, BeginsNetted, OwesLittle, OweLittle, AreDebtsOf}
use Rattle.kern_changes.specs.Owed.{but_at, DealsOwed, JoinsOwed, KeepsOwed}
use Rattle.kern_changes.proofs.Leading.{cancelled_is, cancelled_normal, change_leads, leads_back, leads_none}
use Rattle.kern_changes.proofs.Widths.{wide_append, wide_difference}

-- ONE DEBT

-- what holds of a debt and of the netted one holds of the tidied one
by_tidied : (P : Debt → Type 0) (d : Debt) → (length d.plus + length d.minus ≤ 2 * d.left + 1 → P d) → P (netted d) → P (tidied d)
by_tidied P d as_it_is when_netted = step (nat_le (length d.plus + length d.minus) (2 * d.left + 1)) refl where
  step : (b : Bool) → nat_le (length d.plus + length d.minus) (2 * d.left + 1) ≡ b → P (if b then d else netted d)
  step true e = as_it_is (grind (arith, e))
  step false e = when_netted

-- rows that come and go lead on from where a debt leads
more_leads : (a c : List (List ℤ)) (d : Debt) → LeadsTo a c d.plus d.minus → LeadsTo a c (tidied d).plus (tidied d).minus
more_leads a c d h = by_tidied (λ e. LeadsTo a c e.plus e.minus) d (λ few. h) (record {
  each = λ f. let e = h.each f in let n = (change_leads d.minus d.plus).each f in omega (arith, e, n);
})

owing_leads : (a b c : List (List ℤ)) (d : Debt) (plus minus : List (List ℤ)) → LeadsTo a b d.plus d.minus → LeadsTo b c plus minus
    → LeadsTo a c (owing plus minus d).plus (owing plus minus d).minus
owing_leads a b c d plus minus h g = more_leads a c (owing_more plus minus d) (record {
  each = λ f. let x = sum_by-append f d.plus plus in let y = sum_by-append f d.minus minus in let e = h.each f in let k = g.each f in omega (arith, x, y, e, k);
})

-- or up to where it begins
owing_leads_first : (a b c : List (List ℤ)) (d : Debt) (plus minus : List (List ℤ)) → LeadsTo b c d.plus d.minus → LeadsTo a b plus minus
    → LeadsTo a c (owing plus minus d).plus (owing plus minus d).minus
owing_leads_first a b c d plus minus h g = more_leads a c (owing_more plus minus d) (record {
  each = λ f. let x = sum_by-append f d.plus plus in let y = sum_by-append f d.minus minus in let e = h.each f in let k = g.each f in omega (arith, x, y, e, k);
})

begins_more : (plus minus : List (List ℤ)) (d : Debt) → BeginsNetted d → BeginsNetted (owing_more plus minus d)
begins_more plus minus d b = record {
  came = b.came;
  went = b.went;
  more_came = b.more_came ++ plus;
  more_went = b.more_went ++ minus;
  plus = ap (λ l. l ++ plus) b.plus ∙ append_assoc b.came b.more_came plus;
  minus = ap (λ l. l ++ minus) b.minus ∙ append_assoc b.went b.more_went minus;
  apart = b.apart;
  left = b.left;
}

netted_little : (d : Debt) → OwesLittle (netted d)
netted_little d = record {
  begins = record {
    came = difference d.plus d.minus;
    went = difference d.minus d.plus;
    more_came = [];
    more_went = [];
    plus = sym (append-nil (difference d.plus d.minus));
    minus = sym (append-nil (difference d.minus d.plus));
    apart = (cancelled_normal (pos 0) d.plus d.minus).apart;
    left = refl;
  };
  few = omega arith;
}

owing_little : (plus minus : List (List ℤ)) (d : Debt) → OwesLittle d → OwesLittle (owing plus minus d)
owing_little plus minus d h =
    by_tidied OwesLittle (owing_more plus minus d) (λ few. record { begins = begins_more plus minus d h.begins; few = few })
    (netted_little (owing_more plus minus d))

nothing_little : OwesLittle no_debt
nothing_little = record {
  begins = record { came = []; went = []; more_came = []; more_went = []; plus = refl; minus = refl; apart = λ row. inl refl; left = refl };
  few = omega arith;
}

-- the rows of a debt are so wide
record IsDebtOf (w : ℕ) (d : Debt) : Type 0 where
  plus : HaveWidth w d.plus
  minus : HaveWidth w d.minus

owing_wide : (w : ℕ) (plus minus : List (List ℤ)) (d : Debt) → HaveWidth w plus → HaveWidth w minus → IsDebtOf w d → IsDebtOf w (owing plus minus d)
owing_wide w plus minus d p m h =
    let a = wide_append w d.plus plus h.plus p in let b = wide_append w d.minus minus h.minus m in
    by_tidied (IsDebtOf w) (owing_more plus minus d) (λ few. record { plus = a; minus = b })
    (record { plus = wide_difference w (d.plus ++ plus) (d.minus ++ minus) a; minus = wide_difference w (d.minus ++ minus) (d.plus ++ plus) b })

nothing_wide : (w : ℕ) → IsDebtOf w no_debt
nothing_wide w = record { plus = All-nil (λ row. length row ≡ w); minus = All-nil (λ row. length row ≡ w) }

-- ALL DEBTS

-- at its place the rows are these
pub but_same : (p : ℕ) (rows : List (List ℤ)) (f : ℕ → List (List ℤ)) → but_at p rows f p ≡ rows
but_same p rows f = if_eq p p rows (f p) refl

-- and elsewhere as they were
pub but_other : (p q : ℕ) (rows : List (List ℤ)) (f : ℕ → List (List ℤ)) → p ≢ q → but_at p rows f q ≡ f q
but_other p q rows f h = if_ne p q rows (f q) h

set_here : (s : List Debt) (p : ℕ) (d : Debt) → p < length s → debt_at (set s p d) p ≡ d
set_here s p d lt = get_or-set_same s p d no_debt lt

set_else : (s : List Debt) (p q : ℕ) (d : Debt) → p ≢ q → debt_at (set s p d) q ≡ debt_at s q
set_else s p q d ne = get_or-set_other s p q d no_debt (λ e. ne (sym e))

-- all owe these rows, and the one at a place has paid
abbrev dealt : List (List ℤ) → List (List ℤ) → ℕ → List Debt → List Debt
dealt plus minus place s = set (map (owing plus minus) s) place no_debt

length-dealt : (plus minus : List (List ℤ)) (place : ℕ) (s : List Debt) → length (dealt plus minus place s) ≡ length s
length-dealt plus minus place s = length-set (map (owing plus minus) s) place no_debt ∙ length-map s (owing plus minus)

each_at : (plus minus : List (List ℤ)) (s : List Debt) (q : ℕ) → q < length s → debt_at (map (owing plus minus) s) q ≡ owing plus minus (debt_at s q)
each_at plus minus s q lt = get_or-map (owing plus minus) s q no_debt no_debt lt

dealt_here : (plus minus : List (List ℤ)) (place : ℕ) (s : List Debt) → place < length s → debt_at (dealt plus minus place s) place ≡ no_debt
dealt_here plus minus place s lt =
    set_here (map (owing plus minus) s) place no_debt (subst (λ n. place < n) (sym (length-map s (owing plus minus))) lt)

dealt_else : (plus minus : List (List ℤ)) (place q : ℕ) (s : List Debt) → place ≢ q → q < length s
    → debt_at (dealt plus minus place s) q ≡ owing plus minus (debt_at s q)
dealt_else plus minus place q s ne lt = set_else (map (owing plus minus) s) place q no_debt ne ∙ each_at plus minus s q lt

-- what holds at the place and elsewhere holds of all
by_dealt : (P : ℕ → Debt → Type 0) (plus minus : List (List ℤ)) (place : ℕ) (s : List Debt) → place < length s → P place no_debt
    → ((q : ℕ) → place ≢ q → q < length s → P q (owing plus minus (debt_at s q))) → (q : ℕ) → q < length (dealt plus minus place s)
    → P q (debt_at (dealt plus minus place s) q)
by_dealt P plus minus place s lt here there q l =
    ⊎_elim
    (λ e. subst (λ k. P k (debt_at (dealt plus minus place s) k)) e (subst (P place) (sym (dealt_here plus minus place s lt)) here))
    (λ ne. let k : q < length s =
    subst (λ n. q < n) (length-dealt plus minus place s) l in subst (P q) (sym (dealt_else plus minus place q s ne k)) (there q ne k))
    (cases_eq place q)

dealt_little : (plus minus : List (List ℤ)) (place : ℕ) (s : List Debt) → place < length s → OweLittle s → OweLittle (dealt plus minus place s)
dealt_little plus minus place s lt h = record {
  each = by_dealt (λ q d. OwesLittle d) plus minus place s lt nothing_little (λ q ne l. owing_little plus minus (debt_at s q) (h.each q l));
}

dealt_wide : (w : ℕ) (plus minus : List (List ℤ)) (place : ℕ) (s : List Debt) → place < length s → HaveWidth w plus → HaveWidth w minus → AreDebtsOf w s
    → AreDebtsOf w (dealt plus minus place s)
dealt_wide w plus minus place s lt p m h =
    let all = by_dealt (λ q d. IsDebtOf w d) plus minus place s lt (nothing_wide w)
    (λ q ne l. owing_wide w plus minus (debt_at s q) p m (record { plus = h.plus q l; minus = h.minus q l })) in
    record { plus = λ q l. (all q l).plus; minus = λ q l. (all q l).minus }

-- A SPLITTER

module _ (place : ℕ) (c : Change) (old : List Debt) (given : Change) (lt : place < length old) where
  abbrev each_owes : List Debt
  each_owes = map (owing c.plus c.minus) old

  -- all lists owe the change, and the one in turn gives what it owes
  pub deals : given ≡ cancelled c.at (debt_at each_owes place).plus (debt_at each_owes place).minus
      → DealsOwed place c old (dealt c.plus c.minus place old) given
  deals g = record {
    each = λ now last b owed is.
        let at : c.at ≡ b.at = ap (λ (d : Change). d.at) is in
        let came : LeadsTo now b.rows c.plus c.minus = subst (λ (d : Change). LeadsTo now b.rows d.plus d.minus) (sym is) (change_leads now b.rows) in
        let led : (q : ℕ) → q < length old → LeadsTo (last q) b.rows (owing c.plus c.minus (debt_at old q)).plus (owing c.plus c.minus (debt_at old q)).minus =
        λ q l. owing_leads (last q) now b.rows (debt_at old q) c.plus c.minus (owed q l) came in
        let d : Debt = owing c.plus c.minus (debt_at old place) in
        let same = each_at c.plus c.minus old place lt in (
          g ∙ (λ i. cancelled (at i) (same i).plus (same i).minus) ∙ sym (cancelled_is b.at (last place) b.rows d.plus d.minus (led place lt)),
          by_dealt (λ q e. LeadsTo (but_at place b.rows last q) b.rows e.plus e.minus) c.plus c.minus place old lt
              (subst (λ r. LeadsTo r b.rows [] []) (sym (but_same place b.rows last)) (leads_none b.rows))
              (λ q ne l. subst (λ r. LeadsTo r b.rows (owing c.plus c.minus (debt_at old q)).plus (owing c.plus c.minus (debt_at old q)).minus)
              (sym (but_other place q b.rows last ne)) (led q l)),
        );
  }

  -- what it gives is normalised, and no list owes much
  pub deals_keep : given ≡ cancelled c.at (debt_at each_owes place).plus (debt_at each_owes place).minus
      → KeepsOwed c old (dealt c.plus c.minus place old) given
  deals_keep g = record {
    lists = length-dealt c.plus c.minus place old;
    normal = subst IsNormal (sym g) (cancelled_normal c.at (debt_at each_owes place).plus (debt_at each_owes place).minus);
    wide = λ w h k.
        let d = owing_wide w c.plus c.minus (debt_at old place) k.plus k.minus (record { plus = h.plus place lt; minus = h.minus place lt }) in
        let e : IsDebtOf w (debt_at each_owes place) = subst (IsDebtOf w) (sym (each_at c.plus c.minus old place lt)) d in (
          subst (IsWideChange w) (sym g) (record {
            plus = wide_difference w (debt_at each_owes place).plus (debt_at each_owes place).minus e.plus;
            minus = wide_difference w (debt_at each_owes place).minus (debt_at each_owes place).plus e.minus;
          }),
          dealt_wide w c.plus c.minus place old lt k.plus k.minus h,
        );
    few = dealt_little c.plus c.minus place old lt;
  }

-- A JOINER

module _ (place : ℕ) (c : Change) (old : List Debt) (given : Change) (lt : place < length old) where
  -- the port owes its change too
  abbrev port_owes : Debt
  port_owes = owing c.plus c.minus (debt_at old place)

  -- and pays
  abbrev port_paid : List Debt
  port_paid = set (set old place port_owes) place no_debt

  length-port_paid : length port_paid ≡ length old
  length-port_paid = length-set (set old place port_owes) place no_debt ∙ length-set old place port_owes

  paid_else : (q : ℕ) → place ≢ q → debt_at port_paid q ≡ debt_at old q
  paid_else q ne = set_else (set old place port_owes) place q no_debt ne ∙ set_else old place q port_owes ne

  paid_here : debt_at port_paid place ≡ no_debt
  paid_here = set_here (set old place port_owes) place no_debt (subst (λ n. place < n) (sym (length-set old place port_owes)) lt)

  paid_lt : place < length port_paid
  paid_lt = subst (λ n. place < n) (sym length-port_paid) lt

  -- what the port owes is what it gives
  pub owes_here : debt_at (set old place port_owes) place ≡ port_owes
  owes_here = set_here old place port_owes lt

  -- the port owes its change too, gives what it owes, and the others owe that back
  pub joins : given ≡ cancelled c.at port_owes.plus port_owes.minus → JoinsOwed place c old (dealt given.minus given.plus place port_paid) given
  joins g = record {
    each = λ last now b owed is.
        let at : c.at ≡ b.at = ap (λ (d : Change). d.at) is in
        let came : LeadsTo (now place) b.rows c.plus c.minus =
        subst (λ (d : Change). LeadsTo (now place) b.rows d.plus d.minus) (sym is) (change_leads (now place) b.rows) in
        let led : LeadsTo last b.rows port_owes.plus port_owes.minus =
        owing_leads last (now place) b.rows (debt_at old place) c.plus c.minus (owed place lt) came in
        let gave : given ≡ change_to last b =
        g ∙ ap (λ t. cancelled t port_owes.plus port_owes.minus) at ∙ sym (cancelled_is b.at last b.rows port_owes.plus port_owes.minus led) in
        let back : LeadsTo b.rows last given.minus given.plus =
        subst (λ (d : Change). LeadsTo b.rows last d.minus d.plus) (sym gave) (leads_back last b.rows (difference b.rows last) (difference last b.rows)
        (change_leads last b.rows)) in (
          gave,
          by_dealt (λ q e. LeadsTo b.rows (but_at place b.rows now q) e.plus e.minus) given.minus given.plus place port_paid paid_lt
              (subst (λ r. LeadsTo b.rows r [] []) (sym (but_same place b.rows now)) (leads_none b.rows))
              (λ q ne l.
              let l' : q < length old = subst (λ n. q < n) length-port_paid l in
              let o : LeadsTo last (now q) (debt_at port_paid q).plus (debt_at port_paid q).minus =
              subst (λ (e : Debt). LeadsTo last (now q) e.plus e.minus) (sym
              (paid_else q ne)) (owed q l') in
              subst (λ r. LeadsTo b.rows r (owing given.minus given.plus (debt_at port_paid q)).plus
              (owing given.minus given.plus (debt_at port_paid q)).minus) (sym
              (but_other place q b.rows now ne))
              (owing_leads_first b.rows last (now q) (debt_at port_paid q) given.minus given.plus o back)),
        );
  }

  paid_little : OweLittle old → OweLittle port_paid
  paid_little h = record {
    each = λ q l.
        ⊎_elim
        (λ e. subst (λ k. OwesLittle (debt_at port_paid k)) e (subst OwesLittle (sym paid_here) nothing_little))
        (λ ne. subst OwesLittle (sym (paid_else q ne)) (h.each q (subst (λ n. q < n) length-port_paid l)))
        (cases_eq place q);
  }

  paid_wide : (w : ℕ) → AreDebtsOf w old → AreDebtsOf w port_paid
  paid_wide w h =
      let all : (q : ℕ) → q < length port_paid → IsDebtOf w (debt_at port_paid q) = λ q l.
      ⊎_elim
      (λ e. subst (λ k. IsDebtOf w (debt_at port_paid k)) e (subst (IsDebtOf w) (sym paid_here) (nothing_wide w)))
      (λ ne. subst (IsDebtOf w) (sym (paid_else q ne)) (let k = subst (λ n. q < n) length-port_paid l in record { plus = h.plus q k; minus = h.minus q k }))
      (cases_eq place q) in
      record { plus = λ q l. (all q l).plus; minus = λ q l. (all q l).minus }

  -- what it gives is normalised, and no port owes much
  pub joins_keep : given ≡ cancelled c.at port_owes.plus port_owes.minus → KeepsOwed c old (dealt given.minus given.plus place port_paid) given
  joins_keep g = record {
    lists = length-dealt given.minus given.plus place port_paid ∙ length-port_paid;
    normal = subst IsNormal (sym g) (cancelled_normal c.at port_owes.plus port_owes.minus);
    wide = λ w h k.
        let e : IsDebtOf w port_owes =
        owing_wide w c.plus c.minus (debt_at old place) k.plus k.minus (record { plus = h.plus place lt; minus = h.minus place lt }) in
        let wide : IsWideChange w given = subst (IsWideChange w) (sym g) (record {
          plus = wide_difference w port_owes.plus port_owes.minus e.plus;
          minus = wide_difference w port_owes.minus port_owes.plus e.minus;
        }) in
        (wide, dealt_wide w given.minus given.plus place port_paid paid_lt wide.minus wide.plus (paid_wide w h));
    few = λ h. dealt_little given.minus given.plus place port_paid paid_lt (paid_little h);
  }

-- at the start no list owes anything
pub nothing_owed : (n p : ℕ) → debt_at (owed_start n) p ≡ no_debt
nothing_owed zero p = refl
nothing_owed (suc n) zero = refl
nothing_owed (suc n) (suc p) = nothing_owed n p

-- and that is not much
pub start_little : (n : ℕ) → OweLittle (owed_start n)
start_little n = record { each = λ p l. subst OwesLittle (sym (nothing_owed n p)) nothing_little }
