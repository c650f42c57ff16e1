-- The laws of changes.
use Rattle.std.proofs.Common.{◌≡◌, ℤ, List, [], ◌∷◌, refl, sym, ◌∙◌, subst}
use Rattle.river_base.specs.declared.item.Batch.{Batch}
use Rattle.river_base.specs.declared.item.Change.{Change}
use Rattle.river_base.specs.Changes.{StandForContents, ChangesInto, LeadsTo}
use Rattle.kern_changes.specs.declared.owed.Debt.{Debt}
use Rattle.kern_changes.specs.Laws.{ChangesAre, StandForOne, NothingIsOwed}
use Rattle.kern_changes.proofs.Leading.{changes_stand, changes_are, leads_none}
use Rattle.kern_changes.proofs.OwedLaws.{start_little, nothing_owed}

-- there is just one list of changes
pub changes_hold : ChangesAre
changes_hold before bs a = let s = changes_stand before bs a in record { stand = s.0; normal = s.1; only = λ cs h n. changes_are before cs bs h n }

same_content : (before : List (List ℤ)) (c : Change) (b b' : Batch) → ChangesInto before c b → ChangesInto before c b' → b ≡ b'
same_content before c b b' h g = λ i. record { at = (sym h.at ∙ g.at) i; rows = (h.rows ∙ sym g.rows) i }

-- and one list of contents
pub stand_holds : StandForOne
stand_holds before [] [] [] h g = refl
stand_holds before [] [] (b' ∷ bs') h g = absurd g
stand_holds before [] (b ∷ bs) bs' h g = absurd h
stand_holds before (c ∷ cs) [] bs' h g = absurd h
stand_holds before (c ∷ cs) (b ∷ bs) [] h g = absurd g
stand_holds before (c ∷ cs) (b ∷ bs) (b' ∷ bs') h g =
    let e : b ≡ b' = same_content before c b b' h.0 g.0 in
    let t : bs ≡ bs' = stand_holds b.rows cs bs bs' h.1 (subst (λ (x : Batch). StandForContents x.rows cs bs') (sym e) g.1) in
    λ i. e i ∷ t i

-- nothing is owed at the start
pub nothing_holds : NothingIsOwed
nothing_holds = record {
  owed = λ n p lt. subst (λ (d : Debt). LeadsTo [] [] d.plus d.minus) (sym (nothing_owed n p)) (leads_none []);
  little = start_little;
}
