use Rattle.std.proofs.Common.{◌≡◌, ◌++◌, ◌∷◌, [], List, rules, ap, ◌∙◌, subst}
use Rattle.std.specs.Prelude.{reverse}
use Rattle.river_base.proofs.Lists.{reverse-push}
use Rattle.params_print.specs.Known.{IsByName}
use Rattle.params_print.specs.declared.bindings.Binding.{Binding}
use Rattle.params_print.proofs.Listing.{by_name-there, by_name-pop}
use Rattle.params_print.proofs.bindings.Bindings.pop.Goals as goal

pub bring_back-requires : goal.bring_back-requires
bring_back-requires c =
    let rest = c.pop.new.self.items in
    let last = c.in-Some.last in
    let is : c.self.inside.items.items ≡ rest ++ last ∷ [] = search rules in (
      last.value,
      by_name-there (reverse rest) last c.self.inside.newest
          (subst (λ (bs : List Binding). IsByName bs c.self.inside.newest) (ap reverse is ∙ reverse-push rest last) c.self.invariant),
    )

pub invariant_of-self : goal.invariant_of-self
invariant_of-self c =
    let rest = c.pop.new.self.items in
    let last = c.in-Some.last in
    let is : c.self.inside.items.items ≡ rest ++ last ∷ [] = search rules in
    by_name-pop (reverse rest) last c.self.inside.newest c.bring_back.new.newest
    (subst (λ (bs : List Binding). IsByName bs c.self.inside.newest) (ap reverse is ∙ reverse-push rest last) c.self.invariant) c.bring_back.ensures
