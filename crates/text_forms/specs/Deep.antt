-- How deep the trees of a language are.
use Rattle.std.specs.Prelude.{◌≡◌, suc, max}
use Rattle.text_forms.specs.Levels.{Syntax}

-- a tree is one deeper than the deepest tree in it
pub record IsDeeper {T O P : Type 0} (S : Syntax T O P) : Type 0 where
  pub join : (o : O) (a b : T) → S.depth (S.join o a b) ≡ suc (max (S.depth a) (S.depth b))
  pub mark : (p : P) (t : T) → S.depth (S.mark p t) ≡ suc (S.depth t)
