-- What is read of worked programs, computed from the definitions.
use Rattle.std.proofs.Common.{◌≡◌, pos, false, [], ◌∷◌, map, Some, None, refl}
use Rattle.std.specs.Prelude.{codes}
use Rattle.river_plan.specs.Forms.{Name}
use Rattle.streamit_text.specs.Tree.{Number, Name as Named, Peek, Pop, Block, End, Then, Unwritten, Written}
use Rattle.streamit_text.specs.Tree as source
use Rattle.streamit_text.specs.Program.{FilterTree, Program, AFilter, ASplitJoin, Turns}
use Rattle.streamit_model.specs.Meaning.{nought}
use Rattle.streamit_model.specs.Words.{Begins, Declares, Knows, Leaves, Uses, Fixes, Pops, Peeks, Bounds, Loops, Enters, Exits, Pushes, Otherwise, Joins}
use Rattle.streamit_model.specs.Words.{popped_in, pushed_in}
use Rattle.streamit_model.specs.Text.{all_read}
use Rattle.streamit_model.specs.Places.{Names, Reads, Rated, Counts, Branch, Added, Weighs, Finishes, places_of}

i_name : Name
i_name = codes "i"

x_name : Name
x_name = codes "x"

-- for (int i = 0; i < 2; i++) { push(peek(i)); }
loop : Block
unfolding i_name
loop = Then (source.For i_name (Number 0) false (Number 2) (Then (source.Push (Peek (Named i_name))) End)) End

loop_read : all_read loop nought
    ≡ Loops i_name ∷ Bounds (pos 0) ∷ Bounds (pos 2)
    ∷ Begins ∷ Enters i_name ∷ Begins ∷ Fixes i_name ∷ Peeks (pos 0) ∷ Pushes ∷ Exits i_name
    ∷ Begins ∷ Enters i_name ∷ Begins ∷ Fixes i_name ∷ Peeks (pos 1) ∷ Pushes ∷ Exits i_name ∷ []
unfolding loop i_name
loop_read = refl

-- if (peek(0)) { push(pop()); } else { int x = pop(); push(x); }
fork : Block
fork = Then (source.If (Peek (Number 0)) (Then (source.Push Pop) End)
    (Written (Then (source.Declare x_name (Some Pop)) (Then (source.Push (Named x_name)) End)))) End

fork_read : all_read fork nought
    ≡ Begins ∷ Peeks (pos 0) ∷ Begins ∷ Pops ∷ Pushes
    ∷ Otherwise 1 1 ∷ Begins ∷ Declares x_name ∷ Pops ∷ Knows x_name ∷ Begins ∷ Uses x_name ∷ Pushes ∷ Leaves x_name
    ∷ Joins 1 1 1 1 ∷ []
unfolding fork
fork_read = refl

-- before the `pop` of the second arm no pop runs, and behind the `if` one does
second_pops : popped_in (Begins ∷ Peeks (pos 0) ∷ Begins ∷ Pops ∷ Pushes ∷ Otherwise 1 1 ∷ Begins ∷ Declares x_name ∷ []) ≡ 0
second_pops = refl

behind_pops : popped_in (all_read fork nought) ≡ 1
unfolding fork
behind_pops = refl

behind_pushes : pushed_in (all_read fork nought) ≡ 1
unfolding fork
behind_pushes = refl

-- three weights for two branches
id_tree : FilterTree
id_tree = record {
  fields = [];
  init = Unwritten;
  prework = None;
  work =
      record { push = Some 1; pop = Some 1; peek = None; block = Then (source.Push Pop) End };
}

both : Program
both =
    record { name = codes "Id"; body = AFilter id_tree }
    ∷ record { name = codes "Both"; body = ASplitJoin (Turns (Some (1 ∷ 2 ∷ 3 ∷ []))) (record { first = codes "Id"; others = codes "Id" ∷ [] }) None }
    ∷ []

both_units : map (λ p. p.unit) (places_of both) ≡ 1 ∷ 1 ∷ 1 ∷ 1 ∷ 1 ∷ 1 ∷ 1 ∷ 2 ∷ 2 ∷ 2 ∷ 2 ∷ 2 ∷ 2 ∷ 2 ∷ 2 ∷ []
unfolding both id_tree
both_units = refl

both_spots : map (λ p. p.spot) (places_of both)
    ≡ Names (codes "Id") ∷ Rated 1 1 1 1 ∷ Reads 1 [] Begins ∷ Reads 1 (Begins ∷ []) Pops ∷ Reads 1 (Begins ∷ Pops ∷ []) Pushes ∷ Counts 1 1 ∷ Counts 1 1
    ∷ Names (codes "Both") ∷ Weighs (Some (1 ∷ 2 ∷ 3 ∷ [])) 2 ∷ Branch 0 ∷ Added (codes "Id") ∷ Branch 1 ∷ Added (codes "Id") ∷ Weighs None 2 ∷ Finishes ∷ []
unfolding both id_tree
both_spots = refl
