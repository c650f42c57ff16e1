-- The worked programs, computed from the definitions.
use Rattle.std.proofs.Common.{◌≡◌, ℕ, pos, negsuc, true, false, [], ◌∷◌, None, Err, refl, Some}
use Rattle.std.specs.Prelude.{codes}
use Rattle.std.specs.Int.{int_wrap}
use Rattle.work_code.specs.declared.expr.BinOp.TheVariants as op
use Rattle.river_plan.specs.Forms.{Name}
use Rattle.streamit_text.specs.Tree.{Expression, Number, Name as Named, Peek, Pop, Neg, Bin, Statement, Block, End, Unwritten, Written}
use Rattle.streamit_text.specs.Tree as source
use Rattle.streamit_model.specs.declared.fault.Fault.TheVariants.{UnknownName, Rates, PeekRange, NotConstant, BranchRates, Limit, Weights}
use Rattle.streamit_text.specs.Program.{FilterTree, Program, AFilter, ASplitJoin, Turns}
use Rattle.streamit_model.specs.Meaning.{pushed_by, program_outputs}
use Rattle.streamit_model.specs.ElaborateFilter.{elaborated}
use Rattle.streamit_model.specs.Judged.{judged}

abbrev then_do : Statement → Block → Block
then_do s b = source.Then s b

abbrev n : ℕ → Expression
n k = Number k

-- sums of three in a row
sum_tree : FilterTree
sum_tree =
    record {
      fields = [];
      init = Unwritten;
      prework = None;
      work =
          record {
            push = Some 1;
            pop = Some 1;
            peek = Some 3;
            block =
                then_do (source.Push (Bin op.Add (Bin op.Add (Peek (n 0)) (Peek (n 1))) (Peek (n 2)))) (then_do source.Discard End);
          };
    }

sums : pushed_by sum_tree (pos 1 ∷ pos 2 ∷ pos 3 ∷ pos 4 ∷ []) ≡ pos 6 ∷ pos 9 ∷ []
unfolding sum_tree int_wrap
sums = refl

sums_short : pushed_by sum_tree (pos 1 ∷ pos 2 ∷ []) ≡ []
unfolding sum_tree int_wrap
sums_short = refl

-- a split-join of two filters
id_tree : FilterTree
id_tree = record {
  fields = [];
  init = Unwritten;
  prework = None;
  work =
      record { push = Some 1; pop = Some 1; peek = Some 1; block = then_do (source.Push Pop) End };
}

both : Program
both =
    (record { name = codes "Id"; body = AFilter id_tree }) ∷
    (record {
      name = codes "Both";
      body =
          ASplitJoin (Turns (Some (1 ∷ 2 ∷ []))) (record { first = codes "Id"; others = codes "Id" ∷ [] }) (Some (1 ∷ 2 ∷ []));
    }) ∷ []

both_means : program_outputs both (pos 1 ∷ pos 2 ∷ pos 3 ∷ pos 4 ∷ pos 5 ∷ []) ≡ pos 1 ∷ pos 2 ∷ pos 3 ∷ pos 4 ∷ pos 5 ∷ []
unfolding both id_tree
both_means = refl

-- the ends of the values
ends_tree : FilterTree
ends_tree = record {
  fields = [];
  init = Unwritten;
  prework = None;
  work = record {
    push = Some 3;
    pop = Some 1;
    peek = Some 1;
    block = then_do (source.Push (Bin op.Mul (n 2) (n 9223372036854775807)))
        (then_do (source.Push (Bin op.Quot (n 7) (n 0)))
        (then_do (source.Push (Bin op.Quot (Bin op.Sub (Neg (n 9223372036854775807)) (n 1)) (Neg Pop))) End));
  };
}

ends_means : pushed_by ends_tree (pos 1 ∷ []) ≡ negsuc 1 ∷ pos 0 ∷ negsuc 9223372036854775807 ∷ []
unfolding ends_tree int_wrap
ends_means = refl

-- a filter with a field, `init`, a local and a loop: running sums of pairs, from 100 on
--   int->int filter Run { int total; init { for (int i = 0; i < 4; i++) { total = total + 25; } }
--     work push 1 pop 2 { int x; for (int i = 0; i <= 1; i++) { x = x + peek(i) * (i + 1); } pop(); pop(); total = total + x; push(total); } }
total_name : Name
total_name = codes "total"

x_name : Name
x_name = codes "x"

i_name : Name
i_name = codes "i"

run_tree : FilterTree
run_tree = record {
  fields = total_name ∷ [];
  init = Written (then_do (source.For i_name (n 0) false (n 4) (then_do (source.Assign total_name (Bin op.Add (Named total_name) (n 25))) End)) End);
  prework = None;
  work = record {
    push = Some 1;
    pop = Some 2;
    peek = None;
    block = then_do (source.Declare x_name None)
        (then_do (source.For i_name (n 0) true (n 1)
        (then_do (source.Assign x_name (Bin op.Add (Named x_name) (Bin op.Mul (Peek (Named i_name)) (Bin op.Add (Named i_name) (n 1))))) End))
        (then_do source.Discard (then_do source.Discard
        (then_do (source.Assign total_name (Bin op.Add (Named total_name) (Named x_name))) (then_do (source.Push (Named total_name)) End)))));
  };
}

run_means : pushed_by run_tree (pos 1 ∷ pos 2 ∷ pos 3 ∷ pos 4 ∷ pos 5 ∷ []) ≡ pos 105 ∷ pos 116 ∷ []
unfolding run_tree total_name x_name i_name int_wrap
run_means = refl

-- A FIRST FIRING

-- int->int filter Delay { prework push 1 { push(0); } work push 1 pop 1 { push(pop()); } }
delay_tree : FilterTree
delay_tree = record {
  fields = [];
  init = Unwritten;
  prework = Some (record { push = Some 1; pop = None; peek = None; block = then_do (source.Push (n 0)) End });
  work = record { push = Some 1; pop = Some 1; peek = None; block = then_do (source.Push Pop) End };
}

delays : pushed_by delay_tree (pos 5 ∷ pos 6 ∷ []) ≡ pos 0 ∷ pos 5 ∷ pos 6 ∷ []
unfolding delay_tree
delays = refl

delays_nothing : pushed_by delay_tree [] ≡ []
unfolding delay_tree
delays_nothing = refl

-- int->int filter Skip { prework pop 3 { pop(); pop(); pop(); } work push 1 pop 1 peek 2 { push(peek(1)); pop(); } }
skip_tree : FilterTree
skip_tree = record {
  fields = [];
  init = Unwritten;
  prework = Some (record { push = None; pop = Some 3; peek = None; block = then_do source.Discard (then_do source.Discard (then_do source.Discard End)) });
  work = record { push = Some 1; pop = Some 1; peek = Some 2; block = then_do (source.Push (Peek (n 1))) (then_do source.Discard End) };
}

skips : pushed_by skip_tree (pos 1 ∷ pos 2 ∷ pos 4 ∷ pos 8 ∷ pos 16 ∷ []) ≡ pos 16 ∷ []
unfolding skip_tree
skips = refl

skips_all : pushed_by skip_tree (pos 1 ∷ pos 2 ∷ []) ≡ []
unfolding skip_tree
skips_all = refl

-- REFUSALS

abbrev of_work : ℕ → ℕ → ℕ → Block → FilterTree
of_work u o e b = record { fields = []; init = Unwritten; prework = None; work = record { push = Some u; pop = Some o; peek = Some e; block = b } }

peek_range : elaborated (of_work 1 1 1 (then_do (source.Push (Peek (n 1))) (then_do source.Discard End))) ≡ Err (PeekRange (pos 1) 1)
peek_range = refl

not_constant : elaborated (of_work 1 1 1 (then_do (source.Push (Peek Pop)) End)) ≡ Err NotConstant
not_constant = refl

branch_rates : elaborated
    (of_work 1 1 1 (then_do (source.If (Peek (n 0)) (then_do (source.Push Pop) End) (Written (then_do source.Discard End))) End)) ≡ Err BranchRates
branch_rates = refl

unknown : elaborated (of_work 1 1 1 (then_do (source.Push (Named (codes "y"))) End)) ≡ Err UnknownName
unknown = refl

few_pops : elaborated (of_work 1 0 0 End) ≡ Err Limit
few_pops = refl

low_peek : elaborated (of_work 1 2 1 End) ≡ Err (Rates 1 2)
low_peek = refl

-- the pops are told before the pushes
other_rates : elaborated (of_work 2 1 1 (then_do (source.Push Pop) End)) ≡ Err (Rates 2 1)
other_rates = refl

other_pops : elaborated (of_work 2 1 1 (then_do (source.Push (n 7)) End)) ≡ Err (Rates 1 0)
other_pops = refl

-- a loop of 65,536 turns in one of 65,536 is refused when 16,384 turns were counted
loops_in_loops : elaborated
    (of_work 1 1 1 (then_do (source.For i_name (n 0) false (n 65536) (then_do (source.For x_name (n 0) false (n 65536) End) End)) End)) ≡ Err Limit
unfolding i_name x_name
loops_in_loops = refl

-- three weights for two branches, in the second unit
three_weights : judged
    ((record { name = codes "Id"; body = AFilter id_tree }) ∷
    (record {
      name = codes "Both";
      body =
          ASplitJoin (Turns (Some (1 ∷ 2 ∷ 3 ∷ []))) (record { first = codes "Id"; others = codes "Id" ∷ [] }) None;
    }) ∷ []) ≡ Err
    (record { unit = 2; fault = Weights })
unfolding id_tree
three_weights = refl
