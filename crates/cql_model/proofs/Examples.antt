-- Worked cases, by hand.
use Rattle.std.proofs.Common.{◌≡◌, ℕ, ℤ, pos, Some, None, List, [], ◌∷◌, refl, map}
use Rattle.std.specs.Prelude.{codes}
use Rattle.cql_model.specs.Numeral.{numeral}
use Rattle.river_base.specs.Instants.{Timed}
use Rattle.river_plan.specs.declared.plan.Decl.{Decl}
use Rattle.river_plan.specs.Forms.{Name, OpForm}
use Rattle.cql_text.specs.declared.operator.Operator.TheVariants as o
use Rattle.cql_text.specs.declared.tree.Kind.TheVariants.{Istream, Dstream, Rstream}
use Rattle.cql_text.specs.Tree.{Number, Field, Bin, Now, Range, Latest, Column, Star, Chosen, Register, AQuery, Program}
use Rattle.cql_model.specs.Meaning.{answers}
use Rattle.cql_model.specs.Plan.{plan_of}

abbrev with_vars : OpForm → Name × List Name × List Name × List Name
with_vars o = (o.label, o.reads, o.writes, o.vars)

abbrev queues_of : OpForm → Name × List Name × List Name
queues_of o = (o.label, o.reads, o.writes)

abbrev row : ℕ → List ℤ
row n = pos n ∷ []

abbrev entry : ℕ → ℕ → ℤ × List ℤ
entry t n = (pos t, row n)

abbrev s_of_a : Program → Program
s_of_a ps = Register (codes "S") (codes "a" ∷ []) ∷ ps

abbrev column : Name → Column
column f = record { value = Field f; alias = None }

abbrev all_at : List ℤ → Program → List (List (ℤ × List ℤ)) → List (List (List (List ℤ)))
all_at ts p files = map (λ (s : Timed). map s ts) (answers ts [] p files)

-- Select Istream(a) From S [Range 2]
istream_range : Program
istream_range =
    s_of_a (AQuery (record {
      name = codes "q";
      kind = Istream;
      columns = Chosen (column (codes "a") ∷ []);
      items =
          record { stream = codes "S"; window = Range 2 None; alias = None } ∷ [];
      condition = None;
    }) ∷ [])

abbrev s_file : List (ℤ × List ℤ)
s_file = entry 1 10 ∷ entry 2 20 ∷ entry 4 10 ∷ []

range_case : all_at (pos 1 ∷ pos 2 ∷ pos 4 ∷ []) istream_range (s_file ∷ []) ≡ ((row 10 ∷ []) ∷ (row 20 ∷ []) ∷ [] ∷ []) ∷ []
unfolding istream_range
range_case = refl

-- Select Istream(a) From S [Range 2] Where a > 15
where_range : Program
where_range =
    s_of_a (AQuery (record {
      name = codes "q";
      kind = Istream;
      columns = Chosen (column (codes "a") ∷ []);
      items =
          record { stream = codes "S"; window = Range 2 None; alias = None } ∷ [];
      condition = Some (Bin o.Greater (Field (codes "a")) (Number 15));
    }) ∷ [])

where_case : all_at (pos 1 ∷ pos 2 ∷ pos 4 ∷ []) where_range (s_file ∷ []) ≡ ([] ∷ (row 20 ∷ []) ∷ [] ∷ []) ∷ []
unfolding where_range
where_case = refl

where_queues : map (λ (d : Decl). d.name) (plan_of where_range).queues ≡ codes "q@w1" ∷ codes "q@s" ∷ codes "q@p" ∷ []
unfolding where_range numeral
where_queues = refl

where_ops : map with_vars (plan_of where_range).ops ≡
    (codes "q@w1", codes "S" ∷ [], codes "q@w1" ∷ [], codes "q@w1" ∷ [])
    ∷ (codes "q@s", codes "q@w1" ∷ [], codes "q@s" ∷ [], [])
    ∷ (codes "q@p", codes "q@s" ∷ [], codes "q@p" ∷ [], [])
    ∷ (codes "q@i", codes "q@p" ∷ [], codes "q" ∷ [], codes "q@i" ∷ []) ∷ []
unfolding where_range numeral
where_ops = refl

-- Select Rstream(a) From S [Rows 1], on two rows of one instant
last_row : Program
last_row =
    s_of_a (AQuery (record {
      name = codes "q";
      kind = Rstream;
      columns = Chosen (column (codes "a") ∷ []);
      items =
          record { stream = codes "S"; window = Latest 1; alias = None } ∷ [];
      condition = None;
    }) ∷ [])

last_case : all_at (pos 5 ∷ []) last_row ((entry 5 1 ∷ entry 5 2 ∷ []) ∷ []) ≡ ((row 2 ∷ []) ∷ []) ∷ []
unfolding last_row
last_case = refl

-- Select Rstream(*) From S [Now] x, S [Now] y
pairs_of_s : Program
pairs_of_s =
    s_of_a (AQuery (record {
      name = codes "q";
      kind = Rstream;
      columns = Star;
      items =
          record { stream = codes "S"; window = Now; alias = Some (codes "x") } ∷ record {
            stream = codes "S";
            window = Now;
            alias =
                Some (codes "y");
          } ∷ [];
      condition = None;
    }) ∷ [])

abbrev two : ℕ → ℕ → List ℤ
two a b = pos a ∷ pos b ∷ []

pairs_case : all_at (pos 1 ∷ []) pairs_of_s ((entry 1 10 ∷ entry 1 20 ∷ []) ∷ []) ≡ ((two 10 10 ∷ two 10 20 ∷ two 20 10 ∷ two 20 20 ∷ []) ∷ []) ∷ []
unfolding pairs_of_s
pairs_case = refl

pairs_ops : map queues_of (plan_of pairs_of_s).ops ≡
    (codes "S@d", codes "S" ∷ [], codes "S@1" ∷ codes "S@2" ∷ [])
    ∷ (codes "q@w1", codes "S@1" ∷ [], codes "q@w1" ∷ [])
    ∷ (codes "q@w2", codes "S@2" ∷ [], codes "q@w2" ∷ [])
    ∷ (codes "q@x2", codes "q@w1" ∷ codes "q@w2" ∷ [], codes "q@x2" ∷ [])
    ∷ (codes "q@i", codes "q@x2" ∷ [], codes "q" ∷ []) ∷ []
unfolding pairs_of_s numeral
pairs_ops = refl

-- Select Dstream(a) From S [Now], with another stream's instant between
went : Program
went =
    s_of_a (Register (codes "T") (codes "b" ∷ []) ∷ AQuery
    (record {
      name = codes "q";
      kind = Dstream;
      columns = Chosen (column (codes "a") ∷ []);
      items =
          record { stream = codes "S"; window = Now; alias = None } ∷ [];
      condition = None;
    }) ∷ [])

went_case : all_at (pos 1 ∷ pos 2 ∷ pos 3 ∷ []) went ((entry 1 10 ∷ entry 3 30 ∷ []) ∷ (entry 2 5 ∷ []) ∷ []) ≡ ([] ∷ (row 10 ∷ []) ∷ [] ∷ []) ∷ []
unfolding went
went_case = refl

-- Query p: Select Istream(a) From S [Rows 1]; Query r: Select Rstream(a) From p [Now]
chained : Program
chained = s_of_a (
    AQuery (record {
      name = codes "p";
      kind = Istream;
      columns = Chosen (column (codes "a") ∷ []);
      items =
          record { stream = codes "S"; window = Latest 1; alias = None } ∷ [];
      condition = None;
    })
    ∷ AQuery (record {
      name = codes "r";
      kind = Rstream;
      columns = Chosen (column (codes "a") ∷ []);
      items =
          record { stream = codes "p"; window = Now; alias = None } ∷ [];
      condition = None;
    }) ∷ [])

chained_case : all_at (pos 5 ∷ pos 6 ∷ []) chained ((entry 5 2 ∷ entry 5 1 ∷ entry 6 1 ∷ []) ∷ []) ≡ ((row 1 ∷ []) ∷ [] ∷ []) ∷ ((row 1 ∷ []) ∷ [] ∷ []) ∷ []
unfolding chained
chained_case = refl

chained_ops : map queues_of (plan_of chained).ops ≡
    (codes "p@w1", codes "S" ∷ [], codes "p@w1" ∷ [])
    ∷ (codes "p@p", codes "p@w1" ∷ [], codes "p@p" ∷ [])
    ∷ (codes "p@i", codes "p@p" ∷ [], codes "p@o" ∷ [])
    ∷ (codes "p@d", codes "p@o" ∷ [], codes "p" ∷ codes "p@1" ∷ [])
    ∷ (codes "r@w1", codes "p@1" ∷ [], codes "r@w1" ∷ [])
    ∷ (codes "r@p", codes "r@w1" ∷ [], codes "r@p" ∷ [])
    ∷ (codes "r@i", codes "r@p" ∷ [], codes "r" ∷ []) ∷ []
unfolding chained numeral
chained_ops = refl

chained_queues : map (λ (d : Decl). d.name) (plan_of chained).queues ≡ codes "p@w1" ∷ codes "p@p" ∷ codes "p@o" ∷ codes "p@1" ∷ codes "r@w1" ∷ codes "r@p" ∷ []
unfolding chained numeral
chained_queues = refl
