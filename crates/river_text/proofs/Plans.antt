-- The reading of River text is exact.
use Rattle.std.proofs.Common.{◌≡◌, ℕ, List, [], ◌∷◌, ◌++◌, true, false, Some, refl, sym, ap, ◌∙◌, subst, inl, inr, append_assoc, append-nil}
use Rattle.std.specs.Prelude.{codes, map}
use Rattle.std.specs.Str.{bytes_eq}
use Rattle.text_tokens.specs.Tok.{Tok}
use Rattle.text_tokens.specs.declared.sign.Symbol.TheVariants as s
use Rattle.river_base.specs.Name.{is_name}
use Rattle.river_base.specs.declared.kind.FlatType.TheVariants.{Rows, Stream, Relation}
use Rattle.river_base.specs.declared.kind.QueueType.TheVariants.{Flat, Pack}
use Rattle.kern_tables.specs.declared.kind.TableKind.TheVariants.{Sum, Collection}
use Rattle.text_forms.specs.Parse as parse
use Rattle.text_forms.specs.Parse.{short_name_at, short_var_at}
use Rattle.text_forms.specs.Forms as form
use Rattle.text_forms.proofs.Exact.{Exact, Any, exact-as, exact-less, exact-both, exact-after, exact-before, exact-tested, exact-seen, exact-merged, exact-name}
use Rattle.text_forms.proofs.Exact.{exact-var, exact-number, exact-maybe, exact-after_word}
use Rattle.std.proofs.lemmas.List.{map-append}
use Rattle.std.proofs.lemmas.Option.{same_Some}
use Rattle.text_forms.proofs.Choices.{exact-never, exact-choose, exact-headed, exact-known, exact-listing}
use Rattle.river_text.specs.Plans.{IsName, IsVar, brackets, FlatAfter, IsFlatType, IsType, made_decl, IsDecl, made_maximum, made_table, IsTable, Port, queue}
use Rattle.river_text.specs.Plans.{variable, IsPort, IsPorts, Ports, same_vars, made_op, IsOp, output, input, inner, table, private, operator, IsUnit, may_stand, as_header}
use Rattle.river_text.specs.Plans.{made_queue, IsCapped, IsQueue, is_two, IsHeader}
use Rattle.text_blocks.specs.Parts.{Round}
use Rattle.river_text.specs.declared.entry.Place.{Place}
use Rattle.river_text.specs.Plans.{IsUnitAt}
use Rattle.river_text.specs.ReadPlans.{flat_after, flat_at, packed_at, type_after, type_at, decl_at, cap_at, queue_at, header_at, kind_after, kind_at, table_at}
use Rattle.river_text.specs.ReadPlans.{is_var_at, port_at, split_from, port_list_at, ports_at, op_at, private_at, other_after, unit_after, unit_at, unit_from}
use Rattle.river_text.proofs.Kernels.{exact-counted, exact-pair, exact-round, exact-braced}
use Rattle.river_text.proofs.Regroup.{op-same}

-- names and variables of at most 64 bytes
pub exact-short_name : Exact IsName short_name_at Any
unfolding short_name_at
exact-short_name = exact-tested is_name exact-name

-- the reader of a short variable reads exactly what one is
pub exact-short_var : Exact IsVar short_var_at Any
unfolding short_var_at
exact-short_var = exact-tested is_name exact-var

exact-flat_after : (n : ℕ) (w : List ℕ) → Exact (FlatAfter n w) (flat_after n w) Any
unfolding flat_after
exact-flat_after n w =
    exact-choose (bytes_eq w (codes "rows")) (exact-seen Rows (exact-counted n))
    (exact-choose (bytes_eq w (codes "stream")) (exact-seen Stream (exact-counted n))
    (exact-choose (bytes_eq w (codes "relation")) (exact-seen Relation (exact-counted n)) exact-never))

exact-flat : (n : ℕ) → Exact (IsFlatType n) (flat_at n) Any
unfolding flat_at
exact-flat n = exact-headed (exact-flat_after n)

exact-type : Exact IsType type_at Any
unfolding type_at type_after packed_at
exact-type =
    exact-headed (λ w. exact-choose (bytes_eq w (codes "pack")) (exact-seen Pack (exact-round exact-flat (λ rest. tt) brackets))
    (exact-seen Flat (exact-flat_after brackets w)))

exact-decl : Exact IsDecl decl_at Any
unfolding decl_at
exact-decl =
    exact-seen made_decl (exact-both exact-short_name (exact-after (s.Colon ∷ []) (exact-before (s.Semicolon ∷ []) exact-type (λ rest. tt)))
    (λ y ts rest g d. tt))

-- a capacity does not come next
abbrev NoCap : List Tok → Type 0
NoCap rest = parse.is_word_at (codes "cap") rest ≡ false

exact-cap : Exact IsCapped cap_at NoCap
unfolding cap_at
exact-cap =
    exact-less (exact-maybe (parse.is_word_at (codes "cap")) (exact-after_word (codes "cap") (exact-counted brackets)) comes) (λ rest d. (tt, d))
  where
    comes : (v : ℕ) (ts rest : List Tok) → form.AfterWord (codes "cap") (Round (λ m. form.Count) brackets) v ts
        → parse.is_word_at (codes "cap") (ts ++ rest) ≡ true
    comes v ts rest h = rw h.is refl

exact-queue : Exact IsQueue queue_at Any
unfolding queue_at
exact-queue =
    exact-seen made_queue (exact-both exact-short_name
    (exact-after (s.Colon ∷ []) (exact-before (s.Semicolon ∷ []) (exact-both exact-type exact-cap (λ y ts rest g d. tt)) (λ rest. refl)))
    (λ y ts rest g d. tt))

exact-header : Exact IsHeader header_at Any
unfolding header_at
exact-header = exact-before (s.Semicolon ∷ []) (exact-tested is_two exact-number) (λ rest. tt)

exact-table : Exact IsTable table_at Any
unfolding table_at kind_at kind_after
exact-table =
    exact-seen made_table (exact-both exact-short_var (exact-after (s.Colon ∷ []) (exact-before (s.Semicolon ∷ []) (exact-headed (λ w.
    exact-choose (bytes_eq w (codes "sum")) (exact-seen Sum (exact-counted brackets))
    (exact-choose (bytes_eq w (codes "collection")) (exact-seen Collection (exact-counted brackets))
    (exact-choose (bytes_eq w (codes "maximum")) (exact-seen made_maximum (exact-pair brackets)) exact-never)))) (λ rest. tt))) (λ y ts rest g d. tt))

-- a queue or a variable
pub exact-port : Exact IsPort port_at Any
unfolding port_at
exact-port = exact-less (exact-merged is_var_at (exact-seen variable exact-short_var) (exact-seen queue exact-short_name) left right) (λ rest d. (tt, tt)) where
  left : (v : Port) (ts rest : List Tok) → form.Seen variable IsVar v ts → Any rest → is_var_at (ts ++ rest) ≡ true
  left v ts rest h d = rw h.formed.formed refl

  right : (v : Port) (ts rest : List Tok) → form.Seen queue IsName v ts → Any rest → is_var_at (ts ++ rest) ≡ false
  right v ts rest h d = rw h.formed.formed refl

port-begins : (v : Port) (ts rest : List Tok) → IsPort v ts → parse.begins_with s.Close (ts ++ rest) ≡ false
port-begins v ts rest (inl h) = rw h.formed.formed refl
port-begins v ts rest (inr h) = rw h.formed.formed refl

-- queues and then variables, taken apart; os and vs are those so far
split-made : (os vs qs ws : List (List ℕ)) → split_from os vs (map variable ws) ≡ Some (os, vs ++ ws)
unfolding split_from
split-made os vs qs [] = ap (λ (l : List (List ℕ)). Some (os, l)) (sym (append-nil vs))
split-made os [] qs (w ∷ ws) = split-made os (w ∷ []) qs ws
split-made os (v ∷ vs) qs (w ∷ ws) = split-made os (v ∷ vs ++ w ∷ []) qs ws ∙ ap (λ (l : List (List ℕ)). Some (os, l)) (append_assoc (v ∷ vs) (w ∷ []) ws)

split-all : (os qs ws : List (List ℕ)) → split_from os [] (map queue qs ++ map variable ws) ≡ Some (os ++ qs, ws)
unfolding split_from
split-all os [] ws = split-made os [] [] ws ∙ ap (λ (l : List (List ℕ)). Some (l, ws)) (sym (append-nil os))
split-all os (q ∷ qs) ws = split-all (os ++ q ∷ []) qs ws ∙ ap (λ (l : List (List ℕ)). Some (l, ws)) (append_assoc os (q ∷ []) qs)

-- what was taken apart
split-is : (os vs : List (List ℕ)) (ps : List Port) (v : Ports) → split_from os vs ps ≡ Some v
    → map queue os ++ (map variable vs ++ ps) ≡ map queue v.0 ++ map variable v.1
unfolding split_from
split-is os vs [] v e =
    let same : (os, vs) ≡ v = same_Some _ _ e in
    ap (λ (l : List Port). map queue os ++ l) (append-nil (map variable vs)) ∙ ap (λ (w : Ports). map queue w.0 ++ map variable w.1) same
split-is os [] (queue q ∷ ps) v e =
    sym (ap (λ (l : List Port). l ++ ps) (map-append queue os (q ∷ [])) ∙ append_assoc (map queue os) (queue q ∷ []) ps) ∙ split-is (os ++ q ∷ []) [] ps v e
split-is os (w ∷ vs) (queue q ∷ ps) v e = cc
split-is os [] (variable w ∷ ps) v e = split-is os (w ∷ []) ps v e
split-is os (x ∷ vs) (variable w ∷ ps) v e =
    ap (λ (l : List Port). map queue os ++ l)
    (sym (ap (λ (l : List Port). l ++ ps) (map-append variable (x ∷ vs) (w ∷ [])) ∙ append_assoc (map variable (x ∷ vs)) (variable w ∷ []) ps))
    ∙ split-is os (x ∷ vs ++ w ∷ []) ps v e

AtClose : List Tok → Type 0
AtClose rest = (parse.begins_with s.Close rest ≡ true) × (Any rest × (parse.no_comma rest ≡ true))

exact-port_list : Exact (form.Listing IsPort) port_list_at AtClose
unfolding port_list_at AtClose
exact-port_list = exact-listing s.Close exact-port (λ rest. tt) port-begins

exact-ports_inside : Exact IsPorts (parse.known (split_from [] []) port_list_at) AtClose
exact-ports_inside = exact-as (exact-known (split_from [] []) exact-port_list) to from (λ ts. refl) where
  to : (v : Ports) (ts : List Tok) → form.Known (split_from [] []) (form.Listing IsPort) v ts → IsPorts v ts
  to v ts h = subst (λ (l : List Port). form.Listing IsPort l ts) (split-is [] [] h.value v h.is) h.formed

  from : (v : Ports) (ts : List Tok) → IsPorts v ts → form.Known (split_from [] []) (form.Listing IsPort) v ts
  from v ts h = record { value = map queue v.0 ++ map variable v.1; is = split-all [] v.0 v.1; formed = h }

-- queues and then variables, in brackets
pub exact-ports : Exact (form.Enclosed s.Open s.Close (λ m. IsPorts) brackets) ports_at Any
unfolding ports_at AtClose
exact-ports = exact-round (λ m. exact-ports_inside) (λ rest. (refl, (tt, refl))) brackets

exact-op : Exact IsOp op_at Any
exact-op =
    exact-as (exact-seen made_op (exact-tested same_vars (exact-both exact-short_name (exact-after (s.Colon ∷ []) (exact-both exact-ports
    (exact-after (s.Less ∷ s.Minus ∷ []) (exact-both exact-ports (exact-braced brackets) (λ y ts rest g d. tt))) (λ y ts rest g d. tt)))
    (λ y ts rest g d. tt))))
    (λ v ts h. h) (λ v ts h. h) op-same

exact-private : Exact (form.Before IsVar (s.Semicolon ∷ [])) private_at Any
unfolding private_at
exact-private = exact-before (s.Semicolon ∷ []) exact-short_var (λ rest. tt)

pub exact-unit : Exact IsUnit unit_at Any
unfolding unit_at unit_after other_after
exact-unit =
    exact-headed (λ w. exact-choose (bytes_eq w (codes "output")) (exact-seen output exact-decl)
    (exact-choose (bytes_eq w (codes "input")) (exact-seen input exact-decl)
    (exact-choose (bytes_eq w (codes "queue")) (exact-seen inner exact-queue)
    (exact-choose (bytes_eq w (codes "table")) (exact-seen table exact-table)
    (exact-choose (bytes_eq w (codes "var")) (exact-seen private exact-private)
    (exact-choose (bytes_eq w (codes "op")) (exact-seen operator exact-op)
    (exact-choose (bytes_eq w (codes "river")) (exact-seen as_header exact-header) exact-never)))))))

-- a unit that may stand there
pub exact-unit_from : (at : Place) → Exact (IsUnitAt at) (unit_from at) Any
exact-unit_from at = exact-tested (may_stand at) exact-unit
