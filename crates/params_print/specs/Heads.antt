-- The names of instances, and the tokens before blocks and bodies.
use Rattle.std.specs.Prelude.{ℕ, Bool, List, [], ◌∷◌, ◌++◌, map, Option, codes}
use Rattle.text_tokens.specs.Tok.{Tok, name, symbol}
use Rattle.text_tokens.specs.declared.sign.Symbol.TheVariants as s
use Rattle.river_plan.specs.Forms.{Name}
use Rattle.streamit_text.specs.Tree.{Expression}
use Rattle.params_text.specs.Toks.{expr_toks, rate_toks}
use Rattle.params_text.specs.Toks as text
use Rattle.params_model.specs.Plain.{instance_name}
use Rattle.params_print.specs.declared.instance.Instance.{Instance}

-- NAMES OF INSTANCES

abbrev pub name_written : Instance → Name
name_written i = instance_name i.stream i.number

abbrev pub names_written : List Instance → List Name
names_written all = map name_written all

-- HEADS

-- before the body of a stream of this kind
abbrev pub opening_toks : List ℕ → Name → List Tok
opening_toks kind n = name (codes "int") ∷ symbol s.Arrow ∷ name (codes "int") ∷ name kind ∷ name n ∷ symbol s.OpenBrace ∷ []

-- before the arms of an `if`
abbrev pub if_toks : Expression → List Tok
if_toks t = name (codes "if") ∷ symbol s.Open ∷ (expr_toks t ++ symbol s.Close ∷ [])

-- before the block of a `for`
abbrev pub for_toks : List ℕ → Expression → Bool → Expression → List Tok
for_toks n low upto high =
    name (codes "for") ∷ symbol s.Open ∷ name (codes "int") ∷ name n ∷ (text.head_toks n low upto high ++ symbol s.Close ∷ [])

-- before the block of `work` or `prework`
abbrev pub all_rates : (push pop peek : Option ℕ) → List Tok
all_rates push pop peek = rate_toks (codes "push") push ++ (rate_toks (codes "pop") pop ++ rate_toks (codes "peek") peek)
