-- Names that users give.
use Rattle.std.specs.Prelude.{ℕ, Bool, not, ◌&&◌, ◌==◌, List}
use Rattle.std.specs.List.{list_all, list_any}
use Rattle.std.specs.Str.{bytes_eq}
use Rattle.text_forms.specs.Parse.{is_short}

-- at most 40 bytes, no @, and none of these words
abbrev pub is_free_name : List (List ℕ) → List ℕ → Bool
is_free_name words text = is_short 40 text && (list_all (λ c. not (c == 64)) text && not (list_any (λ word. bytes_eq text word) words))
