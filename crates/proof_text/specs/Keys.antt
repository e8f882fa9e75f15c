-- Keys as words of a line: terms without their integers.
use Rattle.std.specs.Prelude.{ℕ, List, [], ◌∷◌, ◌++◌, map, codes}
use Rattle.coordinate_model.specs.Key.{Key}
use Rattle.step_types.specs.declared.names.Names.{Names}
use Rattle.proof_text.specs.Terms.{power_texts, row_text}

-- the words, or `1` where there are none
abbrev pub some_or_one : List (List ℕ) → List (List ℕ)
some_or_one [] = codes "1" ∷ []
some_or_one (word ∷ words) = word ∷ words

-- the words of a key: its parameters and its rows, or `1` for the empty product
abbrev pub key_words : Names → Key → List (List ℕ)
key_words names k = some_or_one (power_texts names.params k.exponents ++ map (row_text names) k.rows)
