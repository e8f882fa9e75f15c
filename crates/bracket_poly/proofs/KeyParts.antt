-- Keys by their parts.
use Rattle.std.specs.Prelude.{◌≡◌, ℕ, List, ◌++◌, Option, Some, None}
use Rattle.std.proofs.Common.{sym, ◌∙◌}
use Rattle.coordinate_model.specs.Key.{Key, row_cmp, key_times, add_exponents}
use Rattle.bracket_terms.proofs.ExponentLaws.{add_exponents-nothing}
use Rattle.coordinate_model.specs.Starts.{row_key}
use Rattle.coordinate_model.specs.Words.{ordered}

pub same_parts : (k l : Key) → k.exponents ≡ l.exponents → k.rows ≡ l.rows → k ≡ l
same_parts k l e f = λ j. record { exponents = e j; rows = f j }

-- a tableau with another row or none, as its key is
pub times_rows : (params : List ℕ) (rows : List (List ℕ)) (k l : Key) (row : Option (List ℕ))
    → params ≡ add_exponents k.exponents l.exponents
    → rows ≡ ordered row_cmp (ordered row_cmp (k.rows ++ l.rows) ++ (row_key row).rows)
    → record { exponents = params; rows = rows } ≡ key_times (key_times k l) (row_key row)
times_rows params rows k l row e f =
    same_parts _ (key_times (key_times k l) (row_key row)) (e ∙ exponents row) f
  where
    exponents : (row : Option (List ℕ)) → add_exponents k.exponents l.exponents
        ≡ add_exponents (add_exponents k.exponents l.exponents) (row_key row).exponents
    exponents None = sym (add_exponents-nothing (add_exponents k.exponents l.exponents))
    exponents (Some r) = sym (add_exponents-nothing (add_exponents k.exponents l.exponents))
