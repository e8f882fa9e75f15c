-- The words of a key, put behind a line.
use Rattle.std.proofs.Common.{◌≡◌, ◌≢◌, ℕ, List, [], ◌∷◌, ◌++◌, length, sym, ap, ◌∙◌, append_assoc, append-nil}
use Rattle.std.proofs.lemmas.Grind.{flat_map-append}
use Rattle.proof_text.specs.Keys.{some_or_one}
use Rattle.proof_text.specs.Lines.{behind_spaces}

-- where something was put, there are words
pub some_put : (line put : List ℕ) (powers rows : List (List ℕ))
    → put ≡ (line ++ behind_spaces powers) ++ behind_spaces rows → length put ≢ length line
    → put ≡ line ++ behind_spaces (some_or_one (powers ++ rows))
some_put line put powers rows is more = go (powers ++ rows) all
  where
    all : put ≡ line ++ behind_spaces (powers ++ rows)
    all =
        is ∙ append_assoc line (behind_spaces powers) (behind_spaces rows)
        ∙ ap (λ bs. line ++ bs) (sym (flat_map-append (λ word. 32 ∷ word) powers rows))

    go : (words : List (List ℕ)) → put ≡ line ++ behind_spaces words → put ≡ line ++ behind_spaces (some_or_one words)
    go [] e = absurd (more (ap (λ bs. length bs) (e ∙ append-nil line)))
    go (word ∷ words) e = e
