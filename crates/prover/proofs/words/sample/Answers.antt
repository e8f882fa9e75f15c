use Rattle.std.proofs.Common.{◌∷◌, List, ℕ, codes, refl, ap}
use Rattle.std.specs.Prelude.{string_bytes}
use Rattle.prover.proofs.WordLists.{front, at_none}
use Rattle.prover.proofs.ModeLaws.{sample_without, sample_contracted}
use Rattle.prover.proofs.words.sample.Goals as goal

pub returns-in_err-options : goal.returns-in_err-options
returns-in_err-options c =
    at_none _ _ c.from_residual-in_err-options.result c.from_residual-in_err-options.ensures
    (sample_without _ _ c.as_str.result.now
    (ap (λ (ws : List (List ℕ)). codes "sample" ∷ ws)
    (front string_bytes c.args.words.now c.word-item.result c.as_str.result.now _ c.in-len1-up.len_at_least c.word-item.is
    c.as_str.ensures.value refl)) c.in_err-options.ensures)

pub returns-in_err-options-2 : goal.returns-in_err-options-2
returns-in_err-options-2 c =
    at_none _ _ c.from_residual-in_err-options-2.result c.from_residual-in_err-options-2.ensures
    (sample_contracted _ _ c.as_str.result.now
    (ap (λ (ws : List (List ℕ)). codes "sample" ∷ ws)
    (front string_bytes c.args.words.now c.word-item.result c.as_str.result.now _ c.in-len1-up.len_at_least c.word-item.is
    c.as_str.ensures.value refl)) c.in_ok-options.field-0 c.in_ok-options.ensures c.in_err-options-2.ensures)
