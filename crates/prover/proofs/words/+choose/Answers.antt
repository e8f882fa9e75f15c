use Rattle.std.proofs.Common.{◌∷◌, List, ℕ, codes, refl, ap, ◌∙◌}
use Rattle.std.specs.Prelude.{string_bytes}
use Rattle.prover.proofs.WordLists.{behind, front, no_words_left, at_none}
use Rattle.prover.proofs.Choices.{adds_contract, contract_twice, adds_turns, turns_twice, no_word, no_number, no_option}
use Rattle.prover.proofs.words.+choose.Goals as goal

pub returns-in_err-with_contraction-in-text : goal.returns-in_err-with_contraction-in-text
returns-in_err-with_contraction-in-text t c =
    at_none _ _ c.from_residual.result c.from_residual.ensures
    (contract_twice _ _ c.args.chosen
    (front string_bytes c.args.words.now c.option-item.result c.as_str.result.now (codes "--contract") c.in-len1-up.len_at_least
    c.option-item.is c.as_str.ensures.value c.in-text.is) c.in_err-with_contraction-in-text.ensures)

pub returns-in_default-rest : goal.returns-in_default-rest
returns-in_default-rest t c =
    no_word _ c.args.chosen
    (front string_bytes c.args.words.now c.option-item.result c.as_str.result.now (codes "--budget") c.in-len1-up.len_at_least
    c.option-item.is c.as_str.ensures.value c.in-text-2.is
    ∙ ap (λ (ws : List (List ℕ)). codes "--budget" ∷ ws) (no_words_left string_bytes (behind c.args.words.now) c.in_default-rest.len_below))

pub returns-in_err-number-in-text-2 : goal.returns-in_err-number-in-text-2
returns-in_err-number-in-text-2 t c =
    at_none _ _ c.from_residual-in_err-number-in-text-2.result c.from_residual-in_err-number-in-text-2.ensures
    (no_number _ _ c.as_str-in-text-2.result.now c.args.chosen
    (front string_bytes c.args.words.now c.option-item.result c.as_str.result.now (codes "--budget") c.in-len1-up.len_at_least
    c.option-item.is c.as_str.ensures.value c.in-text-2.is
    ∙ ap (λ (ws : List (List ℕ)). codes "--budget" ∷ ws)
    (front string_bytes (behind c.args.words.now) c.word-item.result c.as_str-in-text-2.result.now _ c.in-len1-up-rest.len_at_least
    c.word-item.is c.as_str-in-text-2.ensures.value refl)) c.in_err-number-in-text-2.ensures)

pub returns-in_err-with_turns-in-text-2 : goal.returns-in_err-with_turns-in-text-2
returns-in_err-with_turns-in-text-2 t c =
    at_none _ _ c.from_residual-in_err-with_turns-in-text-2.result c.from_residual-in_err-with_turns-in-text-2.ensures
    (turns_twice _ _ c.as_str-in-text-2.result.now c.args.chosen
    (front string_bytes c.args.words.now c.option-item.result c.as_str.result.now (codes "--budget") c.in-len1-up.len_at_least
    c.option-item.is c.as_str.ensures.value c.in-text-2.is
    ∙ ap (λ (ws : List (List ℕ)). codes "--budget" ∷ ws)
    (front string_bytes (behind c.args.words.now) c.word-item.result c.as_str-in-text-2.result.now _ c.in-len1-up-rest.len_at_least
    c.word-item.is c.as_str-in-text-2.ensures.value refl)) c.in_err-with_turns-in-text-2.ensures)

pub returns-in_ok-with_contraction-in-text : goal.returns-in_ok-with_contraction-in-text
returns-in_ok-with_contraction-in-text t c =
    adds_contract _ _ c.args.chosen c.in_ok-with_contraction-in-text.field-0 c.choose.result
    (front string_bytes c.args.words.now c.option-item.result c.as_str.result.now (codes "--contract") c.in-len1-up.len_at_least
    c.option-item.is c.as_str.ensures.value c.in-text.is) c.in_ok-with_contraction-in-text.ensures.0
    c.in_ok-with_contraction-in-text.ensures.1 c.choose.ensures

pub returns-in_ok-with_turns-in-text-2 : goal.returns-in_ok-with_turns-in-text-2
returns-in_ok-with_turns-in-text-2 t c =
    adds_turns _ _ c.as_str-in-text-2.result.now c.in_ok-number-in-text-2.number c.args.chosen
    c.in_ok-with_turns-in-text-2.field-0 c.choose-in-text-2.result
    (front string_bytes c.args.words.now c.option-item.result c.as_str.result.now (codes "--budget") c.in-len1-up.len_at_least
    c.option-item.is c.as_str.ensures.value c.in-text-2.is
    ∙ ap (λ (ws : List (List ℕ)). codes "--budget" ∷ ws)
    (front string_bytes (behind c.args.words.now) c.word-item.result c.as_str-in-text-2.result.now _ c.in-len1-up-rest.len_at_least
    c.word-item.is c.as_str-in-text-2.ensures.value refl)) c.in_ok-number-in-text-2.ensures
    c.in_ok-with_turns-in-text-2.ensures.0 c.in_ok-with_turns-in-text-2.ensures.1 c.choose-in-text-2.ensures

pub returns-in_default-as_str : goal.returns-in_default-as_str
returns-in_default-as_str t c =
    no_option _ _ c.as_str.result.now c.args.chosen
    (front string_bytes c.args.words.now c.option-item.result c.as_str.result.now _ c.in-len1-up.len_at_least c.option-item.is
    c.as_str.ensures.value refl) c.in_default-as_str.not-text c.in_default-as_str.not-text-2
