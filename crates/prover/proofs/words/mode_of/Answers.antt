use Rattle.std.proofs.Common.{List, ℕ, MatchOption, codes, sym, subst}
use Rattle.std.specs.Prelude.{string_bytes}
use Rattle.prover.specs.Modes.{IsUsage, IsMode}
use Rattle.prover.proofs.WordLists.{front, at_none}
use Rattle.prover.proofs.ModeLaws.{no_options, no_same_options, match_check}
use Rattle.prover.proofs.words.mode_of.Goals as goal

pub returns-in_err-options-in-prove : goal.returns-in_err-options-in-prove
returns-in_err-options-in-prove c =
    at_none _ _ c.from_residual.result c.from_residual.ensures
    (no_options _ _
    (front string_bytes c.args.words.now c.mode-item.result c.as_str.result.now (codes "prove") c.in-len1-up.len_at_least
    c.mode-item.is c.as_str.ensures.value c.in-prove.is) c.in_err-options-in-prove.ensures)

pub returns-in-sample : goal.returns-in-sample
returns-in-sample c =
    subst (λ (ws : List (List ℕ)). MatchOption c.sample.result (IsUsage ws) (IsMode ws))
    (sym
    (front string_bytes c.args.words.now c.mode-item.result c.as_str.result.now (codes "sample") c.in-len1-up.len_at_least
    c.mode-item.is c.as_str.ensures.value c.in-sample.is)) c.sample.ensures

pub returns-in_err-options-in-same : goal.returns-in_err-options-in-same
returns-in_err-options-in-same c =
    at_none _ _ c.from_residual-in_err-options-in-same.result c.from_residual-in_err-options-in-same.ensures
    (no_same_options _ _
    (front string_bytes c.args.words.now c.mode-item.result c.as_str.result.now (codes "same") c.in-len1-up.len_at_least
    c.mode-item.is c.as_str.ensures.value c.in-same.is) c.in_err-options-in-same.ensures)

pub returns-in-check : goal.returns-in-check
returns-in-check c =
    match_check _ _ c.alone.result
    (front string_bytes c.args.words.now c.mode-item.result c.as_str.result.now (codes "check") c.in-len1-up.len_at_least
    c.mode-item.is c.as_str.ensures.value c.in-check.is) c.alone.ensures
