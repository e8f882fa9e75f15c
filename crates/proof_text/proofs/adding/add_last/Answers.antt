use Rattle.std.proofs.Common.{ℤ, ap, sym, subst, ◌∙◌}
use mir.Syntax.{w128}
use Rattle.std.proofs.lemmas.Int.{to_z-of_z}
use Rattle.coordinate_model.specs.Key.{Key}
use Rattle.bracket_poly.specs.Answers.{IsErrorOf}
use Rattle.bracket_poly.specs.Tracked.{limit_at, plus_term}
use Rattle.proof_text.proofs.BehindSteps.{no_limit, met_last, only_memory, some_integer}
use Rattle.proof_text.proofs.BehindLaws.{term_last}
use Rattle.proof_text.proofs.adding.add_last.Goals as goal

pub unreachable-requires : goal.unreachable-requires
unreachable-requires g c =
    let p = c.args.terms.now.tracked in
    let t : Key × ℤ = (c.args.key, c.args.c) in
    let none = no_limit p t c.requires.behind c.requires.small c.requires.room c.requires.met in
    let wrong = subst (λ z. IsErrorOf c.in-Err-Coefficient.field-0 (limit_at p (c.args.key, z)))
    (to_z-of_z w128 c.args.c c.ranges.c) c.in-Err-Coefficient.ensures.answer in
    let memory = sym c.in-Err-Coefficient.field-0-is ∙ only_memory c.in-Err-Coefficient.field-0
    (limit_at p t) wrong none in
    absurd cc

pub returns-in-Ok-clause-met : goal.returns-in-Ok-clause-met
returns-in-Ok-clause-met g c =
    let p = c.args.terms.now.tracked in
    let small = to_z-of_z w128 c.args.c c.ranges.c in
    let new = c.in-Ok.ensures.added ∙ ap (λ z. plus_term p (c.args.key, z)) small in
    let last = term_last (c.args.key, c.args.c) p.sum (some_integer c.args.c c.requires.not_zero) c.requires.behind in
    rw new (met_last p (c.args.key, c.args.c) c.requires.behind c.requires.met last)
