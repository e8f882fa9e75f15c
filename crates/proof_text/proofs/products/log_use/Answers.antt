use Rattle.std.proofs.Common.{rules, ◌∙◌}
use mir.Syntax.{w128}
use mir.Val.{SFits}
use Rattle.std.proofs.lemmas.Int.{to_z-of_z}
use Rattle.std.proofs.lemmas.Result.{err_from_is_err_and}
use Rattle.proof_text.specs.Seen.{spelt_seen}
use Rattle.proof_text.proofs.ProductSteps.{use_powers_named, powers_numbered, use_missed, use_formed}
use Rattle.proof_text.proofs.products.log_use.Goals as goal

pub returns-in_err-rest : goal.returns-in_err-rest
returns-in_err-rest g c =
    let p = err_from_is_err_and c.from_residual.result c.from_residual.ensures.1 in
    rw (p.1, p.2)
    (use_missed c.in_err-rest.field-0.0 c.args.names.now (spelt_seen c.args.term.now) c.args.alpha.now c.args.beta.now
    c.args.gamma.now
    c.in_err-rest.ensures)

pub params_meant-requires-clause-named : goal.params_meant-requires-clause-named
params_meant-requires-clause-named g c =
    rw c.of.ensures
    (use_powers_named c.args.names.now c.args.term.now c.args.alpha.now c.args.beta.now c.args.gamma.now
    c.requires.named)

pub params_meant-requires-clause-numbered : goal.params_meant-requires-clause-numbered
params_meant-requires-clause-numbered g c = rw c.of.ensures
    (powers_numbered c.args.term.now c.requires.numbered)

pub invariant_of-result : goal.invariant_of-result
invariant_of-result g c =
    let fits : SFits w128 c.coefficient.result = search rules in
    let names = c.args.names.now in
    record {
      formed = use_formed g.row.D names (spelt_seen c.args.term.now) c.args.alpha.now c.args.beta.now c.args.gamma.now
          c.in_ok-rest.rest.items c.requires.rank c.requires.names c.requires.formed c.requires.named
          c.requires.numbered
          c.in_ok-rest.ensures _ _ _ _ _ _
          (to_z-of_z w128 c.coefficient.result fits ∙ c.coefficient.ensures)
          (rw c.of.ensures at c.params_meant.ensures) c.of-2.ensures
          (c.of-3.ensures ∙ rw c.items-free.ensures at c.in_ok-alpha.ensures)
          (c.of-4.ensures ∙ rw c.items-free.ensures at c.in_ok-beta.ensures)
          (c.of-5.ensures ∙ rw c.items-free.ensures at c.in_ok-gamma.ensures);
    }
