use Rattle.proof_text.specs.Seen.{spelt_seen}
use Rattle.proof_text.proofs.ProductSteps.{term_powers_named, powers_numbered, key_made}
use Rattle.proof_text.proofs.products.key.Goals as goal

pub params_meant-requires-clause-named : goal.params_meant-requires-clause-named
params_meant-requires-clause-named g c = rw c.of.ensures
    (term_powers_named c.args.names.now c.args.term.now c.requires.named)

pub params_meant-requires-clause-numbered : goal.params_meant-requires-clause-numbered
params_meant-requires-clause-numbered g c = rw c.of.ensures
    (powers_numbered c.args.term.now c.requires.numbered)

pub returns : goal.returns
returns g c =
    key_made c.args.names.now (spelt_seen c.args.term.now) c.in_ok-rows.rows.items c.in_ok-from_rows.field-0
    c.params_meant.result
    c.in_ok-rows.ensures (rw c.of.ensures at c.params_meant.ensures)
    (rw c.deref.ensures.value at c.in_ok-from_rows.ensures.rows)
