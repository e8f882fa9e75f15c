use Rattle.proof_text.proofs.ReadSteps.{of_text, is_found, is_only, is_cause}
use Rattle.proof_text.proofs.CountLaws.{are_countable}
use Rattle.proof_text.proofs.reading.read_proof.Goals as goal

pub returns-clause-found : goal.returns-clause-found
returns-clause-found g c =
    is_found c.args.names.now c.args.steps.now c.args.bytes.now
    (of_text g.row.D _ _ c.requires.rank c.requires.names c.requires.steps) c.read_lines.result
    c.read_lines.ensures.read

pub returns-clause-only : goal.returns-clause-only
returns-clause-only g c =
    is_only c.args.names.now c.args.steps.now c.args.bytes.now
    (of_text g.row.D _ _ c.requires.rank c.requires.names c.requires.steps) c.read_lines.result
    c.read_lines.ensures.read

pub returns-clause-fault : goal.returns-clause-fault
returns-clause-fault g c =
    is_cause c.args.names.now c.args.steps.now c.args.bytes.now
    (of_text g.row.D _ _ c.requires.rank c.requires.names c.requires.steps) c.read_lines.result
    c.read_lines.ensures.read

pub returns-clause-countable : goal.returns-clause-countable
returns-clause-countable g c =
    are_countable c.args.names.now c.args.steps.now c.args.bytes.now c.read_lines.result c.requires.short
    (is_found c.args.names.now c.args.steps.now c.args.bytes.now
    (of_text g.row.D _ _ c.requires.rank c.requires.names c.requires.steps) c.read_lines.result
    c.read_lines.ensures.read)
