use Rattle.log_checker.proofs.Readings.{read_claims, read_objects}
use Rattle.log_checker.proofs.laws.readings.Goals as goal

pub returns-clause-objects : goal.returns-clause-objects
returns-clause-objects c = read_objects

pub returns-clause-claims : goal.returns-clause-claims
returns-clause-claims c = read_claims
