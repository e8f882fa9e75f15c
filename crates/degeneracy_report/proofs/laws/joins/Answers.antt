use Rattle.degeneracy_report.proofs.StartTerms.{terms_are_join}
use Rattle.degeneracy_report.proofs.ZeroLaws.{zero_where_object, zero_at_placement}
use Rattle.degeneracy_report.proofs.laws.joins.Goals as goal

pub returns-clause-terms : goal.returns-clause-terms
returns-clause-terms c = terms_are_join

pub returns-clause-zero : goal.returns-clause-zero
returns-clause-zero c = zero_where_object

pub returns-clause-placed : goal.returns-clause-placed
returns-clause-placed c = zero_at_placement
