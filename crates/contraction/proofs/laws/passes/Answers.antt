use Rattle.contraction.proofs.PairLaws.{pass_keeps_value}
use Rattle.contraction.proofs.PassTerms.{pass_takes_away, pass_keeps_classes}
use Rattle.contraction.proofs.FewerTerms.{pass_makes_fewer}
use Rattle.contraction.proofs.ThreeTermLaws.{syzygy_is_three_terms}
use Rattle.contraction.proofs.ThreeTermSigns.{syzygy_has_three_terms}
use Rattle.contraction.proofs.laws.passes.Goals as goal

pub returns-clause-sum : goal.returns-clause-sum
returns-clause-sum c = syzygy_is_three_terms

pub returns-clause-terms : goal.returns-clause-terms
returns-clause-terms c = syzygy_has_three_terms

pub returns-clause-value : goal.returns-clause-value
returns-clause-value c = pass_keeps_value

pub returns-clause-takes : goal.returns-clause-takes
returns-clause-takes c = pass_takes_away

pub returns-clause-classes : goal.returns-clause-classes
returns-clause-classes c = pass_keeps_classes

pub returns-clause-fewer : goal.returns-clause-fewer
returns-clause-fewer c = pass_makes_fewer
