use Rattle.syzygies.proofs.Falls.{rewrites_once, others_are_smaller}
use Rattle.syzygies.proofs.Rewriting.{rewrites_to_smaller}
use Rattle.syzygies.proofs.laws.places.Goals as goal

pub returns-clause-once : goal.returns-clause-once
returns-clause-once c = rewrites_once

pub returns-clause-others : goal.returns-clause-others
returns-clause-others c = others_are_smaller

pub returns-clause-smaller : goal.returns-clause-smaller
returns-clause-smaller c = rewrites_to_smaller
