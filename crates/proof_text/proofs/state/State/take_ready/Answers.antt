use Rattle.std.proofs.Common.{refl}
use Rattle.proof_text.proofs.TakenSteps.{well_taken}
use Rattle.proof_text.proofs.state.State.take_ready.Goals as goal

pub returns-in-None-clause-taken : goal.returns-in-None-clause-taken
returns-in-None-clause-taken g c = rw (well_taken g.row.D _ _ _ _ (c.in-None.ensures.none refl))
    c.take_well.ensures.taken
