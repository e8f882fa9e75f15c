use Rattle.proof_text.specs.Meant.{place_of}
use Rattle.proof_text.proofs.PointSteps.{one_written}
use Rattle.proof_text.proofs.points.points_in_front.Goals as goal

pub loop-i-preserved : goal.loop-i-preserved
loop-i-preserved g c =
    rw c.point.ensures
    (one_written (place_of c.args.names.now) c.args.words.now c.index-words-i.result g.row.N c.loop-i.i c.loop-i.points
    c.loop-i-test.true c.requires.room c.index-words-i.is c.loop-i.invariant)
