use Rattle.std.proofs.Common.{sym, ◌∙◌, arith}
use Rattle.construction_reader.proofs.DeepSteps.{too_many, opened, closed, passed, at_end}
use Rattle.construction_reader.proofs.sentences.is_deep.Goals as goal
use Rattle.construction_reader.proofs.sentences.is_deep.Goals.{then-is+else-depth-ge-ROOM, else-is+then-is-2, else-is+else-is-2}

pub returns-then-depth-ge-ROOM : goal.returns-then-depth-ge-ROOM
returns-then-depth-ge-ROOM c =
    too_many c.loop-token.depth c.args.tokens.now c.loop-token.token-index c.token-item.result _ c.loop-token-test.true c.token-item.is (sym c.is.ensures ∙ c.if-is.true) (omega arith) c.loop-token.invariant.same

pub loop-token-preserved : goal.loop-token-preserved
loop-token-preserved c =
    elim c.if-is.branch [
      | then-is+else-depth-ge-ROOM w ↦ record {
        small = omega arith;
        same =
            rw w.depth-is (opened c.loop-token.depth c.args.tokens.now c.loop-token.token-index c.token-item.result _ c.loop-token-test.true c.token-item.is (sym c.is.ensures ∙ w.if-is.true) (omega arith) c.loop-token.invariant.same);
      }
      | else-is+then-is-2 w ↦ record {
        small = omega arith;
        same =
            rw (w.depth-is, w.saturating_sub-depth.ensures)
            (closed c.loop-token.depth c.args.tokens.now c.loop-token.token-index c.token-item.result _ c.loop-token-test.true c.token-item.is (sym c.is.ensures ∙ w.if-is.false) (sym w.is-else-is.ensures ∙ w.if-is-2.true) c.loop-token.invariant.same);
      }
      | else-is+else-is-2 w ↦ record {
        small = omega arith;
        same =
            rw w.depth-is (passed c.loop-token.depth c.args.tokens.now c.loop-token.token-index c.token-item.result _ c.loop-token-test.true c.token-item.is (sym c.is.ensures ∙ w.if-is.false) (sym w.is-else-is.ensures ∙ w.if-is-2.false) c.loop-token.invariant.same);
      }
    ]

pub returns : goal.returns
returns c = at_end c.loop-token.depth c.args.tokens.now c.loop-token.token-index _
    (omega arith) c.loop-token.invariant.same
