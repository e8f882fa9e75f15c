use Rattle.std.proofs.Common.{ap, sym, ◌∙◌, arith}
use Rattle.proof_text.specs.Cut.{Line, cut}
use Rattle.proof_text.specs.Readings.{reads}
use Rattle.proof_text.specs.StateSeen.{state_seen}
use Rattle.proof_text.proofs.ReadSteps.{begins, goes_on, fails, is_done}
use Rattle.proof_text.proofs.reading.read_lines.Goals as goal

pub loop-rest-init : goal.loop-rest-init
loop-rest-init g c = record {
  counted = omega arith;
  same =
      ap (reads c.args.names.now c.args.steps.now 1 (cut c.args.bytes.now)) c.new-state.ensures.first
      ∙ begins c.args.names.now c.args.steps.now c.args.bytes.now;
  sound = c.new-state.ensures.sound;
}

pub returns-in-Err-clause-read : goal.returns-in-Err-clause-read
returns-in-Err-clause-read g c =
    let line : Line = record { bytes = c.first_line-closed.result.0.now; closed = c.first_line-closed.result.1 } in
    rw c.at.ensures
    (fails c.args.names.now c.args.steps.now c.in-Err.error c.loop-rest.number c.loop-rest.rest.now
    c.first_line-closed.result.2.now
    line (state_seen c.loop-rest.state) _ c.first_line-closed.ensures.lines c.in-Err.ensures.taken
    c.loop-rest.invariant.same)

pub loop-rest-preserved : goal.loop-rest-preserved
loop-rest-preserved g c =
    let line : Line = record { bytes = c.first_line-closed.result.0.now; closed = c.first_line-closed.result.1 } in
    record {
      counted = omega (arith, c.loop-rest.invariant.counted, c.first_line-closed.ensures.shorter);
      same = goes_on c.args.names.now c.args.steps.now c.loop-rest.number c.loop-rest.rest.now
          c.first_line-closed.result.2.now line
          (state_seen c.loop-rest.state) (state_seen c.take_line.new.self) _ c.first_line-closed.ensures.lines
          c.in_default.ensures.taken c.loop-rest.invariant.same;
      sound = c.in_default.ensures.sound;
    }

pub returns-clause-read : goal.returns-clause-read
returns-clause-read g c =
    rw (sym (is_done c.args.names.now c.args.steps.now c.loop-rest.number c.loop-rest.rest.now
    (state_seen c.loop-rest.state) _
    (grind arith) c.loop-rest.invariant.same)) c.finish.ensures.read
