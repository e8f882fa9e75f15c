use Rattle.std.proofs.Common.{ap, sym, ◌∙◌, arith}
use Rattle.construction_reader.specs.Lines.{lines_of}
use Rattle.construction_reader.specs.Texts.{progress, at_line, reads}
use Rattle.construction_reader.proofs.TextSteps.{begins, goes_on, fails, is_done}
use Rattle.construction_reader.proofs.GivenLaws.{reads_given}
use Rattle.construction_reader.proofs.reading.read_lines.Goals as goal

pub loop-rest-init : goal.loop-rest-init
loop-rest-init c = record {
  counted = omega arith;
  same =
      ap (reads 1 (lines_of c.args.text.now)) c.new-progress.ensures ∙ begins c.args.text.now;
}

pub returns-in-Err : goal.returns-in-Err
returns-in-Err c = rw c.at.ensures
    (fails c.in-Err.error c.loop-rest.number c.loop-rest.rest.now c.first_line.result.0.now c.first_line.result.1.now
    (progress c.loop-rest.progress) _ c.first_line.ensures.lines c.in-Err.ensures c.loop-rest.invariant.same)

pub loop-rest-preserved : goal.loop-rest-preserved
loop-rest-preserved c = record {
  counted = omega (arith, c.loop-rest.invariant.counted, c.first_line.ensures.shorter);
  same = goes_on c.loop-rest.number c.loop-rest.rest.now c.first_line.result.0.now c.first_line.result.1.now
      (progress c.loop-rest.progress) _ _ c.first_line.ensures.lines
      (c.in_default.ensures {u = tt}) c.loop-rest.invariant.same;
}

pub returns-in-Ok : goal.returns-in-Ok
returns-in-Ok c = rw c.of.ensures (is_done c.loop-rest.number c.loop-rest.rest.now (progress c.loop-rest.progress) _
    (grind arith) c.loop-rest.invariant.same ∙ ap (at_line c.loop-rest.number) (sym c.in-Ok.ensures))

pub invariant_of-result : goal.invariant_of-result
invariant_of-result c =
    let read = is_done c.loop-rest.number c.loop-rest.rest.now (progress c.loop-rest.progress) _
    (grind arith) c.loop-rest.invariant.same ∙ ap (at_line c.loop-rest.number) (sym c.in-Ok.ensures) in
    rw c.of.ensures (record { given = reads_given c.args.text.now _ read })

pub returns-in-Err-finish : goal.returns-in-Err-finish
returns-in-Err-finish c = is_done c.loop-rest.number c.loop-rest.rest.now (progress c.loop-rest.progress) _
    (grind arith) c.loop-rest.invariant.same ∙ ap (at_line c.loop-rest.number) (sym c.in-Err-finish.ensures)
