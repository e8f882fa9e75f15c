use Rattle.std.proofs.Common.{◌≡◌, ◌∙◌, sym, ap}
use Rattle.bracket_poly.specs.declared.value.Value.{Value}
use Rattle.conic_points.specs.Points.{values_of}
use Rattle.proof_text.proofs.Writing.{same_lines}
use Rattle.std.specs.Prelude.{List, [], Some}
use Rattle.cayley_run.specs.Results.{stop_of}
use Rattle.cayley_run.specs.declared.making.Made.TheVariants.{Starts, Stop}
use Rattle.cayley_run.proofs.CourseLaws.{lines_more, starts_lines, made_objects}
use Rattle.cayley_run.proofs.course.Course.run.Goals as goal

pub returns-in-Starts-clause-writes : goal.returns-in-Starts-clause-writes
returns-in-Starts-clause-writes g c = λ log more h e.
    let same = sym h.values ∙ ap (λ (vs : List (Value g.row.D)). values_of vs) (sym c.deref.ensures.value) in
    let objects =
    made_objects (values_of c.deref.result.now) c.args.instr c.args.step c.in_ok-value.field-0
    (Starts c.in-Starts.starts) log more c.in_ok-value.ensures.adds c.in-Starts.is same e in
    same_lines _ _ _ _ _ _ _
    (starts_lines c.args.self.now log h c.args.names.now c.args.step c.in-Starts.starts c.items.result.now more
    c.items.ensures objects)
    c.write.ensures.writes

pub returns-in-Stop-clause-writes : goal.returns-in-Stop-clause-writes
returns-in-Stop-clause-writes g c = λ log more h e.
    let same = sym h.values ∙ ap (λ (vs : List (Value g.row.D)). values_of vs) (sym c.deref.ensures.value) in
    let objects =
    made_objects (values_of c.deref.result.now) c.args.instr c.args.step c.in_ok-value.field-0 (Stop c.in-Stop.kind) log
    more c.in_ok-value.ensures.adds c.in-Stop.is same e in
    same_lines _ _ _ _ _ _ _
    (lines_more c.args.self.now log h c.args.names.now c.args.step
    (record { sections = []; left = log.left; stop = Some (stop_of c.in-Stop.kind) }) more objects)
    c.write_stopped.ensures.writes
