use Rattle.std.proofs.Common.{◌≡◌, ◌∙◌, ap, List, map, drop}
use Rattle.std.proofs.Math.ListN.{drop_of_length-le}
use Rattle.bracket_poly.specs.Sections.{rewritten_of, Rewritten, value_from}
use Rattle.bracket_poly.specs.Values.{value_of}
use Rattle.cayley_run.proofs.Scalars.{value_done, value_formed}
use Rattle.cayley_run.proofs.values.value_from.Goals as goal

pub invariant_of-result : goal.invariant_of-result
invariant_of-result g c =
    let ss : List Rewritten = map rewritten_of c.args.sections.now in
    let rest : List Rewritten = map rewritten_of (drop c.loop-section.section-index c.args.sections.now) in
    let done : value_of c.loop-section.entries.items ≡ value_from ss =
    value_done (value_of c.loop-section.entries.items) ss rest c.loop-section.invariant
    (ap (λ xs. map rewritten_of xs) (drop_of_length-le c.args.sections.now c.loop-section-test.false)) in
    record {
      formed =
          value_formed g.row.D c.args.step ss c.of.result c.requires.rank c.requires.within c.requires.sections
          (ap (λ es. value_of es) c.of.ensures ∙ done);
    }
