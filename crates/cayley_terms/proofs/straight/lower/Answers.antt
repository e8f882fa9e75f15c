use Rattle.std.proofs.Common.{refl, ap, ◌∙◌, sym, List, map}
use Rattle.construction_reader.specs.declared.construction.Construction.{Construction}
use Rattle.construction_reader.specs.Seen.{account}
use Rattle.cayley_terms.specs.declared.instr.Instr.{Instr}
use Rattle.cayley_terms.specs.Instrs.{measures}
use Rattle.cayley_terms.proofs.ProgramLaws.{put_of, put_definitions, put_measures, put_conclusion, put_names, put_rule, put_each}
use Rattle.cayley_terms.proofs.straight.lower.Goals as goal

pub steps-requires-clause-each : goal.steps-requires-clause-each
steps-requires-clause-each c =
    put_each (account c.args.c.now) _ _ _ _
    (put_of c.args.c.now c.construction-construction.result.now c.in_ok-lowering.lowering _ _ _ _
    c.construction-construction.ensures.same (c.in_ok-lowering.ensures {u = tt}) c.lowering-2.view_is
    c.deref.ensures.value refl refl)
    c.construction-construction.ensures.good c.args.c.now.given.good c.requires.one

pub invariant_of-result : goal.invariant_of-result
invariant_of-result c =
    record {
      formed =
          put_rule (account c.args.c.now) _ _ _ _
          (put_of c.args.c.now c.construction-construction.result.now c.in_ok-lowering.lowering _ _ _ _
          c.construction-construction.ensures.same (c.in_ok-lowering.ensures {u = tt}) c.lowering-2.view_is
          c.of.ensures c.of-3.ensures c.of-4.ensures)
          c.construction-construction.ensures.good c.args.c.now.given.good c.requires.one c.of-2.result
          (c.of-2.ensures ∙ c.in_ok-steps.ensures {u = tt}
          ∙ ap (λ (instrs : List Instr). map (λ m. m.step) (measures c.construction-construction.result.now.rank instrs))
          (c.deref.ensures.value ∙ sym c.of.ensures));
    }

pub returns-clause-meaning : goal.returns-clause-meaning
returns-clause-meaning c =
    put_definitions (account c.args.c.now) _ _ _ _
    (put_of c.args.c.now c.construction-construction.result.now c.in_ok-lowering.lowering _ _ _ _
    c.construction-construction.ensures.same (c.in_ok-lowering.ensures {u = tt}) c.lowering-2.view_is
    c.of.ensures c.of-3.ensures c.of-4.ensures)
    c.construction-construction.ensures.good c.args.c.now.given.good c.requires.one

pub returns-clause-conclusion : goal.returns-clause-conclusion
returns-clause-conclusion c =
    put_conclusion (account c.args.c.now) _ _ _ _
    (put_of c.args.c.now c.construction-construction.result.now c.in_ok-lowering.lowering _ _ _ _
    c.construction-construction.ensures.same (c.in_ok-lowering.ensures {u = tt}) c.lowering-2.view_is
    c.of.ensures c.of-3.ensures c.of-4.ensures)
    c.construction-construction.ensures.good c.args.c.now.given.good c.requires.one

pub returns-clause-measures : goal.returns-clause-measures
returns-clause-measures c =
    put_measures (account c.args.c.now) _ _ _ _
    (put_of c.args.c.now c.construction-construction.result.now c.in_ok-lowering.lowering _ _ _ _
    c.construction-construction.ensures.same (c.in_ok-lowering.ensures {u = tt}) c.lowering-2.view_is
    c.of.ensures c.of-3.ensures c.of-4.ensures)
    c.construction-construction.ensures.good c.args.c.now.given.good c.requires.one

pub returns-clause-names : goal.returns-clause-names
returns-clause-names c = (
  ap (λ (k : Construction). k.rank) c.construction-construction.ensures.same,
  put_names (account c.args.c.now) _ _ _ _
      (put_of c.args.c.now c.construction-construction.result.now c.in_ok-lowering.lowering _ _ _ _
      c.construction-construction.ensures.same (c.in_ok-lowering.ensures {u = tt}) c.lowering-2.view_is
      c.of.ensures c.of-3.ensures c.of-4.ensures)
      c.construction-construction.ensures.good c.args.c.now.given.good c.requires.one,
)
