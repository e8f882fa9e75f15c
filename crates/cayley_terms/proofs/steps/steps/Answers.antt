use Rattle.std.proofs.Common.{◌≡◌, ◌++◌, ◌∷◌, [], ℕ, List, get_or, ◌∙◌, ap}
use Rattle.std.proofs.lemmas.List.{get_or_default}
use Rattle.cayley_terms.specs.declared.instr.Instr.TheVariants as instr
use Rattle.cayley_terms.specs.Steps.{step_made}
use Rattle.cayley_terms.proofs.StepLists.{so_far_none, so_far_next}
use Rattle.cayley_terms.proofs.steps.steps.Goals as goal

pub loop-instr-init : goal.loop-instr-init
loop-instr-init c =
    so_far_none c.args.rank c.args.instrs.now c.new-steps.result.items c.requires.rank c.requires.each
    c.new-steps.ensures.items

pub loop-instr-preserved : goal.loop-instr-preserved
loop-instr-preserved c =
    let n = c.loop-instr.instr-index in
    let i = get_or c.args.instrs.now n (instr.Free 0) in
    let steps = c.loop-instr.steps.items in
    let made : c.step-made.result ≡ step_made c.args.rank steps i =
    c.step-made.ensures ∙ ap (λ (ss : List ℕ). step_made c.args.rank ss i) c.deref.ensures.value in
    rw (c.in_ok-push.ensures.items ∙ ap (λ k. steps ++ k ∷ []) made)
    (so_far_next c.args.rank c.args.instrs.now n steps i c.loop-instr-test.true
    (get_or_default c.args.instrs.now n (instr.Free 0) i c.loop-instr-test.true) c.loop-instr.invariant)
