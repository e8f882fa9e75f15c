use Rattle.std.proofs.Common.{◌≡◌, ◌++◌, ap, ◌∙◌, arith}
use Rattle.construction_reader.specs.Printed.{gap}
use Rattle.construction_reader.proofs.SpacedSteps.{goes_on, at_end}
use Rattle.construction_reader.proofs.printing.put_spaced.Goals as goal

pub loop-token-preserved : goal.loop-token-preserved
loop-token-preserved c =
    let token = c.token-item.result in
    let out : c.extend_from_slice.new.self.items ≡ (c.loop-token.out.items ++ gap c.loop-token.glued token) ++ token =
    c.in_ok-extend_from_slice.ensures.items ∙ ap (λ xs. xs ++ c.bytes.result.now) c.in_ok-put_gap.ensures
    ∙ ap (λ xs. (c.loop-token.out.items ++ gap c.loop-token.glued token) ++ xs) c.bytes.ensures in
    rw (out, c.is-glued.ensures)
    (goes_on c.loop-token.out.items c.loop-token.glued c.args.tokens.now c.loop-token.token-index token _ c.loop-token-test.true c.token-item.is c.loop-token.invariant)

pub returns : goal.returns
returns c = at_end c.loop-token.out.items c.loop-token.glued c.args.tokens.now c.loop-token.token-index _
    (omega arith) c.loop-token.invariant
