use Rattle.std.proofs.Common.{sym, ◌∙◌, arith, length, ◌<◌}
use Rattle.construction_reader.proofs.TokenSteps.{front_length-in, adds, skips, no_more}
use Rattle.construction_reader.proofs.tokens.tokens.Goals as goal

pub split_at-requires : goal.split_at-requires
split_at-requires c =
    let some : 0 < length c.loop-rest.rest.now = grind arith in
    rw c.front_length.ensures (front_length-in c.loop-rest.rest.now some).1

pub loop-rest-preserved-in_ok-push : goal.loop-rest-preserved-in_ok-push
loop-rest-preserved-in_ok-push c =
    let some : 0 < length c.loop-rest.rest.now = grind arith in
    rw (c.in_ok-push.ensures.items, c.split_at.ensures.front, c.split_at.ensures.back, c.front_length.ensures)
    (adds c.loop-rest.tokens.items c.loop-rest.rest.now _ some
    (sym c.begins_token.ensures ∙ c.if-begins_token.true) c.loop-rest.invariant)

pub loop-rest-preserved : goal.loop-rest-preserved
loop-rest-preserved c =
    let some : 0 < length c.loop-rest.rest.now = grind arith in
    rw (c.split_at.ensures.back, c.front_length.ensures)
    (skips c.loop-rest.tokens.items c.loop-rest.rest.now _ some
    (sym c.begins_token.ensures ∙ c.if-begins_token.false) c.loop-rest.invariant)

pub returns : goal.returns
returns c = no_more c.loop-rest.tokens.items c.loop-rest.rest.now _ (grind arith) c.loop-rest.invariant
