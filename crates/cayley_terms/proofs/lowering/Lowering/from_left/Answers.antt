use Rattle.std.proofs.Common.{ℕ, ◌-◌, length, take, drop, get_or, None, sym, ◌∙◌, ap}
use Rattle.std.proofs.lemmas.Grind.{get_or_default_zero}
use Rattle.cayley_terms.specs.declared.instr.Instr.{Instr}
use Rattle.cayley_terms.specs.Straight.{Lowered, pushed}
use Rattle.cayley_terms.specs.Pairs.{pair_instr}
use Rattle.cayley_terms.proofs.StatementSteps.{chain_next, chain_room, chain_end}
use Rattle.cayley_terms.proofs.lowering.Lowering.from_left.Goals as goal

pub push-requires : goal.push-requires
push-requires c =
    let others = take (length c.args.numbers.now - 1) (drop 1 c.args.numbers.now) in
    let i = c.loop-other.other-index in
    let other = get_or others i 0 in
    rw (c.of.ensures)
    (chain_room (pair_instr c.args.pair) c.args.line c.loop-other.made others i other c.loop-other.self _
    c.loop-other-test.true (sym (get_or_default_zero others i other c.loop-other-test.true)) c.loop-other.invariant
    c.requires)

pub loop-other-preserved : goal.loop-other-preserved
loop-other-preserved c =
    let others = take (length c.args.numbers.now - 1) (drop 1 c.args.numbers.now) in
    let i = c.loop-other.other-index in
    let other = get_or others i 0 in
    c.loop-other.invariant
    ∙ chain_next (pair_instr c.args.pair) c.args.line c.loop-other.made others i other c.loop-other.self
    (c.push.new.self, c.in_ok-made.made) c.loop-other-test.true
    (sym (get_or_default_zero others i other c.loop-other-test.true))
    (c.in_ok-made.ensures {u = tt} ∙ ap (λ (i : Instr). pushed c.args.line None i c.loop-other.self) c.of.ensures)

pub returns-after-loop-other : goal.returns-after-loop-other
returns-after-loop-other c =
    sym
    (ap (λ (r : Lowered × ℕ). r.0)
    (c.loop-other.invariant
    ∙ chain_end (pair_instr c.args.pair) c.args.line c.loop-other.made _ c.loop-other.other-index c.loop-other.self
    c.loop-other-test.false))
