use Rattle.std.proofs.Common.{◌≡◌, ◌<◌, inl, inr, ℕ, sym, ap, ◌∙◌, subst, arith}
use Rattle.std.specs.Prelude.{decimal}
use Rattle.prover.proofs.WordLists.{reads_as_none, other_word}
use Rattle.prover.proofs.words.number.Goals as goal
use Rattle.prover.proofs.words.number.Goals.{else-number-ge1-via-then-number-ge1+then-number-most+else-eq}
use Rattle.prover.proofs.words.number.Goals.{else-number-ge1-via-then-number-ge1+else-number-most}
use Rattle.prover.proofs.words.number.Goals.{else-number-ge1-via-else-number-ge1}

pub returns-in_default : goal.returns-in_default
returns-in_default c =
    reads_as_none c.args.most c.args.word.now c.parse.result c.ranges.most.fits c.parse.ensures.value.0
    (λ number read. absurd (c.in_default.not-Ok number read))

pub returns-else-number-ge1 : goal.returns-else-number-ge1
returns-else-number-ge1 c =
    reads_as_none c.args.most c.args.word.now c.parse.result c.ranges.most.fits c.parse.ensures.value.0 (λ number read.
    let same : number ≡ c.in-Ok.number = cc in
    elim c.else-number-ge1.branch [
      | else-number-ge1-via-then-number-ge1+then-number-most+else-eq w ↦ inr (λ e. other_word _ _ _ w.eq.ensures w.if-eq.false (w.format.ensures.text ∙ ap decimal (sym same) ∙ sym e))
      | else-number-ge1-via-then-number-ge1+else-number-most w ↦ inl (inr (subst (λ (n : ℕ). c.args.most < n) (sym same) w.if-number-most.false))
      | else-number-ge1-via-else-number-ge1 w ↦ inl (inl (subst (λ (n : ℕ). n < 1) (sym same) w.if-number-ge1.false))
    ])
