use Rattle.std.proofs.Common.{sym, ◌∙◌}
use Rattle.proof_text.proofs.TakenSteps.{early_shape, early_header, early_object, early_name, early_number}
use Rattle.proof_text.proofs.state.State.early_fault.Goals as goal

pub returns-then-not-may_stand-clause-some : goal.returns-then-not-may_stand-clause-some
returns-then-not-may_stand-clause-some g c = early_shape _ _ _ _ (sym c.may_stand.ensures ∙ c.if-not-may_stand.true)

pub returns-then-is_other_header-clause-some : goal.returns-then-is_other_header-clause-some
returns-then-is_other_header-clause-some g c =
    early_header _ _ _ _ (sym c.may_stand.ensures ∙ c.if-not-may_stand.false)
    (sym c.is_other_header.ensures ∙ c.if-is_other_header.true)

pub returns-then-is_other_object-clause-some : goal.returns-then-is_other_object-clause-some
returns-then-is_other_object-clause-some g c =
    early_object _ _ _ _ (sym c.may_stand.ensures ∙ c.if-not-may_stand.false)
    (sym c.is_other_header.ensures ∙ c.if-is_other_header.false)
    (sym c.is_other_object.ensures ∙ c.if-is_other_object.true)

pub returns-then-is_unnamed-clause-some : goal.returns-then-is_unnamed-clause-some
returns-then-is_unnamed-clause-some g c =
    early_name _ _ _ _ (sym c.may_stand.ensures ∙ c.if-not-may_stand.false)
    (sym c.is_other_header.ensures ∙ c.if-is_other_header.false)
    (sym c.is_other_object.ensures ∙ c.if-is_other_object.false) (sym c.is_unnamed.ensures ∙ c.if-is_unnamed.true)

pub returns-then-is_misnumbered-clause-some : goal.returns-then-is_misnumbered-clause-some
returns-then-is_misnumbered-clause-some g c =
    early_number _ _ _ _ (sym c.may_stand.ensures ∙ c.if-not-may_stand.false)
    (sym c.is_other_header.ensures ∙ c.if-is_other_header.false)
    (sym c.is_other_object.ensures ∙ c.if-is_other_object.false) (sym c.is_unnamed.ensures ∙ c.if-is_unnamed.false)
    (sym c.is_misnumbered.ensures ∙ c.if-is_misnumbered.true)
