use Rattle.std.proofs.Common.{◌≡◌, ◌∙◌, ℕ, ◌≤◌, [], sym, ap, subst, append-nil}
use Rattle.bracket_poly.specs.Sections.{rewritten_of}
use Rattle.proof_text.specs.Proofs.{section_lines}
use Rattle.proof_text.proofs.Writing.{writes_less, writes_none, same_lines}
use Rattle.cayley_run.specs.Sections.{work}
use Rattle.cayley_run.proofs.CourseLaws.{writes_then_none}
use Rattle.cayley_run.proofs.EndingLaws.{section_said}
use Rattle.cayley_run.proofs.WorkLaws.{work_within}
use Rattle.cayley_run.proofs.writing.write_start.Goals as goal

pub overflow_sub-ending : goal.overflow_sub-ending
overflow_sub-ending g c =
    subst (λ (n : ℕ). n ≤ c.args.ending.now.left) (sym c.in_ok-rewriting.ensures.work.turns)
    (work_within c.args.contract c.args.ending.now.left c.args.start.now.1.tracked)

pub returns-in_err-section-clause-writes : goal.returns-in_err-section-clause-writes
returns-in_err-section-clause-writes g c = writes_none _ _ _ _ c.from_residual-in_err-section.ensures.1

pub returns-in_err-put_section-clause-writes : goal.returns-in_err-put_section-clause-writes
returns-in_err-put_section-clause-writes g c =
    let said =
    section_said c.args.start.now c.in_ok-section.section c.in_ok-rewriting.rewriting
    (work c.args.contract c.args.ending.now.left c.args.start.now.1.tracked) c.in_ok-rewriting.ensures.work
    c.in_ok-section.ensures.scalar c.in_ok-section.ensures.start c.in_ok-section.ensures.uses
    c.in_ok-section.ensures.end in
    same_lines _ _ _ _ _ _ _ (append-nil _ ∙ ap (section_lines c.args.names.now) said)
    (writes_less _ _ _ _ _ _ _ [] c.from_residual-in_err-put_section.ensures.1 c.in_err-put_section.ensures)

pub returns-in_err-keep_end-clause-writes : goal.returns-in_err-keep_end-clause-writes
returns-in_err-keep_end-clause-writes g c =
    let said =
    section_said c.args.start.now c.in_ok-section.section c.in_ok-rewriting.rewriting
    (work c.args.contract c.args.ending.now.left c.args.start.now.1.tracked) c.in_ok-rewriting.ensures.work
    c.in_ok-section.ensures.scalar c.in_ok-section.ensures.start c.in_ok-section.ensures.uses
    c.in_ok-section.ensures.end in
    writes_then_none _ _ _ _ _ _
    (same_lines _ _ _ _ _ _ _ (ap (section_lines c.args.names.now) said) c.in_ok-put_section.ensures)
    c.from_residual-in_err-keep_end.ensures.1
