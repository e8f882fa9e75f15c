use Rattle.std.proofs.Common.{◌-◌, take, length, map, ap, sym, ◌∙◌}
use Rattle.std.specs.Ordering.{is_lt}
use Rattle.std.proofs.lemmas.List.{map_push}
use Rattle.bracket_poly.specs.Sections.{rewritten_of}
use Rattle.proof_text.specs.Kinds.{is_behind_sections}
use Rattle.proof_text.proofs.BehindSteps.{behind_section, tests_less, last_one}
use Rattle.proof_text.proofs.adding.is_behind_sections.Goals as goal

pub returns-in-len1-up : goal.returns-in-len1-up
returns-in-len1-up g c =
    let sections = c.args.sections.now in
    let last = c.last-item.result in
    let front = take (length sections - 1) sections in
    let whole = ap (map rewritten_of) (last_one sections last c.in-len1-up.len_at_least c.last-item.is)
    ∙ map_push rewritten_of front last in
    (c.eq.ensures ∙ tests_less c.cmp.result ∙ ap is_lt c.cmp.ensures)
    ∙ sym (ap (is_behind_sections c.args.points.now) whole ∙ behind_section c.args.points.now (map rewritten_of front)
    (rewritten_of last))
