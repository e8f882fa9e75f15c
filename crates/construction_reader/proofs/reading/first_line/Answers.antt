use Rattle.std.proofs.Common.{◌≡◌, ◌+◌, ◌-◌, take, drop, length, [], arith, add-one, sym, ◌∙◌, length-drop}
use Rattle.std.proofs.lemmas.List.{take_all, nil_from_length}
use Rattle.construction_reader.proofs.LineSteps.{line-ended, line-open, no_lines}
use Rattle.construction_reader.proofs.reading.first_line.Goals as goal

pub returns-in-Some-clause-lines : goal.returns-in-Some-clause-lines
returns-in-Some-clause-lines c =
    let text = c.args.text.now in
    let end = c.in-Some.end in
    let rest : take (length text - (end + 1)) (drop (end + 1) text) ≡ drop (end + 1) text =
    take_all _ _ (omega (arith, length-drop (end + 1) text)) in
    rw (rest, add-one end) (line-ended text end (sym c.in-Some.ensures)).1

pub returns-in-None-clause-lines : goal.returns-in-None-clause-lines
returns-in-None-clause-lines c =
    let text = c.args.text.now in
    let front : c.split_at.result.0.now ≡ text = c.split_at.ensures.front ∙ take_all _ _ (omega arith) in
    let back : c.split_at.result.1.now ≡ [] = nil_from_length _ (omega arith) in
    rw (front, back, no_lines) (line-open text (omega arith) (sym c.in-None.ensures))
