use Rattle.std.proofs.Common.{subst, sym, ◌≡◌, ◌<◌, ◌++◌, ◌∷◌, [], take, codes, map, ap, refl, sym, ◌∙◌, arith, append_assoc}
use Rattle.std.specs.Prelude.{decimal}
use Rattle.std.specs.List.{flat_map}
use Rattle.std.proofs.lemmas.List.{take_all}
use Rattle.std.proofs.lemmas.Fmt.{decimal_digit}
use Rattle.construction_reader.specs.Said.{row}
use Rattle.construction_reader.specs.Grammar.{sentence_tokens}
use Rattle.construction_reader.specs.Printed.{line_text}
use Rattle.construction_reader.specs.Seen.{account}
use Rattle.construction_reader.specs.TextOf.{TextOf}
use Rattle.construction_reader.specs.Printed.{renumbered}
use Rattle.construction_reader.proofs.PrintedLaws.{printed-gives}
use Rattle.construction_reader.proofs.printing.print.Goals as goal

pub returns-clause-text : goal.returns-clause-text
returns-clause-text c =
    let rows = c.args.c.now.statements in
    let items : c.items-statement-items.result.now ≡ rows = c.items-statement-items.ensures in
    let all : take c.loop-statement.statement-index c.items-statement-items.result.now ≡ rows =
    take_all _ _ (omega arith) ∙ items in
    let rest = flat_map (λ r. line_text (sentence_tokens r.sentence)) (map row rows) in
    let so_far : c.loop-statement.out.items ≡ c.put_line-2.new.out.items ++ rest = c.loop-statement.invariant
    ∙ ap (λ rs. c.put_line-2.new.out.items ++ flat_map (λ r. line_text (sentence_tokens r.sentence))
    (map row rs)) all in
    let small : c.args.c.now.rank < 10 = omega (arith, c.args.c.now.given.good.ranked.1) in
    let one = line_text (codes "construction" ∷ codes "1" ∷ []) in
    let two = line_text (codes "rank" ∷ decimal c.args.c.now.rank ∷ []) in
    let first : c.put_line.new.out.items ≡ one = c.in_ok-put_line.ensures
    ∙ rw (c.new-out.ensures.items, c.of.ensures, c.of-2.ensures) refl in
    let second : c.put_line-2.new.out.items ≡ one ++ two = c.in_ok-put_line-2.ensures
    ∙ rw (first, c.of-3.ensures, c.of-4.ensures, decimal_digit c.args.c.now.rank small) refl in
    so_far ∙ ap (λ x. x ++ rest) second ∙ append_assoc one two rest

pub returns-clause-gives : goal.returns-clause-gives
returns-clause-gives c = subst (λ text. TextOf text (renumbered (account c.args.c.now))) (sym (returns-clause-text c))
    (printed-gives (account c.args.c.now) c.args.c.now.given.good)
