use Rattle.std.proofs.Common.{◌≡◌, ◌+◌, ◌-◌, ◌%◌, ◌≤◌, ℕ, zero, suc, List, [], ◌∷◌, ◌++◌, refl, sym, ap, ◌∙◌, arith, append_assoc}
use Rattle.std.specs.Prelude.{map}
use Rattle.std.specs.List.{range_with_len}
use Rattle.std.specs.Fn.{iterate}
use Rattle.std.proofs.lemmas.List.{map-append}
use Rattle.std.proofs.lemmas.List.FromFn.{map-range_with_len_more}
use Rattle.construction_reader.specs.declared.types.Statement.{Statement}
use Rattle.construction_reader.specs.Said.{row, sentence, Row}
use Rattle.sample_maker.specs.Sample.{next, made, definition, chosen, definition_row}
use Rattle.sample_maker.proofs.generator.add_definitions.Goals as goal

iterate_last : (h : ℕ → ℕ) (n x : ℕ) → iterate h (suc n) x ≡ h (iterate h n x)
iterate_last h zero x = refl
iterate_last h (suc n) x = iterate_last h n (h x)

-- the number of definition k
next_number : (x number k : ℕ) → 1 ≤ k → x ≡ iterate next (k - 1) number → next x ≡ iterate next k number
next_number x number k some before =
    let turn : suc (k - 1) ≡ k = omega arith in
    ap next before ∙ sym (iterate_last next (k - 1) number) ∙ ap (λ n. iterate next n number) turn

-- one definition more
one_more : (old new : List Statement) (front : List Row) (last : Statement) (number k : ℕ) → 1 ≤ k
    → map row old ≡ front ++ map (definition_row number) (range_with_len 1 (k - 1))
    → new ≡ old ++ last ∷ [] → row last ≡ definition_row number k
    → map row new ≡ front ++ map (definition_row number) (range_with_len 1 (k + 1 - 1))
one_more old new front last number k some before pushed here =
    let defined = λ (n : ℕ). map (definition_row number) (range_with_len 1 n) in
    let turn : k - 1 + 1 ≡ k + 1 - 1 = omega arith in
    let longer = sym (map-range_with_len_more (definition_row number) 1 (k - 1) k (omega arith)) ∙ ap defined turn in
    ap (map row) pushed ∙ map-append row old (last ∷ []) ∙ ap (λ rows. rows ++ row last ∷ []) before
    ∙ append_assoc front (defined (k - 1)) (row last ∷ []) ∙ ap (λ r. front ++ (defined (k - 1) ++ r ∷ [])) here
    ∙ ap (λ rows. front ++ rows) longer

pub loop-k-preserved : goal.loop-k-preserved
loop-k-preserved c =
    let k = c.loop-k.k in
    let number = c.args.number in
    let before = c.loop-k.invariant in
    let some : 1 ≤ k = omega arith in
    let same : k ≡ k + 1 - 1 = omega arith in
    let x : c.next-x.result ≡ iterate next k number = c.next-x.ensures.next ∙ next_number _ number k some before.1 in
    let name = c.in_ok-made.field-0 in
    let behind = c.in_ok-made-2.field-0 in
    let choice = c.in_ok-choice.choice in
    let named : name ≡ made k = c.in_ok-made.ensures in
    let behind_named : behind ≡ made (k - 1) = c.in_ok-made-2.ensures in
    let chosen_so : choice ≡ chosen (c.next-x.result % 60) = c.in_ok-choice.ensures in
    let defined : sentence c.in_ok-body.body ≡ definition name behind choice = c.in_ok-body.ensures in
    let last : Statement = record { line = k + 3; body = c.in_ok-body.body } in
    let here : row last ≡ definition_row number k = cc in
    let rows = one_more _ _ _ last number k some before.0 c.in_ok-push.ensures.items here in
    (rows, x ∙ ap (λ n. iterate next n number) same, c.next-x.ensures.within)
