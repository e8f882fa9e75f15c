-- The lines of a text, one after the other.
use Rattle.std.proofs.Common.{◌≡◌, ℕ, suc, ◌≤◌, ◌<◌, Bool, true, false, cond, eqb, List, [], ◌∷◌, take, drop, length, Some, None, refl, sym, ap, ◌∙◌, arith, inl, inr}
use Rattle.std.specs.List.{position, position_or_len}
use Rattle.std.proofs.Math.Numerals.{one-add}
use Rattle.std.proofs.lemmas.Bool.{cases_Bool, ltb-false, ltb-true}
use Rattle.construction_reader.specs.Lines.{lines_of, onto_line}

abbrev end_of : List ℕ → ℕ
end_of text = position_or_len (λ b. eqb b 10) text

-- the first line, where it ends with LF
with_end : (text : List ℕ) → end_of text < length text
    → lines_of text ≡ take (end_of text) text ∷ lines_of (drop (suc (end_of text)) text)
unfolding lines_of
with_end [] h = absurd (omega arith)
with_end (b ∷ text) h =
    elim (cases_Bool (eqb b 10)) [
      | inl is ↦
          let here : end_of (b ∷ text) ≡ 0 = rw is refl in
          let one : lines_of (b ∷ text) ≡ [] ∷ lines_of text = rw is refl in
          one ∙ ap (λ n. take n (b ∷ text) ∷ lines_of (drop (suc n) (b ∷ text))) (sym here)
      | inr other ↦
          let later : end_of (b ∷ text) ≡ suc (end_of text) = rw other (one-add (end_of text)) in
          let one : lines_of (b ∷ text) ≡ onto_line b (lines_of text) = rw other refl in
          one ∙ ap (onto_line b) (with_end text (omega arith))
          ∙ ap (λ n. take n (b ∷ text) ∷ lines_of (drop (suc n) (b ∷ text))) (sym later)
    ]

without_end : (text : List ℕ) → 0 < length text → length text ≤ end_of text → lines_of text ≡ text ∷ []
unfolding lines_of
without_end [] h e = absurd (omega arith)
without_end (b ∷ []) h e =
    elim (cases_Bool (eqb b 10)) [
      | inl is ↦ let here : end_of (b ∷ []) ≡ 0 = rw is refl in absurd (omega arith)
      | inr other ↦ rw other refl
    ]
without_end (b ∷ c ∷ text) h e =
    elim (cases_Bool (eqb b 10)) [
      | inl is ↦ let here : end_of (b ∷ c ∷ text) ≡ 0 = rw is refl in absurd (omega arith)
      | inr other ↦
          let later : end_of (b ∷ c ∷ text) ≡ suc (end_of (c ∷ text)) = rw other (one-add (end_of (c ∷ text))) in
          let one : lines_of (b ∷ c ∷ text) ≡ onto_line b (lines_of (c ∷ text)) = rw other refl in
          one ∙ ap (onto_line b) (without_end (c ∷ text) (omega arith) (omega arith))
    ]

some_end : (b : Bool) (m n : ℕ) → cond b (Some m) None ≡ Some n → (b ≡ true) × (m ≡ n)
some_end true m n e = (refl, cc)
some_end false m n e = absurd cc

no_end : (b : Bool) (m : ℕ) → cond b (Some m) None ≡ None → b ≡ false
no_end true m e = absurd cc
no_end false m e = refl

pub line-ended : (text : List ℕ) (end : ℕ) → position (λ b. eqb b 10) text ≡ Some end → (end < length text)
    × (lines_of text ≡ take end text ∷ lines_of (drop (suc end) text))
line-ended text end e =
    let found = some_end _ _ _ e in
    let lt : end_of text < length text = ltb-true _ _ found.0 in
    (omega (arith, found.1, lt), with_end text lt ∙ ap (λ n. take n text ∷ lines_of (drop (suc n) text)) found.1)

pub line-open : (text : List ℕ) → 0 < length text → position (λ b. eqb b 10) text ≡ None → lines_of text ≡ text ∷ []
line-open text some e = without_end text some (ltb-false _ _ (no_end _ _ e))

pub no_lines : lines_of [] ≡ []
unfolding lines_of
no_lines = refl
