-- What a text gives stands on rising lines behind the header.
use Rattle.std.proofs.Common.{◌≡◌, ℕ, ◌+◌, ◌≤◌, List, [], ◌∷◌, Ok, sym, ap, subst, ◌∙◌, arith, codes, inl, inr}
use Rattle.std.specs.Prelude.{decimal}
use Rattle.construction_reader.specs.Tokens.{tokens_of}
use Rattle.construction_reader.specs.Said.{Row, Account}
use Rattle.construction_reader.specs.Lines.{lines_of, content}
use Rattle.construction_reader.specs.Texts.{read_of}
use Rattle.construction_reader.specs.Grammar.{sentence_tokens, RisesFrom, IsGiven}
use Rattle.construction_reader.specs.TextOf.{onto_full, full_lines, TextOf}
use Rattle.construction_reader.proofs.TextLaws.{said, tokens_cases}
use Rattle.construction_reader.proofs.WholeTexts.{read_takes}

first_number : (m n : ℕ) (xs ys : List (List ℕ)) (us vs : List (ℕ × List (List ℕ))) → (m, xs) ∷ us ≡ (n, ys) ∷ vs
    → (m ≡ n) × (us ≡ vs)
first_number m n xs ys us vs e =
    let x : ℕ × List (List ℕ) = (m, xs) in
    let y : ℕ × List (List ℕ) = (n, ys) in
    let head : x ≡ y = cc in
    (ap (λ (z : ℕ × List (List ℕ)). z.0) head, cc)

-- the lines that are not blank have rising numbers
rises : (n : ℕ) (lines : List (List ℕ)) (rows : List Row) → full_lines n lines ≡ said rows → RisesFrom n rows
rises n lines [] says = tt
rises n [] (row ∷ rows) says = absurd cc
rises n (line ∷ lines) (row ∷ rows) says =
    elim (tokens_cases (tokens_of (content line))) [
      | inl none ↦
          let more = rises (n + 1) lines (row ∷ rows) (ap (λ ts. onto_full n ts (full_lines (n + 1) lines)) (sym none)
          ∙ says) in
          (omega (arith, more.0), more.1)
      | inr some ↦
          let split : (n, some.0 ∷ some.1) ∷ full_lines (n + 1) lines ≡ said (row ∷ rows) =
          ap (λ ts. onto_full n ts (full_lines (n + 1) lines)) (sym some.2) ∙ says in
          let both = first_number n row.line (some.0 ∷ some.1) (sentence_tokens row.sentence)
          (full_lines (n + 1) lines) (said rows) split in
          (omega (arith, both.0), subst (λ k. RisesFrom (k + 1) rows) both.0 (rises (n + 1) lines rows both.1))
    ]

-- each line's number as if it were the first of those that are not blank
numbered : (n : ℕ) (lines : List (List ℕ)) (first : ℕ) (tokens : List (List ℕ)) (others : List (ℕ × List (List ℕ)))
    → full_lines n lines ≡ (first, tokens) ∷ others
    → (n ≤ first) × ((back : List (List ℕ)) × (full_lines (first + 1) back ≡ others))
numbered n [] first tokens others says = absurd cc
numbered n (line ∷ lines) first tokens others says =
    elim (tokens_cases (tokens_of (content line))) [
      | inl none ↦
          let more = numbered (n + 1) lines first tokens others
          (ap (λ ts. onto_full n ts (full_lines (n + 1) lines)) (sym none) ∙ says) in
          (omega (arith, more.0), more.1)
      | inr some ↦
          let split : (n, some.0 ∷ some.1) ∷ full_lines (n + 1) lines ≡ (first, tokens) ∷ others =
          ap (λ ts. onto_full n ts (full_lines (n + 1) lines)) (sym some.2) ∙ says in
          let both = first_number n first (some.0 ∷ some.1) tokens (full_lines (n + 1) lines) others split in
          (omega (arith, both.0), (lines, ap (λ k. full_lines (k + 1) lines) (sym both.0) ∙ both.1))
    ]

rises_lower : (m n : ℕ) (rows : List Row) → m ≤ n → RisesFrom n rows → RisesFrom m rows
rises_lower m n [] low rising = tt
rises_lower m n (row ∷ rows) low rising = (omega (arith, rising.0), rising.1)

pub text_of-given : (text : List ℕ) (c : Account) → TextOf text c → IsGiven c
text_of-given text c of =
    let one = numbered 1 (lines_of text) of.first (codes "construction" ∷ codes "1" ∷ []) _ of.says in
    let two = numbered (of.first + 1) one.1.0 of.second (codes "rank" ∷ decimal c.rank ∷ []) (said c.rows) one.1.1 in
    record {
      good = of.good;
      rising = rises_lower 3 (of.second + 1) c.rows (omega (arith, one.0, two.0))
          (rises (of.second + 1) two.1.0 c.rows two.1.1);
    }

pub reads_given : (text : List ℕ) (c : Account) → read_of text ≡ Ok c → IsGiven c
reads_given text c e = text_of-given text c (read_takes text c e)
