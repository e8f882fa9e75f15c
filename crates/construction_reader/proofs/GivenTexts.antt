-- Each rank and rows that may be given are given by a text, with blank lines where none of the rows stands.
use Rattle.std.proofs.Common.{◌≡◌, ℕ, zero, suc, ◌+◌, ◌-◌, List, [], ◌∷◌, ◌++◌, refl, sym, ap, subst, ◌∙◌, arith, codes}
use Rattle.std.specs.Prelude.{decimal}
use Rattle.std.specs.List.{AllByRecursion}
use Rattle.construction_reader.specs.Tokens.{tokens_of, tokens_by}
use Rattle.construction_reader.specs.Said.{Row, Account, sentences_of}
use Rattle.construction_reader.specs.Lines.{lines_of, content}
use Rattle.construction_reader.specs.Grammar.{sentence_tokens, IsSentence, RisesFrom, IsGiven}
use Rattle.construction_reader.specs.Printed.{line_text}
use Rattle.construction_reader.specs.TextOf.{onto_full, full_lines, IsClean, TextOf}
use Rattle.construction_reader.proofs.TextLaws.{said}
use Rattle.construction_reader.proofs.PrintedLaws.{content-clean, spelled, lines_of-line_text, tokens-line, clean-line, no_lines, onto_full-sentence, short-sentence, short-rank, first_tokens, short-first}

-- so many blank lines, and then the rest
abbrev blanks : ℕ → List ℕ → List ℕ
blanks zero rest = rest
blanks (suc k) rest = 10 ∷ blanks k rest

-- the rows on their lines, from this line on
abbrev body : ℕ → List Row → List ℕ
body n [] = []
body n (row ∷ rows) = blanks (row.line - n) (line_text (sentence_tokens row.sentence) ++ body (row.line + 1) rows)

pub record SaysFrom (n : ℕ) (lines : List (List ℕ)) (rows : List Row) : Type 0 where
  pub clean : AllByRecursion IsClean lines
  pub says : full_lines n lines ≡ said rows

no_tokens : tokens_of (content []) ≡ []
unfolding tokens_by
no_tokens = ap tokens_of (content-clean [] refl)

blank_line : (rest : List ℕ) → lines_of (10 ∷ rest) ≡ [] ∷ lines_of rest
unfolding lines_of
blank_line rest = refl

clean_blank : IsClean []
unfolding tokens_by
clean_blank = rw (content-clean [] refl) (refl, refl)

blank_step : (k n : ℕ) (rest : List ℕ) (rows : List Row) → SaysFrom (n + k) (lines_of rest) rows
    → SaysFrom n (lines_of (blanks k rest)) rows
blank_step zero n rest rows says = let same : n + 0 ≡ n = omega arith in
    subst (λ m. SaysFrom m (lines_of rest) rows) same says
blank_step (suc k) n rest rows says =
    let same : n + suc k ≡ n + 1 + k = omega arith in
    let more = blank_step k (n + 1) rest rows (subst (λ m. SaysFrom m (lines_of rest) rows) same says) in
    subst (λ ls. SaysFrom n ls rows) (sym (blank_line (blanks k rest))) (record {
      clean = (clean_blank, more.clean);
      says = ap (λ ts. onto_full n ts (full_lines (n + 1) (lines_of (blanks k rest)))) no_tokens ∙ more.says;
    })

says_body : (n : ℕ) (rows : List Row) → RisesFrom n rows → AllByRecursion IsSentence (sentences_of rows)
    → SaysFrom n (lines_of (body n rows)) rows
says_body n [] rising each = subst (λ ls. SaysFrom n ls []) (sym no_lines) (record { clean = tt; says = refl })
says_body n (row ∷ rows) rising each =
    let tokens = sentence_tokens row.sentence in
    let short = short-sentence row.sentence each.0 in
    let rest = says_body (row.line + 1) rows rising.1 each.1 in
    let text = body (row.line + 1) rows in
    let at : n + (row.line - n) ≡ row.line = omega (arith, rising.0) in
    let here : SaysFrom row.line (lines_of (line_text tokens ++ text)) (row ∷ rows) =
    subst (λ ls. SaysFrom row.line ls (row ∷ rows)) (sym (lines_of-line_text tokens text short)) (record {
      clean = (clean-line tokens short, rest.clean);
      says = ap (λ ts. onto_full row.line ts (full_lines (row.line + 1) (lines_of text))) (tokens-line tokens short)
          ∙ onto_full-sentence row.line row.sentence (full_lines (row.line + 1) (lines_of text))
          ∙ ap (λ fs. (row.line, tokens) ∷ fs) rest.says;
    }) in
    blank_step (row.line - n) n (line_text tokens ++ text) (row ∷ rows)
    (subst (λ m. SaysFrom m (lines_of (line_text tokens ++ text)) (row ∷ rows)) (sym at) here)

pub given_text : (c : Account) → IsGiven c → (text : List ℕ) × TextOf text c
given_text c given =
    let two = codes "rank" ∷ decimal c.rank ∷ [] in
    let short_two = short-rank c.rank given.good.ranked.0 given.good.ranked.1 in
    let text = body 3 c.rows in
    let rest = says_body 3 c.rows given.rising given.good.each in
    let split : lines_of (line_text first_tokens ++ (line_text two
    ++ text)) ≡ spelled first_tokens ∷ spelled two ∷ lines_of text =
    lines_of-line_text first_tokens (line_text two ++ text) short-first
    ∙ ap (λ ls. spelled first_tokens ∷ ls) (lines_of-line_text two text short_two) in
    let says : full_lines 1 (spelled first_tokens ∷ spelled two ∷ lines_of text) ≡ (1, first_tokens) ∷
    (2, two) ∷ said c.rows =
    ap (λ ts. onto_full 1 ts (full_lines 2 (spelled two ∷ lines_of text))) (tokens-line first_tokens short-first)
    ∙ ap (λ ts. (1, first_tokens) ∷ onto_full 2 ts (full_lines 3 (lines_of text))) (tokens-line two short_two)
    ∙ ap (λ fs. (1, first_tokens) ∷ (2, two) ∷ fs) rest.says in (
      line_text first_tokens ++ (line_text two ++ text),
      record {
        first = 1;
        second = 2;
        clean = subst (λ ls. AllByRecursion IsClean ls) (sym split)
            (clean-line first_tokens short-first, (clean-line two short_two, rest.clean));
        says = ap (full_lines 1) split ∙ says;
        good = given.good;
      },
    )
