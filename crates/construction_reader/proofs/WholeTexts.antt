-- Whole texts: what their two first lines say, and that what is read gives its construction.
use Rattle.std.proofs.Common.{◌≡◌, ℕ, ◌+◌, ◌≤◌, true, List, [], ◌∷◌, ◌++◌, length, Result, Ok, Err, refl, sym, ap, subst, ◌∙◌, arith, codes, lit<, inl, inr}
use Rattle.std.specs.Prelude.{decimal, IfOk}
use Rattle.std.specs.List.{AllByRecursion}
use Rattle.std.proofs.lemmas.Bool.{cases_Bool}
use Rattle.std.proofs.lemmas.Fmt.{decimal_digit}
use Rattle.construction_reader.specs.declared.state.Stage.TheVariants.{Empty, Named, Going}
use Rattle.construction_reader.specs.declared.fault.ReadTextError.{ReadTextError}
use Rattle.construction_reader.specs.declared.construction.Construction.{Construction}
use Rattle.construction_reader.specs.Seen.{account}
use Rattle.construction_reader.specs.Words.{◌is◌}
use Rattle.construction_reader.specs.Tokens.{tokens_of}
use Rattle.construction_reader.specs.Said.{Account, sentences_of}
use Rattle.construction_reader.specs.Lines.{lines_of, content}
use Rattle.construction_reader.specs.Texts.{Progress, start, is_two, full_line, line_read, at_line, ends, reads, read_of, GivesText}
use Rattle.construction_reader.specs.Grammar.{params_of, IsAccount}
use Rattle.construction_reader.specs.TextOf.{onto_full, full_lines, IsClean, TextOf}
use Rattle.construction_reader.proofs.ObjectLaws.{ok_is, is_same}
use Rattle.construction_reader.proofs.SpacedLaws.{and_true}
use Rattle.construction_reader.proofs.ConclusionLaws.{one_conclusion}
use Rattle.construction_reader.proofs.TextLaws.{said, line_cases, step, IsWithin, SaysRows, blank_read, same_account, going_takes, tokens_cases}

-- ---- the two first lines

pub two_is : (a b : List ℕ) (ts : List (List ℕ)) → is_two a b ts ≡ true → ts ≡ a ∷ b ∷ []
two_is a b [] e = absurd cc
two_is a b (x ∷ []) e = absurd cc
two_is a b (x ∷ y ∷ []) e = let both = and_true (x is a) (y is b) e in ap (λ u. u ∷ y ∷ []) (is_same x a both.0)
    ∙ ap (λ u. a ∷ u ∷ []) (is_same y b both.1)
two_is a b (x ∷ y ∷ z ∷ ts) e = absurd cc

-- nothing was said before
pub record IsFresh (p : Progress) : Type 0 where
  pub rows : p.rows ≡ []
  pub free : p.free ≡ 0
  pub definitions : p.definitions ≡ 0
  pub params : p.params ≡ []

pub record SaysRank (n : ℕ) (lines : List (List ℕ)) (c : Account) : Type 0 where
  pub second : ℕ
  pub clean : AllByRecursion IsClean lines
  pub says : full_lines n lines ≡ (second, codes "rank" ∷ decimal c.rank ∷ []) ∷ said c.rows
  pub good : IsAccount c.rank (sentences_of c.rows)

rank_line : (n : ℕ) (t : List ℕ) (ts : List (List ℕ)) (p q : Progress) → p.stage ≡ Named
    → line_read n (t ∷ ts) p ≡ Ok q → (d : ℕ) × ((3 ≤ d) × (d ≤ 4)) × (t ∷ ts ≡ codes "rank" ∷ decimal d ∷ [])
    × (q ≡ record p { stage = Going; rank = d })
unfolding line_read full_line
rank_line n t ts p q at e =
    let named = ap (λ s. full_line s n (t ∷ ts) p) (sym at) ∙ e in
    let with_rank : ℕ → Progress = λ d. record p { stage = Going; rank = d } in
    elim (cases_Bool (is_two (codes "rank") (codes "3") (t ∷ ts))) [
      | inl three ↦ (
        3,
        (omega arith, omega arith),
        two_is (codes "rank") (codes "3") (t ∷ ts) three
            ∙ ap (λ u. codes "rank" ∷ u ∷ []) (sym (decimal_digit 3 (lit< tt))),
        sym (ok_is (with_rank 3) q (rw three at named)),
      )
      | inr other ↦
          elim (cases_Bool (is_two (codes "rank") (codes "4") (t ∷ ts))) [
            | inl four ↦ (
              4,
              (omega arith, omega arith),
              two_is (codes "rank") (codes "4") (t ∷ ts) four
                  ∙ ap (λ u. codes "rank" ∷ u ∷ []) (sym (decimal_digit 4 (lit< tt))),
              sym (ok_is (with_rank 4) q (rw (other, four) at named)),
            )
            | inr neither ↦ let never = rw (other, neither) at named in absurd cc
          ]
    ]

after_rank : (n : ℕ) (line : List ℕ) (lines : List (List ℕ)) (p : Progress) (c : Account) (d : ℕ) → IsFresh p
    → IsClean line → tokens_of (content line) ≡ codes "rank" ∷ decimal d ∷ [] → ((3 ≤ d) × (d ≤ 4))
    → SaysRows (n + 1) lines (record p { stage = Going; rank = d }) c → SaysRank n (line ∷ lines) c
after_rank n line lines p c d fresh clean tokens is_rank rest =
    let rows-are : p.rows ++ rest.rows ≡ rest.rows = ap (λ rs. rs ++ rest.rows) fresh.rows in
    let same = same_account d d (p.rows ++ rest.rows) rest.rows c rest.same refl rows-are in
    let made : Account = record { rank = d; rows = rest.rows } in
    let few : length (params_of [] (sentences_of rest.rows)) ≤ 64 =
    subst (λ ps. length (params_of ps (sentences_of rest.rows)) ≤ 64) fresh.params rest.few_params in
    subst (λ c. SaysRank n (line ∷ lines) c) (sym same) (record {
      second = n;
      clean = (clean, rest.clean);
      says = ap (λ us. onto_full n us (full_lines (n + 1) lines)) tokens
          ∙ ap (λ fs. (n, codes "rank" ∷ decimal d ∷ []) ∷ fs) rest.says;
      good = record {
        ranked = is_rank;
        each = rest.each;
        ends = rest.ends;
        few_free =
            omega (arith, rest.few_free, fresh.free);
        few_definitions =
            omega (arith, rest.few_definitions, fresh.definitions);
        few_params = few;
        few_conclusions = (let one = one_conclusion (sentences_of rest.rows) rest.ends in omega arith);
      };
    })

pub named_takes : (n : ℕ) (lines : List (List ℕ)) (p : Progress) (c : Account) → p.stage ≡ Named → IsFresh p
    → reads n lines p ≡ Ok c → SaysRank n lines c
unfolding reads ends
named_takes n [] p c at fresh e = let never = ap (λ s. at_line n (ends p s)) (sym at) ∙ e in absurd cc
named_takes n (line ∷ lines) p c at fresh e =
    let a = step n line lines p c e in
    let l = line_cases n line p a.0 a.1 in
    elim (tokens_cases (tokens_of (content line))) [
      | inl none ↦
          let same = blank_read n p a.0 (ap (λ ts. line_read n ts p) (sym none) ∙ l.1) in
          let rest = named_takes (n + 1) lines p c at fresh (ap (λ q. reads (n + 1) lines q) same ∙ a.2) in
          record {
            second = rest.second;
            clean = (l.0, rest.clean);
            says =
                ap (λ ts. onto_full n ts (full_lines (n + 1) lines)) none ∙ rest.says;
            good = rest.good;
          }
      | inr some ↦
          let b = rank_line n some.0 some.1 p a.0 at (ap (λ ts. line_read n ts p) (sym some.2) ∙ l.1) in
          let within : IsWithin (record p { stage = Going; rank = b.0 }) =
          record {
            free = omega (arith, fresh.free);
            definitions = omega (arith, fresh.definitions);
            params =
                rw fresh.params (omega arith);
          } in
          after_rank n line lines p c b.0 fresh l.0 (some.2 ∙ b.2) b.1
          (going_takes (n + 1) lines (record p { stage = Going; rank = b.0 }) c refl within
          (ap (λ q. reads (n + 1) lines q) (sym b.3) ∙ a.2))
    ]

pub record SaysAll (n : ℕ) (lines : List (List ℕ)) (c : Account) : Type 0 where
  pub first : ℕ
  pub second : ℕ
  pub clean : AllByRecursion IsClean lines
  pub says : full_lines n lines ≡ (first, codes "construction" ∷ codes "1" ∷ []) ∷
      (second, codes "rank" ∷ decimal c.rank ∷ []) ∷ said c.rows
  pub good : IsAccount c.rank (sentences_of c.rows)

first_line : (n : ℕ) (t : List ℕ) (ts : List (List ℕ)) (p q : Progress) → p.stage ≡ Empty
    → line_read n (t ∷ ts) p ≡ Ok q → (t ∷ ts ≡ codes "construction" ∷ codes "1" ∷ [])
    × (q ≡ record p { stage = Named })
unfolding line_read full_line
first_line n t ts p q at e =
    let empty = ap (λ s. full_line s n (t ∷ ts) p) (sym at) ∙ e in
    let made : Progress = record p { stage = Named } in
    elim (cases_Bool (is_two (codes "construction") (codes "1") (t ∷ ts))) [
      | inl both ↦ (two_is (codes "construction") (codes "1") (t ∷ ts) both, sym (ok_is made q (rw both at empty)))
      | inr other ↦ let never = rw other at empty in absurd cc
    ]

pub empty_takes : (n : ℕ) (lines : List (List ℕ)) (p : Progress) (c : Account) → p.stage ≡ Empty → IsFresh p
    → reads n lines p ≡ Ok c → SaysAll n lines c
unfolding reads ends
empty_takes n [] p c at fresh e = let never = ap (λ s. at_line n (ends p s)) (sym at) ∙ e in absurd cc
empty_takes n (line ∷ lines) p c at fresh e =
    let a = step n line lines p c e in
    let l = line_cases n line p a.0 a.1 in
    elim (tokens_cases (tokens_of (content line))) [
      | inl none ↦
          let same = blank_read n p a.0 (ap (λ ts. line_read n ts p) (sym none) ∙ l.1) in
          let rest = empty_takes (n + 1) lines p c at fresh (ap (λ q. reads (n + 1) lines q) same ∙ a.2) in
          record {
            first = rest.first;
            second = rest.second;
            clean = (l.0, rest.clean);
            says =
                ap (λ ts. onto_full n ts (full_lines (n + 1) lines)) none ∙ rest.says;
            good = rest.good;
          }
      | inr some ↦
          let b = first_line n some.0 some.1 p a.0 at (ap (λ ts. line_read n ts p) (sym some.2) ∙ l.1) in
          let still : IsFresh (record p { stage = Named }) =
          record {
            rows = fresh.rows;
            free = fresh.free;
            definitions = fresh.definitions;
            params =
                fresh.params;
          } in
          let rest = named_takes (n + 1) lines (record p { stage = Named }) c refl still
          (ap (λ q. reads (n + 1) lines q) (sym b.1) ∙ a.2) in
          record {
            first = n;
            second = rest.second;
            clean = (l.0, rest.clean);
            says =
                ap (λ us. onto_full n us (full_lines (n + 1) lines)) (some.2 ∙ b.0)
                ∙ ap (λ fs. (n, codes "construction" ∷ codes "1" ∷ []) ∷ fs) rest.says;
            good = rest.good;
          }
    ]

-- What is read is in the grammar.
pub read_takes : (text : List ℕ) (c : Account) → read_of text ≡ Ok c → TextOf text c
unfolding read_of
read_takes text c e =
    let all = empty_takes 1 (lines_of text) start c refl
    (record { rows = refl; free = refl; definitions = refl; params = refl }) e in
    record { first = all.first; second = all.second; clean = all.clean; says = all.says; good = all.good }

pub is_found : (text : List ℕ) (r : Result Construction ReadTextError) → GivesText account r (read_of text)
    → IfOk r (λ c. TextOf text (account c))
is_found text (Ok c) given = read_takes text (account c) given
is_found text (Err e) given = tt
