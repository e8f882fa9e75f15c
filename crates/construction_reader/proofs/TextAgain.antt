-- What gives a construction is read as it.
use Rattle.std.proofs.Common.{subst, ◌≡◌, ℕ, ◌+◌, ◌≤◌, true, false, List, [], ◌∷◌, ◌++◌, length, length-append, Result, Ok, Err, refl, sym, ap, ◌∙◌, append_assoc, arith, codes, lit<, inl, inr, ◌⊎◌}
use Rattle.std.specs.Prelude.{sum_by, decimal, MatchResult}
use Rattle.std.specs.List.{AllByRecursion, list_any}
use Rattle.std.proofs.lemmas.Bool.{le-ltb, cases_Bool}
use Rattle.std.proofs.lemmas.Fmt.{decimal_digit}
use Rattle.std.proofs.lemmas.List.{append-nil}
use Rattle.std.proofs.lemmas.List.Sums.{sum_by-cons}
use Rattle.construction_reader.specs.declared.fault.Kind.{Kind}
use Rattle.construction_reader.specs.declared.fault.TextFault.{TextFault}
use Rattle.construction_reader.specs.declared.state.Stage.{Stage}
use Rattle.construction_reader.specs.declared.state.Stage.TheVariants.{Empty, Named, Going, Concluded}
use Rattle.construction_reader.specs.declared.fault.ReadTextError.{ReadTextError}
use Rattle.construction_reader.specs.declared.construction.Construction.{Construction}
use Rattle.construction_reader.specs.Seen.{account}
use Rattle.construction_reader.specs.Words.{◌is◌}
use Rattle.construction_reader.specs.Tokens.{tokens_of}
use Rattle.construction_reader.specs.Said.{Recipe, Sentence, Row, Account, sentences_of}
use Rattle.construction_reader.specs.Sentences.{sentence_at}
use Rattle.construction_reader.specs.Lines.{lines_of, content, line_tokens}
use Rattle.construction_reader.specs.Params.{with_param, with_params}
use Rattle.construction_reader.specs.Texts.{Progress, start, counts, adds, is_two, full_line, line_read, takes_line, at_line, ends, reads, read_of, GivesText}
use Rattle.construction_reader.specs.Grammar.{sentence_tokens, IsSentence, is_conclusion, EndsOnce, free_names, definitions, params_with, params_of, IsAccount}
use Rattle.construction_reader.specs.TextOf.{onto_full, full_lines, IsClean, TextOf}
use Rattle.construction_reader.specs.declared.fault.ReadTextError.TheVariants as errors
use Rattle.construction_reader.proofs.ObjectLaws.{is_itself}
use Rattle.construction_reader.proofs.SentenceAgain.{three_or_four, sentence_again}
use Rattle.construction_reader.proofs.TextLaws.{said, stage_after, tokens_cases}
use Rattle.construction_reader.proofs.WholeTexts.{IsFresh}

abbrev done : {A : Type 0} → A → Result A TextFault
done x = Ok x

abbrev line_done : Progress → Result Progress Kind
line_done p = Ok p

ok_any : {A : Type 0} (x y : A) → done x ≡ done y → x ≡ y
ok_any x y e = cc

-- ---- a line without faults of its bytes

takes : (n : ℕ) (line : List ℕ) (p : Progress) → IsClean line
    → takes_line n line p ≡ line_read n (tokens_of (content line)) p
unfolding takes_line line_tokens
takes n line p clean = rw (clean.0, clean.1) refl

goes_on : (n : ℕ) (line : List ℕ) (lines : List (List ℕ)) (p q : Progress) → IsClean line
    → line_read n (tokens_of (content line)) p ≡ Ok q → reads n (line ∷ lines) p ≡ reads (n + 1) lines q
unfolding reads
goes_on n line lines p q clean read = rw (takes n line p clean, read) refl

goes_on_blank : (n : ℕ) (line : List ℕ) (lines : List (List ℕ)) (p : Progress) → IsClean line
    → tokens_of (content line) ≡ [] → reads n (line ∷ lines) p ≡ reads (n + 1) lines p
unfolding line_read
goes_on_blank n line lines p clean none = goes_on n line lines p p clean (ap (λ ts. line_read n ts p) none)

full_lines-blank : (n : ℕ) (line : List ℕ) (lines : List (List ℕ)) → tokens_of (content line) ≡ []
    → full_lines (n + 1) lines ≡ full_lines n (line ∷ lines)
full_lines-blank n line lines none = ap (λ ts. onto_full n ts (full_lines (n + 1) lines)) (sym none)

full_lines-full : (n : ℕ) (line : List ℕ) (lines : List (List ℕ)) (t : List ℕ) (ts : List (List ℕ))
    → tokens_of (content line) ≡ t ∷ ts → (n, t ∷ ts) ∷ full_lines (n + 1) lines ≡ full_lines n (line ∷ lines)
full_lines-full n line lines t ts some = ap (λ ts. onto_full n ts (full_lines (n + 1) lines)) (sym some)

abbrev Numbered : Type 0
Numbered = ℕ × List (List ℕ)

same_number : (x y : Numbered) (xs ys : List Numbered) → x ∷ xs ≡ y ∷ ys → x.0 ≡ y.0
same_number x y xs ys e = let same : x ≡ y = cc in ap (λ (z : Numbered). z.0) same

same_tokens : (x y : Numbered) (xs ys : List Numbered) → x ∷ xs ≡ y ∷ ys → x.1 ≡ y.1
same_tokens x y xs ys e = let same : x ≡ y = cc in ap (λ (z : Numbered). z.1) same

same_rest : (x y : Numbered) (xs ys : List Numbered) → x ∷ xs ≡ y ∷ ys → xs ≡ ys
same_rest x y xs ys e = cc

-- ---- behind the conclusion

concluded_again : (n : ℕ) (lines : List (List ℕ)) (p : Progress) → p.stage ≡ Concluded → AllByRecursion IsClean lines
    → full_lines n lines ≡ [] → reads n lines p ≡ Ok (record { rank = p.rank; rows = p.rows })
unfolding reads ends
concluded_again n [] p at clean blank = ap (λ s. at_line n (ends p s)) at
concluded_again n (line ∷ lines) p at clean blank =
    elim (tokens_cases (tokens_of (content line))) [
      | inl none ↦ goes_on_blank n line lines p clean.0 none
          ∙ concluded_again (n + 1) lines p at clean.1 (full_lines-blank n line lines none ∙ blank)
      | inr some ↦ let never = full_lines-full n line lines some.0 some.1 some.2 ∙ blank in absurd cc
    ]

-- ---- counting

with_param-grows : (params : List (List ℕ)) (name : List ℕ) → length params ≤ length (with_param params name)
with_param-grows params name =
    elim (cases_Bool (list_any (λ p. p is name) params)) [
      | inl known ↦ rw known (omega arith)
      | inr new ↦ rw new (omega (arith, length-append params (name ∷ [])))
    ]

with_params-grows : (params : List (List ℕ)) (r : Recipe) → length params ≤ length (with_params params r)
with_params-grows params (Recipe.Join a b) = omega arith
with_params-grows params (Recipe.Meet a b) = omega arith
with_params-grows params (Recipe.On a b s t) = omega (
  arith,
  with_param-grows params s,
  with_param-grows (with_param params s) t,
)
with_params-grows params (Recipe.Pascal five through) = omega arith

params_with-grows : (params : List (List ℕ)) (s : Sentence) → length params ≤ length (params_with params s)
params_with-grows params (Sentence.Free names) = omega arith
params_with-grows params (Sentence.Define kind name recipe) = with_params-grows params recipe
params_with-grows params (Sentence.Conclude claim) = omega arith

params_of-grows : (params : List (List ℕ)) (sentences : List Sentence)
    → length params ≤ length (params_of params sentences)
params_of-grows params [] = omega arith
params_of-grows params (s ∷ others) = omega (
  arith,
  params_with-grows params s,
  params_of-grows (params_with params s) others,
)

-- the progress with this sentence counted
abbrev after : Sentence → Progress → Progress
after (Sentence.Free names) p = record p { free = p.free + length names }
after (Sentence.Define kind name recipe) p = record p {
  definitions = p.definitions + 1;
  params =
      with_params p.params recipe;
}
after (Sentence.Conclude claim) p = record p { stage = Concluded }

counts_again : (s : Sentence) (p : Progress) → p.free + free_names s ≤ 200 → p.definitions + definitions s ≤ 2000
    → length (params_with p.params s) ≤ 64 → counts s p ≡ Ok (after s p)
unfolding counts
counts_again (Sentence.Free names) p few_free few_definitions few_params = rw (le-ltb _ _ few_free) refl
counts_again (Sentence.Define kind name recipe) p few_free few_definitions few_params =
    rw (le-ltb _ _ few_definitions, le-ltb _ _ few_params) refl
counts_again (Sentence.Conclude claim) p few_free few_definitions few_params = refl

-- the progress with the sentence of this line
abbrev pushed : ℕ → Sentence → Progress → Progress
pushed n s p = let r = after s p in record r { rows = r.rows ++ record { line = n; sentence = s } ∷ [] }

-- what counting a sentence changes
pub record Counted (n : ℕ) (s : Sentence) (p q : Progress) : Type 0 where
  pub stage : q.stage ≡ stage_after s p.stage
  pub rank : q.rank ≡ p.rank
  pub rows : q.rows ≡ p.rows ++ record { line = n; sentence = s } ∷ []
  pub free : q.free ≡ p.free + free_names s
  pub definitions : q.definitions ≡ p.definitions + definitions s
  pub params : q.params ≡ params_with p.params s

counted : (n : ℕ) (s : Sentence) (p : Progress) → Counted n s p (pushed n s p)
counted n (Sentence.Free names) p = record {
  stage = refl;
  rank = refl;
  rows = refl;
  free = refl;
  definitions =
      omega arith;
  params = refl;
}
counted n (Sentence.Define kind name recipe) p = record {
  stage = refl;
  rank = refl;
  rows = refl;
  free = omega arith;
  definitions = refl;
  params = refl;
}
counted n (Sentence.Conclude claim) p = record {
  stage = refl;
  rank = refl;
  rows = refl;
  free = omega arith;
  definitions = omega arith;
  params = refl;
}

-- ---- the sentences

pub record CanGoOn (p : Progress) (rows : List Row) : Type 0 where
  pub stage : p.stage ≡ Going
  pub each : AllByRecursion IsSentence (sentences_of rows)
  pub ends : EndsOnce (sentences_of rows)
  pub few_free : p.free + sum_by free_names (sentences_of rows) ≤ 200
  pub few_definitions : p.definitions + sum_by definitions (sentences_of rows) ≤ 2000
  pub few_params : length (params_of p.params (sentences_of rows)) ≤ 64

sentence_line : (n : ℕ) (line : List ℕ) (t : List ℕ) (ts : List (List ℕ)) (p : Progress) (row : Row) (rows : List Row)
    → CanGoOn p (row ∷ rows) → tokens_of (content line) ≡ t ∷ ts → t ∷ ts ≡ sentence_tokens row.sentence
    → line_read n (tokens_of (content line)) p ≡ Ok (pushed n row.sentence p)
unfolding line_read full_line adds
sentence_line n line t ts p row rows can some says =
    let read : sentence_at (t ∷ ts) ≡ Ok row.sentence = ap sentence_at says ∙ sentence_again row.sentence can.each.0 in
    let few_free : p.free + free_names row.sentence ≤ 200 =
    omega (arith, can.few_free, sum_by-cons free_names row.sentence (sentences_of rows)) in
    let few_definitions : p.definitions + definitions row.sentence ≤ 2000 =
    omega (arith, can.few_definitions, sum_by-cons definitions row.sentence (sentences_of rows)) in
    let few_params : length (params_with p.params row.sentence) ≤ 64 =
    omega (arith, can.few_params, params_of-grows (params_with p.params row.sentence) (sentences_of rows)) in
    let count : counts row.sentence p ≡ Ok (after row.sentence p) =
    counts_again row.sentence p few_free few_definitions few_params in
    ap (λ ts. line_read n ts p) some ∙ ap (λ s. full_line s n (t ∷ ts) p) can.stage ∙ rw (read, count) refl

goes_further : (n : ℕ) (p : Progress) (row next : Row) (rows : List Row) → CanGoOn p (row ∷ next ∷ rows)
    → CanGoOn (pushed n row.sentence p) (next ∷ rows)
goes_further n p row next rows can =
    let c = counted n row.sentence p in
    record {
      stage = c.stage ∙ keeps row.sentence p.stage can.ends.0 ∙ can.stage;
      each = can.each.1;
      ends = can.ends.1;
      few_free = omega (arith, can.few_free, c.free, sum_by-cons free_names row.sentence (sentences_of (next ∷ rows)));
      few_definitions = omega (
        arith,
        can.few_definitions,
        c.definitions,
        sum_by-cons definitions row.sentence (sentences_of (next ∷ rows)),
      );
      few_params = subst (λ ps. length (params_of ps (sentences_of (next ∷ rows))) ≤ 64) (sym c.params) can.few_params;
    }
  where
    keeps : (s : Sentence) (stage : Stage) → is_conclusion s ≡ false → stage_after s stage ≡ stage
    keeps (Sentence.Free names) stage other = refl
    keeps (Sentence.Define kind name recipe) stage other = refl
    keeps (Sentence.Conclude claim) stage other = absurd cc

-- the account with these rows behind those read before
abbrev gives : Progress → List Row → Account
gives p rows = record { rank = p.rank; rows = p.rows ++ rows }

gives-pushed : (n : ℕ) (p : Progress) (row : Row) (rows : List Row) → n ≡ row.line
    → gives (pushed n row.sentence p) rows ≡ gives p (row ∷ rows)
gives-pushed n p row rows at =
    let c = counted n row.sentence p in
    let same_row : record { line = n; sentence = row.sentence } ≡ row =
    ap (λ k. let made : Row = record { line = k; sentence = row.sentence } in made) at in
    let all : (pushed n row.sentence p).rows ++ rows ≡ p.rows ++ row ∷ rows =
    ap (λ rs. rs ++ rows) (c.rows ∙ ap (λ r. p.rows ++ r ∷ []) same_row) ∙ append_assoc p.rows (row ∷ []) rows in
    ap (λ d. let made : Account = record { rank = d; rows = (pushed n row.sentence p).rows ++ rows } in made) c.rank
    ∙ ap (λ rs. let made : Account = record { rank = p.rank; rows = rs } in made) all

concludes : (s : Sentence) (stage : Stage) → is_conclusion s ≡ true → stage_after s stage ≡ Concluded
concludes (Sentence.Free names) stage last = absurd cc
concludes (Sentence.Define kind name recipe) stage last = absurd cc
concludes (Sentence.Conclude claim) stage last = refl

-- the first row stands on this line
pub record StandsOn (n : ℕ) (line : List ℕ) (lines : List (List ℕ)) (row : Row) (rows : List Row) : Type 0 where
  pub first : List ℕ
  pub others : List (List ℕ)
  pub made : tokens_of (content line) ≡ first ∷ others
  pub number : n ≡ row.line
  pub tokens : first ∷ others ≡ sentence_tokens row.sentence
  pub rest : full_lines (n + 1) lines ≡ said rows

stands_on : (n : ℕ) (line : List ℕ) (lines : List (List ℕ)) (row : Row) (rows : List Row) (t : List ℕ)
    (ts : List (List ℕ)) → tokens_of (content line) ≡ t ∷ ts → full_lines n (line ∷ lines) ≡ said (row ∷ rows)
    → StandsOn n line lines row rows
stands_on n line lines row rows t ts some says =
    let split = full_lines-full n line lines t ts some ∙ says in
    let x : Numbered = (n, t ∷ ts) in
    let y : Numbered = (row.line, sentence_tokens row.sentence) in
    record {
      first = t;
      others = ts;
      made = some;
      number = same_number x y (full_lines (n + 1) lines) (said rows) split;
      tokens = same_tokens x y (full_lines (n + 1) lines) (said rows) split;
      rest = same_rest x y (full_lines (n + 1) lines) (said rows) split;
    }

line_goes : (n : ℕ) (line : List ℕ) (lines : List (List ℕ)) (p : Progress) (row : Row) (rows : List Row)
    → IsClean line → CanGoOn p (row ∷ rows) → StandsOn n line lines row rows
    → reads n (line ∷ lines) p ≡ reads (n + 1) lines (pushed n row.sentence p)
line_goes n line lines p row rows clean can on = goes_on n line lines p (pushed n row.sentence p) clean
    (sentence_line n line on.first on.others p row rows can on.made on.tokens)

going_again : (n : ℕ) (lines : List (List ℕ)) (p : Progress) (rows : List Row) → CanGoOn p rows
    → AllByRecursion IsClean lines → full_lines n lines ≡ said rows → reads n lines p ≡ Ok (gives p rows)
going_again n lines p [] can clean says = absurd can.ends
going_again n [] p (row ∷ rows) can clean says = absurd cc
going_again n (line ∷ lines) p (row ∷ []) can clean says =
    elim (tokens_cases (tokens_of (content line))) [
      | inl none ↦ goes_on_blank n line lines p clean.0 none
          ∙ going_again (n + 1) lines p (row ∷ []) can clean.1 (full_lines-blank n line lines none ∙ says)
      | inr some ↦
          let on = stands_on n line lines row [] some.0 some.1 some.2 says in
          let q = pushed n row.sentence p in
          let ended : q.stage ≡ Concluded = (counted n row.sentence p).stage
          ∙ concludes row.sentence p.stage can.ends in
          let same : reads (n + 1) lines q ≡ Ok (gives q []) = concluded_again (n + 1) lines q ended clean.1 on.rest
          ∙ ap (λ rs. let made : Account = record { rank = q.rank; rows = rs } in done made)
          (sym (append-nil q.rows)) in
          line_goes n line lines p row [] clean.0 can on ∙ same ∙ ap done (gives-pushed n p row [] on.number)
    ]
going_again n (line ∷ lines) p (row ∷ next ∷ rows) can clean says =
    elim (tokens_cases (tokens_of (content line))) [
      | inl none ↦ goes_on_blank n line lines p clean.0 none
          ∙ going_again (n + 1) lines p (row ∷ next ∷ rows) can clean.1 (full_lines-blank n line lines none ∙ says)
      | inr some ↦
          let on = stands_on n line lines row (next ∷ rows) some.0 some.1 some.2 says in
          line_goes n line lines p row (next ∷ rows) clean.0 can on
          ∙ going_again (n + 1) lines (pushed n row.sentence p) (next ∷ rows)
          (goes_further n p row next rows can) clean.1 on.rest
          ∙ ap done (gives-pushed n p row (next ∷ rows) on.number)
    ]

-- ---- the two first lines

abbrev with_rank : Progress → ℕ → Progress
with_rank p d = record p { stage = Going; rank = d }

two_is_itself : (a b : List ℕ) → is_two a b (a ∷ b ∷ []) ≡ true
two_is_itself a b = rw (is_itself a, is_itself b) refl

rank_line : (n : ℕ) (p : Progress) (d : ℕ) → p.stage ≡ Named → ((d ≡ 3) ⊎ (d ≡ 4))
    → line_read n (codes "rank" ∷ decimal d ∷ []) p ≡ Ok (with_rank p d)
unfolding line_read full_line
rank_line n p d at (inl three) =
    ap (λ k. line_read n (codes "rank" ∷ decimal k ∷ []) p) three
    ∙ ap (λ t. line_read n (codes "rank" ∷ t ∷ []) p) (decimal_digit 3 (lit< tt))
    ∙ ap (λ s. full_line s n (codes "rank" ∷ codes "3" ∷ []) p) at ∙ ap (λ k. line_done (with_rank p k)) (sym three)
rank_line n p d at (inr four) =
    ap (λ k. line_read n (codes "rank" ∷ decimal k ∷ []) p) four
    ∙ ap (λ t. line_read n (codes "rank" ∷ t ∷ []) p) (decimal_digit 4 (lit< tt))
    ∙ ap (λ s. full_line s n (codes "rank" ∷ codes "4" ∷ []) p) at ∙ ap (λ k. line_done (with_rank p k)) (sym four)

named_again : (n : ℕ) (lines : List (List ℕ)) (p : Progress) (c : Account) (second : ℕ) → p.stage ≡ Named → IsFresh p
    → AllByRecursion IsClean lines → IsAccount c.rank (sentences_of c.rows)
    → full_lines n lines ≡ (second, codes "rank" ∷ decimal c.rank ∷ []) ∷ said c.rows → reads n lines p ≡ Ok c
named_again n [] p c second at fresh clean good says = absurd cc
named_again n (line ∷ lines) p c second at fresh clean good says =
    elim (tokens_cases (tokens_of (content line))) [
      | inl none ↦ goes_on_blank n line lines p clean.0 none
          ∙ named_again (n + 1) lines p c second at fresh clean.1 good (full_lines-blank n line lines none ∙ says)
      | inr some ↦
          let split = full_lines-full n line lines some.0 some.1 some.2 ∙ says in
          let x : Numbered = (n, some.0 ∷ some.1) in
          let y : Numbered = (second, codes "rank" ∷ decimal c.rank ∷ []) in
          let tokens = some.2 ∙ same_tokens x y (full_lines (n + 1) lines) (said c.rows) split in
          let rest = same_rest x y (full_lines (n + 1) lines) (said c.rows) split in
          let q = with_rank p c.rank in
          let can : CanGoOn q c.rows = record {
            stage = refl;
            each = good.each;
            ends = good.ends;
            few_free = omega (arith, good.few_free, fresh.free);
            few_definitions = omega (arith, good.few_definitions, fresh.definitions);
            few_params = subst (λ ps. length (params_of ps (sentences_of c.rows)) ≤ 64)
                (sym fresh.params) good.few_params;
          } in
          let all : gives q c.rows ≡ c = ap (λ rs. let made : Account =
          record { rank = c.rank; rows = rs ++ c.rows } in made) fresh.rows in
          goes_on n line lines p q clean.0 (ap (λ ts. line_read n ts p) tokens
          ∙ rank_line n p c.rank at (three_or_four c.rank good.ranked.0 good.ranked.1))
          ∙ going_again (n + 1) lines q c.rows can clean.1 rest ∙ ap done all
    ]

first_line : (n : ℕ) (p : Progress) → p.stage ≡ Empty → line_read n (codes "construction" ∷ codes "1" ∷ []) p ≡ Ok
    (record p { stage = Named })
unfolding line_read full_line
first_line n p at = ap (λ s. full_line s n (codes "construction" ∷ codes "1" ∷ []) p) at

empty_again : (n : ℕ) (lines : List (List ℕ)) (p : Progress) (c : Account) (first second : ℕ) → p.stage ≡ Empty
    → IsFresh p → AllByRecursion IsClean lines → IsAccount c.rank (sentences_of c.rows)
    → full_lines n lines ≡ (first, codes "construction" ∷ codes "1" ∷ []) ∷
    (second, codes "rank" ∷ decimal c.rank ∷ []) ∷ said c.rows → reads n lines p ≡ Ok c
empty_again n [] p c first second at fresh clean good says = absurd cc
empty_again n (line ∷ lines) p c first second at fresh clean good says =
    elim (tokens_cases (tokens_of (content line))) [
      | inl none ↦ goes_on_blank n line lines p clean.0 none
          ∙ empty_again (n + 1) lines p c first second at fresh clean.1 good
          (full_lines-blank n line lines none ∙ says)
      | inr some ↦
          let split = full_lines-full n line lines some.0 some.1 some.2 ∙ says in
          let x : Numbered = (n, some.0 ∷ some.1) in
          let y : Numbered = (first, codes "construction" ∷ codes "1" ∷ []) in
          let z : Numbered = (second, codes "rank" ∷ decimal c.rank ∷ []) in
          let tokens = some.2 ∙ same_tokens x y (full_lines (n + 1) lines) (z ∷ said c.rows) split in
          let rest = same_rest x y (full_lines (n + 1) lines) (z ∷ said c.rows) split in
          let q : Progress = record p { stage = Named } in
          let still : IsFresh q = record {
            rows = fresh.rows;
            free = fresh.free;
            definitions = fresh.definitions;
            params = fresh.params;
          } in
          goes_on n line lines p q clean.0 (ap (λ ts. line_read n ts p) tokens ∙ first_line n p at)
          ∙ named_again (n + 1) lines q c second refl still clean.1 good rest
    ]

-- What gives a construction is read as it.
pub text_again : (text : List ℕ) (c : Account) → TextOf text c → read_of text ≡ Ok c
unfolding read_of
text_again text c of = empty_again 1 (lines_of text) start c of.first of.second refl
    (record { rows = refl; free = refl; definitions = refl; params = refl }) of.clean of.good of.says

-- A text gives one construction at most.
pub text_of-unique : (text : List ℕ) (c d : Account) → TextOf text c → TextOf text d → c ≡ d
text_of-unique text c d one other = let both : done c ≡ done d = sym (text_again text c one)
    ∙ text_again text d other in ok_any c d both

pub is_only : (text : List ℕ) (r : Result Construction ReadTextError) → GivesText account r (read_of text)
    → (c : Account) → TextOf text c → MatchResult r (λ read. account read ≡ c) (λ error. error ≡ errors.Memory)
is_only text (Ok read) given c of = ok_any (account read) c (sym given ∙ text_again text c of)
is_only text (Err errors.Memory) given c of = refl
is_only text (Err (errors.Fault fault)) given c of = let never = sym given ∙ text_again text c of in absurd cc
