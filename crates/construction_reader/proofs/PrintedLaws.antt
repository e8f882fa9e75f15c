-- The canonical text gives what it was printed from.
use Rattle.std.proofs.Common.{◌≡◌, ℕ, zero, suc, ◌+◌, ◌-◌, ◌≤◌, ◌<◌, Bool, true, false, not, eqb, List, [], ◌∷◌, ◌++◌, length, take, get_or, refl, sym, ap, subst, ◌∙◌, append_assoc, arith, codes, lit<, inl, inr}
use Rattle.std.specs.Prelude.{decimal}
use Rattle.std.specs.List.{flat_map, AllByRecursion, list_all, list_any, position_or_len}
use Rattle.std.proofs.Math.Numerals.{one-add}
use Rattle.std.proofs.lemmas.Bool.{cases_Bool, eqb-true, leb-true, le-ltb}
use Rattle.std.proofs.lemmas.Fmt.{decimal_digit}
use Rattle.std.proofs.lemmas.List.{take_all}
use Rattle.std.proofs.lemmas.List.Concat.{flat_map-cons}
use Rattle.std.proofs.lemmas.List.Folds.{list_all-append}
use Rattle.construction_reader.specs.declared.types.ObjectKind.{ObjectKind}
use Rattle.construction_reader.specs.declared.types.ObjectKind.TheVariants.{Point, Line, Plane}
use Rattle.construction_reader.specs.Words.{◌is◌, is_name_byte, begins_with_letter, is_keyword, is_name}
use Rattle.construction_reader.specs.Tokens.{tokens_of}
use Rattle.construction_reader.specs.Said.{Object, Recipe, Claim, Sentence, Row, Account, sentences_of}
use Rattle.construction_reader.specs.Lines.{onto_line, lines_of, without_return, without_comment, content, is_allowed, is_clean, is_long}
use Rattle.construction_reader.specs.Grammar.{object_tokens, objects_tokens, recipe_tokens, claim_word, claim_args, kind_word, sentence_tokens, HasNames, IsObject, IsRecipe, IsSentence, IsAccount}
use Rattle.construction_reader.specs.Printed.{gap, spaced, line_text, printed, on_lines, renumbered}
use Rattle.construction_reader.specs.TextOf.{onto_full, full_lines, IsClean, TextOf}
use Rattle.construction_reader.proofs.SpacedLaws.{IsToken, and_true, tokens_of-spaced}
use Rattle.construction_reader.proofs.SentenceAgain.{few, three_or_four}
use Rattle.construction_reader.proofs.TextLaws.{said}

-- ---- the tokens of a sentence

-- a token that is not too long
pub record IsShort (token : List ℕ) : Type 0 where
  pub made : IsToken token
  pub short : is_long token ≡ false

abbrev pub AreShort : List (List ℕ) → Type 0
AreShort tokens = AllByRecursion IsShort tokens

short_run : (word : List ℕ) → 0 < length word → list_all is_name_byte word ≡ true → length word ≤ 32 → IsShort word
short_run word some all few = record { made = inl (some, all); short = le-ltb 32 (length word) few }

opening : IsShort (codes "(")
opening = record { made = inr (inl refl); short = refl }

closing : IsShort (codes ")")
closing = record { made = inr (inr (inl refl)); short = refl }

equals : IsShort (codes "=")
equals = record { made = inr (inr (inr refl)); short = refl }

word_join : IsShort (codes "join")
word_join = record { made = inl (lit< tt, refl); short = refl }

word_meet : IsShort (codes "meet")
word_meet = record { made = inl (lit< tt, refl); short = refl }

short-append : (xs ys : List (List ℕ)) → AreShort xs → AreShort ys → AreShort (xs ++ ys)
short-append [] ys a b = b
short-append (x ∷ xs) ys a b = (a.0, short-append xs ys a.1 b)

some_bytes : (bytes : List ℕ) → begins_with_letter bytes ≡ true → 0 < length bytes
some_bytes [] e = absurd cc
some_bytes (b ∷ bytes) e = omega arith

short-name : (name : List ℕ) → is_name name ≡ true → IsShort name
unfolding is_name
short-name name e =
    let keyword = and_true _ (not (is_keyword name)) e in
    let all = and_true _ (list_all is_name_byte name) keyword.0 in
    let few = and_true (begins_with_letter name) _ all.0 in
    short_run name (some_bytes name few.0) all.1 (leb-true _ _ few.1)

short-names : (names : List (List ℕ)) → list_all is_name names ≡ true → AreShort names
short-names [] e = tt
short-names (name ∷ names) e = let both = and_true (is_name name) (list_all is_name names) e in
    (short-name name both.0, short-names names both.1)

short-object : (o : Object) → HasNames o → AreShort (object_tokens o)
short-object (Object.Named name) names = (short-name name names, tt)
short-object (Object.Join a b) names = (
  opening,
  (
    word_join,
    short-append (object_tokens a) (object_tokens b ++ codes ")" ∷ []) (short-object a names.0)
        (short-append (object_tokens b) (codes ")" ∷ []) (short-object b names.1) (closing, tt)),
  ),
)
short-object (Object.Meet a b) names = (
  opening,
  (
    word_meet,
    short-append (object_tokens a) (object_tokens b ++ codes ")" ∷ []) (short-object a names.0)
        (short-append (object_tokens b) (codes ")" ∷ []) (short-object b names.1) (closing, tt)),
  ),
)

short-objects : (os : List Object) → AllByRecursion IsObject os → AreShort (objects_tokens os)
short-objects [] each = tt
short-objects (o ∷ os) each = subst AreShort (sym (flat_map-cons object_tokens o os))
    (short-append (object_tokens o) (objects_tokens os) (short-object o each.0.names) (short-objects os each.1))

short-recipe : (r : Recipe) → IsRecipe r → AreShort (recipe_tokens r)
short-recipe (Recipe.Join a b) fits = (
  word_join,
  short-append (object_tokens a) (object_tokens b)
      (short-object a fits.0.names) (short-object b fits.1.names),
)
short-recipe (Recipe.Meet a b) fits = (
  word_meet,
  short-append (object_tokens a) (object_tokens b)
      (short-object a fits.0.names) (short-object b fits.1.names),
)
short-recipe (Recipe.On a b s t) fits =
    let with_names : AreShort (codes "with" ∷ s ∷ t ∷ []) =
    (record { made = inl (lit< tt, refl); short = refl }, (short-name s fits.2, (short-name t fits.3, tt))) in (
      record { made = inl (lit< tt, refl); short = refl },
      short-append (object_tokens a) (object_tokens b ++ codes "with" ∷ s ∷ t ∷ []) (short-object a fits.0.names)
          (short-append (object_tokens b) (codes "with" ∷ s ∷ t ∷ []) (short-object b fits.1.names) with_names),
    )
short-recipe (Recipe.Pascal five through) fits = (
  record { made = inl (lit< tt, refl); short = refl },
  short-append (objects_tokens five) (codes "through" ∷ object_tokens through) (short-objects five fits.0.1)
      (record { made = inl (lit< tt, refl); short = refl }, short-object through fits.1.names),
)

short-claim_word : (claim : Claim) → IsShort (claim_word claim)
short-claim_word (Claim.Collinear args) = record { made = inl (lit< tt, refl); short = refl }
short-claim_word (Claim.Concurrent args) = record { made = inl (lit< tt, refl); short = refl }
short-claim_word (Claim.Coplanar args) = record { made = inl (lit< tt, refl); short = refl }
short-claim_word (Claim.Meeting args) = record { made = inl (lit< tt, refl); short = refl }
short-claim_word (Claim.Incident args) = record { made = inl (lit< tt, refl); short = refl }
short-claim_word (Claim.Conic args) = record { made = inl (lit< tt, refl); short = refl }

short-kind_word : (kind : ObjectKind) → IsShort (kind_word kind)
short-kind_word Point = record { made = inl (lit< tt, refl); short = refl }
short-kind_word Line = record { made = inl (lit< tt, refl); short = refl }
short-kind_word Plane = record { made = inl (lit< tt, refl); short = refl }

pub short-sentence : (s : Sentence) → IsSentence s → AreShort (sentence_tokens s)
short-sentence (Sentence.Free names) fits = (
  record { made = inl (lit< tt, refl); short = refl },
  short-names names fits.1,
)
short-sentence (Sentence.Define kind name recipe) fits =
    (short-kind_word kind, (short-name name fits.0, (equals, short-recipe recipe fits.1)))
short-sentence (Sentence.Conclude claim) fits = (
  record { made = inl (lit< tt, refl); short = refl },
  (short-claim_word claim, short-objects (claim_args claim) (few claim fits).1),
)

-- ---- the bytes of a line

are_tokens : (tokens : List (List ℕ)) → AreShort tokens → AllByRecursion IsToken tokens
are_tokens [] short = tt
are_tokens (t ∷ ts) short = (short.0.made, are_tokens ts short.1)

none_long : (tokens : List (List ℕ)) → AreShort tokens → list_any is_long tokens ≡ false
none_long [] short = refl
none_long (t ∷ ts) short = rw (short.0.short, none_long ts short.1) refl

allowed_run : (bytes : List ℕ) → list_all is_name_byte bytes ≡ true → is_clean bytes ≡ true
allowed_run [] all = refl
allowed_run (b ∷ bytes) all = let both = and_true (is_name_byte b) (list_all is_name_byte bytes) all in
    rw (both.0, allowed_run bytes both.1) refl

clean-token : (token : List ℕ) → IsToken token → is_clean token ≡ true
clean-token token (inl run) = allowed_run token run.1
clean-token token (inr (inl e)) = rw e refl
clean-token token (inr (inr (inl e))) = rw e refl
clean-token token (inr (inr (inr e))) = rw e refl

clean-append : (xs ys : List ℕ) → is_clean xs ≡ true → is_clean ys ≡ true → is_clean (xs ++ ys) ≡ true
clean-append xs ys a b = list_all-append is_allowed xs ys ∙ rw (a, b) refl

clean-gap : (glued : Bool) (token : List ℕ) → is_clean (gap glued token) ≡ true
clean-gap true token = refl
clean-gap false token =
    elim (cases_Bool (token is codes ")")) [ inl closes ↦ rw closes refl | inr other ↦ rw other refl ]

clean-spaced : (glued : Bool) (tokens : List (List ℕ)) → AreShort tokens → is_clean (spaced glued tokens) ≡ true
unfolding spaced
clean-spaced glued [] short = refl
clean-spaced glued (t ∷ ts) short =
    clean-append (gap glued t) (t ++ spaced (t is codes "(") ts) (clean-gap glued t)
    (clean-append t (spaced (t is codes "(") ts) (clean-token t short.0.made)
    (clean-spaced (t is codes "(") ts short.1))

-- an allowed byte is none that is not
not_byte : (b k : ℕ) → is_allowed b ≡ true → is_allowed k ≡ false → eqb b k ≡ false
not_byte b k allowed other =
    elim (cases_Bool (eqb b k)) [
      | inl same ↦ let never : true ≡ false = sym allowed ∙ ap is_allowed (eqb-true b k same) ∙ other in absurd cc
      | inr different ↦ different
    ]

at_is : (bytes : List ℕ) (i : ℕ) → is_clean bytes ≡ true → eqb (get_or bytes i 0) 13 ≡ false
at_is [] i clean = refl
at_is (b ∷ bytes) zero clean = let both = and_true (is_allowed b) (is_clean bytes) clean in not_byte b 13 both.0 refl
at_is (b ∷ bytes) (suc i) clean = let both = and_true (is_allowed b) (is_clean bytes) clean in at_is bytes i both.1

no_comment : (bytes : List ℕ) → is_clean bytes ≡ true → position_or_len (λ b. eqb b 35) bytes ≡ length bytes
no_comment [] clean = refl
no_comment (b ∷ bytes) clean =
    let both = and_true (is_allowed b) (is_clean bytes) clean in
    let other : eqb b 35 ≡ false = not_byte b 35 both.0 refl in
    let later : position_or_len (λ b. eqb b 35) (b ∷ bytes) ≡ suc (position_or_len (λ b. eqb b 35) bytes) =
    rw other (one-add (position_or_len (λ b. eqb b 35) bytes)) in
    later ∙ ap suc (no_comment bytes both.1)

pub content-clean : (bytes : List ℕ) → is_clean bytes ≡ true → content bytes ≡ bytes
unfolding content without_return without_comment
content-clean bytes clean =
    let open_end : without_return bytes ≡ bytes = rw (at_is bytes (length bytes - 1) clean) refl in
    let whole : without_comment bytes ≡ bytes = ap (λ n. take n bytes) (no_comment bytes clean)
    ∙ take_all (length bytes) bytes (omega arith) in
    ap without_comment open_end ∙ whole

lines_of-line : (bytes rest : List ℕ) → is_clean bytes ≡ true → lines_of (bytes ++ 10 ∷ rest) ≡ bytes ∷ lines_of rest
unfolding lines_of
lines_of-line [] rest clean = refl
lines_of-line (b ∷ bytes) rest clean =
    let both = and_true (is_allowed b) (is_clean bytes) clean in
    let other : eqb b 10 ≡ false = not_byte b 10 both.0 refl in
    let one : lines_of (b ∷ (bytes ++ 10 ∷ rest)) ≡ onto_line b (lines_of (bytes ++ 10 ∷ rest)) = rw other refl in
    one ∙ ap (onto_line b) (lines_of-line bytes rest both.1)

-- ---- the lines of the text

-- a line of these tokens
abbrev pub spelled : List (List ℕ) → List ℕ
spelled tokens = spaced true tokens

pub lines_of-line_text : (tokens : List (List ℕ)) (rest : List ℕ) → AreShort tokens
    → lines_of (line_text tokens ++ rest) ≡ spelled tokens ∷ lines_of rest
lines_of-line_text tokens rest short = ap lines_of (append_assoc (spelled tokens) (10 ∷ []) rest)
    ∙ lines_of-line (spelled tokens) rest (clean-spaced true tokens short)

pub tokens-line : (tokens : List (List ℕ)) → AreShort tokens → tokens_of (content (spelled tokens)) ≡ tokens
tokens-line tokens short = ap tokens_of (content-clean (spelled tokens) (clean-spaced true tokens short))
    ∙ tokens_of-spaced true tokens (are_tokens tokens short)

pub clean-line : (tokens : List (List ℕ)) → AreShort tokens → IsClean (spelled tokens)
clean-line tokens short =
    let same = content-clean (spelled tokens) (clean-spaced true tokens short) in (
      ap is_clean same ∙ clean-spaced true tokens short,
      ap (list_any is_long) (tokens-line tokens short)
          ∙ none_long tokens short,
    )

pub no_lines : lines_of [] ≡ []
unfolding lines_of
no_lines = refl

-- what the text of the rows is, line by line
pub record SaysRows (n : ℕ) (lines : List (List ℕ)) (sentences : List Sentence) : Type 0 where
  pub clean : AllByRecursion IsClean lines
  pub says : full_lines n lines ≡ said (on_lines n sentences)

pub onto_full-sentence : (n : ℕ) (s : Sentence) (others : List (ℕ × List (List ℕ)))
    → onto_full n (sentence_tokens s) others ≡ (n, sentence_tokens s) ∷ others
onto_full-sentence n (Sentence.Free names) others = refl
onto_full-sentence n (Sentence.Define kind name recipe) others = refl
onto_full-sentence n (Sentence.Conclude claim) others = refl

says_rows : (n : ℕ) (rows : List Row) → AllByRecursion IsSentence (sentences_of rows)
    → SaysRows n (lines_of (flat_map (λ row. line_text (sentence_tokens row.sentence)) rows)) (sentences_of rows)
says_rows n [] each = subst (λ ls. SaysRows n ls []) (sym no_lines) (record { clean = tt; says = refl })
says_rows n (row ∷ rows) each =
    let s = row.sentence in
    let short = short-sentence s each.0 in
    let rest = says_rows (n + 1) rows each.1 in
    let text = flat_map (λ row. line_text (sentence_tokens row.sentence)) rows in
    let split : lines_of (flat_map (λ row. line_text (sentence_tokens row.sentence)) (row ∷ rows)) ≡ spelled
    (sentence_tokens s) ∷ lines_of text =
    ap lines_of (flat_map-cons (λ (row : Row). line_text (sentence_tokens row.sentence)) row rows)
    ∙ lines_of-line_text (sentence_tokens s) text short in
    subst (λ ls. SaysRows n ls (s ∷ sentences_of rows)) (sym split) (record {
      clean = (clean-line (sentence_tokens s) short, rest.clean);
      says = ap (λ ts. onto_full n ts (full_lines (n + 1) (lines_of text))) (tokens-line (sentence_tokens s) short)
          ∙ onto_full-sentence n s (full_lines (n + 1) (lines_of text))
          ∙ ap (λ fs. (n, sentence_tokens s) ∷ fs) rest.says;
    })

sentences_of-on_lines : (n : ℕ) (sentences : List Sentence) → sentences_of (on_lines n sentences) ≡ sentences
sentences_of-on_lines n [] = refl
sentences_of-on_lines n (s ∷ others) = ap (λ ss. s ∷ ss) (sentences_of-on_lines (n + 1) others)

pub short-rank : (d : ℕ) → 3 ≤ d → d ≤ 4 → AreShort (codes "rank" ∷ decimal d ∷ [])
short-rank d low high =
    let rank : IsShort (codes "rank") = record { made = inl (lit< tt, refl); short = refl } in
    let digit : IsShort (decimal d) = elim (three_or_four d low high) [
      | inl three ↦ subst IsShort (sym (ap decimal three ∙ decimal_digit 3 (lit< tt)))
          (record { made = inl (lit< tt, refl); short = refl })
      | inr four ↦ subst IsShort (sym (ap decimal four ∙ decimal_digit 4 (lit< tt)))
          (record { made = inl (lit< tt, refl); short = refl })
    ] in
    (rank, (digit, tt))

abbrev pub first_tokens : List (List ℕ)
first_tokens = codes "construction" ∷ codes "1" ∷ []

pub short-first : AreShort first_tokens
short-first = (record { made = inl (lit< tt, refl); short = refl }, (record { made = inl (lit< tt, refl); short = refl }, tt))

-- The canonical text gives the same rank and sentences, on the lines 3, 4, 5 and so on.
pub printed-gives : (c : Account) → IsAccount c.rank (sentences_of c.rows) → TextOf (printed c) (renumbered c)
printed-gives c good =
    let one = codes "construction" ∷ codes "1" ∷ [] in
    let two = codes "rank" ∷ decimal c.rank ∷ [] in
    let body = flat_map (λ (row : Row). line_text (sentence_tokens row.sentence)) c.rows in
    let short_one : AreShort one = (
      record { made = inl (lit< tt, refl); short = refl },
      (record { made = inl (lit< tt, refl); short = refl }, tt),
    ) in
    let short_two : AreShort two = short-rank c.rank good.ranked.0 good.ranked.1 in
    let rest = says_rows 3 c.rows good.each in
    let split : lines_of (printed c) ≡ spelled one ∷ spelled two ∷ lines_of body =
    lines_of-line_text one (line_text two ++ body) short_one
    ∙ ap (λ ls. spelled one ∷ ls) (lines_of-line_text two body short_two) in
    let says : full_lines 1 (spelled one ∷ spelled two ∷ lines_of body) ≡ (1, one) ∷ (2, two) ∷ said
    (on_lines 3 (sentences_of c.rows)) =
    ap (λ ts. onto_full 1 ts (full_lines 2 (spelled two ∷ lines_of body))) (tokens-line one short_one)
    ∙ ap (λ ts. (1, one) ∷ onto_full 2 ts (full_lines 3 (lines_of body))) (tokens-line two short_two)
    ∙ ap (λ fs. (1, one) ∷ (2, two) ∷ fs) rest.says in
    record {
      first = 1;
      second = 2;
      clean = subst (λ ls. AllByRecursion IsClean ls) (sym split)
          (clean-line one short_one, (clean-line two short_two, rest.clean));
      says = ap (full_lines 1) split ∙ says;
      good = subst (IsAccount c.rank) (sym (sentences_of-on_lines 3 (sentences_of c.rows))) good;
    }
