-- A construction text with an LF behind its last line: it gives the same construction, and no line of it is the first
-- line of a proof.
use Rattle.std.proofs.Common.{◌≡◌, ◌≢◌, ℕ, ◌+◌, ◌-◌, ◌==◌, Bool, true, false, cond, List, [], ◌∷◌, ◌++◌, map, length}
use Rattle.std.proofs.Common.{refl, sym, ap, subst, ◌∙◌, arith, codes, length-append, true≢false, eq-eqb, eqb-true}
use Rattle.std.specs.Prelude.{slice_index}
use Rattle.std.specs.List.{AllByRecursion}
use Rattle.construction_reader.specs.Grammar.{sentence_tokens}
use Rattle.construction_reader.specs.Lines.{lines_of, content, without_return, without_comment}
use Rattle.construction_reader.specs.Said.{Sentence, Row, Account}
use Rattle.construction_reader.specs.TextOf.{TextOf, full_lines, onto_full, IsClean}
use Rattle.construction_reader.specs.Tokens.{tokens_of, tokens_by}
use Rattle.construction_reader.specs.declared.types.ObjectKind.TheVariants.{Point, Line, Plane}
use Rattle.coordinate_model.proofs.Splits.{all_so, all_both}
use Rattle.proof_text.specs.Lines.{text_of}
use Rattle.prover.specs.Cuts.{HasNoFeed, IsOther}
use Rattle.prover.specs.WrittenLaws.{with_feed}

-- ---- lines

abbrev onto : ℕ → List (List ℕ) → List (List ℕ)
onto b [] = (b ∷ []) ∷ []
onto b (line ∷ lines) = (b ∷ line) ∷ lines

lines_none : lines_of [] ≡ []
unfolding lines_of
lines_none = refl

lines_feed : (bytes : List ℕ) → lines_of (10 ∷ bytes) ≡ [] ∷ lines_of bytes
unfolding lines_of
lines_feed bytes = refl

lines_more : (b : ℕ) (bytes : List ℕ) → (b == 10) ≡ false → lines_of (b ∷ bytes) ≡ onto b (lines_of bytes)
unfolding lines_of
lines_more b bytes e = ap (λ c. cond c ([] ∷ lines_of bytes) (onto b (lines_of bytes))) e

-- an LF behind the last line changes no line
lines_closed : (xs : List ℕ) (b : ℕ) → (b == 10) ≡ false
    → lines_of ((xs ++ b ∷ []) ++ 10 ∷ []) ≡ lines_of (xs ++ b ∷ [])
lines_closed [] b e =
    lines_more b (10 ∷ []) e ∙ ap (onto b) (lines_feed [] ∙ ap (λ ls. [] ∷ ls) lines_none)
    ∙ sym (lines_more b [] e ∙ ap (onto b) lines_none)
lines_closed (x ∷ xs) b e = step (x == 10) refl (lines_closed xs b e)
  where
    step : (c : Bool) → (x == 10) ≡ c → lines_of ((xs ++ b ∷ []) ++ 10 ∷ []) ≡ lines_of (xs ++ b ∷ [])
        → lines_of (x ∷ (xs ++ b ∷ []) ++ 10 ∷ []) ≡ lines_of (x ∷ (xs ++ b ∷ []))
    step true f ih =
        subst (λ n. lines_of (n ∷ (xs ++ b ∷ []) ++ 10 ∷ []) ≡ lines_of (n ∷ (xs ++ b ∷ []))) (sym (eqb-true x 10 f))
        (lines_feed ((xs ++ b ∷ []) ++ 10 ∷ []) ∙ ap (λ ls. [] ∷ ls) ih ∙ sym (lines_feed (xs ++ b ∷ [])))
    step false f ih =
        lines_more x ((xs ++ b ∷ []) ++ 10 ∷ []) f ∙ ap (onto x) ih ∙ sym (lines_more x (xs ++ b ∷ []) f)

-- whole lines are the bytes
whole_lines : (front : List ℕ) → text_of (lines_of (front ++ 10 ∷ [])) ≡ front ++ 10 ∷ []
whole_lines [] = ap text_of (lines_feed [] ∙ ap (λ ls. [] ∷ ls) lines_none)
whole_lines (x ∷ front) = step (x == 10) refl (whole_lines front)
  where
    in_front : (ls : List (List ℕ)) → text_of ls ≡ front ++ 10 ∷ [] → text_of (onto x ls) ≡ x ∷ front ++ 10 ∷ []
    in_front [] e = absurd (let l : 0 ≡ length (front ++ 10 ∷ []) = ap length e in
        let m : length (front ++ 10 ∷ []) ≡ length front + 1 = length-append front (10 ∷ []) in omega arith)
    in_front (l ∷ ls) e = ap (λ bytes. x ∷ bytes) e

    step : (c : Bool) → (x == 10) ≡ c → text_of (lines_of (front ++ 10 ∷ [])) ≡ front ++ 10 ∷ []
        → text_of (lines_of (x ∷ front ++ 10 ∷ [])) ≡ x ∷ front ++ 10 ∷ []
    step true f ih =
        subst (λ n. text_of (lines_of (n ∷ front ++ 10 ∷ [])) ≡ n ∷ front ++ 10 ∷ []) (sym (eqb-true x 10 f))
        (ap text_of (lines_feed (front ++ 10 ∷ [])) ∙ ap (λ bytes. 10 ∷ bytes) ih)
    step false f ih = ap text_of (lines_more x (front ++ 10 ∷ []) f) ∙ in_front (lines_of (front ++ 10 ∷ [])) ih

-- no line has an LF
no_feeds : (bytes : List ℕ) → AllByRecursion HasNoFeed (lines_of bytes)
no_feeds [] = subst (AllByRecursion HasNoFeed) (sym lines_none) tt
no_feeds (b ∷ bytes) = step (b == 10) refl (no_feeds bytes)
  where
    in_front : (ls : List (List ℕ)) → b ≢ 10 → AllByRecursion HasNoFeed ls → AllByRecursion HasNoFeed (onto b ls)
    in_front [] n h = ((n, tt), tt)
    in_front (l ∷ ls) n h = ((n, h.0), h.1)

    step : (c : Bool) → (b == 10) ≡ c → AllByRecursion HasNoFeed (lines_of bytes)
        → AllByRecursion HasNoFeed (lines_of (b ∷ bytes))
    step true e ih =
        subst (AllByRecursion HasNoFeed)
        (sym (ap (λ n. lines_of (n ∷ bytes)) (eqb-true b 10 e) ∙ lines_feed bytes)) (tt, ih)
    step false e ih =
        subst (AllByRecursion HasNoFeed) (sym (lines_more b bytes e))
        (in_front (lines_of bytes) (λ z. true≢false (sym (eq-eqb b 10 z) ∙ e)) ih)

-- ---- tokens

-- the first line of a proof has tokens that begin with a word of no construction
proof_tokens : tokens_of (content (codes "proof 1")) ≡ codes "proof" ∷ codes "1" ∷ []
unfolding tokens_by content without_return without_comment
proof_tokens = refl

-- tokens that do not begin with that word
abbrev IsNoProof : List (List ℕ) → Type 0
IsNoProof tokens = tokens ≡ codes "proof" ∷ codes "1" ∷ [] → ⊥

abbrev AreNoProofs : List (ℕ × List (List ℕ)) → Type 0
AreNoProofs lines = AllByRecursion (λ (l : ℕ × List (List ℕ)). IsNoProof l.1) lines

sentence_is_none : (s : Sentence) → IsNoProof (sentence_tokens s)
sentence_is_none (Sentence.Free names) e = cc
sentence_is_none (Sentence.Define Point name recipe) e = cc
sentence_is_none (Sentence.Define Line name recipe) e = cc
sentence_is_none (Sentence.Define Plane name recipe) e = cc
sentence_is_none (Sentence.Conclude claim) e = cc

sentences_are_none : (rows : List Row)
    → AreNoProofs (map (λ row. (row.line, sentence_tokens row.sentence)) rows)
sentences_are_none [] = tt
sentences_are_none (row ∷ rows) = (sentence_is_none row.sentence, sentences_are_none rows)

-- so no line has those tokens
none_of_lines : (n : ℕ) (lines : List (List ℕ)) → AreNoProofs (full_lines n lines)
    → AllByRecursion (λ line. IsNoProof (tokens_of (content line))) lines
none_of_lines n [] h = tt
none_of_lines n (line ∷ lines) h = step (tokens_of (content line)) h (λ g. none_of_lines (n + 1) lines g)
  where
    step : (tokens : List (List ℕ))
        → AreNoProofs (onto_full n tokens (full_lines (n + 1) lines))
        → (AreNoProofs (full_lines (n + 1) lines)
        → AllByRecursion (λ line. IsNoProof (tokens_of (content line))) lines)
        → IsNoProof tokens × AllByRecursion (λ line. IsNoProof (tokens_of (content line))) lines
    step [] g ih = (λ e. cc, ih g)
    step (token ∷ tokens) g ih = (g.0, ih g.1)

no_proof_line : (text : List ℕ) (c : Account) → TextOf text c
    → AllByRecursion (λ line. IsNoProof (tokens_of (content line))) (lines_of text)
no_proof_line text c t =
    none_of_lines 1 (lines_of text)
    (subst AreNoProofs (sym t.says) (λ e. cc, (λ e. cc, sentences_are_none c.rows)))

-- no line of the text is the first line of a proof
pub no_separator : (text : List ℕ) (c : Account) → TextOf text c
    → AllByRecursion (IsOther (codes "proof 1")) (lines_of text)
no_separator text c t =
    all_so (λ line. HasNoFeed line × IsNoProof (tokens_of (content line))) (IsOther (codes "proof 1"))
    (λ line h. record {
      no_feed = h.0;
      other = λ e. h.1 (ap (λ (l : List ℕ). tokens_of (content l)) e ∙ proof_tokens);
    })
    (lines_of text)
    (all_both HasNoFeed (λ line. IsNoProof (tokens_of (content line))) (lines_of text) (no_feeds text)
    (no_proof_line text c t))

-- ---- the last LF

-- a list is empty, or has a last item
last_byte : (P : List ℕ → Type 0) → P [] → ((xs : List ℕ) (b : ℕ) → P (xs ++ b ∷ [])) → (text : List ℕ) → P text
last_byte P none last [] = none
last_byte P none last (x ∷ text) =
    last_byte (λ ys. P (x ∷ ys)) (last [] x) (λ xs b. last (x ∷ xs) b) text

at_last : (xs : List ℕ) (b : ℕ) → slice_index (xs ++ b ∷ []) (length (xs ++ b ∷ []) - 1) ≡ b
at_last xs b =
    let e : length (xs ++ b ∷ []) - 1 ≡ length xs =
    (let l : length (xs ++ b ∷ []) ≡ length xs + 1 = length-append xs (b ∷ []) in omega arith) in
    ap (slice_index (xs ++ b ∷ [])) e ∙ seam xs
  where
    seam : (xs : List ℕ) → slice_index (xs ++ b ∷ []) (length xs) ≡ b
    seam [] = refl
    seam (x ∷ xs) = seam xs

-- the text with an LF behind its last line is whole lines, the lines of the text
pub record IsWhole (text : List ℕ) : Type 0 where
  pub same_lines : lines_of (with_feed text) ≡ lines_of text
  pub whole : text_of (lines_of text) ≡ with_feed text

pub is_whole : (text : List ℕ) → text ≢ [] → IsWhole text
is_whole text some =
    last_byte (λ (t : List ℕ). t ≢ [] → IsWhole t) (λ n. absurd (n refl)) (λ xs b n. by_last xs b) text some
  where
    by_last : (xs : List ℕ) (b : ℕ) → IsWhole (xs ++ b ∷ [])
    by_last xs b = step (b == 10) refl
      where
        t : List ℕ
        t = xs ++ b ∷ []

        step : (c : Bool) → (b == 10) ≡ c → IsWhole (xs ++ b ∷ [])
        step true e =
            let same : with_feed t ≡ t =
            ap (λ c. cond c t (t ++ 10 ∷ [])) (ap (λ n. n == 10) (at_last xs b) ∙ e) in
            record {
              same_lines = ap lines_of same;
              whole =
                  subst (λ n. text_of (lines_of (xs ++ n ∷ [])) ≡ xs ++ n ∷ []) (sym (eqb-true b 10 e)) (whole_lines xs)
                  ∙ sym same;
            }
        step false e =
            let same : with_feed t ≡ t ++ 10 ∷ [] =
            ap (λ c. cond c t (t ++ 10 ∷ [])) (ap (λ n. n == 10) (at_last xs b) ∙ e) in
            let lines : lines_of (with_feed t) ≡ lines_of t = ap lines_of same ∙ lines_closed xs b e in
            record {
              same_lines = lines;
              whole = ap text_of (sym lines ∙ ap lines_of same) ∙ whole_lines t ∙ sym same;
            }

pub some_text : (text : List ℕ) (c : Account) → TextOf text c → text ≢ []
some_text text c t none =
    let e = sym (ap (full_lines 1) (ap lines_of none ∙ lines_none)) ∙ t.says in absurd cc

-- it gives the same construction
pub same_construction : (text : List ℕ) (c : Account) → TextOf text c → TextOf (with_feed text) c
same_construction text c t =
    let lines : lines_of (with_feed text) ≡ lines_of text = (is_whole text (some_text text c t)).same_lines in
    record {
      first = t.first;
      second = t.second;
      clean = subst (AllByRecursion IsClean) (sym lines) t.clean;
      says = ap (full_lines 1) lines ∙ t.says;
      good = t.good;
    }
