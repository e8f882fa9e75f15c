-- A line that is refused has that fault, and none before it.
use Rattle.std.proofs.Common.{◌≡◌, ℕ, ◌+◌, ◌<◌, Bool, true, false, not, List, [], ◌∷◌, ◌++◌, drop, length, map, Ok, Err, refl, sym, ap, subst, ◌∙◌, arith, codes, lit<, nat_lt, inl, inr, ◌⊎◌}
use Rattle.std.specs.Prelude.{decimal}
use Rattle.std.specs.List.{list_any}
use Rattle.std.proofs.lemmas.Bool.{ltb-true}
use Rattle.std.proofs.lemmas.Fmt.{decimal_digit}
use Rattle.std.proofs.lemmas.List.{map-append}
use Rattle.construction_reader.specs.declared.fault.Kind.{Kind}
use Rattle.construction_reader.specs.declared.fault.Kind.TheVariants.{Byte, LongName, NoHeader, AfterConclusion, Keyword, Deep, Shape, TooMany}
use Rattle.construction_reader.specs.declared.state.Stage.{Stage}
use Rattle.construction_reader.specs.declared.state.Stage.TheVariants.{Empty, Named, Going, Concluded}
use Rattle.construction_reader.specs.Rules.{version_1, IsRankBy}
use Rattle.construction_reader.specs.Tokens.{tokens_of}
use Rattle.construction_reader.specs.Said.{Sentence}
use Rattle.construction_reader.specs.Lines.{content, is_clean, is_long, line_tokens, has_keyword, is_deep}
use Rattle.construction_reader.specs.Params.{with_params}
use Rattle.construction_reader.specs.Sentences.{shaped, sentence_at}
use Rattle.construction_reader.specs.Texts.{Progress, counts, adds, is_two, full_line, line_read, takes_line}
use Rattle.construction_reader.specs.Grammar.{sentence_tokens, free_names, definitions, params_with}
use Rattle.construction_reader.specs.Faults.{spoken, IsWrongHeader, IsShapeless, Say, PassesLimit, IsBehindHeader, IsWrong, HasFault, kinds, IsFirst}
use Rattle.construction_reader.proofs.ObjectLaws.{bind_ok, ok_is, chosen}
use Rattle.construction_reader.proofs.SentenceLaws.{sentence_takes}
use Rattle.construction_reader.proofs.SentenceAgain.{three_or_four, shaped_again}
use Rattle.construction_reader.proofs.ShapeLaws.{shaped_by}
use Rattle.construction_reader.proofs.TextLaws.{not_err, not_false, tokens_cases}
use Rattle.construction_reader.proofs.FineLines.{failed_is, bind_err, spoken-blank, spoken-full, each-snoc, IsGoing, StateOf, IsFine, IsLine, fine_blank, no_header, sums, not_two, full_ok}

-- ---- a full line that is refused

abbrev IsFault : List (List (List ℕ)) → List ℕ → List (List ℕ) → Kind → Type 0
IsFault earlier bytes tokens kind = IsFirst (IsWrong earlier bytes tokens) kind kinds

-- behind the first two kinds
from_header : (earlier : List (List (List ℕ))) (bytes : List ℕ) (tokens : List (List ℕ)) (kind : Kind)
    → IsLine bytes tokens → IsFirst (IsWrong earlier bytes tokens) kind
    (NoHeader ∷ AfterConclusion ∷ Keyword ∷ Deep ∷ Shape ∷ TooMany ∷ []) → IsFault earlier bytes tokens kind
from_header earlier bytes tokens kind of first = inr (
  (λ wrong. let clean = of.clean in cc),
  inr ((λ wrong. let short = of.short in cc), first),
)

refused_first : (n : ℕ) (bytes t : List ℕ) (ts : List (List ℕ)) (earlier : List (List (List ℕ))) (p : Progress)
    (kind : Kind) → IsLine bytes (t ∷ ts) → StateOf Empty earlier p → full_line Empty n (t ∷ ts) p ≡ Err kind
    → IsFault earlier bytes (t ∷ ts) kind
unfolding full_line
refused_first n bytes t ts earlier p kind of state e =
    elim (chosen (is_two (codes "construction") (codes "1") (t ∷ ts)) _ _ (Err kind) e) [
      | inl it ↦ let never = it.1 in absurd cc
      | inr other ↦
          let wrong : IsWrongHeader earlier (t ∷ ts) =
          subst (λ ls. IsWrongHeader ls (t ∷ ts)) (sym state.0)
          (not_two (codes "construction") (codes "1") (t ∷ ts) other.0) in
          from_header earlier bytes (t ∷ ts) kind of (inl
          (failed_is {A = Progress} NoHeader kind other.1, (omega arith, wrong)))
    ]

-- they say no rank
no_rank : (tokens : List (List ℕ)) → is_two (codes "rank") (codes "3") tokens ≡ false
    → is_two (codes "rank") (codes "4") tokens ≡ false → (rank : ℕ) → IsRankBy version_1 rank
    → tokens ≡ codes "rank" ∷ decimal rank ∷ [] → ⊥
no_rank tokens no_three no_four rank ranked says =
    let said : List ℕ → List (List ℕ) = λ digit. codes "rank" ∷ digit ∷ [] in
    elim (three_or_four rank ranked.0 ranked.1) [
      | inl three ↦ not_two (codes "rank") (codes "3") tokens no_three
          (says ∙ ap (λ d. said (decimal d)) three ∙ ap said (decimal_digit 3 (lit< tt)))
      | inr four ↦ not_two (codes "rank") (codes "4") tokens no_four
          (says ∙ ap (λ d. said (decimal d)) four ∙ ap said (decimal_digit 4 (lit< tt)))
    ]

refused_second : (n : ℕ) (bytes t : List ℕ) (ts : List (List ℕ)) (earlier : List (List (List ℕ))) (p : Progress)
    (kind : Kind) → IsLine bytes (t ∷ ts) → StateOf Named earlier p → full_line Named n (t ∷ ts) p ≡ Err kind
    → IsFault earlier bytes (t ∷ ts) kind
unfolding full_line
refused_second n bytes t ts earlier p kind of state e =
    elim (chosen (is_two (codes "rank") (codes "3") (t ∷ ts)) _ _ (Err kind) e) [
      | inl it ↦ let never = it.1 in absurd cc
      | inr other ↦ elim (chosen (is_two (codes "rank") (codes "4") (t ∷ ts)) _ _ (Err kind) other.1) [
        | inl it ↦ let never = it.1 in absurd cc
        | inr neither ↦
            let wrong : IsWrongHeader earlier (t ∷ ts) =
            subst (λ ls. IsWrongHeader ls (t ∷ ts)) (sym state.lines) (no_rank (t ∷ ts) other.0 neither.0) in
            from_header earlier bytes (t ∷ ts) kind of
            (inl (failed_is {A = Progress} NoHeader kind neither.1, (omega arith, wrong)))
      ]
    ]

refused_after : (bytes t : List ℕ) (ts : List (List ℕ)) (earlier : List (List (List ℕ))) (p : Progress) (kind : Kind)
    → IsLine bytes (t ∷ ts) → StateOf Concluded earlier p → AfterConclusion ≡ kind
    → IsFault earlier bytes (t ∷ ts) kind
refused_after bytes t ts [] p kind of state e = absurd (omega (arith, state.0))
refused_after bytes t ts (first ∷ []) p kind of state e = absurd (omega (arith, state.0))
refused_after bytes t ts (first ∷ second ∷ others) p kind of state e =
    from_header (first ∷ second ∷ others) bytes (t ∷ ts) kind of
    (inr ((λ wrong. wrong.1), inl (sym e, ((omega arith, omega arith), state.1, refl))))

passed_limit : (s : Sentence) (p : Progress) (kind : Kind) → counts s p ≡ Err kind → (kind ≡ TooMany)
    × ((200 < p.free + free_names s) ⊎ ((2000 < p.definitions + definitions s)
    ⊎ (64 < length (params_with p.params s))))
unfolding counts
passed_limit (Sentence.Free names) p kind e =
    elim (chosen (nat_lt 200 (p.free + length names)) _ _ (Err kind) e) [
      | inl many ↦ (failed_is {A = Progress} TooMany kind many.1, inl (ltb-true _ _ many.0))
      | inr few ↦ let never = few.1 in absurd cc
    ]
passed_limit (Sentence.Define of name recipe) p kind e =
    elim (chosen (nat_lt 2000 (p.definitions + 1)) _ _ (Err kind) e) [
      | inl many ↦ (failed_is {A = Progress} TooMany kind many.1, inr (inl (ltb-true _ _ many.0)))
      | inr few ↦ elim (chosen (nat_lt 64 (length (with_params p.params recipe))) _ _ (Err kind) few.1) [
        | inl many ↦ (failed_is {A = Progress} TooMany kind many.1, inr (inr (ltb-true _ _ many.0)))
        | inr none ↦ let never = none.1 in absurd cc
      ]
    ]
passed_limit (Sentence.Conclude claim) p kind e = absurd cc

passes : (earlier : List (List (List ℕ))) (p : Progress) (s : Sentence) (g : IsGoing earlier p)
    → ((200 < p.free + free_names s) ⊎ ((2000 < p.definitions + definitions s)
    ⊎ (64 < length (params_with p.params s)))) → PassesLimit (g.sentences ++ s ∷ [])
passes earlier p s g (inl many) = let sum = sums earlier p s g in inl (omega (arith, many, sum.free))
passes earlier p s g (inr (inl many)) = let sum = sums earlier p s g in inr (inl (omega (arith, many, sum.definitions)))
passes earlier p s g (inr (inr many)) = let sum = sums earlier p s g in
    inr (inr (inl (omega (arith, many, ap length sum.params))))

refused_sentence : (n : ℕ) (bytes t : List ℕ) (ts : List (List ℕ)) (earlier : List (List (List ℕ))) (p : Progress)
    (kind : Kind) → IsLine bytes (t ∷ ts) → StateOf Going earlier p → full_line Going n (t ∷ ts) p ≡ Err kind
    → IsFault earlier bytes (t ∷ ts) kind
unfolding full_line adds sentence_at
refused_sentence n bytes t ts earlier p kind of g e =
    let tokens = t ∷ ts in
    let behind : IsBehindHeader earlier tokens = (omega (arith, ap length g.lines), omega arith) in
    let no_head : IsWrong earlier bytes tokens NoHeader → ⊥ =
    λ wrong. no_header earlier g.first g.second tokens (map sentence_tokens g.sentences) g.lines wrong.1 in
    let no_after : IsWrong earlier bytes tokens AfterConclusion → ⊥ = λ wrong. let end = g.open_end in let over =
    wrong.1 in cc in
    elim (bind_err (sentence_at tokens) (λ s. adds n s p) kind e) [
      | inl refused ↦ elim (chosen (not (has_keyword tokens)) _ _ (Err kind) refused) [
        | inl key ↦
            let other : has_keyword tokens ≡ false = not_true (has_keyword tokens) key.0 in
            from_header earlier bytes tokens kind of (inr
            (no_head, inr (no_after, inl (failed_is {A = Sentence} Keyword kind key.1, (behind, other)))))
        | inr key ↦
            let no_key : IsWrong earlier bytes tokens Keyword → ⊥ = λ wrong. let one : has_keyword tokens ≡ true =
            not_false _ key.0 in let other = wrong.1 in cc in
            elim (chosen (is_deep 0 tokens) _ _ (Err kind) key.1) [
              | inl deep ↦ from_header earlier bytes tokens kind of
                  (inr (
                    no_head,
                    inr (
                      no_after,
                      inr (
                        no_key,
                        inl (failed_is {A = Sentence} Deep kind deep.1, (behind, deep.0)),
                      ),
                    ),
                  ))
              | inr deep ↦
                  let no_deep : IsWrong earlier bytes tokens Deep → ⊥ = λ wrong. let one = deep.0 in let other =
                  wrong.1 in cc in
                  let shapeless : IsShapeless tokens = λ s good says. let read : Ok s ≡ Err kind =
                  sym (shaped_again s good) ∙ ap shaped (sym says) ∙ deep.1 in cc in
                  from_header earlier bytes tokens kind of
                  (inr (
                    no_head,
                    inr (
                      no_after,
                      inr
                          (no_key, inr (no_deep, inl ((shaped_by tokens).only kind deep.1, (behind, shapeless)))),
                    ),
                  ))
            ]
      ]
      | inr read ↦
          let s = read.0 in
          let says = sentence_takes tokens s read.1 in
          let key = not_err (not (has_keyword tokens)) Keyword _ s read.1 in
          let shallow = not_err (is_deep 0 tokens) Deep _ s key.1 in
          let no_key : IsWrong earlier bytes tokens Keyword → ⊥ = λ wrong. let one : has_keyword tokens ≡ true =
          not_false _ key.0 in let other = wrong.1 in cc in
          let no_deep : IsWrong earlier bytes tokens Deep → ⊥ = λ wrong. let one = shallow.0 in let other = wrong.1 in
          cc in
          let no_shape : IsWrong earlier bytes tokens Shape → ⊥ = λ wrong. wrong.1 s says.1 says.0 in
          elim (bind_err (counts s p) (λ r. Ok (record r {
            rows = r.rows
                ++ record { line = n; sentence = s } ∷ [];
          })) kind read.2) [
            | inl many ↦
                let limit = passed_limit s p kind many in
                let lines : drop 2 (earlier ++ tokens ∷ []) ≡ map sentence_tokens (g.sentences ++ s ∷ []) =
                ap (λ ls. drop 2 (ls ++ tokens ∷ [])) g.lines
                ∙ ap (λ us. map sentence_tokens g.sentences ++ us ∷ []) says.0
                ∙ sym (map-append sentence_tokens g.sentences (s ∷ [])) in
                let say : Say (earlier ++ tokens ∷ []) (g.sentences ++ s ∷ []) =
                record { tokens = lines; each = each-snoc g.sentences s g.each says.1 } in
                from_header earlier bytes tokens kind of
                (inr (
                  no_head,
                  inr (
                    no_after,
                    inr (
                      no_key,
                      inr (
                        no_deep,
                        inr (
                          no_shape,
                          inl (
                            limit.0,
                            (behind, (g.sentences ++ s ∷ [], say, passes earlier p s g limit.1)),
                          ),
                        ),
                      ),
                    ),
                  ),
                ))
            | inr never ↦ let counted_so = never.2 in absurd cc
          ]
    ]
  where
    not_true : (b : Bool) → not b ≡ true → b ≡ false
    not_true true e = absurd cc
    not_true false e = refl

pub full_err : (stage : Stage) (n : ℕ) (bytes t : List ℕ) (ts : List (List ℕ)) (earlier : List (List (List ℕ)))
    (p : Progress) (kind : Kind) → IsLine bytes (t ∷ ts) → StateOf stage earlier p
    → full_line stage n (t ∷ ts) p ≡ Err kind → IsFault earlier bytes (t ∷ ts) kind
unfolding full_line
full_err Empty n bytes t ts earlier p kind of state e = refused_first n bytes t ts earlier p kind of state e
full_err Named n bytes t ts earlier p kind of state e = refused_second n bytes t ts earlier p kind of state e
full_err Going n bytes t ts earlier p kind of state e = refused_sentence n bytes t ts earlier p kind of state e
full_err Concluded n bytes t ts earlier p kind of state e =
    refused_after bytes t ts earlier p kind of state (sym (failed_is {A = Progress} AfterConclusion kind e))

-- ---- a line

pub record LineRead (before : List (List ℕ)) (line : List ℕ) (q : Progress) : Type 0 where
  pub fine : (kind : Kind) → HasFault before line kind → ⊥
  pub state : StateOf q.stage (spoken (before ++ line ∷ [])) q

as_line : (line : List ℕ) (tokens : List (List ℕ)) → is_clean (content line) ≡ true
    → list_any is_long (tokens_of (content line)) ≡ false → tokens_of (content line) ≡ tokens
    → IsLine (content line) tokens
as_line line tokens clean short made = record { clean = clean; short = ap (list_any is_long) (sym made) ∙ short }

pub line_ok : (n : ℕ) (before : List (List ℕ)) (line : List ℕ) (p q : Progress) → StateOf p.stage (spoken before) p
    → takes_line n line p ≡ Ok q → LineRead before line q
unfolding takes_line line_tokens line_read
line_ok n before line p q state e =
    let a = bind_ok (line_tokens line) (λ tokens. line_read n tokens p) q e in
    let clean = not_err (not (is_clean (content line))) Byte _ a.0 a.1 in
    let short = not_err (list_any is_long (tokens_of (content line))) LongName _ a.0 clean.1 in
    let all : is_clean (content line) ≡ true = not_false _ clean.0 in
    let read : line_read n (tokens_of (content line)) p ≡ Ok q =
    ap (λ ts. line_read n ts p) (ok_is (tokens_of (content line)) a.0 short.1) ∙ a.2 in
    elim (tokens_cases (tokens_of (content line))) [
      | inl none ↦
          let same : p ≡ q = ok_is p q (ap (λ ts. line_read n ts p) (sym none) ∙ read) in
          record {
            fine = subst (λ ts. IsFine (spoken before) (content line) ts) (sym none)
                (fine_blank (spoken before) (content line) (as_line line [] all short.0 none));
            state = subst (λ (x : Progress). StateOf x.stage (spoken (before ++ line ∷ [])) x) same
                (subst (λ ls. StateOf p.stage ls p) (spoken-blank before line none) state);
          }
      | inr some ↦
          let on = full_ok p.stage n (content line) some.0 some.1 (spoken before) p q
          (as_line line (some.0 ∷ some.1) all short.0 some.2) state
          (ap (λ ts. line_read n ts p) (sym some.2) ∙ read) in
          record {
            fine = subst (λ ts. IsFine (spoken before) (content line) ts) (sym some.2) on.fine;
            state = subst (λ ls. StateOf q.stage ls q) (spoken-full before line some.0 some.1 some.2) on.state;
          }
    ]

pub line_err : (n : ℕ) (before : List (List ℕ)) (line : List ℕ) (p : Progress) (kind : Kind)
    → StateOf p.stage (spoken before) p → takes_line n line p ≡ Err kind → IsFirst (HasFault before line) kind kinds
unfolding takes_line line_tokens line_read
line_err n before line p kind state e =
    elim (bind_err (line_tokens line) (λ tokens. line_read n tokens p) kind e) [
      | inl bytes ↦ elim (chosen (not (is_clean (content line))) _ _ (Err kind) bytes) [
        | inl dirty ↦ inl (failed_is {A = List (List ℕ)} Byte kind dirty.1, not_true (is_clean (content line)) dirty.0)
        | inr clean ↦
            let no_byte : HasFault before line Byte → ⊥ = λ wrong. let one : is_clean (content line) ≡ true =
            not_false _ clean.0 in cc in
            elim (chosen (list_any is_long (tokens_of (content line))) _ _ (Err kind) clean.1) [
              | inl long ↦ inr (no_byte, inl (failed_is {A = List (List ℕ)} LongName kind long.1, long.0))
              | inr short ↦ let never = short.1 in absurd cc
            ]
      ]
      | inr a ↦
          let clean = not_err (not (is_clean (content line))) Byte _ a.0 a.1 in
          let short = not_err (list_any is_long (tokens_of (content line))) LongName _ a.0 clean.1 in
          let all : is_clean (content line) ≡ true = not_false _ clean.0 in
          let read : line_read n (tokens_of (content line)) p ≡ Err kind =
          ap (λ ts. line_read n ts p) (ok_is (tokens_of (content line)) a.0 short.1) ∙ a.2 in
          elim (tokens_cases (tokens_of (content line))) [
            | inl none ↦ let never : Ok p ≡ Err kind = ap (λ ts. line_read n ts p) (sym none) ∙ read in absurd cc
            | inr some ↦
                let first = full_err p.stage n (content line) some.0 some.1 (spoken before) p kind
                (as_line line (some.0 ∷ some.1) all short.0 some.2) state
                (ap (λ ts. line_read n ts p) (sym some.2) ∙ read) in
                subst (λ ts. IsFault (spoken before) (content line) ts kind) (sym some.2) first
          ]
    ]
  where
    not_true : (b : Bool) → not b ≡ true → b ≡ false
    not_true true e = absurd cc
    not_true false e = refl
