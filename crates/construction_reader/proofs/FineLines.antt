-- A line that is read has no fault.
use Rattle.std.proofs.Common.{◌≡◌, ℕ, ◌+◌, ◌≤◌, ◌<◌, Bool, true, false, not, List, [], ◌∷◌, ◌++◌, drop, length, length-append, map, Result, Ok, Err, refl, sym, ap, subst, ◌∙◌, arith, codes, lit<, inl, inr, ◌⊎◌}
use Rattle.std.specs.Prelude.{sum_by}
use Rattle.std.specs.List.{AllByRecursion, list_any}
use Rattle.std.proofs.lemmas.Fmt.{decimal_digit}
use Rattle.std.proofs.lemmas.List.{append-nil, map-append}
use Rattle.std.proofs.lemmas.List.Sums.{sum_by-cons, sum_by-append}
use Rattle.std.proofs.lemmas.List.Folds.{list_any-append}
use Rattle.std.proofs.lemmas.Grind.{flat_map-append}
use Rattle.construction_reader.specs.declared.fault.Kind.{Kind}
use Rattle.construction_reader.specs.declared.fault.Kind.TheVariants.{Byte, LongName, NoHeader, AfterConclusion, Keyword, Deep, Shape, TooMany, NoConclusion}
use Rattle.construction_reader.specs.declared.types.ObjectKind.TheVariants.{Point, Line, Plane}
use Rattle.construction_reader.specs.declared.state.Stage.{Stage}
use Rattle.construction_reader.specs.declared.state.Stage.TheVariants.{Empty, Named, Going, Concluded}
use Rattle.construction_reader.specs.Outcome.{◌>>=◌}
use Rattle.construction_reader.specs.Tokens.{tokens_of}
use Rattle.construction_reader.specs.Said.{Sentence}
use Rattle.construction_reader.specs.Lines.{content, is_clean, is_long, has_keyword, is_deep}
use Rattle.construction_reader.specs.Sentences.{shaped, sentence_at}
use Rattle.construction_reader.specs.Texts.{Progress, counts, adds, is_two, full_line}
use Rattle.construction_reader.specs.Grammar.{sentence_tokens, IsSentence, is_conclusion, free_names, definitions, conclusions, params_with, params_of}
use Rattle.construction_reader.specs.Faults.{unless_blank, spoken, concludes, IsWrongHeader, Say, PassesLimit, IsWrong}
use Rattle.construction_reader.proofs.ObjectLaws.{bind_ok, done, ok_is, chosen, is_itself}
use Rattle.construction_reader.proofs.SentenceLaws.{sentence_takes}
use Rattle.construction_reader.proofs.SentenceAgain.{shaped_again}
use Rattle.construction_reader.proofs.ConclusionLaws.{counts_once, counts_none}
use Rattle.construction_reader.proofs.TextLaws.{IsWithin, Pushed, counted, pushed, sentence_cases, not_err, not_false}
use Rattle.construction_reader.proofs.WholeTexts.{IsFresh, two_is}

-- ---- lists

same_kind : (j k : Kind) → (let r : Result (Unit {0}) Kind = Err j in r) ≡ Err k → j ≡ k
same_kind j k e = cc

pub failed_is : {A : Type 0} (j k : Kind) → (let r : Result A Kind = Err j in r) ≡ Err k → k ≡ j
failed_is j k e = let same : j ≡ k = cc in cc

pub bind_err : {A B : Type 0} (r : Result A Kind) (f : A → Result B Kind) (k : Kind) → (r >>= f) ≡ Err k → (r ≡ Err k)
    ⊎ ((x : A) × (r ≡ Ok x) × (f x ≡ Err k))
bind_err (Ok x) f k e = inr (x, refl, e)
bind_err {A} (Err d) f k e = inl (let same : d ≡ k = cc in ap (λ j. let r : Result A Kind = Err j in r) same)

pub spoken-blank : (before : List (List ℕ)) (line : List ℕ) → tokens_of (content line) ≡ []
    → spoken before ≡ spoken (before ++ line ∷ [])
spoken-blank before line none =
    let f : List ℕ → List (List (List ℕ)) = λ line. unless_blank (tokens_of (content line)) in
    let last : f line ≡ [] = ap unless_blank none in
    sym (flat_map-append f before (line ∷ []) ∙ ap (λ ls. spoken before ++ (ls ++ [])) last
    ∙ append-nil (spoken before))

pub spoken-full : (before : List (List ℕ)) (line : List ℕ) (t : List ℕ) (ts : List (List ℕ))
    → tokens_of (content line) ≡ t ∷ ts → spoken before ++ (t ∷ ts) ∷ [] ≡ spoken (before ++ line ∷ [])
spoken-full before line t ts some =
    let f : List ℕ → List (List (List ℕ)) = λ line. unless_blank (tokens_of (content line)) in
    let last : f line ≡ (t ∷ ts) ∷ [] = ap unless_blank some in
    sym (flat_map-append f before (line ∷ []) ∙ ap (λ ls. spoken before ++ (ls ++ [])) last)

-- ---- sentences and their tokens

tokens_say : (s r : Sentence) → IsSentence s → IsSentence r → sentence_tokens s ≡ sentence_tokens r → s ≡ r
tokens_say s r one other same = ok_is s r (sym (shaped_again s one) ∙ ap shaped same ∙ shaped_again r other)

all_tokens_say : (ss rs : List Sentence) → AllByRecursion IsSentence ss → AllByRecursion IsSentence rs
    → map sentence_tokens ss ≡ map sentence_tokens rs → ss ≡ rs
all_tokens_say [] [] one other same = refl
all_tokens_say [] (r ∷ rs) one other same = absurd cc
all_tokens_say (s ∷ ss) [] one other same = absurd cc
all_tokens_say (s ∷ ss) (r ∷ rs) one other same =
    let first : sentence_tokens s ≡ sentence_tokens r = cc in
    let rest : map sentence_tokens ss ≡ map sentence_tokens rs = cc in
    ap (λ x. x ∷ ss) (tokens_say s r one.0 other.0 first) ∙ ap (λ xs. r ∷ xs) (all_tokens_say ss rs one.1 other.1 rest)

pub each-snoc : (ss : List Sentence) (s : Sentence) → AllByRecursion IsSentence ss → IsSentence s
    → AllByRecursion IsSentence (ss ++ s ∷ [])
each-snoc [] s each last = (last, tt)
each-snoc (r ∷ rs) s each last = (each.0, each-snoc rs s each.1 last)

params_of-snoc : (params : List (List ℕ)) (ss : List Sentence) (s : Sentence)
    → params_of params (ss ++ s ∷ []) ≡ params_with (params_of params ss) s
params_of-snoc params [] s = refl
params_of-snoc params (r ∷ rs) s = params_of-snoc (params_with params r) rs s

sum-snoc : (f : Sentence → ℕ) (ss : List Sentence) (s : Sentence) → sum_by f (ss ++ s ∷ []) ≡ sum_by f ss + f s
sum-snoc f ss s = let last : sum_by f (s ∷ []) ≡ f s = omega (arith, sum_by-cons f s []) in
    sum_by-append f ss (s ∷ []) ∙ ap (λ n. sum_by f ss + n) last

concludes-sentence : (s : Sentence) → concludes (sentence_tokens s) ≡ is_conclusion s
concludes-sentence (Sentence.Free names) = refl
concludes-sentence (Sentence.Define Point name recipe) = refl
concludes-sentence (Sentence.Define Line name recipe) = refl
concludes-sentence (Sentence.Define Plane name recipe) = refl
concludes-sentence (Sentence.Conclude claim) = refl

concludes-snoc : (earlier : List (List (List ℕ))) (tokens : List (List ℕ)) (b : Bool)
    → list_any concludes earlier ≡ false → concludes tokens ≡ b → list_any concludes (earlier ++ tokens ∷ []) ≡ b
concludes-snoc earlier tokens true none last = list_any-append concludes earlier (tokens ∷ []) ∙ rw (none, last) refl
concludes-snoc earlier tokens false none last = list_any-append concludes earlier (tokens ∷ []) ∙ rw (none, last) refl

-- ---- what the lines before say

pub record IsNamed (earlier : List (List (List ℕ))) (p : Progress) : Type 0 where
  pub first : List (List ℕ)
  pub lines : earlier ≡ first ∷ []
  pub open_end : list_any concludes earlier ≡ false
  pub fresh : IsFresh p

pub record IsGoing (earlier : List (List (List ℕ))) (p : Progress) : Type 0 where
  pub first : List (List ℕ)
  pub second : List (List ℕ)
  pub sentences : List Sentence
  pub lines : earlier ≡ first ∷ second ∷ map sentence_tokens sentences
  pub open_end : list_any concludes earlier ≡ false
  pub each : AllByRecursion IsSentence sentences
  pub stage : p.stage ≡ Going
  pub free : p.free ≡ sum_by free_names sentences
  pub definitions : p.definitions ≡ sum_by definitions sentences
  pub params : p.params ≡ params_of [] sentences
  pub open_count : sum_by conclusions sentences ≡ 0
  pub within : IsWithin p

abbrev pub StateOf : Stage → List (List (List ℕ)) → Progress → Type 0
StateOf Empty earlier p = (earlier ≡ []) × IsFresh p
StateOf Named earlier p = IsNamed earlier p
StateOf Going earlier p = IsGoing earlier p
StateOf Concluded earlier p = (2 ≤ length earlier) × (list_any concludes earlier ≡ true)

-- ---- a line that has no fault

abbrev pub IsFine : List (List (List ℕ)) → List ℕ → List (List ℕ) → Type 0
IsFine earlier bytes tokens = (kind : Kind) → IsWrong earlier bytes tokens kind → ⊥

pub record IsLine (bytes : List ℕ) (tokens : List (List ℕ)) : Type 0 where
  pub clean : is_clean bytes ≡ true
  pub short : list_any is_long tokens ≡ false

pub fine_blank : (earlier : List (List (List ℕ))) (bytes : List ℕ) → IsLine bytes [] → IsFine earlier bytes []
fine_blank earlier bytes of Byte wrong = let clean = of.clean in cc
fine_blank earlier bytes of LongName wrong = let short = of.short in cc
fine_blank earlier bytes of NoHeader wrong = omega (arith, wrong.0)
fine_blank earlier bytes of AfterConclusion wrong = omega (arith, wrong.0.1)
fine_blank earlier bytes of Keyword wrong = omega (arith, wrong.0.1)
fine_blank earlier bytes of Deep wrong = omega (arith, wrong.0.1)
fine_blank earlier bytes of Shape wrong = omega (arith, wrong.0.1)
fine_blank earlier bytes of TooMany wrong = omega (arith, wrong.0.1)
fine_blank earlier bytes of NoConclusion wrong = wrong

-- a right line of the header
fine_header : (earlier : List (List (List ℕ))) (bytes : List ℕ) (tokens : List (List ℕ)) → IsLine bytes tokens
    → length earlier < 2 → (IsWrongHeader earlier tokens → ⊥) → IsFine earlier bytes tokens
fine_header earlier bytes tokens of few right Byte wrong = let clean = of.clean in cc
fine_header earlier bytes tokens of few right LongName wrong = let short = of.short in cc
fine_header earlier bytes tokens of few right NoHeader wrong = right wrong.1
fine_header earlier bytes tokens of few right AfterConclusion wrong = omega (arith, wrong.0.0)
fine_header earlier bytes tokens of few right Keyword wrong = omega (arith, wrong.0.0)
fine_header earlier bytes tokens of few right Deep wrong = omega (arith, wrong.0.0)
fine_header earlier bytes tokens of few right Shape wrong = omega (arith, wrong.0.0)
fine_header earlier bytes tokens of few right TooMany wrong = omega (arith, wrong.0.0)
fine_header earlier bytes tokens of few right NoConclusion wrong = wrong

-- the header is behind
pub no_header : (earlier : List (List (List ℕ))) (first second tokens : List (List ℕ)) (others : List (List (List ℕ)))
    → earlier ≡ first ∷ second ∷ others → IsWrongHeader earlier tokens → ⊥
no_header earlier first second tokens others lines wrong = subst (λ ls. IsWrongHeader ls tokens) lines wrong

-- the sentences of the lines behind the header, with one more
same_sentences : (earlier : List (List (List ℕ))) (p : Progress) (s : Sentence) (others : List Sentence)
    → (g : IsGoing earlier p) → IsSentence s → Say (earlier ++ sentence_tokens s ∷ []) others → others ≡ g.sentences
    ++ s ∷ []
same_sentences earlier p s others g good say =
    let more : drop 2 (earlier ++ sentence_tokens s ∷ []) ≡ map sentence_tokens (g.sentences ++ s ∷ []) =
    ap (λ ls. drop 2 (ls ++ sentence_tokens s ∷ [])) g.lines
    ∙ sym (map-append sentence_tokens g.sentences (s ∷ [])) in
    all_tokens_say others (g.sentences ++ s ∷ []) say.each (each-snoc g.sentences s g.each good) (sym say.tokens ∙ more)

-- the sums with one more sentence
pub record Sums (earlier : List (List (List ℕ))) (p : Progress) (s : Sentence)
    (sentences : List Sentence) : Type 0 where
  pub free : p.free + free_names s ≡ sum_by free_names sentences
  pub definitions : p.definitions + definitions s ≡ sum_by definitions sentences
  pub params : params_with p.params s ≡ params_of [] sentences

pub sums : (earlier : List (List (List ℕ))) (p : Progress) (s : Sentence) (g : IsGoing earlier p)
    → Sums earlier p s (g.sentences ++ s ∷ [])
sums earlier p s g = record {
  free = ap (λ n. n + free_names s) g.free ∙ sym (sum-snoc free_names g.sentences s);
  definitions = ap (λ n. n + definitions s) g.definitions ∙ sym (sum-snoc definitions g.sentences s);
  params = ap (λ ps. params_with ps s) g.params ∙ sym (params_of-snoc [] g.sentences s);
}

passes_none : (earlier : List (List (List ℕ))) (p q : Progress) (n : ℕ) (s : Sentence) (g : IsGoing earlier p)
    → Pushed n s p q → PassesLimit (g.sentences ++ s ∷ []) → ⊥
passes_none earlier p q n s g more (inl many) = let sum = sums earlier p s g in
    omega (arith, many, sum.free, more.free, more.within.free)
passes_none earlier p q n s g more (inr (inl many)) = let sum = sums earlier p s g in
    omega (arith, many, sum.definitions, more.definitions, more.within.definitions)
passes_none earlier p q n s g more (inr (inr (inl many))) = let sum = sums earlier p s g in
    omega (arith, many, ap length sum.params, ap length more.params, more.within.params)
passes_none earlier p q n s g more (inr (inr (inr many))) =
    omega (arith, many, sum-snoc conclusions g.sentences s, g.open_count, counts_once s)

-- a sentence that the limits leave room for
fine_sentence : (earlier : List (List (List ℕ))) (bytes : List ℕ) (tokens : List (List ℕ)) (p q : Progress) (n : ℕ)
    (s : Sentence) (g : IsGoing earlier p) → IsLine bytes tokens → tokens ≡ sentence_tokens s → IsSentence s
    → has_keyword tokens ≡ true → is_deep 0 tokens ≡ false → Pushed n s p q → IsFine earlier bytes tokens
fine_sentence earlier bytes tokens p q n s g of says good key shallow more Byte wrong = let clean = of.clean in cc
fine_sentence earlier bytes tokens p q n s g of says good key shallow more LongName wrong = let short = of.short in cc
fine_sentence earlier bytes tokens p q n s g of says good key shallow more NoHeader wrong =
    no_header earlier g.first g.second tokens (map sentence_tokens g.sentences) g.lines wrong.1
fine_sentence earlier bytes tokens p q n s g of says good key shallow more AfterConclusion wrong = let end =
    g.open_end in let over = wrong.1 in cc
fine_sentence earlier bytes tokens p q n s g of says good key shallow more Keyword wrong = let other = wrong.1 in cc
fine_sentence earlier bytes tokens p q n s g of says good key shallow more Deep wrong = let other = wrong.1 in cc
fine_sentence earlier bytes tokens p q n s g of says good key shallow more Shape wrong = wrong.1 s good says
fine_sentence earlier bytes tokens p q n s g of says good key shallow more TooMany wrong =
    let say : Say (earlier ++ sentence_tokens s ∷ []) wrong.1.0 =
    subst (λ ts. Say (earlier ++ ts ∷ []) wrong.1.0) says wrong.1.1 in
    passes_none earlier p q n s g more (subst PassesLimit (same_sentences earlier p s wrong.1.0 g good say) wrong.1.2)
fine_sentence earlier bytes tokens p q n s g of says good key shallow more NoConclusion wrong = wrong

-- ---- a full line that is read

pub record ReadsOn (earlier : List (List (List ℕ))) (bytes : List ℕ) (tokens : List (List ℕ))
    (q : Progress) : Type 0 where
  pub fine : IsFine earlier bytes tokens
  pub state : StateOf q.stage (earlier ++ tokens ∷ []) q

two_itself : (a b : List ℕ) → is_two a b (a ∷ b ∷ []) ≡ true
two_itself a b = rw (is_itself a, is_itself b) refl

pub not_two : (a b : List ℕ) (tokens : List (List ℕ)) → is_two a b tokens ≡ false → tokens ≡ a ∷ b ∷ [] → ⊥
not_two a b tokens other same = let never : false ≡ true = sym other ∙ ap (is_two a b) same ∙ two_itself a b in cc

abbrev first_tokens : List (List ℕ)
first_tokens = codes "construction" ∷ codes "1" ∷ []

abbrev rank_tokens : List ℕ → List (List ℕ)
rank_tokens digit = codes "rank" ∷ digit ∷ []

read_first : (n : ℕ) (bytes t : List ℕ) (ts : List (List ℕ)) (earlier : List (List (List ℕ))) (p q : Progress)
    → IsLine bytes (t ∷ ts) → StateOf Empty earlier p → full_line Empty n (t ∷ ts) p ≡ Ok q
    → ReadsOn earlier bytes (t ∷ ts) q
unfolding full_line
read_first n bytes t ts earlier p q of state e =
    elim (chosen (is_two (codes "construction") (codes "1") (t ∷ ts)) (done (record p { stage = Named }))
    (Err NoHeader) (Ok q) e) [
      | inl it ↦
          let tokens : t ∷ ts ≡ first_tokens = two_is (codes "construction") (codes "1") (t ∷ ts) it.0 in
          let made : Progress = record p { stage = Named } in
          let lines : earlier ++ (t ∷ ts) ∷ [] ≡ (t ∷ ts) ∷ [] = ap (λ ls. ls ++ (t ∷ ts) ∷ []) state.0 in
          let named : IsNamed (earlier ++ (t ∷ ts) ∷ []) made = record {
            first = t ∷ ts;
            lines = lines;
            open_end = ap (list_any concludes) (lines ∙ ap (λ us. us ∷ []) tokens);
            fresh = record {
              rows = state.1.rows;
              free = state.1.free;
              definitions = state.1.definitions;
              params =
                  state.1.params;
            };
          } in
          record {
            fine = subst (λ ls. IsFine ls bytes (t ∷ ts)) (sym state.0)
                (fine_header [] bytes (t ∷ ts) of (omega arith) (λ wrong. wrong tokens));
            state = subst (λ (x : Progress). StateOf x.stage (earlier ++ (t ∷ ts) ∷ []) x) (ok_is made q it.1) named;
          }
      | inr other ↦ let never = other.1 in absurd cc
    ]

rank_read : (bytes t : List ℕ) (ts : List (List ℕ)) (earlier : List (List (List ℕ))) (p q : Progress) (d : ℕ)
    (digit : List ℕ) → IsLine bytes (t ∷ ts) → IsNamed earlier p → t ∷ ts ≡ rank_tokens digit
    → (IsWrongHeader earlier (t ∷ ts) → ⊥) → done (record p { stage = Going; rank = d }) ≡ Ok q
    → ReadsOn earlier bytes (t ∷ ts) q
rank_read bytes t ts earlier p q d digit of state tokens right e =
    let made : Progress = record p { stage = Going; rank = d } in
    let lines : earlier ++ (t ∷ ts) ∷ [] ≡ state.first ∷ (t ∷ ts) ∷ [] = ap (λ ls. ls ++ (t ∷ ts) ∷ []) state.lines in
    let few : length earlier < 2 = omega (arith, ap length state.lines) in
    let going : IsGoing (earlier ++ (t ∷ ts) ∷ []) made = record {
      first = state.first;
      second = t ∷ ts;
      sentences = [];
      lines = lines;
      open_end = concludes-snoc earlier (t ∷ ts) false state.open_end (ap concludes tokens);
      each = tt;
      stage = refl;
      free = state.fresh.free;
      definitions = state.fresh.definitions;
      params = state.fresh.params;
      open_count = refl;
      within = record {
        free = omega (arith, state.fresh.free);
        definitions = omega (arith, state.fresh.definitions);
        params = omega (arith, ap length state.fresh.params);
      };
    } in
    record {
      fine = fine_header earlier bytes (t ∷ ts) of few right;
      state = subst (λ (x : Progress). StateOf x.stage (earlier ++ (t ∷ ts) ∷ []) x) (ok_is made q e) going;
    }

read_second : (n : ℕ) (bytes t : List ℕ) (ts : List (List ℕ)) (earlier : List (List (List ℕ))) (p q : Progress)
    → IsLine bytes (t ∷ ts) → StateOf Named earlier p → full_line Named n (t ∷ ts) p ≡ Ok q
    → ReadsOn earlier bytes (t ∷ ts) q
unfolding full_line
read_second n bytes t ts earlier p q of state e =
    elim (chosen (is_two (codes "rank") (codes "3") (t ∷ ts)) _ _ (Ok q) e) [
      | inl three ↦
          let tokens : t ∷ ts ≡ rank_tokens (codes "3") = two_is (codes "rank") (codes "3") (t ∷ ts) three.0 in
          let right : IsWrongHeader earlier (t ∷ ts) → ⊥ =
          λ wrong. let at : IsWrongHeader (state.first ∷ []) (t ∷ ts) =
          subst (λ ls. IsWrongHeader ls (t ∷ ts)) state.lines wrong in
          at 3 (omega arith, omega arith) (tokens ∙ ap rank_tokens (sym (decimal_digit 3 (lit< tt)))) in
          rank_read bytes t ts earlier p q 3 (codes "3") of state tokens right three.1
      | inr other ↦ elim (chosen (is_two (codes "rank") (codes "4") (t ∷ ts)) _ _ (Ok q) other.1) [
        | inl four ↦
            let tokens : t ∷ ts ≡ rank_tokens (codes "4") = two_is (codes "rank") (codes "4") (t ∷ ts) four.0 in
            let right : IsWrongHeader earlier (t ∷ ts) → ⊥ =
            λ wrong. let at : IsWrongHeader (state.first ∷ []) (t ∷ ts) =
            subst (λ ls. IsWrongHeader ls (t ∷ ts)) state.lines wrong in
            at 4 (omega arith, omega arith) (tokens ∙ ap rank_tokens (sym (decimal_digit 4 (lit< tt)))) in
            rank_read bytes t ts earlier p q 4 (codes "4") of state tokens right four.1
        | inr neither ↦ let never = neither.1 in absurd cc
      ]
    ]

-- the state behind a sentence
state_behind : (n : ℕ) (t : List ℕ) (ts : List (List ℕ)) (earlier : List (List (List ℕ))) (p q : Progress)
    (s : Sentence) (g : IsGoing earlier p) → t ∷ ts ≡ sentence_tokens s → IsSentence s → Pushed n s p q
    → StateOf q.stage (earlier ++ (t ∷ ts) ∷ []) q
state_behind n t ts earlier p q s g says good more =
    let ended = concludes-snoc earlier (t ∷ ts) (is_conclusion s) g.open_end
    (ap concludes says ∙ concludes-sentence s) in
    elim (sentence_cases s) [
      | inl last ↦
          let at : q.stage ≡ Concluded = more.stage ∙ last.1 p.stage in
          let many : 2 ≤ length (earlier ++ (t ∷ ts) ∷ []) =
          omega (arith, length-append earlier ((t ∷ ts) ∷ []), ap length g.lines) in
          subst (λ stage. StateOf stage (earlier ++ (t ∷ ts) ∷ []) q) (sym at) (many, ended ∙ last.0)
      | inr other ↦
          let at : q.stage ≡ Going = more.stage ∙ other.1 p.stage ∙ g.stage in
          let sum = sums earlier p s g in
          let going : IsGoing (earlier ++ (t ∷ ts) ∷ []) q = record {
            first = g.first;
            second = g.second;
            sentences = g.sentences ++ s ∷ [];
            lines = ap (λ ls. ls ++ (t ∷ ts) ∷ []) g.lines
                ∙ ap (λ us. g.first ∷ g.second ∷ (map sentence_tokens g.sentences ++ us ∷ [])) says
                ∙ ap (λ ls. g.first ∷ g.second ∷ ls) (sym (map-append sentence_tokens g.sentences (s ∷ [])));
            open_end = ended ∙ other.0;
            each = each-snoc g.sentences s g.each good;
            stage = at;
            free = more.free ∙ sum.free;
            definitions = more.definitions ∙ sum.definitions;
            params = more.params ∙ sum.params;
            open_count = omega (arith, sum-snoc conclusions g.sentences s, g.open_count, counts_none s other.0);
            within = more.within;
          } in
          subst (λ stage. StateOf stage (earlier ++ (t ∷ ts) ∷ []) q) (sym at) going
    ]

read_sentence : (n : ℕ) (bytes t : List ℕ) (ts : List (List ℕ)) (earlier : List (List (List ℕ))) (p q : Progress)
    → IsLine bytes (t ∷ ts) → StateOf Going earlier p → full_line Going n (t ∷ ts) p ≡ Ok q
    → ReadsOn earlier bytes (t ∷ ts) q
unfolding full_line adds sentence_at
read_sentence n bytes t ts earlier p q of g e =
    let a = bind_ok (sentence_at (t ∷ ts)) (λ s. adds n s p) q e in
    let says = sentence_takes (t ∷ ts) a.0 a.1 in
    let b = bind_ok (counts a.0 p) (λ r. Ok (record r {
      rows = r.rows
          ++ record { line = n; sentence = a.0 } ∷ [];
    })) q a.2 in
    let made : Progress = record b.0 { rows = b.0.rows ++ record { line = n; sentence = a.0 } ∷ [] } in
    let more = pushed n a.0 p b.0 q (counted a.0 p b.0 g.within b.1) (sym (ok_is made q b.2)) in
    let key = not_err (not (has_keyword (t ∷ ts))) Keyword _ a.0 a.1 in
    let shallow = not_err (is_deep 0 (t ∷ ts)) Deep _ a.0 key.1 in
    record {
      fine = fine_sentence earlier bytes (t ∷ ts) p q n a.0 g of says.0 says.1 (not_false _ key.0) shallow.0 more;
      state = state_behind n t ts earlier p q a.0 g says.0 says.1 more;
    }

pub full_ok : (stage : Stage) (n : ℕ) (bytes t : List ℕ) (ts : List (List ℕ)) (earlier : List (List (List ℕ)))
    (p q : Progress) → IsLine bytes (t ∷ ts) → StateOf stage earlier p → full_line stage n (t ∷ ts) p ≡ Ok q
    → ReadsOn earlier bytes (t ∷ ts) q
unfolding full_line
full_ok Empty n bytes t ts earlier p q of state e = read_first n bytes t ts earlier p q of state e
full_ok Named n bytes t ts earlier p q of state e = read_second n bytes t ts earlier p q of state e
full_ok Going n bytes t ts earlier p q of state e = read_sentence n bytes t ts earlier p q of state e
full_ok Concluded n bytes t ts earlier p q of state e = absurd cc
