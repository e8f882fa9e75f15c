-- Modes, by the words that name them.
use Rattle.std.proofs.Common.{◌≡◌, ◌≢◌, ◌⊎◌, inl, inr, ℕ, Bool, true, false, true≢false, List, [], ◌∷◌, MatchOption}
use Rattle.std.proofs.Common.{codes, refl, sym, ap, ◌∙◌, subst, lit<}
use Rattle.std.specs.Bool.{Decides}
use Rattle.std.specs.Str.{bytes_eq}
use Rattle.std.proofs.lemmas.Slice.Eq.{bytes_eq-Decides}
use Rattle.cayley_run.specs.declared.answer.Options.{Options}
use Rattle.prover.specs.declared.mode.Mode.{Mode}
use Rattle.prover.specs.declared.mode.Mode.TheVariants as mode
use Rattle.std.specs.Prelude.{decimal, Option, Some, None}
use Rattle.prover.specs.Words.{IsNumber, NoNumber, GiveOptions, NoOptions}
use Rattle.prover.specs.Modes.Sample.{sample_options}
use Rattle.prover.specs.Modes.{IsMode, IsUsage}
use Rattle.prover.proofs.Choices.{one_give, some_give}
use Rattle.prover.proofs.WordLists.{some_number, one_number}

abbrev Words : Type 0
Words = List (List ℕ)

-- a list does not begin with two words
other_word : (ws rest more : Words) (a b : List ℕ) → bytes_eq a b ≡ false → ws ≡ a ∷ rest → ws ≡ b ∷ more → ⊥
other_word ws rest more a b differ x y = true≢false (sym ((bytes_eq-Decides a b).1 (head a b rest more (sym x ∙ y))) ∙ differ)
  where
    head : (a b : List ℕ) (xs ys : Words) → a ∷ xs ≡ b ∷ ys → a ≡ b
    head a b xs ys e = cc

pub no_words : (ws : Words) → ws ≡ [] → IsUsage ws
no_words ws none (mode.Prove options) is = let e = is.front in cc
no_words ws none mode.Check is = let e = is.front in cc
no_words ws none (mode.Same options) is = let e = is.front in cc
no_words ws none (mode.Sample number budget) is = let e = is.front in cc

pub no_mode : (ws rest : Words) (word : List ℕ) → ws ≡ word ∷ rest → word ≢ codes "prove" → word ≢ codes "check"
    → word ≢ codes "same" → word ≢ codes "sample" → IsUsage ws
no_mode ws rest word front prove check same sample (mode.Prove options) is = let e = is.front in prove (cc)
no_mode ws rest word front prove check same sample mode.Check is = let e = is.front in check (cc)
no_mode ws rest word front prove check same sample (mode.Same options) is = let e = is.front in same (cc)
no_mode ws rest word front prove check same sample (mode.Sample number budget) is = let e = is.front in sample (cc)

-- ---- words behind `prove`

pub is_prove : (ws rest : Words) (options : Options) → ws ≡ codes "prove" ∷ rest → GiveOptions rest options
    → IsMode ws (mode.Prove options)
is_prove ws rest options front is = record { rest = rest; front = front; options = is; number = tt }

behind_prove : (ws rest : Words) (options : Options) → ws ≡ codes "prove" ∷ rest → IsMode ws (mode.Prove options)
    → GiveOptions rest options
behind_prove ws rest options front is =
    let e = is.front in
    let same : is.rest ≡ rest = cc in subst (λ (xs : Words). GiveOptions xs options) same is.options

pub no_options : (ws rest : Words) → ws ≡ codes "prove" ∷ rest → NoOptions rest → IsUsage ws
no_options ws rest front none (mode.Prove options) is = none options (behind_prove ws rest options front is)
no_options ws rest front none mode.Check is = other_word ws rest is.rest (codes "prove") (codes "check") refl front is.front
no_options ws rest front none (mode.Same options) is = let e = is.front in cc
no_options ws rest front none (mode.Sample number budget) is = let e = is.front in cc

-- ---- words behind `check`

pub is_check : (ws rest : Words) → ws ≡ codes "check" ∷ rest → rest ≡ [] → IsMode ws mode.Check
is_check ws rest front alone = record { rest = rest; front = front; options = alone; number = tt }

pub not_alone : (ws rest : Words) → ws ≡ codes "check" ∷ rest → rest ≢ [] → IsUsage ws
not_alone ws rest front more (mode.Prove options) is =
    other_word ws rest is.rest (codes "check") (codes "prove") refl front is.front
not_alone ws rest front more mode.Check is =
    let e = is.front in
    let same : is.rest ≡ rest = cc in more (sym same ∙ is.options)
not_alone ws rest front more (mode.Same options) is =
    other_word ws rest is.rest (codes "check") (codes "same") refl front is.front
not_alone ws rest front more (mode.Sample number budget) is =
    other_word ws rest (decimal number ∷ is.rest) (codes "check") (codes "sample") refl front is.front

pub match_check : (ws rest : Words) (named : Option Mode) → ws ≡ codes "check" ∷ rest
    → MatchOption named (rest ≢ []) (λ m. (m ≡ mode.Check) × (rest ≡ [])) → MatchOption named (IsUsage ws) (IsMode ws)
match_check ws rest None front more = not_alone ws rest front more
match_check ws rest (Some m) front alone = subst (IsMode ws) (sym alone.0) (is_check ws rest front alone.1)

-- ---- words behind `same`

pub is_same : (ws rest : Words) (options : Options) → ws ≡ codes "same" ∷ rest → GiveOptions rest options
    → IsMode ws (mode.Same options)
is_same ws rest options front is = record { rest = rest; front = front; options = is; number = tt }

behind_same : (ws rest : Words) (options : Options) → ws ≡ codes "same" ∷ rest → IsMode ws (mode.Same options)
    → GiveOptions rest options
behind_same ws rest options front is =
    let e = is.front in
    let same : is.rest ≡ rest = cc in subst (λ (xs : Words). GiveOptions xs options) same is.options

pub no_same_options : (ws rest : Words) → ws ≡ codes "same" ∷ rest → NoOptions rest → IsUsage ws
no_same_options ws rest front none (mode.Same options) is = none options (behind_same ws rest options front is)
no_same_options ws rest front none (mode.Prove options) is = let e = is.front in cc
no_same_options ws rest front none mode.Check is =
    other_word ws rest is.rest (codes "same") (codes "check") refl front is.front
no_same_options ws rest front none (mode.Sample number budget) is = let e = is.front in cc

-- ---- words behind `sample`

pub is_sample : (ws rest : Words) (word : List ℕ) (n : ℕ) (options : Options) → ws ≡ codes "sample" ∷ word ∷ rest
    → IsNumber 12 word n → GiveOptions rest options → options.contract ≡ false → IsMode ws (mode.Sample n options.budget)
is_sample ws rest word n options front number is plain = record {
  rest = rest;
  front = front ∙ ap (λ (w : List ℕ). codes "sample" ∷ w ∷ rest) number.spelled;
  options = subst (GiveOptions rest) (ap (λ (b : Bool). record { budget = options.budget; contract = b }) plain) is;
  number = (number.least, number.within);
}

-- what is behind the mode's word
record Behind (more : Words) (number budget : ℕ) : Type 0 where
  word : List ℕ
  rest : Words
  more_is : more ≡ word ∷ rest
  is : IsNumber 12 word number
  options : GiveOptions rest (sample_options budget)

behind_sample : (ws more : Words) (number budget : ℕ) → ws ≡ codes "sample" ∷ more → IsMode ws (mode.Sample number budget)
    → Behind more number budget
behind_sample ws more number budget front is =
    let e = is.front in
    record {
      word = decimal number;
      rest = is.rest;
      more_is = (cc);
      is = record { spelled = refl; least = is.number.0; within = is.number.1 };
      options = is.options;
    }

-- no sample is named by what is behind the mode's word
no_sample : (ws more : Words) → ws ≡ codes "sample" ∷ more → ((number budget : ℕ) → Behind more number budget → ⊥) → IsUsage ws
no_sample ws more front none (mode.Prove options) is = let e = is.front in cc
no_sample ws more front none mode.Check is =
    other_word ws more is.rest (codes "sample") (codes "check") refl front is.front
no_sample ws more front none (mode.Same options) is = let e = is.front in cc
no_sample ws more front none (mode.Sample number budget) is = none number budget (behind_sample ws more number budget front is)

pub sample_alone : (ws : Words) → ws ≡ codes "sample" ∷ [] → IsUsage ws
sample_alone ws front = no_sample ws [] front none
  where
    none : (number budget : ℕ) → Behind [] number budget → ⊥
    none number budget b = let e = b.more_is in cc

module _ (ws rest : Words) (word : List ℕ) (front : ws ≡ codes "sample" ∷ word ∷ rest) where
  same_word : (number budget : ℕ) (b : Behind (word ∷ rest) number budget) → b.word ≡ word
  same_word number budget b = let e = b.more_is in cc

  same_rest : (number budget : ℕ) (b : Behind (word ∷ rest) number budget) → GiveOptions rest (sample_options budget)
  same_rest number budget b =
      let e = b.more_is in
      let same : b.rest ≡ rest = cc in subst (λ (xs : Words). GiveOptions xs (sample_options budget)) same b.options

  pub sample_of_none : NoNumber 12 word → IsUsage ws
  sample_of_none none =
      no_sample ws (word ∷ rest) front
      (λ number budget b. none number (subst (λ (w : List ℕ). IsNumber 12 w number) (same_word number budget b) b.is))

  pub sample_without : NoOptions rest → IsUsage ws
  sample_without none =
      no_sample ws (word ∷ rest) front (λ number budget b. none (sample_options budget) (same_rest number budget b))

  pub sample_contracted : (options : Options) → GiveOptions rest options → options.contract ≡ true → IsUsage ws
  sample_contracted options gives on = no_sample ws (word ∷ rest) front (λ number budget b.
      let same : options ≡ sample_options budget = one_give rest options (sample_options budget) gives (same_rest number budget b) in
      true≢false (sym on ∙ ap (λ (o : Options). o.contract) same))

-- ---- each list of words names one mode, or none

pub one_mode : (ws : Words) (a b : Mode) → IsMode ws a → IsMode ws b → a ≡ b
one_mode ws (mode.Prove a) (mode.Prove b) is also =
    ap mode.Prove (one_give is.rest a b is.options (behind_prove ws is.rest b is.front also))
one_mode ws (mode.Prove a) (mode.Same b) is also = let e = is.front in let w = also.front in absurd cc
one_mode ws (mode.Prove a) mode.Check is also =
    absurd (other_word ws is.rest also.rest (codes "prove") (codes "check") refl is.front also.front)
one_mode ws mode.Check (mode.Prove b) is also =
    absurd (other_word ws is.rest also.rest (codes "check") (codes "prove") refl is.front also.front)
one_mode ws mode.Check mode.Check is also = refl
one_mode ws mode.Check (mode.Sample m y) is also =
    absurd (other_word ws is.rest (decimal m ∷ also.rest) (codes "check") (codes "sample") refl is.front also.front)
one_mode ws (mode.Sample n x) mode.Check is also =
    absurd (other_word ws (decimal n ∷ is.rest) also.rest (codes "sample") (codes "check") refl is.front also.front)
one_mode ws (mode.Same a) mode.Check is also =
    absurd (other_word ws is.rest also.rest (codes "same") (codes "check") refl is.front also.front)
one_mode ws mode.Check (mode.Same b) is also =
    absurd (other_word ws is.rest also.rest (codes "check") (codes "same") refl is.front also.front)
one_mode ws (mode.Prove a) (mode.Sample m y) is also = let e = is.front in let w = also.front in absurd cc
one_mode ws (mode.Same a) (mode.Same b) is also =
    ap mode.Same (one_give is.rest a b is.options (behind_same ws is.rest b is.front also))
one_mode ws (mode.Same a) (mode.Prove b) is also = let e = is.front in let w = also.front in absurd cc
one_mode ws (mode.Same a) (mode.Sample m y) is also = let e = is.front in let w = also.front in absurd cc
one_mode ws (mode.Sample n x) (mode.Same b) is also = let e = is.front in let w = also.front in absurd cc
one_mode ws (mode.Sample n x) (mode.Prove b) is also = let e = is.front in let w = also.front in absurd cc
one_mode ws (mode.Sample n x) (mode.Sample m y) is also =
    let b = behind_sample ws (decimal n ∷ is.rest) m y is.front also in
    let number : n ≡ m =
    one_number 12 (decimal n) n m (lit< tt) (record { spelled = refl; least = is.number.0; within = is.number.1 })
    (subst (λ (w : List ℕ). IsNumber 12 w m) (same_word ws is.rest (decimal n) is.front m y b) b.is) in
    let options : sample_options x ≡ sample_options y =
    one_give is.rest (sample_options x) (sample_options y) is.options (same_rest ws is.rest (decimal n) is.front m y b) in
    ap (λ (k : ℕ). mode.Sample k x) number ∙ ap (λ (o : Options). mode.Sample m o.budget) options

abbrev Named : Words → Type 0
Named ws = ((m : Mode) × IsMode ws m) ⊎ IsUsage ws

some_prove : (rest : Words) → ((options : Options) × GiveOptions rest options) ⊎ NoOptions rest → Named (codes "prove" ∷ rest)
some_prove rest (inl w) = inl (mode.Prove w.0, is_prove (codes "prove" ∷ rest) rest w.0 refl w.1)
some_prove rest (inr none) = inr (no_options (codes "prove" ∷ rest) rest refl none)

some_same : (rest : Words) → ((options : Options) × GiveOptions rest options) ⊎ NoOptions rest → Named (codes "same" ∷ rest)
some_same rest (inl w) = inl (mode.Same w.0, is_same (codes "same" ∷ rest) rest w.0 refl w.1)
some_same rest (inr none) = inr (no_same_options (codes "same" ∷ rest) rest refl none)

some_check : (rest : Words) → Named (codes "check" ∷ rest)
some_check [] = inl (mode.Check, is_check (codes "check" ∷ []) [] refl refl)
some_check (word ∷ rest) = inr (not_alone (codes "check" ∷ word ∷ rest) (word ∷ rest) refl (λ e. cc))

some_sample : (rest : Words) → Named (codes "sample" ∷ rest)
some_sample [] = inr (sample_alone (codes "sample" ∷ []) refl)
some_sample (word ∷ rest) = go (some_number 12 word (lit< tt)) (some_give rest)
  where
    plain : (n : ℕ) (options : Options) (on : Bool) → options.contract ≡ on → IsNumber 12 word n → GiveOptions rest options
        → Named (codes "sample" ∷ word ∷ rest)
    plain n options false on number gives =
        inl (mode.Sample n options.budget, is_sample (codes "sample" ∷ word ∷ rest) rest word n options refl number gives on)
    plain n options true on number gives = inr (sample_contracted (codes "sample" ∷ word ∷ rest) rest word refl options gives on)

    go : ((n : ℕ) × IsNumber 12 word n) ⊎ NoNumber 12 word → ((options : Options) × GiveOptions rest options) ⊎ NoOptions rest
        → Named (codes "sample" ∷ word ∷ rest)
    go (inl n) (inl w) = plain n.0 w.0 w.0.contract refl n.1 w.1
    go (inl n) (inr none) = inr (sample_without (codes "sample" ∷ word ∷ rest) rest word refl none)
    go (inr none) some = inr (sample_of_none (codes "sample" ∷ word ∷ rest) rest word refl none)

pub some_mode : (ws : Words) → Named ws
some_mode [] = inr (no_words [] refl)
some_mode (word ∷ rest) =
    go (bytes_eq word (codes "prove")) (bytes_eq word (codes "check")) (bytes_eq word (codes "same"))
    (bytes_eq word (codes "sample")) (bytes_eq-Decides word (codes "prove")) (bytes_eq-Decides word (codes "check"))
    (bytes_eq-Decides word (codes "same")) (bytes_eq-Decides word (codes "sample"))
  where
    go : (a b c d : Bool) → Decides a (word ≡ codes "prove") → Decides b (word ≡ codes "check")
        → Decides c (word ≡ codes "same") → Decides d (word ≡ codes "sample") → Named (word ∷ rest)
    go true b c d prove check same sample = rw (prove.0 refl) (some_prove rest (some_give rest))
    go false true c d prove check same sample = rw (check.0 refl) (some_check rest)
    go false false true d prove check same sample = rw (same.0 refl) (some_same rest (some_give rest))
    go false false false true prove check same sample = rw (sample.0 refl) (some_sample rest)
    go false false false false prove check same sample =
        inr
        (no_mode (word ∷ rest) rest word refl (λ e. true≢false (sym (prove.1 e))) (λ e. true≢false (sym (check.1 e)))
        (λ e. true≢false (sym (same.1 e)))
        (λ e. true≢false (sym (sample.1 e))))
