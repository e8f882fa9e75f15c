-- Options, by the words that give them.
use Rattle.std.proofs.Common.{◌≡◌, ◌≢◌, ◌<◌, ◌≤◌, ◌^◌, ◌+◌, ◌⊎◌, inl, inr, ℕ, zero, suc, Bool, true, false}
use Rattle.std.proofs.Common.{true≢false, List, [], ◌∷◌, ◌++◌, flat_map, Option, Some, None, MatchOption, codes}
use Rattle.std.proofs.Common.{refl, sym, ap, ◌∙◌, subst, lit<, arith, append-nil}
use Rattle.std.specs.Prelude.{decimal, IsSome}
use Rattle.std.specs.List.{AllByRecursion}
use Rattle.std.specs.Bool.{Decides}
use Rattle.std.specs.Str.{bytes_eq}
use Rattle.std.proofs.lemmas.Bool.{false≢true}
use Rattle.std.proofs.lemmas.Slice.Eq.{bytes_eq-Decides}
use Rattle.cayley_run.specs.declared.answer.Options.{Options}
use Rattle.prover.specs.declared.words.Chosen.{Chosen}
use Rattle.prover.specs.Words.{IsNumber, NoNumber, most_turns, usual_turns, Choice, Turns, Contract, choice_words}
use Rattle.prover.specs.Words.{IsChoice, AreChoices, turns_in, contractions_in, times, GiveOptions, NoOptions}
use Rattle.prover.specs.Words.{turns_of, AddsChoices, AddsNone}
use Rattle.prover.proofs.WordLists.{some_number, one_number}

abbrev Words : Type 0
Words = List (List ℕ)

-- ---- the first option

no_choice : (choices : List Choice) → AreChoices [] choices → choices ≡ []
no_choice [] are = refl
no_choice (Turns n ∷ choices) are = let e = are.spelled in absurd cc
no_choice (Contract ∷ choices) are = let e = are.spelled in absurd cc

-- what is behind contraction
record BehindContract (rest : Words) (choices : List Choice) : Type 0 where
  others : List Choice
  first : choices ≡ Contract ∷ others
  are : AreChoices rest others

first_contract : (rest : Words) (choices : List Choice) → AreChoices (codes "--contract" ∷ rest) choices
    → BehindContract rest choices
first_contract rest [] are = let e = are.spelled in absurd cc
first_contract rest (Turns n ∷ choices) are = let e = are.spelled in absurd cc
first_contract rest (Contract ∷ choices) are =
    let e = are.spelled in
    record { others = choices; first = refl; are = record { spelled = (cc); each = are.each.1 } }

-- what is behind a number of turns
record BehindTurns (word : List ℕ) (rest : Words) (choices : List Choice) : Type 0 where
  number : ℕ
  is : IsNumber most_turns word number
  others : List Choice
  first : choices ≡ Turns number ∷ others
  are : AreChoices rest others

first_turns : (word : List ℕ) (rest : Words) (choices : List Choice) → AreChoices (codes "--budget" ∷ word ∷ rest) choices
    → BehindTurns word rest choices
first_turns word rest [] are = let e = are.spelled in absurd cc
first_turns word rest (Contract ∷ choices) are = let e = are.spelled in absurd cc
first_turns word rest (Turns n ∷ choices) are =
    let e = are.spelled in
    let same : word ≡ decimal n = cc in
    record {
      number = n;
      is = subst (λ (w : List ℕ). IsNumber most_turns w n) (sym same) are.each.0;
      others = choices;
      first = refl;
      are = record { spelled = (cc); each = are.each.1 };
    }

turns_alone : (choices : List Choice) → AreChoices (codes "--budget" ∷ []) choices → ⊥
turns_alone [] are = let e = are.spelled in cc
turns_alone (Turns n ∷ choices) are = let e = are.spelled in cc
turns_alone (Contract ∷ choices) are = let e = are.spelled in cc

other_word : (word : List ℕ) (rest : Words) (choices : List Choice) → word ≢ codes "--contract" → word ≢ codes "--budget"
    → AreChoices (word ∷ rest) choices → ⊥
other_word word rest [] contract turns are = let e = are.spelled in cc
other_word word rest (Turns n ∷ choices) contract turns are = let e = are.spelled in turns (cc)
other_word word rest (Contract ∷ choices) contract turns are = let e = are.spelled in contract (cc)

-- ---- options that are added to those before

-- contraction, and what is behind it
pub adds_contract : (ws rest : Words) (old mid : Chosen) (r : Option Chosen) → ws ≡ codes "--contract" ∷ rest
    → old.contract ≡ false → mid ≡ record old { contract = true } → MatchOption r (AddsNone rest mid) (AddsChoices rest mid)
    → MatchOption r (AddsNone ws old) (AddsChoices ws old)
adds_contract ws rest old mid (Some new) front was is added =
    let zero_times : times old.contract ≡ 0 = ap times was in
    let one_time : times mid.contract ≡ 1 = ap (λ (m : Chosen). times m.contract) is in
    let same : mid.budget ≡ old.budget = ap (λ (m : Chosen). m.budget) is in
    record {
      choices = Contract ∷ added.choices;
      are = record {
        spelled = front ∙ ap (λ (xs : Words). codes "--contract" ∷ xs) added.are.spelled;
        each = (tt, added.are.each);
      };
      turns = ap (λ (b : Option ℕ). turns_of b ++ turns_in added.choices) (sym same) ∙ added.turns;
      contract = omega (arith, zero_times, one_time, added.contract);
    }
adds_contract ws rest old mid None front was is none = λ new adds. go new adds
  where
    go : (new : Chosen) → AddsChoices ws old new → ⊥
    go new adds =
        let behind = first_contract rest adds.choices (subst (λ (xs : Words). AreChoices xs adds.choices) front adds.are) in
        let zero_times : times old.contract ≡ 0 = ap times was in
        let one_time : times mid.contract ≡ 1 = ap (λ (m : Chosen). times m.contract) is in
        let same : mid.budget ≡ old.budget = ap (λ (m : Chosen). m.budget) is in
        let count : contractions_in adds.choices ≡ suc (contractions_in behind.others) = ap contractions_in behind.first in
        none new (record {
          choices = behind.others;
          are = behind.are;
          turns = ap (λ (b : Option ℕ). turns_of b ++ turns_in behind.others) same
              ∙ ap (λ (cs : List Choice). turns_of old.budget ++ turns_in cs) (sym behind.first) ∙ adds.turns;
          contract = omega (arith, zero_times, one_time, count, adds.contract);
        })

once : (b : Bool) → times b ≤ 1
once true = omega arith
once false = omega arith

-- contraction again
pub contract_twice : (ws rest : Words) (old : Chosen) → ws ≡ codes "--contract" ∷ rest → old.contract ≡ true → AddsNone ws old
contract_twice ws rest old front was new adds =
    let behind = first_contract rest adds.choices (subst (λ (xs : Words). AreChoices xs adds.choices) front adds.are) in
    let one_time : times old.contract ≡ 1 = ap times was in
    let count : contractions_in adds.choices ≡ suc (contractions_in behind.others) = ap contractions_in behind.first in
    omega (arith, one_time, count, adds.contract, once new.contract)

-- a number of turns, and what is behind it
pub adds_turns : (ws rest : Words) (word : List ℕ) (n : ℕ) (old mid : Chosen) (r : Option Chosen)
    → ws ≡ codes "--budget" ∷ word ∷ rest → IsNumber most_turns word n → old.budget ≡ None
    → mid ≡ record old { budget = Some n } → MatchOption r (AddsNone rest mid) (AddsChoices rest mid)
    → MatchOption r (AddsNone ws old) (AddsChoices ws old)
adds_turns ws rest word n old mid (Some new) front number was is added =
    let one : mid.budget ≡ Some n = ap (λ (m : Chosen). m.budget) is in
    let same : mid.contract ≡ old.contract = ap (λ (m : Chosen). m.contract) is in
    record {
      choices = Turns n ∷ added.choices;
      are = record {
        spelled = front ∙ ap (λ (w : List ℕ). codes "--budget" ∷ w ∷ rest) number.spelled
            ∙ ap (λ (xs : Words). codes "--budget" ∷ decimal n ∷ xs) added.are.spelled;
        each = (subst (λ (w : List ℕ). IsNumber most_turns w n) number.spelled number, added.are.each);
      };
      turns = ap (λ (b : Option ℕ). turns_of b ++ (n ∷ turns_in added.choices)) was
          ∙ ap (λ (b : Option ℕ). turns_of b ++ turns_in added.choices) (sym one) ∙ added.turns;
      contract = ap (λ (b : Bool). times b + contractions_in added.choices) (sym same) ∙ added.contract;
    }
adds_turns ws rest word n old mid None front number was is none = λ new adds. go new adds
  where
    go : (new : Chosen) → AddsChoices ws old new → ⊥
    go new adds =
        let behind = first_turns word rest adds.choices (subst (λ (xs : Words). AreChoices xs adds.choices) front adds.are) in
        let one : mid.budget ≡ Some n = ap (λ (m : Chosen). m.budget) is in
        let same : mid.contract ≡ old.contract = ap (λ (m : Chosen). m.contract) is in
        let e : behind.number ≡ n = one_number most_turns word behind.number n (lit< tt) behind.is number in
        none new (record {
          choices = behind.others;
          are = behind.are;
          turns = ap (λ (b : Option ℕ). turns_of b ++ turns_in behind.others) one
              ∙ ap (λ (m : ℕ). m ∷ turns_in behind.others) (sym e)
              ∙ ap turns_in (sym behind.first)
              ∙ ap (λ (b : Option ℕ). turns_of b ++ turns_in adds.choices) (sym was) ∙ adds.turns;
          contract = ap (λ (b : Bool). times b + contractions_in behind.others) same
              ∙ ap (λ (cs : List Choice). times old.contract + contractions_in cs) (sym behind.first) ∙ adds.contract;
        })

two_turns : (old new : Option ℕ) (n : ℕ) (ns : List ℕ) → IsSome old → turns_of old ++ (n ∷ ns) ≡ turns_of new → ⊥
two_turns None new n ns some e = absurd (false≢true some)
two_turns (Some m) None n ns some e = cc
two_turns (Some m) (Some k) n ns some e = cc

-- a number of turns again
pub turns_twice : (ws rest : Words) (word : List ℕ) (old : Chosen) → ws ≡ codes "--budget" ∷ word ∷ rest → IsSome old.budget
    → AddsNone ws old
turns_twice ws rest word old front was new adds =
    let behind = first_turns word rest adds.choices (subst (λ (xs : Words). AreChoices xs adds.choices) front adds.are) in
    two_turns old.budget new.budget behind.number (turns_in behind.others) was
    (ap (λ (cs : List Choice). turns_of old.budget ++ turns_in cs) (sym behind.first) ∙ adds.turns)

-- no number behind the word
pub no_word : (ws : Words) (old : Chosen) → ws ≡ codes "--budget" ∷ [] → AddsNone ws old
no_word ws old front new adds = turns_alone adds.choices (subst (λ (xs : Words). AreChoices xs adds.choices) front adds.are)

pub no_number : (ws rest : Words) (word : List ℕ) (old : Chosen) → ws ≡ codes "--budget" ∷ word ∷ rest
    → NoNumber most_turns word → AddsNone ws old
no_number ws rest word old front none new adds =
    let behind = first_turns word rest adds.choices (subst (λ (xs : Words). AreChoices xs adds.choices) front adds.are) in
    none behind.number behind.is

-- another word
pub no_option : (ws rest : Words) (word : List ℕ) (old : Chosen) → ws ≡ word ∷ rest → word ≢ codes "--contract"
    → word ≢ codes "--budget" → AddsNone ws old
no_option ws rest word old front contract turns new adds =
    other_word word rest adds.choices contract turns (subst (λ (xs : Words). AreChoices xs adds.choices) front adds.are)

-- ---- all options

abbrev nothing : Chosen
nothing = record { budget = None; contract = false }

-- the number of turns that is chosen, or the usual one
abbrev pub chosen_turns : Option ℕ → ℕ
chosen_turns None = usual_turns
chosen_turns (Some n) = n

given_turns : (b : Option ℕ) (ns : List ℕ) → ns ≡ turns_of b
    → ((ns ≡ []) × (chosen_turns b ≡ usual_turns)) ⊎ (ns ≡ chosen_turns b ∷ [])
given_turns None ns e = inl (e, refl)
given_turns (Some n) ns e = inr e

pub gives : (ws : Words) (new : Chosen) (options : Options) → AddsChoices ws nothing new
    → options ≡ record { budget = chosen_turns new.budget; contract = new.contract } → GiveOptions ws options
gives ws new options adds is = rw is (record {
  choices = adds.choices;
  are = adds.are;
  turns = given_turns new.budget (turns_in adds.choices) adds.turns;
  contract = omega (arith, adds.contract);
})

pub gives_none : (ws : Words) → AddsNone ws nothing → NoOptions ws
gives_none ws none options is = elim is.turns [
  | inl w ↦ none (record { budget = None; contract = options.contract }) (record { choices = is.choices; are = is.are; turns = w.0; contract = omega (arith, is.contract) })
  | inr e ↦ none (record { budget = Some options.budget; contract = options.contract }) (record { choices = is.choices; are = is.are; turns = e; contract = omega (arith, is.contract) })
]

-- ---- one list of options

one_list : (ws : Words) (xs ys : List Choice) → AreChoices ws xs → AreChoices ws ys → xs ≡ ys
one_list ws [] ys is also = sym (no_choice ys (subst (λ (vs : Words). AreChoices vs ys) is.spelled also))
one_list ws (Contract ∷ xs) ys is also =
    let behind = first_contract (flat_map choice_words xs) ys (subst (λ (vs : Words). AreChoices vs ys) is.spelled also) in
    ap (λ (cs : List Choice). Contract ∷ cs)
    (one_list (flat_map choice_words xs) xs behind.others (record { spelled = refl; each = is.each.1 }) behind.are)
    ∙ sym behind.first
one_list ws (Turns n ∷ xs) ys is also =
    let behind = first_turns (decimal n) (flat_map choice_words xs) ys (subst (λ (vs : Words). AreChoices vs ys) is.spelled also) in
    let e : n ≡ behind.number = one_number most_turns (decimal n) n behind.number (lit< tt) is.each.0 behind.is in
    ap (λ (m : ℕ). Turns m ∷ xs) e
    ∙ ap (λ (cs : List Choice). Turns behind.number ∷ cs)
    (one_list (flat_map choice_words xs) xs behind.others (record { spelled = refl; each = is.each.1 }) behind.are)
    ∙ sym behind.first

same_times : (a b : Bool) → times a ≡ times b → a ≡ b
same_times true true e = refl
same_times true false e = absurd (omega arith)
same_times false true e = absurd (omega arith)
same_times false false e = refl

same_turns : (ns : List ℕ) (a b : ℕ) → ((ns ≡ []) × (a ≡ usual_turns)) ⊎ (ns ≡ a ∷ [])
    → ((ns ≡ []) × (b ≡ usual_turns)) ⊎ (ns ≡ b ∷ []) → a ≡ b
same_turns ns a b (inl x) (inl y) = x.1 ∙ sym y.1
same_turns ns a b (inl x) (inr y) = let e = x.0 in absurd cc
same_turns ns a b (inr x) (inl y) = let e = y.0 in absurd cc
same_turns ns a b (inr x) (inr y) = cc

pub one_give : (ws : Words) (a b : Options) → GiveOptions ws a → GiveOptions ws b → a ≡ b
one_give ws a b is also =
    let e : also.choices ≡ is.choices = one_list ws also.choices is.choices also.are is.are in
    let turns : a.budget ≡ b.budget =
    same_turns (turns_in is.choices) a.budget b.budget is.turns
    (subst (λ (cs : List Choice). ((turns_in cs ≡ []) × (b.budget ≡ usual_turns)) ⊎ (turns_in cs ≡ b.budget ∷ [])) e also.turns) in
    let contract : a.contract ≡ b.contract =
    same_times a.contract b.contract (sym is.contract ∙ ap contractions_in (sym e) ∙ also.contract) in
    ap (λ (n : ℕ). record { budget = n; contract = a.contract }) turns
    ∙ ap (λ (c : Bool). record { budget = b.budget; contract = c }) contract

-- ---- some list of options, or none

abbrev NoList : Words → Type 0
NoList ws = (choices : List Choice) → AreChoices ws choices → ⊥

abbrev SomeList : Words → Type 0
SomeList ws = ((choices : List Choice) × AreChoices ws choices) ⊎ NoList ws

more_contract : (rest : Words) → SomeList rest → SomeList (codes "--contract" ∷ rest)
more_contract rest (inl w) = inl (
  Contract ∷ w.0,
  record {
    spelled = ap (λ (xs : Words). codes "--contract" ∷ xs) w.1.spelled;
    each = (tt, w.1.each);
  },
)
more_contract rest (inr none) = inr (λ choices are. let behind = first_contract rest choices are in none behind.others behind.are)

more_turns : (word : List ℕ) (rest : Words) → ((n : ℕ) × IsNumber most_turns word n) ⊎ NoNumber most_turns word → SomeList rest
    → SomeList (codes "--budget" ∷ word ∷ rest)
more_turns word rest (inl number) (inl w) = inl (
  Turns number.0 ∷ w.0,
  record {
    spelled = ap (λ (x : List ℕ). codes "--budget" ∷ x ∷ rest) number.1.spelled
        ∙ ap (λ (xs : Words). codes "--budget" ∷ decimal number.0 ∷ xs) w.1.spelled;
    each = (subst (λ (x : List ℕ). IsNumber most_turns x number.0) number.1.spelled number.1, w.1.each);
  },
)
more_turns word rest (inl number) (inr none) =
    inr (λ choices are. let behind = first_turns word rest choices are in none behind.others behind.are)
more_turns word rest (inr missing) some =
    inr (λ choices are. let behind = first_turns word rest choices are in missing behind.number behind.is)

abbrev is_contract : List ℕ → Bool
is_contract word = bytes_eq word (codes "--contract")

abbrev is_budget : List ℕ → Bool
is_budget word = bytes_eq word (codes "--budget")

-- the list of words that begin with this one, by what is behind it
some_alone : (word : List ℕ) → SomeList (word ∷ [])
some_alone word =
    go (is_contract word) (is_budget word) (bytes_eq-Decides word (codes "--contract")) (bytes_eq-Decides word (codes "--budget"))
  where
    go : (a b : Bool) → Decides a (word ≡ codes "--contract") → Decides b (word ≡ codes "--budget") → SomeList (word ∷ [])
    go true b contract turns =
        rw (contract.0 refl) (more_contract [] (inl ([], record { spelled = refl; each = tt })))
    go false true contract turns = rw (turns.0 refl) (inr turns_alone)
    go false false contract turns =
        inr (λ choices are.
        other_word word [] choices (λ e. true≢false (sym (contract.1 e))) (λ e. true≢false (sym (turns.1 e))) are)

some_more : (word next : List ℕ) (rest : Words) → SomeList (next ∷ rest) → SomeList rest → SomeList (word ∷ next ∷ rest)
some_more word next rest behind others =
    go (is_contract word) (is_budget word) (bytes_eq-Decides word (codes "--contract")) (bytes_eq-Decides word (codes "--budget"))
  where
    go : (a b : Bool) → Decides a (word ≡ codes "--contract") → Decides b (word ≡ codes "--budget") → SomeList (word ∷ next ∷ rest)
    go true b contract turns = rw (contract.0 refl) (more_contract (next ∷ rest) behind)
    go false true contract turns = rw (turns.0 refl) (more_turns next rest (some_number most_turns next (lit< tt)) others)
    go false false contract turns =
        inr (λ choices are.
        other_word word (next ∷ rest) choices (λ e. true≢false (sym (contract.1 e))) (λ e. true≢false (sym (turns.1 e))) are)

some_list : (ws : Words) → SomeList ws
some_list [] = inl ([], record { spelled = refl; each = tt })
some_list (word ∷ []) = some_alone word
some_list (word ∷ next ∷ rest) = some_more word next rest (some_list (next ∷ rest)) (some_list rest)

once_or_more : (n : ℕ) → ((b : Bool) × (n ≡ times b)) ⊎ ((b : Bool) → n ≡ times b → ⊥)
once_or_more zero = inl (false, refl)
once_or_more (suc zero) = inl (true, refl)
once_or_more (suc (suc n)) = inr (λ b e. omega (arith, once b))

abbrev AreTurns : List ℕ → ℕ → Type 0
AreTurns ns n = ((ns ≡ []) × (n ≡ usual_turns)) ⊎ (ns ≡ n ∷ [])

some_turns : (ns : List ℕ) → ((n : ℕ) × AreTurns ns n) ⊎ ((n : ℕ) → AreTurns ns n → ⊥)
some_turns [] = inl (usual_turns, inl (refl, refl))
some_turns (n ∷ []) = inl (n, inr refl)
some_turns (n ∷ m ∷ ns) = inr none
  where
    none : (k : ℕ) → AreTurns (n ∷ m ∷ ns) k → ⊥
    none k (inl x) = let e = x.0 in cc
    none k (inr x) = cc

pub some_give : (ws : Words) → ((options : Options) × GiveOptions ws options) ⊎ NoOptions ws
some_give ws = elim (some_list ws) [
  | inr none ↦ inr (λ options is. none is.choices is.are)
  | inl w ↦ go w.0 w.1 (some_turns (turns_in w.0)) (once_or_more (contractions_in w.0))
]
  where
    same : (choices : List Choice) (options : Options) → AreChoices ws choices → (is : GiveOptions ws options) → is.choices ≡ choices
    same choices options are is = one_list ws is.choices choices is.are are

    go : (choices : List Choice) → AreChoices ws choices
        → ((n : ℕ) × AreTurns (turns_in choices) n) ⊎ ((n : ℕ) → AreTurns (turns_in choices) n → ⊥)
        → ((b : Bool) × (contractions_in choices ≡ times b)) ⊎ ((b : Bool) → contractions_in choices ≡ times b → ⊥)
        → ((options : Options) × GiveOptions ws options) ⊎ NoOptions ws
    go choices are (inl n) (inl b) =
        inl (record { budget = n.0; contract = b.0 }, record { choices = choices; are = are; turns = n.1; contract = b.1 })
    go choices are (inr none) b =
        inr (λ options is.
        none options.budget (subst (λ (cs : List Choice). AreTurns (turns_in cs) options.budget) (same choices options are is) is.turns))
    go choices are (inl n) (inr none) =
        inr (λ options is. none options.contract (ap contractions_in (sym (same choices options are is)) ∙ is.contract))
