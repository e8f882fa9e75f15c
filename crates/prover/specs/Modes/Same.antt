-- The mode that compares the conclusions of two texts.
use Rattle.std.specs.Prelude.{◌≡◌, ◌≢◌, ◌<◌, ◌≤◌, ◌⊎◌, ℕ, Bool, true, false, List, [], ◌∷◌, ◌++◌, length, codes}
use Rattle.std.specs.Prelude.{Option, Some, None, Decides}
use Rattle.coordinate_model.specs.BracketPolynomial.{BracketPolynomial, IsNormal, value}
use Rattle.construction_reader.specs.Said.{Account}
use Rattle.step_types.specs.Checks.{names_of}
use Rattle.step_types.specs.declared.names.Names.{Names}
use Rattle.cayley_terms.specs.Meaning.{conclusion_polynomial}
use Rattle.straightening.specs.Runs as turns
use Rattle.cayley_run.specs.declared.answer.Options.{Options}
use Rattle.cayley_run.specs.Runs.{Log}
use Rattle.proof_text.specs.Forms.{stop_line}
use Rattle.proof_text.specs.Terms.{polynomial_lines}
use Rattle.prover.specs.declared.difference.Difference.{Difference}
use Rattle.prover.specs.declared.parts.Fault.{Fault}
use Rattle.prover.specs.declared.status.Status.{Status}
use Rattle.prover.specs.declared.status.Status.TheVariants as status
use Rattle.prover.specs.Alike.{AreAlike, IsFirstDifference, difference_word}
use Rattle.prover.specs.Answer.{Answer, refused}
use Rattle.prover.specs.Cuts.{IsCut, behind_separator}
use Rattle.prover.specs.Ends.{same_ends}
use Rattle.prover.specs.Modes.Prove.{verdict}
use Rattle.prover.specs.Parts.{Gives, IsFault, IsPart}
use Rattle.prover.specs.Runs.{log_of, Stops, ComesToEnd, last_end, stop_kind}

-- ---- the two texts

-- the line between the texts
abbrev pub separator : List ℕ
separator = codes "and"

-- the texts before and behind the first such line
pub record AreTexts (input first second : List ℕ) : Type 0 where
  pub rest : List ℕ
  pub cut : IsCut separator input first rest
  pub behind : second ≡ behind_separator separator rest

-- a text is too long, or none is
abbrev pub IsOneLong : List ℕ → List ℕ → Type 0
IsOneLong first second = (1048576 < length first) ⊎ (1048576 < length second)

abbrev pub AreShort : List ℕ → List ℕ → Type 0
AreShort first second = (length first ≤ 1048576) × (length second ≤ 1048576)

-- ---- the runs

-- the lines of a run that was stopped so or ended so: its stop, or the terms of the end
abbrev pub stop_or_terms : Names → Option turns.Stop → Option BracketPolynomial → List (List ℕ)
stop_or_terms names (Some stop) end = stop_line (stop_kind stop) ∷ []
stop_or_terms names None None = []
stop_or_terms names None (Some f) = polynomial_lines names f

abbrev pub run_lines : Names → Log → List (List ℕ)
run_lines names log = stop_or_terms names log.stop (last_end log.objects)

-- behind a run that was stopped no more is told
abbrev pub unless_stopped : Option turns.Stop → Answer → Answer
unless_stopped None more = more
unless_stopped (Some stop) more = record { status = status.Stopped; lines = [] }

-- a title, the lines of such a run, and then the further answer
abbrev pub behind_run : List ℕ → Names → Option turns.Stop → Option BracketPolynomial → Answer → Answer
behind_run title names stop end more =
    let further = unless_stopped stop more in
    record { status = further.status; lines = (title ∷ stop_or_terms names stop end) ++ further.lines }

-- ---- the answer

-- the last line, by whether the polynomials are equal
abbrev pub equal_word : Bool → List ℕ
equal_word true = codes "equal"
equal_word false = codes "different"

abbrev pub equal_or_different : Bool → Answer
equal_or_different equal = record { status = verdict equal; lines = equal_word equal ∷ [] }

-- the answer by two runs: both, and whether their ends are equal
abbrev pub compared : Names → Names → Log → Log → Answer
compared names others first second =
    let end = last_end first.objects in
    let other = last_end second.objects in
    behind_run (codes "first") names first.stop end
    (behind_run (codes "second") others second.stop other (equal_or_different (same_ends end other)))

-- the answer to two constructions that are alike
abbrev pub comparison : Options → Account → Account → Answer
comparison options c e = compared (names_of c) (names_of e) (log_of options c) (log_of options e)

-- and to two that differ in this
abbrev pub unlike : Difference → Answer
unlike difference =
    record { status = status.Unlike; lines = (codes "unlike " ++ difference_word difference) ∷ [] }

-- the answer to two constructions
abbrev pub IsPairAnswer : Options → Account → Account → Answer → Type 0
IsPairAnswer options c e answer =
    ((difference : Difference) × IsFirstDifference (names_of c) (names_of e) difference × (answer ≡ unlike difference))
    ⊎ (AreAlike (names_of c) (names_of e) × (answer ≡ comparison options c e))

-- the answer to a first text that gives this construction and a second text
abbrev pub IsSecondAnswer : Options → Account → List ℕ → Answer → Type 0
IsSecondAnswer options c second answer = IsPart (codes "second ") second (IsPairAnswer options c) answer

-- the answer to two texts that are not too long: the fault of the first is told before that of the second
abbrev pub IsShortAnswer : Options → List ℕ → List ℕ → Answer → Type 0
IsShortAnswer options first second answer =
    IsPart (codes "first ") first (λ c answer. IsSecondAnswer options c second answer) answer

-- the answer to two texts
abbrev pub IsTextsAnswer : Options → List ℕ → List ℕ → Answer → Type 0
IsTextsAnswer options first second answer =
    (IsOneLong first second × (answer ≡ refused (codes "long")))
    ⊎ (AreShort first second × IsShortAnswer options first second answer)

-- the answer to an input
pub record IsSameAnswer (options : Options) (input : List ℕ) (answer : Answer) : Type 0 where
  pub first : List ℕ
  pub second : List ℕ
  pub texts : AreTexts input first second
  pub is : IsTextsAnswer options first second answer

-- ---- the causes of the statuses

-- the texts are not too long, and give these constructions
pub record GiveBoth (first second : List ℕ) (c e : Account) : Type 0 where
  pub short : AreShort first second
  pub first_gives : Gives first c
  pub second_gives : Gives second e

-- and the constructions can be compared
pub record GiveAlike (first second : List ℕ) (c e : Account) : Type 0 where
  pub both : GiveBoth first second c e
  pub alike : AreAlike (names_of c) (names_of e)

-- and their runs come to the end
pub record CompareAtEnd (options : Options) (first second : List ℕ) (c e : Account) : Type 0 where
  pub texts : GiveAlike first second c e
  pub first_ends : ComesToEnd options c
  pub second_ends : ComesToEnd options e

-- One of the texts is too long or has a fault; or they give constructions that differ in rank, free names or parameters, or
-- of which one has a run that stops, or whose conclusions have the same polynomial, or have not.
abbrev pub IsTextsCause : Options → List ℕ → List ℕ → Status → Type 0
IsTextsCause options first second status.TextRefused =
    IsOneLong first second ⊎ ((f : Fault) × IsFault first f) ⊎ ((f : Fault) × IsFault second f)
IsTextsCause options first second status.Unlike =
    (c : Account) × (e : Account) × GiveBoth first second c e
    × (difference : Difference) × IsFirstDifference (names_of c) (names_of e) difference
IsTextsCause options first second status.Stopped =
    (c : Account) × (e : Account) × GiveAlike first second c e × (Stops options c ⊎ Stops options e)
IsTextsCause options first second status.Proved =
    (c : Account) × (e : Account) × CompareAtEnd options first second c e
    × (conclusion_polynomial c ≡ conclusion_polynomial e)
IsTextsCause options first second status.Refuted =
    (c : Account) × (e : Account) × CompareAtEnd options first second c e
    × (conclusion_polynomial c ≢ conclusion_polynomial e)
IsTextsCause options first second other = ⊥

-- the input is cut into such texts
pub record IsSameCause (options : Options) (input : List ℕ) (status : Status) : Type 0 where
  pub first : List ℕ
  pub second : List ℕ
  pub texts : AreTexts input first second
  pub cause : IsTextsCause options first second status

-- ---- the verdict

-- The lines behind `first` and behind `second` are the terms of the one normal polynomial whose value is the conclusion
-- polynomial of that construction, and the verdict says whether these conclusion polynomials are equal.
pub record PairDecides (c e : Account) (answer : Answer) : Type 0 where
  pub alike : AreAlike (names_of c) (names_of e)
  pub first : BracketPolynomial
  pub first_normal : IsNormal c.rank 64 first
  pub first_value : value first ≡ conclusion_polynomial c
  pub second : BracketPolynomial
  pub second_normal : IsNormal e.rank 64 second
  pub second_value : value second ≡ conclusion_polynomial e
  pub equal : Bool
  pub decides : Decides equal (conclusion_polynomial c ≡ conclusion_polynomial e)
  pub status : answer.status ≡ verdict equal
  pub lines : answer.lines
      ≡ codes "first" ∷ (polynomial_lines (names_of c) first
      ++ (codes "second" ∷ (polynomial_lines (names_of e) second ++ equal_word equal ∷ [])))

-- The second text gives a construction that is compared with this one.
pub record SecondDecides (c : Account) (second : List ℕ) (answer : Answer) : Type 0 where
  pub account : Account
  pub gives : Gives second account
  pub pair : PairDecides c account answer

-- Both texts give constructions, which are compared.
pub record TextsDecide (first second : List ℕ) (answer : Answer) : Type 0 where
  pub account : Account
  pub gives : Gives first account
  pub behind : SecondDecides account second answer

-- The verdict decides whether the polynomials of the conclusions of the two texts of the input are equal.
pub record SameDecides (input : List ℕ) (answer : Answer) : Type 0 where
  pub first : List ℕ
  pub second : List ℕ
  pub texts : AreTexts input first second
  pub decides : TextsDecide first second answer
