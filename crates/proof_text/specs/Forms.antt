-- The forms of the lines of a proof text: what a line says by its shape alone.
use Rattle.std.specs.Prelude.{◌≡◌, ℕ, ◌+◌, ◌≤◌, ◌<◌, Bool, true, false, List, [], ◌∷◌, ◌++◌, map, length, codes, if◌then◌else◌}
use Rattle.std.specs.List.{AllByRecursion, list_all, list_any}
use Rattle.construction_reader.specs.Words.{◌is◌}
use Rattle.proof_text.specs.declared.stop.Stop.{Stop}
use Rattle.proof_text.specs.declared.stop.Stop.TheVariants as stop
use Rattle.proof_text.specs.Lines.{spaced}
use Rattle.proof_text.specs.Numbers.{is_number, is_run}

-- a parameter with its exponent, by their spelling
pub record Power : Type 0 where
  pub name : List ℕ
  pub digits : List ℕ

-- a term by its spelling, with rows of the type R
pub record Spelt (R : Type 0) : Type 0 where
  pub is_negative : Bool
  pub digits : List ℕ
  pub powers : List Power
  pub rows : List R

-- the lists of terms that a section has
pub data Part : Type 0 where
  Start : Part
  End : Part

-- what a line says by its shape
pub data Form (R : Type 0) : Type 0 where
  Proof : Form R
  Rank : List ℕ → Form R
  Free : List (List ℕ) → Form R
  Params : List (List ℕ) → Form R
  Object : List ℕ → List ℕ → Form R
  Scalar : List (List ℕ) → Form R
  Opens : Part → Form R
  Zero : Form R
  Term : Spelt R → Form R
  Use : Spelt R → List (List ℕ) → List (List ℕ) → List (List ℕ) → Form R
  Verdict : Bool → Form R

-- ---- the words of a form

-- a coefficient: digits behind their sign
abbrev pub signed_word : Bool → List ℕ → List ℕ
signed_word is_negative digits = (if is_negative then codes "-" else codes "+") ++ digits

-- a parameter with its exponent
abbrev pub power_word : Power → List ℕ
power_word power = power.name ++ (codes "^" ++ power.digits)

-- a row by the names of its points, which stands as one word
abbrev pub row_word : List (List ℕ) → List ℕ
row_word names = codes "[" ++ (spaced names ++ codes "]")

-- the word that opens a list of terms
abbrev pub part_word : Part → List ℕ
part_word Start = codes "start"
part_word End = codes "end"

-- the last word of a proof
abbrev pub verdict_word : Bool → List ℕ
verdict_word true = codes "proved"
verdict_word false = codes "refuted"

-- word is how a row is written
module _ {R : Type 0} (word : R → List ℕ) where
  -- the words of a term
  abbrev pub spelt_words : Spelt R → List (List ℕ)
  spelt_words t = signed_word t.is_negative t.digits ∷ (map power_word t.powers ++ map word t.rows)

  -- the words of a line of this form
  abbrev pub form_words : Form R → List (List ℕ)
  form_words Form.Proof = codes "proof" ∷ codes "1" ∷ []
  form_words (Form.Rank digits) = codes "rank" ∷ digits ∷ []
  form_words (Form.Free names) = codes "free" ∷ names
  form_words (Form.Params names) = codes "params" ∷ names
  form_words (Form.Object number step) = codes "object" ∷ number ∷ codes "step" ∷ step ∷ []
  form_words (Form.Scalar names) = codes "scalar" ∷ names
  form_words (Form.Opens part) = part_word part ∷ []
  form_words Form.Zero = codes "zero" ∷ []
  form_words (Form.Term t) = spelt_words t
  form_words (Form.Use t alpha beta gamma) =
      codes "use" ∷ (spelt_words t ++ (codes ";" ∷ (alpha ++ (codes ";" ∷ (beta ++ (codes ";" ∷ gamma))))))
  form_words (Form.Verdict is_proved) = verdict_word is_proved ∷ []

-- ---- which forms there are

-- names by their shape
abbrev pub AreRuns : List (List ℕ) → Type 0
AreRuns names = list_all is_run names ≡ true

-- a name and a number
pub record IsPower (power : Power) : Type 0 where
  pub name : is_run power.name ≡ true
  pub digits : is_number power.digits ≡ true

-- so many names
pub record IsRowOf (d : ℕ) (names : List (List ℕ)) : Type 0 where
  pub count : length names ≡ d
  pub each : AreRuns names

module _ {R : Type 0} (IsRow : R → Type 0) where
  -- a term of at most so many rows
  pub record IsSpelt (most : ℕ) (t : Spelt R) : Type 0 where
    pub digits : is_number t.digits ≡ true
    pub powers : AllByRecursion IsPower t.powers
    pub rows : AllByRecursion IsRow t.rows
    pub few_rows : length t.rows ≤ most

  -- a form in rank d, by its words and its counts
  abbrev pub IsForm : ℕ → Form R → Type 0
  IsForm d Form.Proof = Unit {0}
  IsForm d (Form.Rank digits) = is_number digits ≡ true
  IsForm d (Form.Free names) = (0 < length names) × AreRuns names
  IsForm d (Form.Params names) = AreRuns names
  IsForm d (Form.Object number step) = (is_number number ≡ true) × (is_number step ≡ true)
  IsForm d (Form.Scalar names) = AreRuns names
  IsForm d (Form.Opens part) = Unit {0}
  IsForm d Form.Zero = Unit {0}
  IsForm d (Form.Term t) = IsSpelt 64 t
  IsForm d (Form.Use t alpha beta gamma) =
      IsSpelt 62 t × AreRuns alpha × AreRuns beta × AreRuns gamma
      × (length beta ≡ d + 1) × (length alpha + length gamma + 1 ≡ d)
  IsForm d (Form.Verdict is_proved) = Unit {0}

-- ---- proof texts with their rows written out

abbrev pub PlainForm : Type 0
PlainForm = Form (List (List ℕ))

-- the line of a form
abbrev pub form_line : PlainForm → List ℕ
form_line form = spaced (form_words row_word form)

-- the line has this form in rank d
pub record HasForm (d : ℕ) (line : List ℕ) (form : PlainForm) : Type 0 where
  pub formed : IsForm (IsRowOf d) d form
  pub spelt : line ≡ form_line form

-- the last line of a run that stopped
abbrev pub stop_line : Stop → List ℕ
stop_line stop.Turns = codes "stopped turns"
stop_line stop.Coefficient = codes "stopped coefficient"
stop_line stop.Keys = codes "stopped keys"

-- whether the line is such a last line
abbrev pub is_stopped : List ℕ → Bool
is_stopped line = list_any (λ stop. line is stop_line stop) (stop.Turns ∷ stop.Coefficient ∷ stop.Keys ∷ [])
