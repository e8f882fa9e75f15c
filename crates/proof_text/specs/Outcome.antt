-- What a proof is read for, and what a proof of the code tells.
use Rattle.std.specs.Prelude.{◌≡◌, ℕ, ◌≤◌, ◌<◌, ◌^◌, true, List, ◌++◌, map, length, sum_by, IfSome}
use Rattle.std.specs.List.{AllByRecursion, IsDistinct, list_all}
use Rattle.coordinate_model.specs.Sequences.{IsRank}
use Rattle.bracket_poly.specs.Kept.{TrackedOf}
use Rattle.bracket_poly.specs.Sections.{worked_of}
use Rattle.bracket_poly.specs.declared.section.Section.{Section}
use Rattle.construction_reader.specs.Words.{◌is◌}
use Rattle.step_types.specs.declared.names.Names.{Names}
use Rattle.proof_text.specs.declared.proof.Proof.{Proof}
use Rattle.proof_text.specs.Numbers.{is_run}
use Rattle.proof_text.specs.Told.{Told}

-- the names of a text of rank d: not too many, all different, each a short run of name bytes
pub record AreNames (d : ℕ) (names : Names) : Type 0 where
  pub rank : names.rank ≡ d
  pub few_free : length names.free ≤ 200
  pub few_params : length names.params ≤ 64
  pub runs : list_all is_run (names.free ++ names.params) ≡ true
  pub short : AllByRecursion (λ name. length name ≤ 32) (names.free ++ names.params)
  pub different : IsDistinct (λ a b. a is b) (names.free ++ names.params)

-- the steps of the objects of a text of rank d, of which there is one
pub record AreSteps (d : ℕ) (steps : List ℕ) : Type 0 where
  pub some : 0 < length steps
  pub few : length steps < 2 ^ 32
  pub within : AllByRecursion (λ step. step ≤ d) steps

-- the names and the steps of some text
pub record AreOfText (names : Names) (steps : List ℕ) : Type 0 where
  pub rank : IsRank names.rank
  pub names_good : AreNames names.rank names
  pub steps_good : AreSteps names.rank steps

-- what a proof of the code tells
abbrev pub told_of : {d : ℕ} → Proof d → Told
told_of p = record { objects = map worked_of p.objects; proved = p.proved }

-- the keys that a polynomial has met are those of its terms, in their order
abbrev pub HasMetTerms : {d : ℕ} → TrackedOf d → Type 0
HasMetTerms p = p.tracked.met ≡ map (λ t. t.0) p.tracked.sum.terms

abbrev pub MetInSection : {d : ℕ} → Section d → Type 0
MetInSection s = HasMetTerms s.start × IfSome s.end HasMetTerms

-- and so those of all polynomials of a proof
abbrev pub HaveMetTerms : {d : ℕ} → Proof d → Type 0
HaveMetTerms p = AllByRecursion (λ o. AllByRecursion MetInSection o.sections) p.objects

-- fewer than 2^32 sections in all, and fewer than 2^32 uses in each
pub record IsCountable {d : ℕ} (p : Proof d) : Type 0 where
  pub sections : sum_by (λ o. length o.sections) p.objects < 2 ^ 32
  pub uses : AllByRecursion (λ o. AllByRecursion (λ s. length s.uses < 2 ^ 32) o.sections) p.objects
