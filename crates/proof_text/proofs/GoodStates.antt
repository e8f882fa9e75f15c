-- What holds of what has been read: it lies within the limits, and its lines are those of its text so far.
use Rattle.std.proofs.Common.{◌≡◌, ℕ, ◌+◌, ◌<◌, true, List, [], ◌∷◌, ◌++◌, length, map, take, refl, sym, ap, subst, ◌∙◌, arith, append_assoc, append-nil, codes}
use Rattle.std.specs.Prelude.{decimal, flat_map, slice_index, Some, ℤ}
use Rattle.std.specs.List.{AllByRecursion}
use Rattle.std.proofs.lemmas.List.Concat.{flat_map-append}
use Rattle.coordinate_model.specs.Sums.{empty}
use Rattle.coordinate_model.specs.Key.{Key, IsRow, key_cmp}
use Rattle.coordinate_model.specs.BracketPolynomial.{BracketPolynomial}
use Rattle.bracket_poly.specs.Sections.{Rewritten, Worked}
use Rattle.bracket_poly.specs.Values.{extensor_size}
use Rattle.step_types.specs.declared.names.Names.{Names}
use Rattle.proof_text.specs.Lines.{spaced}
use Rattle.proof_text.specs.Terms.{point_names, term_words, terms_lines, polynomial_lines}
use Rattle.proof_text.specs.Proofs.{use_line, section_lines, object_lines, head_lines}
use Rattle.proof_text.specs.Forms.{Part}
use Rattle.proof_text.specs.Told.{proof_lines, AreBelow, IsSumTold, IsUseTold, IsSectionTold, IsObjectTold, AreObjectsTold, IsProof}
use Rattle.proof_text.specs.State.{Place, State, with_part, with_end, ended_at, told}
use Rattle.proof_text.specs.Kinds.{is_behind_sections}
use Rattle.proof_text.proofs.BehindLaws.{section_last}

-- the object that is read
abbrev pub this_object : State → Worked
this_object s = record { number = s.number; step = s.step; sections = s.sections }

module _ (names : Names) (steps : List ℕ) where
  -- ---- lines

  abbrev pub term_line : Key × ℤ → List ℕ
  term_line t = spaced (term_words names t)

  abbrev pub scalar_line : State → List ℕ
  scalar_line s = spaced (codes "scalar" ∷ point_names names s.scalar)

  abbrev pub object_line : State → List ℕ
  object_line s = spaced (codes "object" ∷ decimal s.number ∷ codes "step" ∷ decimal s.step ∷ [])

  -- the lines behind the sections that are done
  abbrev pub open_lines : Place → State → List (List ℕ)
  open_lines Place.AtStart s = scalar_line s ∷ []
  open_lines (Place.AtTerms Part.Start) s = scalar_line s ∷ codes "start" ∷ []
  open_lines (Place.AtMore Part.Start) s = scalar_line s ∷ codes "start" ∷ map term_line s.terms.terms
  open_lines Place.AtUses s =
      scalar_line s ∷ codes "start" ∷ (polynomial_lines names s.start ++ map (use_line names) s.uses)
  open_lines (Place.AtTerms Part.End) s =
      scalar_line s ∷ codes "start" ∷ (polynomial_lines names s.start ++ (map (use_line names) s.uses ++ codes "end" ∷ []))
  open_lines (Place.AtMore Part.End) s =
      scalar_line s ∷ codes "start"
      ∷ (polynomial_lines names s.start ++ (map (use_line names) s.uses ++ codes "end" ∷ map term_line s.terms.terms))
  open_lines place s = []

  -- the lines of the objects up to the sections that are done
  abbrev pub done_lines : State → List (List ℕ)
  done_lines s =
      head_lines names
      ++ (flat_map (object_lines names) s.objects ++ (object_line s ∷ flat_map (section_lines names) s.sections))

  -- the lines that have been read
  abbrev pub so_far : Place → State → List (List ℕ)
  so_far Place.AtProof s = []
  so_far Place.AtRank s = codes "proof 1" ∷ []
  so_far Place.AtFree s = codes "proof 1" ∷ spaced (codes "rank" ∷ decimal names.rank ∷ []) ∷ []
  so_far Place.AtParams s =
      codes "proof 1" ∷ spaced (codes "rank" ∷ decimal names.rank ∷ []) ∷ spaced (codes "free" ∷ names.free) ∷ []
  so_far Place.AtObject s = head_lines names
  so_far Place.Over s = proof_lines names (told s)
  so_far place s = done_lines s ++ open_lines place s

  -- ---- limits

  -- no object has begun
  abbrev pub IsHead : State → Type 0
  IsHead s = s.number ≡ 0

  -- these objects are done, and one of this number and step has begun with these sections
  pub record AreBegun (objects : List Worked) (number step : ℕ) (sections : List Rewritten) : Type 0 where
    pub some_point : 0 < length names.free
    pub count : number ≡ length objects + 1
    pub more : length objects < length steps
    pub front : AreObjectsTold names 1 (take (length objects) steps) objects
    pub this : IsObjectTold names (length objects + 1) (slice_index steps (length objects)) (record { number = number; step = step; sections = sections })

  abbrev pub IsBody : State → Type 0
  IsBody s = AreBegun s.objects s.number s.step s.sections

  -- a section of an object of this step has begun, behind these sections
  pub record IsBegun (step : ℕ) (sections : List Rewritten) (scalar : List ℕ) : Type 0 where
    pub size : IsRow (extensor_size names.rank step) scalar
    pub points : AreBelow names scalar
    pub behind : is_behind_sections scalar sections ≡ true

  abbrev pub IsOpened : State → Type 0
  IsOpened s = IsBegun s.step s.sections s.scalar

  -- its start is read
  abbrev pub IsStarted : State → Type 0
  IsStarted s = IsSumTold names s.start × AllByRecursion (IsUseTold names) s.uses

  -- a list of terms is read
  abbrev pub IsList : State → Type 0
  IsList s = IsSumTold names s.terms × (0 < length s.terms.terms)

  -- what holds at a place
  abbrev pub IsGoodAt : Place → State → Type 0
  IsGoodAt Place.AtParams s = IsHead s × (0 < length names.free)
  IsGoodAt Place.AtObject s = IsHead s × (0 < length names.free)
  IsGoodAt Place.AtSection s = IsBody s
  IsGoodAt Place.AtStart s = IsBody s × IsOpened s
  IsGoodAt (Place.AtTerms Part.Start) s = IsBody s × IsOpened s × (s.terms ≡ empty key_cmp)
  IsGoodAt (Place.AtMore Part.Start) s = IsBody s × IsOpened s × IsList s
  IsGoodAt Place.AtUses s = IsBody s × IsOpened s × IsStarted s
  IsGoodAt (Place.AtTerms Part.End) s = IsBody s × IsOpened s × IsStarted s × (s.terms ≡ empty key_cmp)
  IsGoodAt (Place.AtMore Part.End) s = IsBody s × IsOpened s × IsStarted s × IsList s
  IsGoodAt Place.Over s = IsProof names steps (told s)
  IsGoodAt place s = IsHead s

  -- good, and its lines are these
  pub record HasLines (q : State) (all : List (List ℕ)) : Type 0 where
    pub good : IsGoodAt q.place q
    pub lines : so_far q.place q ≡ all

  -- ---- lists that end

  pub empty_told : IsSumTold names (empty key_cmp)
  empty_told = record { keys = tt; small = tt; few = omega arith }

  some_lines : (ts : List (Key × ℤ)) → 0 < length ts → terms_lines names ts ≡ map term_line ts
  some_lines [] some = absurd (omega arith)
  some_lines (t ∷ ts) some = refl

  all_snoc : {A : Type 0} (P : A → Type 0) (xs : List A) (x : A) → AllByRecursion P xs → P x → AllByRecursion P (xs ++ x ∷ [])
  all_snoc P [] x all p = (p, tt)
  all_snoc P (y ∷ xs) x all p = (all.0, all_snoc P xs x all.1 p)

  -- the section with this end
  abbrev ended_section : BracketPolynomial → State → Rewritten
  ended_section f s = record { scalar = s.scalar; start = s.start; uses = s.uses; end = Some f }

  end_body : (s : State) (f : BracketPolynomial) → IsBody s → IsOpened s → IsStarted s → IsSumTold names f
      → IsBody (with_end f s)
  end_body s f body opened started sum = record {
    some_point = body.some_point;
    count = body.count;
    more = body.more;
    front = body.front;
    this = record {
      number_is = body.this.number_is;
      step_is = body.this.step_is;
      sections = all_snoc (IsSectionTold names (slice_index steps (length s.objects))) s.sections (ended_section f s) body.this.sections (record {
        scalar = subst (λ k. IsRow (extensor_size names.rank k) s.scalar) body.this.step_is opened.size;
        points = opened.points;
        start = started.0;
        uses = started.1;
        end = sum;
      });
      ascending = section_last s.sections (ended_section f s) body.this.ascending opened.behind;
    };
  }

  end_lines_are : (s : State) (f : BracketPolynomial) (lines : List (List ℕ)) → lines ≡ section_lines names (ended_section f s)
      → done_lines (with_end f s) ++ [] ≡ done_lines s ++ lines
  end_lines_are s f lines same =
      append-nil (done_lines (with_end f s))
      ∙ ap (λ ls. head_lines names ++ (flat_map (object_lines names) s.objects ++ (object_line s ∷ ls)))
      (flat_map-append (section_lines names) s.sections (ended_section f s ∷ [])
      ∙ ap (λ ls. flat_map (section_lines names) s.sections ++ ls) (append-nil (section_lines names (ended_section f s)) ∙ sym same))
      ∙ sym (append_assoc (head_lines names) (flat_map (object_lines names) s.objects ++ (object_line s ∷ flat_map (section_lines names) s.sections)) lines
      ∙ ap (λ ls. head_lines names ++ ls) (append_assoc (flat_map (object_lines names) s.objects) (object_line s ∷ flat_map (section_lines names) s.sections) lines))

  -- what is good stays so where the list that is read ends
  pub ended_good : (place : Place) (s : State) → IsGoodAt place s
      → HasLines (ended_at place (record s { place = place })) (so_far place s)
  ended_good Place.AtProof s good = record { good = good; lines = refl }
  ended_good Place.AtRank s good = record { good = good; lines = refl }
  ended_good Place.AtFree s good = record { good = good; lines = refl }
  ended_good Place.AtParams s good = record { good = good; lines = refl }
  ended_good Place.AtObject s good = record { good = good; lines = refl }
  ended_good Place.AtSection s good = record { good = good; lines = refl }
  ended_good Place.AtStart s good = record { good = good; lines = refl }
  ended_good (Place.AtTerms Part.Start) s good = record { good = good; lines = refl }
  ended_good (Place.AtTerms Part.End) s good = record { good = good; lines = refl }
  ended_good (Place.AtMore Part.Start) s good = record {
    good = (good.0, good.1, (good.2.0, tt));
    lines = ap (λ ls. done_lines s ++ (scalar_line s ∷ codes "start" ∷ ls)) (append-nil (polynomial_lines names s.terms) ∙ some_lines s.terms.terms good.2.1);
  }
  ended_good (Place.AtMore Part.End) s good = record {
    good = end_body s s.terms good.0 good.1 good.2 good.3.0;
    lines =
        end_lines_are s s.terms (open_lines (Place.AtMore Part.End) s)
        (ap (λ ls. scalar_line s ∷ codes "start" ∷ (polynomial_lines names s.start ++ (map (use_line names) s.uses ++ codes "end" ∷ ls)))
        (sym (some_lines s.terms.terms good.3.1)));
  }
  ended_good Place.AtUses s good = record { good = good; lines = refl }
  ended_good Place.Over s good = record { good = good; lines = refl }

  -- and where an empty list ends
  pub zero_good : (of : Part) (s : State) → IsGoodAt (Place.AtTerms of) s
      → HasLines (with_part of (record s { place = Place.AtTerms of })) (so_far (Place.AtTerms of) s ++ codes "zero" ∷ [])
  zero_good Part.Start s good = record {
    good = (good.0, good.1, (subst (IsSumTold names) (sym good.2) empty_told, tt));
    lines =
        ap (λ f. done_lines s ++ (scalar_line s ∷ codes "start" ∷ (polynomial_lines names f ++ []))) good.2
        ∙ sym (append_assoc (done_lines s) (scalar_line s ∷ codes "start" ∷ []) (codes "zero" ∷ []));
  }
  zero_good Part.End s good = record {
    good = end_body s s.terms good.0 good.1 good.2 (subst (IsSumTold names) (sym good.3) empty_told);
    lines =
        end_lines_are s s.terms
        (scalar_line s ∷ codes "start" ∷ (polynomial_lines names s.start ++ (map (use_line names) s.uses ++ codes "end" ∷ codes "zero" ∷ [])))
        (ap (λ f. scalar_line s ∷ codes "start" ∷ (polynomial_lines names s.start ++ (map (use_line names) s.uses ++ codes "end" ∷ polynomial_lines names f)))
        (sym good.3))
        ∙ ap (λ ls. done_lines s ++ (scalar_line s ∷ codes "start" ∷ ls))
        (ap (λ ls. polynomial_lines names s.start ++ ls) (sym (append_assoc (map (use_line names) s.uses) (codes "end" ∷ []) (codes "zero" ∷ [])))
        ∙ sym (append_assoc (polynomial_lines names s.start) (map (use_line names) s.uses ++ codes "end" ∷ []) (codes "zero" ∷ [])))
        ∙ sym (append_assoc (done_lines s) (open_lines (Place.AtTerms Part.End) s) (codes "zero" ∷ []));
  }
