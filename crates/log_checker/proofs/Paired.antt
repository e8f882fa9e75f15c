-- The starts of an object and its sections side by side, from one place on.
use Rattle.std.proofs.Common.{◌≡◌, inl, inr, ℕ, ◌+◌, ◌-◌, ◌<◌, ◌≤◌, List, [], ◌∷◌, ◌++◌, map, drop, length, get_or}
use Rattle.std.proofs.Common.{refl, sym, ap, ap₂, subst, ◌∙◌, arith, eqb-true, replicate, take, take-append-drop}
use Rattle.std.proofs.Math.ListN.{drop_of_length-le}
use Rattle.std.proofs.lemmas.List.{drop_more, length-map}
use Rattle.std.specs.Prelude.{IsTrue, nat_eq}
use Rattle.bracket_terms.specs.declared.extensor.Extensor.{Extensor}
use Rattle.bracket_terms.specs.Joins.{points_of}
use Rattle.bracket_terms.proofs.ExtensorLaws.{length-points_of}
use Rattle.bracket_poly.specs.Kept.{TrackedOf}
use Rattle.bracket_poly.specs.Values.{value_of}
use Rattle.bracket_poly.specs.declared.section.Section.{Section}
use Rattle.shuffle_meet.specs.Seen.{seen}
use Rattle.shuffle_meet.specs.Stops.{Start}
use Rattle.log_checker.specs.declared.refusal.ProofRefusal.{ProofRefusal}
use Rattle.log_checker.specs.declared.refusal.ProofRefusal.TheVariants as refusal
use Rattle.log_checker.specs.Accepted.{AreSectionsAccepted, IsAccepted, claimed_entry, start_entry}
use Rattle.log_checker.specs.Checked.{UnlessMemory}
use Rattle.log_checker.specs.Claims.{Claim, claim_of, claims_of}
use Rattle.log_checker.specs.ProofRefused.{AreSectionsRefused, HaveScalars, IsSectionRefused}
use Rattle.log_checker.specs.Ready.{AreScalars, AreStarts}
use Rattle.log_checker.specs.Seen.{AreSame}
use Rattle.log_checker.proofs.ObjectSteps.{sections_are}

-- ---- extensors

whole : (x : Extensor) → x.points ≡ points_of x ++ replicate (4 - x.size) 0
whole x = sym (take-append-drop x.size x.points) ∙ ap (λ zs. points_of x ++ zs) x.formed.unused

-- extensors have the same points where their sizes and places are the same
pub same_places : (x y : Extensor) → points_of x ≡ points_of y → (x.size ≡ y.size) × (x.points ≡ y.points)
same_places x y e = (sizes, whole x ∙ ap₂ (λ ps n. ps ++ replicate (4 - n) 0) e sizes ∙ sym (whole y))
  where
    sizes : x.size ≡ y.size
    sizes =
        sym (length-points_of x.size x.points x.formed) ∙ ap (λ ps. length ps) e
        ∙ length-points_of y.size y.points y.formed

pub places_same : (x y : Extensor) → x.size ≡ y.size → x.points ≡ y.points → points_of x ≡ points_of y
places_same x y e f = ap₂ (λ n ps. take_of n ps) e f
  where
    take_of : ℕ → List ℕ → List ℕ
    take_of n ps = take n ps

pub equal_sizes : (n m : ℕ) → IsTrue (nat_eq n m) → n ≡ m
equal_sizes n m t = eqb-true n m t

-- ---- refusals

-- what a refusal says may be changed, unless it tells that memory was wanting
pub unless_so : {d : ℕ} (P Q : ProofRefusal d → Type 0) → ((r : ProofRefusal d) → P r → Q r) → (r : ProofRefusal d)
    → UnlessMemory P r → UnlessMemory Q r
unless_so P Q f (refusal.Scalars object) h = f (refusal.Scalars object) h
unless_so P Q f (refusal.ObjectCoefficient object) h = f (refusal.ObjectCoefficient object) h
unless_so P Q f (refusal.ObjectKeys object) h = f (refusal.ObjectKeys object) h
unless_so P Q f (refusal.Start section k computed written) h = f (refusal.Start section k computed written) h
unless_so P Q f (refusal.Section section fault) h = f (refusal.Section section fault) h
unless_so P Q f refusal.Memory h = tt

-- ---- scalars

-- as many starts as sections
pub as_many : (starts : List Start) (claims : List Claim) → HaveScalars starts claims → length starts ≡ length claims
as_many starts claims e =
    sym (length-map starts (λ s. s.0)) ∙ ap (λ (xs : List (List ℕ)). length xs) e ∙ length-map claims (λ c. c.scalar)

heads_same : {A : Type 0} (x y : A) (xs ys : List A) → x ∷ xs ≡ y ∷ ys → (x ≡ y) × (xs ≡ ys)
heads_same x y xs ys e = (cc, cc)

module _ {d : ℕ} (starts : List (Extensor × TrackedOf d)) (sections : List (Section d)) where
  -- the scalars are the same where those from this place on are
  pub record SameFrom (i : ℕ) : Type 0 where
    pub long : length starts ≡ length sections
    pub all : HaveScalars (seen (drop i starts)) (claims_of (drop i sections))
        → HaveScalars (seen starts) (claims_of sections)
    pub left : HaveScalars (seen starts) (claims_of sections)
        → HaveScalars (seen (drop i starts)) (claims_of (drop i sections))

  pub long_starts : HaveScalars (seen starts) (claims_of sections) → length starts ≡ length sections
  long_starts h =
      sym (length-map starts (λ e. (points_of e.0, e.1.tracked))) ∙ as_many (seen starts) (claims_of sections) h
      ∙ length-map sections claim_of

  pub same_begins : length starts ≡ length sections → SameFrom 0
  same_begins e = record { long = e; all = λ h. h; left = λ h. h }

  module _ (i : ℕ) (x : Extensor × TrackedOf d) (s : Section d) (below : i < length sections)
      (first : x ≡ get_or starts i x) (second : s ≡ get_or sections i s) where
    starts_there : length starts ≡ length sections → drop i starts ≡ x ∷ drop (i + 1) starts
    starts_there e =
        drop_more starts i x (subst (λ n. i < n) (sym e) below) ∙ ap (λ y. y ∷ drop (i + 1) starts) (sym first)

    sections_there : drop i sections ≡ s ∷ drop (i + 1) sections
    sections_there = drop_more sections i s below ∙ ap (λ y. y ∷ drop (i + 1) sections) (sym second)

    -- what holds from this place on, by the first two and those behind them
    pub to_first : (P : List (Extensor × TrackedOf d) → List (Section d) → Type 0) → length starts ≡ length sections
        → P (drop i starts) (drop i sections) → P (x ∷ drop (i + 1) starts) (s ∷ drop (i + 1) sections)
    to_first P e h =
        subst (λ xs. P xs (s ∷ drop (i + 1) sections)) (starts_there e)
        (subst (λ ss. P (drop i starts) ss) sections_there h)

    pub from_first : (P : List (Extensor × TrackedOf d) → List (Section d) → Type 0) → length starts ≡ length sections
        → P (x ∷ drop (i + 1) starts) (s ∷ drop (i + 1) sections) → P (drop i starts) (drop i sections)
    from_first P e h =
        subst (λ xs. P xs (drop i sections)) (sym (starts_there e))
        (subst (λ ss. P (x ∷ drop (i + 1) starts) ss) (sym sections_there) h)

    abbrev Same : List (Extensor × TrackedOf d) → List (Section d) → Type 0
    Same xs ss = HaveScalars (seen xs) (claims_of ss)

    -- those behind one that is the same
    pub same_goes_on : points_of x.0 ≡ points_of s.scalar → SameFrom i → SameFrom (i + 1)
    same_goes_on e h = record {
      long = h.long;
      all = λ k. h.all (from_first Same h.long (λ j. e j ∷ k j));
      left = λ k.
          (heads_same (points_of x.0) (points_of s.scalar) (map (λ y. y.0) (seen (drop (i + 1) starts)))
          (map (λ c. c.scalar) (claims_of (drop (i + 1) sections)))
          (to_first Same h.long (h.left k))).1;
    }

  pub same_ends : (i : ℕ) → SameFrom i → length sections ≤ i → HaveScalars (seen starts) (claims_of sections)
  same_ends i h e =
      h.all
      (subst (λ xs. HaveScalars (seen xs) (claims_of (drop i sections)))
      (sym (drop_of_length-le starts (subst (λ n. n ≤ i) (sym h.long) e)))
      (subst (λ ss. HaveScalars (seen {d = d} []) (claims_of ss)) (sym (drop_of_length-le sections e)) refl))

  -- ---- sections

  module _ (number : ℕ) where
    -- the sections are accepted, or one is refused so, where those from this place on are
    pub record SectionsFrom (i : ℕ) : Type 0 where
      pub accepted : AreSame d (seen (drop i starts)) (claims_of (drop i sections))
          → AreSame d (seen starts) (claims_of sections)
      pub refused : (r : ProofRefusal d)
          → AreSectionsRefused (seen (drop i starts)) (claims_of (drop i sections)) (number + i) r
          → AreSectionsRefused (seen starts) (claims_of sections) number r

    pub sections_begin : SectionsFrom 0
    sections_begin = record {
      accepted = λ h. h;
      refused = λ r h.
          let e : number + 0 ≡ number = omega arith in
          subst (λ n. AreSectionsRefused (seen starts) (claims_of sections) n r) e h;
    }

    module _ (i : ℕ) (x : Extensor × TrackedOf d) (s : Section d) (below : i < length sections)
        (first : x ≡ get_or starts i x) (second : s ≡ get_or sections i s) (long : length starts ≡ length sections)
        (h : SectionsFrom i) where
      abbrev Refused : ProofRefusal d → List (Extensor × TrackedOf d) → List (Section d) → Type 0
      Refused r xs ss = AreSectionsRefused (seen xs) (claims_of ss) (number + i) r

      -- behind a section that is accepted
      pub sections_go_on : x.1.tracked.sum ≡ s.start.tracked.sum → IsAccepted d (claim_of s) → SectionsFrom (i + 1)
      sections_go_on e a = record {
        accepted = λ k.
            h.accepted
            (from_first i x s below first second (λ xs ss. AreSame d (seen xs) (claims_of ss)) long (e, a, k));
        refused = λ r k.
            let m : number + (i + 1) ≡ number + i + 1 = omega arith in
            let xs = seen (drop (i + 1) starts) in
            let cs = claims_of (drop (i + 1) sections) in
            h.refused r
            (from_first i x s below first second (Refused r) long
            (inr (e, a, subst (λ n. AreSectionsRefused xs cs n r) m k)));
      }

      -- one that is refused
      pub section_refused : (r : ProofRefusal d) → IsSectionRefused x.1.tracked.sum (claim_of s) (number + i) r
          → AreSectionsRefused (seen starts) (claims_of sections) number r
      section_refused r k = h.refused r (from_first i x s below first second (Refused r) long (inl k))

    -- behind the last
    pub sections_end : (i : ℕ) → HaveScalars (seen starts) (claims_of sections) → SectionsFrom i → length sections ≤ i
        → AreSectionsAccepted d (seen starts) (claims_of sections)
    sections_end i scalars h e =
        sections_are d (seen starts) (claims_of sections) scalars
        (h.accepted
        (subst (λ xs. AreSame d (seen xs) (claims_of (drop i sections)))
        (sym (drop_of_length-le starts (subst (λ n. n ≤ i) (sym (long_starts scalars)) e)))
        (subst (λ ss. AreSame d (seen {d = d} []) (claims_of ss)) (sym (drop_of_length-le sections e)) tt)))

-- ---- the extensors of accepted sections

value_seen : {d : ℕ} (starts : List (Extensor × TrackedOf d)) → value_of starts ≡ map start_entry (seen starts)
value_seen [] = refl
value_seen (e ∷ starts) = λ j. (points_of e.0, e.1.tracked.sum) ∷ value_seen starts j

-- they are those of the starts
pub scalars_kept : {d : ℕ} (step : ℕ) (starts : List (Extensor × TrackedOf d)) (claims : List Claim)
    → AreStarts d step starts → AreSectionsAccepted d (seen starts) claims
    → AreScalars d step (map claimed_entry claims)
scalars_kept {d = d} step starts claims h a = subst (AreScalars d step) (value_seen starts ∙ a.0) h
