-- A turn: there is one exactly where a polynomial is not normal, and it rewrites the greatest key that is not standard.
use Rattle.std.proofs.Common.{◌≡◌, ℕ, false, [], ◌∷◌, ◌++◌, Option, Some, None, option_map, refl, sym}
use Rattle.std.proofs.Common.{ap, ap₂, subst, ◌∙◌, arith, inl, inr, T, Less}
use Rattle.std.proofs.Common.{true≢false}
use Rattle.std.specs.Prelude.{ℤ, pos, ◌+ℤ◌, neg_ℤ}
use Rattle.std.proofs.lemmas.Int.{ints}
use Rattle.std.specs.FinMap.{is_sorted}
use Rattle.std.specs.Ordering.{eq_by_cmp, is_lt, ordering_reverse}
use Rattle.std.specs.declared.cmp.Ordering.{Ordering}
use Rattle.std.specs.declared.cmp.Ordering.TheVariants.{Equal, Greater}
use Rattle.std.specs.Cmp.{tied_itself}
use Rattle.coordinate_model.specs.Sequences.{IsRank}
use Rattle.coordinate_model.specs.Sums.{Terms, coefficient, count_at}
use Rattle.coordinate_model.specs.Key.{Key, key_cmp, IsKey, IsStandardKey}
use Rattle.coordinate_model.specs.BracketPolynomial.{AllKeys, BracketPolynomial, IsBracketPolynomial}
use Rattle.coordinate_model.specs.Syzygy.{Use, multiple}
use Rattle.coordinate_model.proofs.Bools.{first}
use Rattle.coordinate_model.proofs.KeyProducts.{key_total, key_same}
use Rattle.coordinate_model.proofs.KeySets.{AllTerms}
use Rattle.coordinate_model.proofs.Leading.{count-plus}
use Rattle.tableau_order.specs.Standard.{IsFirstViolation}
use Rattle.tableau_order.proofs.Columns.{falls_not_standard}
use Rattle.coordinate_model.proofs.Splits.{all_so}
use Rattle.syzygies.proofs.Falls.{none_at}
use Rattle.straightening.specs.Turns.{first_violation, use_at, use_of_term, last_use, turn}
use Rattle.straightening.specs.RunLaws.{TurnsWhereNotNormal, HasTerm, IsTurn, TurnIsAtGreatest, TurnRewritesGreatest}
use Rattle.straightening.proofs.FirstViolations.{violation_found, columns_rise, standard_none, one_violation}
use Rattle.straightening.proofs.Options.{From, from_map, none_of}
use Rattle.straightening.proofs.Rewritings.{IsAdded, all_multiple, count_multiple}
use Rattle.straightening.proofs.TermLists.{all_around, all_joined, between, less_differs}
use Rattle.straightening.proofs.TermLists.{count_here, has_term_here, holds_of_term}

-- ---- the last use

-- the term of the last use, with those before it and those behind it, which have none
pub record LastTerm (ts : Terms Key) (u : Use) : Type 0 where
  pub front : Terms Key
  pub term : Key × ℤ
  pub back : Terms Key
  pub all : ts ≡ front ++ term ∷ back
  pub place : ℕ × ℕ
  pub found : first_violation term.0.rows ≡ Some place
  pub used : use_at term place ≡ u
  pub none_behind : last_use back ≡ None

pub last_term : (ts : Terms Key) (u : Use) → last_use ts ≡ Some u → LastTerm ts u
last_term [] u e = cc
last_term (t ∷ ts) u e = step (λ w f. last_term ts w f) (last_use ts) refl e
  where
    step : ((w : Use) → last_use ts ≡ Some w → LastTerm ts w) → (o : Option Use) → last_use ts ≡ o
        → ◌≡◌ {A = Option Use} (elim o [ Some w ↦ Some w | None ↦ use_of_term t ]) (Some u) → LastTerm (t ∷ ts) u
    step ih (Some w) f k =
        let l : LastTerm ts u = ih u (f ∙ k) in
        record {
          front = t ∷ l.front;
          term = l.term;
          back = l.back;
          all = ap (λ us. t ∷ us) l.all;
          place = l.place;
          found = l.found;
          used = l.used;
          none_behind = l.none_behind;
        }
    step ih None f k =
        let w : From (use_at t) (first_violation t.0.rows) u = from_map (use_at t) (first_violation t.0.rows) u k in
        record {
          front = [];
          term = t;
          back = ts;
          all = refl;
          place = w.value;
          found = w.is;
          used = w.image;
          none_behind = f;
        }

-- keys without a use are standard
pub no_use : (d n : ℕ) (ts : Terms Key) → AllTerms (IsKey d n) ts → last_use ts ≡ None → AllTerms (IsStandardKey d n) ts
no_use d n [] h e = tt
no_use d n (t ∷ ts) h e = step (λ f. no_use d n ts h.1 f) (last_use ts) refl e
  where
    step : (last_use ts ≡ None → AllTerms (IsStandardKey d n) ts) → (o : Option Use) → last_use ts ≡ o
        → ◌≡◌ {A = Option Use} (elim o [ Some w ↦ Some w | None ↦ use_of_term t ]) None
        → AllTerms (IsStandardKey d n) (t ∷ ts)
    step ih (Some w) f k = cc
    step ih None f k = (
      record {
        key = h.0;
        columns = columns_rise d t.0.rows h.0.each (none_of (use_at t) (first_violation t.0.rows) k);
      },
      ih f,
    )

-- and standard keys have none
pub standard_no_use : (d n : ℕ) (ts : Terms Key) → AllTerms (IsStandardKey d n) ts → last_use ts ≡ None
standard_no_use d n [] h = refl
standard_no_use d n (t ∷ ts) h =
    ap (λ (o : Option Use). elim o as (λ _. Option Use) [ Some w ↦ Some w | None ↦ use_of_term t ])
    (standard_no_use d n ts h.1)
    ∙ ap (option_map (use_at t))
    (standard_none d t.0.rows h.0.key.each (record { ascending = h.0.key.ascending; columns = h.0.columns }))

pub turns_where_not_normal : TurnsWhereNotNormal
turns_where_not_normal d n f rank keys =
    (λ e. no_use d n f.terms keys e, λ h. standard_no_use d n f.terms h)

-- ---- the greatest key

-- the term that a turn takes away: its key is the greatest one that is not standard
pub record Taken (d n : ℕ) (f : BracketPolynomial) (u : Use) : Type 0 where
  pub term : Key × ℤ
  pub row : ℕ
  pub column : ℕ
  pub used : use_at term (row, column) ≡ u
  pub key : IsKey d n term.0
  pub violation : IsFirstViolation d term.0.rows row column
  pub once : coefficient f term.0 ≡ term.1
  pub there : HasTerm f term.0
  pub above : AllKeys (λ k. key_cmp term.0 k ≡ Less → IsStandardKey d n k) f

not_itself : (k : Key) → key_cmp k k ≡ Less → ⊥
not_itself k g = true≢false (sym (ap is_lt g) ∙ ap is_lt (tied_itself key_total k))

pub taken : (d n : ℕ) (f : BracketPolynomial) (u : Use) → IsBracketPolynomial d n f → turn f ≡ Some u → Taken d n f u
taken d n f u keys e =
    let l : LastTerm f.terms u = last_term f.terms u e in
    let w = all_around (λ (t : Key × ℤ). IsKey d n t.0) l.front l.term l.back
    (subst (AllTerms (IsKey d n)) l.all keys) in
    let sorted : T (is_sorted key_cmp (l.front ++ l.term ∷ l.back)) =
    subst (λ (ts : Terms Key). T (is_sorted key_cmp ts)) l.all (first _ _ f.canonical) in
    let b = between l.front l.term l.back sorted in
    record {
      term = l.term;
      row = l.place.0;
      column = l.place.1;
      used = l.used;
      key = w.here;
      violation = violation_found d l.term.0.rows l.place w.here.each l.found;
      once =
          ap (λ (ts : Terms Key). count_at key_cmp l.term.0 ts) l.all ∙ count_here l.front l.term l.back sorted;
      there = has_term_here f l.front l.term l.back l.all;
      above =
          subst (AllTerms (λ k. key_cmp l.term.0 k ≡ Less → IsStandardKey d n k)) (sym l.all)
          (all_joined (λ (t : Key × ℤ). key_cmp l.term.0 t.0 ≡ Less → IsStandardKey d n t.0) l.front l.term l.back
          (all_so (λ (t : Key × ℤ). key_cmp t.0 l.term.0 ≡ Less)
          (λ (t : Key × ℤ). key_cmp l.term.0 t.0 ≡ Less → IsStandardKey d n t.0)
          (λ t h g. absurd (not_itself l.term.0 (key_total.trans l.term.0 t.0 l.term.0 g h))) l.front b.before)
          (λ g. absurd (not_itself l.term.0 g))
          (all_so (λ (t : Key × ℤ). IsStandardKey d n t.0)
          (λ (t : Key × ℤ). key_cmp l.term.0 t.0 ≡ Less → IsStandardKey d n t.0) (λ t h g. h) l.back
          (no_use d n l.back w.behind l.none_behind)));
    }

-- ---- what the turn leaves

opposite : (c : ℤ) → c +ℤ neg_ℤ c ≡ pos 0
opposite c = omega (arith, ints)

no_more : (c : ℤ) → c +ℤ pos 0 ≡ c
no_more c = omega (arith, ints)

-- the multiple of the use has the term with the opposite integer
pub opposite_term : (d n : ℕ) (f : BracketPolynomial) (u : Use) → IsRank d → (t : Taken d n f u)
    → coefficient (multiple u) t.term.0 ≡ neg_ℤ t.term.1
opposite_term d n f u rank t =
    ap (λ (w : Use). coefficient (multiple w) t.term.0) (sym t.used)
    ∙ count_multiple d n t.term t.row t.column rank t.key t.violation

pub keys_added : (d n : ℕ) (f : BracketPolynomial) (u : Use) → IsRank d → (t : Taken d n f u)
    → AllKeys (IsAdded d n t.term.0) (multiple u)
keys_added d n f u rank t =
    subst (λ (w : Use). AllKeys (IsAdded d n t.term.0) (multiple w)) t.used
    (all_multiple d n t.term t.row t.column rank t.key t.violation)

-- a key that is added is not a greater one
not_greater : (d n : ℕ) (key k l : Key) → IsAdded d n key l → key_cmp key k ≡ Less → eq_by_cmp key_cmp k l ≡ false
not_greater d n key k l a h = elim a.below [
  | inl e ↦ ap (eq_by_cmp key_cmp k) e ∙ less_differs k key h
  | inr e ↦ less_differs k l (key_total.trans l key k e h)
]

-- what is taken is a turn
abbrev turn_of : (d n : ℕ) (f : BracketPolynomial) (u : Use) → Taken d n f u → IsTurn d n f u
turn_of d n f u t = record {
  key = t.term.0;
  there = t.there;
  not_standard =
      λ s. falls_not_standard d t.term.0.rows t.row t.column t.violation
      (record { ascending = t.key.ascending; columns = s.columns });
  above =
      λ k h g. holds_of_term (λ l. key_cmp t.term.0 l ≡ Less → IsStandardKey d n l) f k t.above g h;
  row = t.row;
  column = t.column;
  violation = t.violation;
  used = sym t.used ∙ ap (λ c. use_at (t.term.0, c) (t.row, t.column)) (sym t.once);
}

-- two turns of a polynomial have one key
one_key : (d n : ℕ) (f : BracketPolynomial) (u w : Use) (a : IsTurn d n f u) (b : IsTurn d n f w) → a.key ≡ b.key
one_key d n f u w a b = step (key_cmp a.key b.key) refl
  where
    step : (o : Ordering) → key_cmp a.key b.key ≡ o → a.key ≡ b.key
    step Less g = absurd (b.not_standard (a.above b.key g b.there))
    step Equal g = key_same a.key b.key g
    step Greater g =
        absurd (a.not_standard (b.above a.key (key_total.antisymm b.key a.key ∙ ap ordering_reverse g) a.there))

-- and so are one use
one_turn : (d n : ℕ) (f : BracketPolynomial) (u w : Use) → IsTurn d n f u → IsTurn d n f w → u ≡ w
one_turn d n f u w a b =
    let same = one_key d n f u w a b in
    let place = one_violation d b.key.rows b.row b.column a.row a.column b.violation
    (subst (λ (k : Key). IsFirstViolation d k.rows a.row a.column) same a.violation) in
    a.used
    ∙ ap (λ (k : Key). use_at (k, coefficient f k) (a.row, a.column)) same
    ∙ ap₂ (λ i j. use_at (b.key, coefficient f b.key) (i, j)) place.0 place.1
    ∙ sym b.used

pub turn_is_at_greatest : TurnIsAtGreatest
turn_is_at_greatest d n f u rank keys = (
  λ e. turn_of d n f u (taken d n f u keys e),
  λ h. step h (turn f) refl,
)
  where
    step : IsTurn d n f u → (o : Option Use) → turn f ≡ o → turn f ≡ Some u
    step h None e =
        absurd (h.not_standard
        (holds_of_term (IsStandardKey d n) f h.key ((turns_where_not_normal d n f rank keys).0 e) h.there))
    step h (Some w) e = e ∙ ap Some (one_turn d n f w u (turn_of d n f w (taken d n f w keys e)) h)

pub rewrites_greatest : TurnRewritesGreatest
rewrites_greatest d n f u rank keys e =
    let t : Taken d n f u = taken d n f u keys e in
    record {
      at = turn_of d n f u t;
      gone =
          count-plus key_cmp key_total key_same t.term.0 f (multiple u)
          ∙ ap₂ ◌+ℤ◌ t.once (opposite_term d n f u rank t) ∙ opposite t.term.1;
      unchanged =
          λ k h. count-plus key_cmp key_total key_same k f (multiple u)
          ∙ ap (λ w. coefficient f k +ℤ w)
          (none_at k (multiple u).terms
          (all_so _ _ (λ (s : Key × ℤ) a. not_greater d n t.term.0 k s.0 a h) (multiple u).terms
          (keys_added d n f u rank t)))
          ∙ no_more (coefficient f k);
    }
