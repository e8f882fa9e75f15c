-- What holds of the keys of what is made, where it goes by their rows and their degree.
use Rattle.std.specs.Prelude.{◌≡◌, ⊤, ℕ, ◌+◌, ◌*◌, sum, Bool, true, false, cond, List, [], ◌∷◌, ◌++◌, Some, Ok}
use Rattle.std.specs.List.{AllByRecursion}
use Rattle.std.proofs.Common.{subst, subst₂, arith}
use Rattle.coordinate_model.specs.Sequences.{repeats, sign_of}
use Rattle.coordinate_model.specs.Sums.{Terms, negated}
use Rattle.coordinate_model.specs.Key.{Key, key_times, rows_key}
use Rattle.coordinate_model.specs.BracketPolynomial.{BracketPolynomial, AllKeys}
use Rattle.coordinate_model.specs.Syzygy.{sorted}
use Rattle.coordinate_model.specs.Value.{Value}
use Rattle.coordinate_model.specs.Starts.{Entry, product_terms}
use Rattle.coordinate_model.proofs.KeySets.{all_negated}
use Rattle.coordinate_model.proofs.Splits.{all_append}
use Rattle.bracket_poly.specs.Makings.{adding, each_item, made_product}
use Rattle.bracket_poly.specs.Tracked.{Tracked, nothing}
use Rattle.bracket_poly.proofs.Makings.{then_made, PolyHas, nothing_has, added_has, each_has}
use Rattle.bracket_poly.proofs.ProductKeys.{product_has, made_product_has}
use Rattle.conic_points.specs.Makings.{adding_bracket, adding_entry, made_bracket, made_four, made_conic}

-- the rows of a bracket behind so many, and its degree, where the values have these sizes
abbrev pub rows_behind : ℕ → List (ℕ × ℕ) → ℕ
rows_behind r [] = r + 1
rows_behind r (s ∷ sizes) = rows_behind (r + s.0) sizes

abbrev pub degree_behind : ℕ → List (ℕ × ℕ) → ℕ
degree_behind e [] = e
degree_behind e (s ∷ sizes) = degree_behind (e + s.1) sizes

-- P says what holds of a key of so many rows and of this degree, and Q what holds of points
module _ (P : ℕ → ℕ → Key → Type 0) (Q : ℕ → Type 0)
    (times : (r e s f : ℕ) (k l : Key) → P r e k → P s f l → P (r + s) (e + f) (key_times k l)) (none : P 0 0 (rows_key []))
    (row : (points : List ℕ) → AllByRecursion Q points → P 1 0 (rows_key (sorted points ∷ []))) where
  -- so it is for an entry
  pub record EntryHas (s : ℕ × ℕ) (x : Entry) : Type 0 where
    pub points : AllByRecursion Q x.0
    pub keys : AllKeys (P s.0 s.1) x.1

  abbrev pub ValueHas : ℕ × ℕ → Value → Type 0
  ValueHas s A = AllByRecursion (EntryHas s) A

  -- and for values, each of its size
  abbrev pub HaveSizes : List (ℕ × ℕ) → List Value → Type 0
  HaveSizes [] [] = ⊤
  HaveSizes (s ∷ sizes) (V ∷ values) = ValueHas s V × HaveSizes sizes values
  HaveSizes sizes values = ⊥

  abbrev Grown : ℕ → ℕ → List (ℕ × ℕ) → Key → Type 0
  Grown r e sizes = P (rows_behind r sizes) (degree_behind e sizes)

  module _ (after : List ℕ) (behind : AllByRecursion Q after) where
    bracket_keys : (r e : ℕ) (s : ℕ × ℕ) (f g : BracketPolynomial) (points : List ℕ) (p q : Tracked)
        → adding_bracket f g points p ≡ Ok q → AllKeys (P r e) f → AllKeys (P s.0 s.1) g → AllByRecursion Q points
        → PolyHas (P (r + s.0 + 1) (e + s.1)) p → PolyHas (P (r + s.0 + 1) (e + s.1)) q
    bracket_keys r e s f g points p q made left right all h = by_repeats (repeats points) made
      where
        terms : Terms Key
        terms = product_terms f g (Some (sorted points)) (sign_of points)

        by_repeats : (b : Bool) → cond b (Ok p) (adding p terms) ≡ Ok q → PolyHas (P (r + s.0 + 1) (e + s.1)) q
        by_repeats true i = let same : p ≡ q = cc in subst (PolyHas (P (r + s.0 + 1) (e + s.1))) same h
        by_repeats false i =
            added_has (P (r + s.0 + 1) (e + s.1)) p terms q i h
            (product_has P times none r e s.0 s.1 1
            (record { extensor = []; left = f; right = g; row = Some (sorted points); sign = sign_of points })
            (row points all) left right)

    entry_has : (sizes : List (ℕ × ℕ)) (others : List Value) → HaveSizes sizes others → (r e : ℕ) (s : ℕ × ℕ)
        (f : BracketPolynomial) (before : List ℕ) (p : Tracked) (x : Entry) (q : Tracked)
        → adding_entry after others f before p x ≡ Ok q → AllKeys (P r e) f → AllByRecursion Q before → EntryHas s x
        → PolyHas (Grown (r + s.0) (e + s.1) sizes) p → PolyHas (Grown (r + s.0) (e + s.1) sizes) q
    entry_has [] [] sized r e s f before p x q made left start h i =
        bracket_keys r e s f x.1 (before ++ x.0 ++ after) p q made left h.keys
        (all_append Q (before ++ x.0) after (all_append Q before x.0 start h.points) behind) i
    entry_has (t ∷ sizes) (V ∷ others) sized r e s f before p x q made left start h i =
        let two = then_made (made_product f x.1) (λ both. each_item (adding_entry after others both.sum (before ++ x.0)) p V) q made in
        let both : PolyHas (P (r + s.0) (e + s.1)) two.0 =
        made_product_has P times none r e s.0 s.1 f x.1 two.0 two.1 left h.keys in
        each_has (Grown (r + s.0) (e + s.1) (t ∷ sizes)) (EntryHas t) (adding_entry after others two.0.sum (before ++ x.0))
        (λ p y q m g j. entry_has sizes others sized.1 (r + s.0) (e + s.1) t two.0.sum (before ++ x.0) p y q m both.keys
        (all_append Q before x.0 start h.points) g j)
        V p q two.2 sized.0 i
    entry_has [] (V ∷ others) sized r e s f before p x q made left start h i = absurd sized
    entry_has (t ∷ sizes) [] sized r e s f before p x q made left start h i = absurd sized

    pub bracket_has : (before : List ℕ) (s t : ℕ × ℕ) (sizes : List (ℕ × ℕ)) (V W : Value) (others : List Value) (q : Tracked)
        → made_bracket before (V ∷ W ∷ others) after ≡ Ok q → AllByRecursion Q before → ValueHas s V → ValueHas t W
        → HaveSizes sizes others → PolyHas (Grown (s.0 + t.0) (s.1 + t.1) sizes) q
    unfolding made_bracket
    bracket_has before s t sizes V W others q made start first second sized =
        let R : Key → Type 0 = Grown (s.0 + t.0) (s.1 + t.1) sizes in
        each_has R (EntryHas s) (λ p a. each_item (adding_entry after others a.1 (before ++ a.0)) p W)
        (λ p a r f g h. each_has R (EntryHas t) (adding_entry after others a.1 (before ++ a.0))
        (λ p x q m i j. entry_has sizes others sized s.0 s.1 t a.1 (before ++ a.0) p x q m g.keys
        (all_append Q before a.0 start g.points) i j)
        W p r f second h)
        V nothing q made first (nothing_has R)

  -- four brackets and the six-point polynomial, of points of these sizes
  module _ (s1 s2 s3 s4 s5 s6 : ℕ × ℕ) where
    abbrev rows : ℕ
    rows = 2 * sum (s1.0 ∷ s2.0 ∷ s3.0 ∷ s4.0 ∷ s5.0 ∷ s6.0 ∷ []) + 4

    abbrev degree : ℕ
    degree = 2 * sum (s1.1 ∷ s2.1 ∷ s3.1 ∷ s4.1 ∷ s5.1 ∷ s6.1 ∷ [])

    -- the six points have these sizes
    pub record SixHave (p1 p2 p3 p4 p5 p6 : Value) : Type 0 where
      pub first : ValueHas s1 p1
      pub second : ValueHas s2 p2
      pub third : ValueHas s3 p3
      pub fourth : ValueHas s4 p4
      pub fifth : ValueHas s5 p5
      pub sixth : ValueHas s6 p6

    four_has : (p1 p2 p3 p4 p5 p6 : Value) (q : Tracked) → made_four p1 p2 p3 p4 p5 p6 ≡ Ok q → SixHave p1 p2 p3 p4 p5 p6
        → PolyHas (P rows degree) q
    unfolding made_four
    four_has p1 p2 p3 p4 p5 p6 q e h =
        let a = then_made (made_bracket [] (p1 ∷ p2 ∷ p3 ∷ []) []) _ q e in
        let b = then_made (made_bracket [] (p1 ∷ p4 ∷ p5 ∷ []) []) _ q a.2 in
        let c = then_made (made_bracket [] (p2 ∷ p4 ∷ p6 ∷ []) []) _ q b.2 in
        let d = then_made (made_bracket [] (p3 ∷ p5 ∷ p6 ∷ []) []) _ q c.2 in
        let two = then_made (made_product a.0.sum b.0.sum) _ q d.2 in
        let three = then_made (made_product two.0.sum c.0.sum) _ q two.2 in
        let both = made_product_has P times none _ _ _ _ a.0.sum b.0.sum two.0 two.1
        (bracket_has [] tt [] s1 s2 (s3 ∷ []) p1 p2 (p3 ∷ []) a.0 a.1 tt h.first h.second (h.third, tt)).keys
        (bracket_has [] tt [] s1 s4 (s5 ∷ []) p1 p4 (p5 ∷ []) b.0 b.1 tt h.first h.fourth (h.fifth, tt)).keys in
        let most = made_product_has P times none _ _ _ _ two.0.sum c.0.sum three.0 three.1 both.keys
        (bracket_has [] tt [] s2 s4 (s6 ∷ []) p2 p4 (p6 ∷ []) c.0 c.1 tt h.second h.fourth (h.sixth, tt)).keys in
        let all = made_product_has P times none _ _ _ _ three.0.sum d.0.sum q three.2 most.keys
        (bracket_has [] tt [] s3 s5 (s6 ∷ []) p3 p5 (p6 ∷ []) d.0 d.1 tt h.third h.fifth (h.sixth, tt)).keys in
        subst₂ (λ m n. PolyHas (P m n) q) (omega arith) (omega arith) all

  pub conic_has : (s1 s2 s3 s4 s5 s6 : ℕ × ℕ) (p1 p2 p3 p4 p5 p6 : Value) (q : Tracked) → made_conic p1 p2 p3 p4 p5 p6 ≡ Ok q
      → SixHave s1 s2 s3 s4 s5 s6 p1 p2 p3 p4 p5 p6
      → PolyHas (P (rows s1 s2 s3 s4 s5 s6) (degree s1 s2 s3 s4 s5 s6)) q
  unfolding made_conic
  conic_has s1 s2 s3 s4 s5 s6 p1 p2 p3 p4 p5 p6 q e h =
      let R : Key → Type 0 = P (rows s1 s2 s3 s4 s5 s6) (degree s1 s2 s3 s4 s5 s6) in
      let first = then_made (made_four p1 p2 p3 p4 p5 p6) _ q e in
      let second = then_made (made_four p1 p2 p4 p3 p5 p6) _ q first.2 in
      let start = then_made (adding nothing first.0.sum.terms) _ q second.2 in
      let one = four_has s1 s2 s3 s4 s5 s6 p1 p2 p3 p4 p5 p6 first.0 first.1 h in
      let other = four_has s1 s2 s4 s3 s5 s6 p1 p2 p4 p3 p5 p6 second.0 second.1 record {
        first = h.first;
        second = h.second;
        third = h.fourth;
        fourth = h.third;
        fifth = h.fifth;
        sixth = h.sixth;
      } in
      let same : PolyHas R second.0 = subst₂ (λ m n. PolyHas (P m n) second.0) (omega arith) (omega arith) other in
      added_has R start.0 (negated second.0.sum.terms) q start.2
      (added_has R nothing first.0.sum.terms start.0 start.1 (nothing_has R) one.keys)
      (all_negated R second.0.sum.terms same.keys)
