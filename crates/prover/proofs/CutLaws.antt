-- Each input has one cut.
use Rattle.std.proofs.Common.{◌≡◌, ◌≢◌, ℕ, ◌==◌, ◌⊎◌, inl, inr, Bool, true, false, true≢false, List, [], ◌∷◌, ◌++◌}
use Rattle.std.proofs.Common.{map, refl, sym, ap, subst, ◌∙◌, append_assoc, append-nil}
use Rattle.std.specs.Bool.{Decides}
use Rattle.std.specs.Str.{bytes_eq}
use Rattle.std.specs.List.{AllByRecursion, list_any}
use Rattle.std.proofs.lemmas.Bool.{cases_Bool, eqb-true}
use Rattle.std.proofs.lemmas.List.{append_cancel_left}
use Rattle.std.proofs.lemmas.Slice.Eq.{bytes_eq-Decides}
use Rattle.proof_text.specs.Cut.{Line, cut, onto_first, line_feed}
use Rattle.proof_text.specs.Lines.{text_of}
use Rattle.prover.specs.Cuts.{HasNoFeed, IsSeparator, IsOther, BeginsWith, IsCutAt, IsUncut, IsCut}

-- ---- lines

abbrev line_of : List ℕ → Bool → Line
line_of bytes closed = record { bytes = bytes; closed = closed }

-- a line is cut off
cut_closed : (line rest : List ℕ) → HasNoFeed line → cut (line ++ 10 ∷ rest) ≡ line_of line true ∷ cut rest
unfolding cut
cut_closed [] rest none = refl
cut_closed (b ∷ line) rest none =
    elim (cases_Bool (b == 10)) [
      | inl is ↦ absurd (none.0 (eqb-true b 10 is))
      | inr other ↦ rw other (ap (onto_first b) (cut_closed line rest none.1))
    ]

cut_empty : cut [] ≡ []
unfolding cut
cut_empty = refl

-- the bytes of a line that has no LF are one line
cut_open : (b : ℕ) (line : List ℕ) → HasNoFeed (b ∷ line) → cut (b ∷ line) ≡ line_of (b ∷ line) false ∷ []
unfolding cut
cut_open b [] none =
    elim (cases_Bool (b == 10)) [
      | inl is ↦ absurd (none.0 (eqb-true b 10 is))
      | inr other ↦ rw other refl
    ]
cut_open b (c ∷ line) none =
    elim (cases_Bool (b == 10)) [
      | inl is ↦ absurd (none.0 (eqb-true b 10 is))
      | inr other ↦ rw other (ap (onto_first b) (cut_open c line none.1))
    ]

-- what is known of a line, and of those behind it
record IsLine (line : Line) (behind : List Line) : Type 0 where
  no_feed : HasNoFeed line.bytes
  last : line.closed ≡ false → behind ≡ []

abbrev AreLines : List Line → Type 0
AreLines [] = Unit {0}
AreLines (line ∷ lines) = IsLine line lines × AreLines lines

onto_line : (b : ℕ) (lines : List Line) → b ≢ 10 → AreLines lines → AreLines (onto_first b lines)
onto_line b [] other are = (record { no_feed = (other, tt); last = λ e. refl }, tt)
onto_line b (line ∷ lines) other are = (record { no_feed = (other, are.0.no_feed); last = are.0.last }, are.1)

differs : (b : ℕ) → (b == 10) ≡ false → b ≢ 10
differs b other e = let same : (b == 10) ≡ true = rw e refl in true≢false (sym same ∙ other)

-- bytes among which a test finds no LF have none
pub no_feed_in : (line : List ℕ) → list_any (λ b. b == 10) line ≡ false → HasNoFeed line
no_feed_in [] none = tt
no_feed_in (b ∷ line) none =
    elim (cases_Bool (b == 10)) [
      | inl is ↦ absurd (true≢false (rw is at none))
      | inr other ↦ (differs b other, no_feed_in line (rw other at none))
    ]

are_lines : (bytes : List ℕ) → AreLines (cut bytes)
unfolding cut
are_lines [] = tt
are_lines (b ∷ bytes) =
    elim (cases_Bool (b == 10)) [
      | inl is ↦ rw is (record { no_feed = tt; last = λ e. absurd (true≢false e) }, are_lines bytes)
      | inr other ↦ rw other (onto_line b (cut bytes) (differs b other) (are_lines bytes))
    ]

-- nothing is cut from nothing alone
some_line : (b : ℕ) (lines : List Line) → onto_first b lines ≢ []
some_line b [] e = cc
some_line b (line ∷ lines) e = cc

no_lines : (bytes : List ℕ) → cut bytes ≡ [] → bytes ≡ []
unfolding cut
no_lines [] e = refl
no_lines (b ∷ bytes) e =
    elim (cases_Bool (b == 10)) [
      | inl is ↦ absurd (let none : line_of [] true ∷ cut bytes ≡ [] = rw is at e in cc)
      | inr other ↦ absurd (some_line b (cut bytes) (rw other at e))
    ]

-- the first line of bytes has no LF, and where it lacks one behind it, nothing follows
pub first_known : (bytes line behind : List ℕ) (closed : Bool) → cut bytes ≡ line_of line closed ∷ cut behind
    → HasNoFeed line × (closed ≡ false → behind ≡ [])
first_known bytes line behind closed e =
    let are : IsLine (line_of line closed) (cut behind) × AreLines (cut behind) = subst AreLines e (are_lines bytes) in
    (are.0.no_feed, λ unended. no_lines behind (are.0.last unended))

-- ---- cuts of what begins with a line

module _ (separator : List ℕ) where
  -- the separator comes first
  pub cut_here : (rest line behind : List ℕ) (closed : Bool) → line ≡ separator
      → rest ≡ line ++ (line_feed closed ++ behind) → (closed ≡ false → behind ≡ [])
      → IsCut separator rest [] rest
  cut_here rest line behind closed is whole last =
      record { whole = refl; cut = inl (record { lines = []; others = tt; first_is = refl; begins = begins closed whole last }) }
    where
      begins : (closed : Bool) → rest ≡ line ++ (line_feed closed ++ behind) → (closed ≡ false → behind ≡ [])
          → BeginsWith separator rest
      begins true whole last = inr (behind, whole ∙ ap (λ l. l ++ 10 ∷ behind) is)
      begins false whole last =
          inl (whole ∙ ap (λ bs. line ++ bs) (last refl) ∙ append-nil line ∙ is)

  -- there is nothing
  pub cut_nothing : IsSeparator separator → IsCut separator [] [] []
  cut_nothing is = record {
    whole = refl;
    cut = inr (record {
      lines = [];
      others = tt;
      last = [];
      last_other = record { no_feed = tt; other = λ e. is.some (sym e) };
      first_is = refl;
      no_rest = refl;
    });
  }

  -- another line comes first
  line_before : (line input first rest : List ℕ) → IsOther separator line → IsCut separator input first rest
      → IsCut separator (line ++ 10 ∷ input) (line ++ 10 ∷ first) rest
  line_before line input first rest other is = record {
    whole = ap (λ bs. line ++ 10 ∷ bs) is.whole ∙ sym (append_assoc line (10 ∷ first) rest);
    cut = before is.cut;
  }
    where
      longer : (lines : List (List ℕ)) (more : List ℕ)
          → line ++ 10 ∷ (text_of lines ++ more) ≡ text_of (line ∷ lines) ++ more
      longer lines more =
          sym (append_assoc (line ++ 10 ∷ []) (text_of lines) more ∙ append_assoc line (10 ∷ []) (text_of lines ++ more))

      before : IsCutAt separator first rest ⊎ IsUncut separator first rest
          → IsCutAt separator (line ++ 10 ∷ first) rest ⊎ IsUncut separator (line ++ 10 ∷ first) rest
      before (inl at) = inl (record {
        lines = line ∷ at.lines;
        others = (other, at.others);
        first_is = ap (λ bs. line ++ 10 ∷ bs) at.first_is ∙ sym (append_assoc line (10 ∷ []) (text_of at.lines));
        begins = at.begins;
      })
      before (inr un) = inr (record {
        lines = line ∷ un.lines;
        others = (other, un.others);
        last = un.last;
        last_other = un.last_other;
        first_is = ap (λ bs. line ++ 10 ∷ bs) un.first_is ∙ longer un.lines un.last;
        no_rest = un.no_rest;
      })

  -- another line comes first, behind which nothing follows
  line_alone : (line : List ℕ) → IsOther separator line → IsCut separator line line []
  line_alone line other = record {
    whole = sym (append-nil line);
    cut = inr (record { lines = []; others = tt; last = line; last_other = other; first_is = refl; no_rest = refl });
  }

  -- some line comes first that is another one
  pub some_before : (line behind first rest : List ℕ) (closed : Bool) → IsOther separator line
      → (closed ≡ false → behind ≡ []) → IsCut separator behind first rest
      → IsCut separator (line ++ (line_feed closed ++ behind)) (line ++ (line_feed closed ++ first)) rest
  some_before line behind first rest true other last is = line_before line behind first rest other is
  some_before line behind first rest false other last is =
      let none = last refl in
      let nothing : first ++ rest ≡ [] = sym is.whole ∙ none in
      let ends = no_parts first rest nothing in
      subst (λ (b : List ℕ). IsCut separator (line ++ b) (line ++ first) rest) (sym none)
      (subst (λ (f : List ℕ). IsCut separator (line ++ []) (line ++ f) rest) (sym ends.0)
      (subst (λ (r : List ℕ). IsCut separator (line ++ []) (line ++ []) r) (sym ends.1)
      (subst (λ (l : List ℕ). IsCut separator l l []) (sym (append-nil line)) (line_alone line other))))
    where
      no_parts : (xs ys : List ℕ) → xs ++ ys ≡ [] → (xs ≡ []) × (ys ≡ [])
      no_parts [] ys e = (refl, e)
      no_parts (x ∷ xs) ys e = absurd cc

-- ---- there is a cut

-- the bytes of lines
abbrev joined : List Line → List ℕ
joined [] = []
joined (line ∷ lines) = line.bytes ++ (line_feed line.closed ++ joined lines)

joined_onto : (b : ℕ) (lines : List Line) → joined (onto_first b lines) ≡ b ∷ joined lines
joined_onto b [] = refl
joined_onto b (line ∷ lines) = refl

joined_cut : (bytes : List ℕ) → joined (cut bytes) ≡ bytes
unfolding cut
joined_cut [] = refl
joined_cut (b ∷ bytes) =
    elim (cases_Bool (b == 10)) [
      | inl is ↦ rw is (ap (λ bs. 10 ∷ bs) (joined_cut bytes) ∙ ap (λ c. c ∷ bytes) (sym (eqb-true b 10 is)))
      | inr other ↦ rw other (joined_onto b (cut bytes) ∙ ap (λ bs. b ∷ bs) (joined_cut bytes))
    ]

abbrev SomeCut : List ℕ → List ℕ → Type 0
SomeCut separator input = (first : List ℕ) × (rest : List ℕ) × IsCut separator input first rest

module _ (separator : List ℕ) (is : IsSeparator separator) where
  cut_line : (line : Line) (lines : List Line) → IsLine line lines → SomeCut separator (joined lines)
      → SomeCut separator (joined (line ∷ lines))
  cut_line line lines known found = go (bytes_eq line.bytes separator) (bytes_eq-Decides line.bytes separator)
    where
      last : line.closed ≡ false → joined lines ≡ []
      last unended = ap joined (known.last unended)

      go : (b : Bool) → Decides b (line.bytes ≡ separator) → SomeCut separator (joined (line ∷ lines))
      go true same = (
        [],
        joined (line ∷ lines),
        cut_here separator (joined (line ∷ lines)) line.bytes (joined lines) line.closed (same.0 refl) refl last,
      )
      go false same =
          let other : IsOther separator line.bytes =
          record { no_feed = known.no_feed; other = λ e. true≢false (sym (same.1 e)) } in (
            line.bytes ++ (line_feed line.closed ++ found.0),
            found.1,
            some_before separator line.bytes (joined lines) found.0 found.1 line.closed other last found.2,
          )

  cut_lines : (lines : List Line) → AreLines lines → SomeCut separator (joined lines)
  cut_lines [] are = ([], [], cut_nothing separator is)
  cut_lines (line ∷ lines) are = cut_line line lines are.0 (cut_lines lines are.1)

  pub some_cut : (input : List ℕ) → SomeCut separator input
  some_cut input = subst (SomeCut separator) (joined_cut input) (cut_lines (cut input) (are_lines input))

-- ---- there is one alone

-- these lines, each ended by LF
abbrev closed_lines : List (List ℕ) → List Line
closed_lines lines = map (λ line. line_of line true) lines

same_first : (x y : Line) (xs ys : List Line) → x ∷ xs ≡ y ∷ ys → x.bytes ≡ y.bytes
same_first x y xs ys e = let one : x ≡ y = cc in ap (λ (l : Line). l.bytes) one

same_others : (x y : Line) (xs ys : List Line) → x ∷ xs ≡ y ∷ ys → xs ≡ ys
same_others x y xs ys e = cc

module _ (separator : List ℕ) (is : IsSeparator separator) where
  abbrev AreOther : List (List ℕ) → Type 0
  AreOther lines = AllByRecursion (IsOther separator) lines

  -- the lines of a text, and of what follows it
  lines_behind : (lines : List (List ℕ)) (rest : List ℕ) → AreOther lines
      → cut (text_of lines ++ rest) ≡ closed_lines lines ++ cut rest
  lines_behind [] rest others = refl
  lines_behind (line ∷ lines) rest others =
      ap cut (append_assoc (line ++ 10 ∷ []) (text_of lines) rest ∙ append_assoc line (10 ∷ []) (text_of lines ++ rest))
      ∙ cut_closed line (text_of lines ++ rest) others.0.no_feed
      ∙ ap (λ ls. line_of line true ∷ ls) (lines_behind lines rest others.1)

  -- the separator is the first line
  record IsFirst (lines : List Line) : Type 0 where
    closed : Bool
    behind : List Line
    lines_are : lines ≡ line_of separator closed ∷ behind

  separator_alone : (line : List ℕ) → line ≢ [] → HasNoFeed line → cut line ≡ line_of line false ∷ []
  separator_alone [] some none = absurd (some refl)
  separator_alone (b ∷ line) some none = cut_open b line none

  first_is : (rest : List ℕ) → BeginsWith separator rest → IsFirst (cut rest)
  first_is rest (inl e) = record {
    closed = false;
    behind = [];
    lines_are = ap cut e ∙ separator_alone separator is.some is.no_feed;
  }
  first_is rest (inr (behind, e)) = record {
    closed = true;
    behind = cut behind;
    lines_are = ap cut e ∙ cut_closed separator behind is.no_feed;
  }

  -- the lines of an input that is cut
  at_lines : (input first rest : List ℕ) (at : IsCutAt separator first rest) → input ≡ first ++ rest
      → cut input ≡ closed_lines at.lines ++ cut rest
  at_lines input first rest at whole =
      ap cut (whole ∙ ap (λ f. f ++ rest) at.first_is) ∙ lines_behind at.lines rest at.others

  -- the same lines come before the separator
  same_lines : (ls ms : List (List ℕ)) (x y : List Line) → AreOther ls → AreOther ms → IsFirst x → IsFirst y
      → closed_lines ls ++ x ≡ closed_lines ms ++ y → ls ≡ ms
  same_lines [] [] x y os ps f g e = refl
  same_lines [] (m ∷ ms) x y os ps f g e =
      absurd (ps.0.other (sym (same_first (line_of separator f.closed) (line_of m true) f.behind _ (sym f.lines_are ∙ e))))
  same_lines (l ∷ ls) [] x y os ps f g e =
      absurd (os.0.other (same_first (line_of l true) (line_of separator g.closed) _ g.behind (e ∙ g.lines_are)))
  same_lines (l ∷ ls) (m ∷ ms) x y os ps f g e =
      let one = same_first (line_of l true) (line_of m true) _ _ e in
      let same = same_lines ls ms x y os.1 ps.1 f g (same_others (line_of l true) (line_of m true) _ _ e) in
      ap (λ k. k ∷ ls) one ∙ ap (λ ks. m ∷ ks) same

  -- no line is the separator
  abbrev HasNone : List Line → Type 0
  HasNone lines = AllByRecursion (λ line. line.bytes ≢ separator) lines

  last_none : (last : List ℕ) → IsOther separator last → HasNone (cut last)
  last_none [] other = rw cut_empty tt
  last_none (b ∷ last) other = subst HasNone (sym (cut_open b last other.no_feed)) (other.other, tt)

  none_in : (lines : List (List ℕ)) (more : List Line) → AreOther lines → HasNone more
      → HasNone (closed_lines lines ++ more)
  none_in [] more others none = none
  none_in (line ∷ lines) more others none = (others.0.other, none_in lines more others.1 none)

  uncut_none : (input first rest : List ℕ) → IsUncut separator first rest → input ≡ first ++ rest → HasNone (cut input)
  uncut_none input first rest un whole =
      let all : input ≡ text_of un.lines ++ un.last =
      whole ∙ ap (λ r. first ++ r) un.no_rest ∙ append-nil first ∙ un.first_is in
      subst HasNone (sym (ap cut all ∙ lines_behind un.lines un.last un.others))
      (none_in un.lines (cut un.last) un.others (last_none un.last un.last_other))

  not_there : (ls : List (List ℕ)) (x : List Line) → IsFirst x → HasNone (closed_lines ls ++ x) → ⊥
  not_there [] x f none =
      let all : HasNone (line_of separator f.closed ∷ f.behind) = subst HasNone f.lines_are none in all.0 refl
  not_there (l ∷ ls) x f none = not_there ls x f none.1

  cut_or_not : (input a r b s : List ℕ) → IsCutAt separator a r → input ≡ a ++ r → IsUncut separator b s → input ≡ b ++ s
      → ⊥
  cut_or_not input a r b s at whole un also =
      not_there at.lines (cut r) (first_is r at.begins)
      (subst HasNone (at_lines input a r at whole) (uncut_none input b s un also))

  same_rest : (a b r s : List ℕ) → a ≡ b → a ++ r ≡ b ++ s → r ≡ s
  same_rest a b r s e whole = append_cancel_left a r s (whole ∙ ap (λ f. f ++ s) (sym e))

  -- an input has one cut
  pub one_cut : (input a r b s : List ℕ) → IsCut separator input a r → IsCut separator input b s → (a ≡ b) × (r ≡ s)
  one_cut input a r b s x y = go x.cut y.cut
    where
      parts : a ++ r ≡ b ++ s
      parts = sym x.whole ∙ y.whole

      go : IsCutAt separator a r ⊎ IsUncut separator a r → IsCutAt separator b s ⊎ IsUncut separator b s
          → (a ≡ b) × (r ≡ s)
      go (inl at) (inl bt) =
          let same = same_lines at.lines bt.lines (cut r) (cut s) at.others bt.others (first_is r at.begins)
          (first_is s bt.begins) (sym (at_lines input a r at x.whole) ∙ at_lines input b s bt y.whole) in
          let first : a ≡ b = at.first_is ∙ ap text_of same ∙ sym bt.first_is in
          (first, same_rest a b r s first parts)
      go (inl at) (inr un) = absurd (cut_or_not input a r b s at x.whole un y.whole)
      go (inr un) (inl bt) = absurd (cut_or_not input b s a r bt y.whole un x.whole)
      go (inr un) (inr vn) =
          let all : a ≡ b =
          sym (x.whole ∙ ap (λ q. a ++ q) un.no_rest ∙ append-nil a) ∙ (y.whole ∙ ap (λ q. b ++ q) vn.no_rest ∙ append-nil b) in
          (all, un.no_rest ∙ sym vn.no_rest)
