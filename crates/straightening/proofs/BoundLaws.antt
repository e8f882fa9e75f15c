-- The keys that are turned strictly descend, are not standard and stay in their classes: so a list of such keys loses one
-- at each turn.
use Rattle.std.proofs.Common.{◌≡◌, ℕ, zero, suc, ◌<◌, ◌≤◌, Bool, not, List, length, Option, Some, None}
use Rattle.std.proofs.Common.{filter, is_eq, refl, sym, ap, subst, ◌∙◌, arith, Less, ◌⊎◌, inl, inr}
use Rattle.std.specs.Prelude.{Contains}
use Rattle.std.specs.Cmp.{tied_itself}
use Rattle.std.specs.Ordering.{eq_by_cmp, ordering_reverse}
use Rattle.std.specs.declared.cmp.Ordering.{Ordering}
use Rattle.std.specs.declared.cmp.Ordering.TheVariants.{Equal, Greater}
use Rattle.coordinate_model.specs.Sequences.{IsRank}
use Rattle.coordinate_model.specs.Sums.{coefficient}
use Rattle.coordinate_model.specs.Key.{Key, key_cmp, IsKey, IsStandardKey, points}
use Rattle.coordinate_model.specs.BracketPolynomial.{BracketPolynomial, IsBracketPolynomial, add}
use Rattle.coordinate_model.specs.Syzygy.{Use, multiple, additions}
use Rattle.coordinate_model.proofs.KeyProducts.{key_total, key_same}
use Rattle.bracket_poly.specs.Tracked.{Tracked, Limit, plus_terms, first_limit}
use Rattle.straightening.specs.Turns.{turn}
use Rattle.straightening.specs.Runs.{Stop, turns_stop, limit_stop, ended, run}
use Rattle.straightening.specs.RunLaws.{HasTerm, RewritesGreatest}
use Rattle.straightening.specs.Bounds.{IsTurnable, TakesAtMost, RunIsBounded}
use Rattle.straightening.proofs.Members.{contains_filter, shorter_filter}
use Rattle.bracket_poly.proofs.Totals.{use_adds}
use Rattle.straightening.proofs.RunLemmas.{formed_after, like_after, like_further}
use Rattle.straightening.proofs.SoFar.{run_none, run_spent, run_limit, run_on}
use Rattle.straightening.proofs.TermLists.{holds_of_term}
use Rattle.straightening.proofs.TurnLaws.{rewrites_greatest}

-- a turnable key that is at most some key with a term that is not standard
record IsOpen (d n : ℕ) (f : BracketPolynomial) (k : Key) : Type 0 where
  turnable : IsTurnable d n f k
  top : Key
  there : HasTerm f top
  not_standard : IsStandardKey d n top → ⊥
  below : (k ≡ top) ⊎ (key_cmp k top ≡ Less)

-- ---- one turn

module _ (d n : ℕ) (rank : IsRank d) (p : Tracked) (u : Use) (keys : IsBracketPolynomial d n p.sum)
    (e : turn p.sum ≡ Some u) where
  abbrev after : Tracked
  after = plus_terms p (additions u)

  taken : RewritesGreatest d n p.sum u
  taken = rewrites_greatest d n p.sum u rank keys e

  -- the key that is taken away is open
  taken_open : IsOpen d n p.sum taken.at.key
  taken_open = record {
    turnable = record {
      key = holds_of_term (IsKey d n) p.sum taken.at.key keys taken.at.there;
      not_standard = taken.at.not_standard;
      like = record { key = taken.at.key; there = taken.at.there; parameters = refl; same_points = λ i. refl };
    };
    top = taken.at.key;
    there = taken.at.there;
    not_standard = taken.at.not_standard;
    below = inl refl;
  }

  sum_after : (k : Key) → coefficient after.sum k ≡ coefficient (add p.sum (multiple u)) k
  sum_after k = ap (λ (f : BracketPolynomial). coefficient f k) (use_adds p u)

  -- what is not standard behind the turn is less than it
  top_descends : (k : Key) → HasTerm after.sum k → (IsStandardKey d n k → ⊥) → key_cmp k taken.at.key ≡ Less
  top_descends k h s = step (key_cmp taken.at.key k) refl
    where
      step : (o : Ordering) → key_cmp taken.at.key k ≡ o → key_cmp k taken.at.key ≡ Less
      step Less g =
          absurd (s (taken.at.above k g (λ z. h (sum_after k ∙ taken.unchanged k g ∙ z))))
      step Equal g =
          absurd (h (sum_after k
          ∙ ap (λ (l : Key). coefficient (add p.sum (multiple u)) l) (sym (key_same taken.at.key k g)) ∙ taken.gone))
      step Greater g = key_total.antisymm k taken.at.key ∙ ap ordering_reverse g

  open_descends : (k : Key) → IsOpen d n after.sum k → key_cmp k taken.at.key ≡ Less
  open_descends k o =
      let l : key_cmp o.top taken.at.key ≡ Less = top_descends o.top o.there o.not_standard in
      elim o.below [
        | inl s ↦ subst (λ (x : Key). key_cmp x taken.at.key ≡ Less) (sym s) l
        | inr g ↦ key_total.trans k o.top taken.at.key g l
      ]

  -- what is open behind the turn was so before
  open_before : (k : Key) → IsOpen d n after.sum k → IsOpen d n p.sum k
  open_before k o = record {
    turnable = record {
      key = o.turnable.key;
      not_standard = o.turnable.not_standard;
      like =
          like_further p.sum after.sum k.exponents (points k.rows) (like_after d n rank p u keys e) o.turnable.like;
    };
    top = taken.at.key;
    there = taken.at.there;
    not_standard = taken.at.not_standard;
    below = inr (open_descends k o);
  }

  -- whether the key is another one than that which is taken away
  abbrev is_other : Key → Bool
  is_other k = not (eq_by_cmp key_cmp k taken.at.key)

  module _ (ks : List Key) (held : (k : Key) → IsOpen d n p.sum k → Contains ks k) where
    fewer : length (filter is_other ks) < length ks
    fewer =
        shorter_filter is_other ks taken.at.key (held taken.at.key taken_open)
        (ap (λ o. not (is_eq o)) (tied_itself key_total taken.at.key))

    held_after : (k : Key) → IsOpen d n after.sum k → Contains (filter is_other ks) k
    held_after k o =
        contains_filter is_other ks k (held k (open_before k o)) (ap (λ r. not (is_eq r)) (open_descends k o))

-- ---- runs

module _ (d n : ℕ) (rank : IsRank d) where
  -- the run with this budget is bounded wherever the list holds the open keys
  abbrev IsBounded : ℕ → Type 0
  IsBounded b =
      (p : Tracked) (ks : List Key) → IsBracketPolynomial d n p.sum → ((k : Key) → IsOpen d n p.sum k → Contains ks k)
      → TakesAtMost (length ks) b (run b p)

  stays : (most b : ℕ) (p : Tracked) (stop : Option Stop) → (most ≤ b → stop ≡ Some turns_stop → ⊥)
      → TakesAtMost most b (ended p stop)
  stays most b p stop h = record { turns = omega arith; enough = h }

  module _ (p : Tracked) (ks : List Key) (keys : IsBracketPolynomial d n p.sum)
      (held : (k : Key) → IsOpen d n p.sum k → Contains ks k) where
    no_turn : (b : ℕ) → turn p.sum ≡ None → TakesAtMost (length ks) b (run b p)
    no_turn b e = subst (TakesAtMost (length ks) b) (sym (run_none b p e)) (stays (length ks) b p None (λ l g. cc))

    module _ (u : Use) (e : turn p.sum ≡ Some u) where
      abbrev rest : List Key
      rest = filter (is_other d n rank p u keys e) ks

      less : length rest < length ks
      less = fewer d n rank p u keys e ks held

      spent : TakesAtMost (length ks) zero (run zero p)
      spent =
          subst (TakesAtMost (length ks) zero) (sym (run_spent p u e))
          (stays (length ks) zero p (Some turns_stop) (λ l g. let m : length rest < length ks = less in omega arith))

      goes_on : (b : ℕ) → IsBounded b → (o : Option Limit) → first_limit p (additions u) ≡ o
          → TakesAtMost (length ks) (suc b) (run (suc b) p)
      goes_on b ih (Some limit) f =
          subst (TakesAtMost (length ks) (suc b)) (sym (run_limit b p u limit e f))
          (stays (length ks) (suc b) p (Some (limit_stop limit)) (λ l g. cc))
      goes_on b ih None f =
          let m : length rest < length ks = less in
          let r : TakesAtMost (length rest) b (run b (plus_terms p (additions u))) =
          ih (plus_terms p (additions u)) rest (formed_after d n rank p u keys e)
          (held_after d n rank p u keys e ks held) in
          subst (TakesAtMost (length ks) (suc b)) (sym (run_on b p u e f))
          (record {
            turns = let l : length (run b (plus_terms p (additions u))).uses ≤ length rest = r.turns in omega arith;
            enough = λ l g. r.enough (omega arith) g;
          })

  bounded : (b : ℕ) → IsBounded b
  bounded zero p ks keys held = step (turn p.sum) refl
    where
      step : (o : Option Use) → turn p.sum ≡ o → TakesAtMost (length ks) zero (run zero p)
      step None e = no_turn p ks keys held zero e
      step (Some u) e = spent p ks keys held u e
  bounded (suc b) p ks keys held = step (bounded b) (turn p.sum) refl
    where
      step : IsBounded b → (o : Option Use) → turn p.sum ≡ o → TakesAtMost (length ks) (suc b) (run (suc b) p)
      step ih None e = no_turn p ks keys held (suc b) e
      step ih (Some u) e = goes_on p ks keys held u e b ih (first_limit p (additions u)) refl

pub run_is_bounded : RunIsBounded
run_is_bounded d n budget p ks rank keys held = bounded d n rank budget p ks keys (λ k o. held k o.turnable)
