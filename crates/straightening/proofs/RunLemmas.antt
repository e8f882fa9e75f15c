-- Runs by their turns: they keep the value, the rank and the classes of keys, and end normal where nothing stops them.
use Rattle.std.proofs.Common.{◌≡◌, ℕ, zero, suc, List, Option, Some, None, refl, sym, ap, subst, ◌∙◌}
use Rattle.std.specs.Prelude.{ℤ}
use Rattle.coordinate_model.specs.Sequences.{IsRank}
use Rattle.coordinate_model.specs.Key.{Key, IsKey, points, HasPoints}
use Rattle.coordinate_model.specs.BracketPolynomial.{AllKeys, BracketPolynomial, IsBracketPolynomial}
use Rattle.coordinate_model.specs.BracketPolynomial.{value}
use Rattle.coordinate_model.specs.Polynomial.{Polynomials}
use Rattle.coordinate_model.specs.Syzygy.{Use, multiple, additions}
use Rattle.coordinate_model.proofs.BracketPolynomialLaws.{value_of_sum}
use Rattle.coordinate_model.proofs.KeySets.{all_plus}
use Rattle.coordinate_model.proofs.PolynomialRing.{polynomial_ring}
use Rattle.bracket_poly.specs.Tracked.{Tracked, Limit, plus_terms, first_limit}
use Rattle.bracket_poly.proofs.Totals.{use_adds}
use Rattle.coordinate_model.proofs.Splits.{all_so}
use Rattle.straightening.specs.Turns.{turn}
use Rattle.straightening.specs.Runs.{Run, Stop, turns_stop, limit_stop, ended, after_use, run}
use Rattle.straightening.specs.RunLaws.{RunKeepsValue, EndsWell, RunEndsWell, HasLike, KeepsClasses}
use Rattle.straightening.specs.RunLaws.{RunKeepsClasses, NoTurnOfNormal, use_points}
use Rattle.straightening.proofs.Rewritings.{IsAdded, value_multiple, points_here}
use Rattle.straightening.proofs.TermLists.{all_have_terms, holds_of_term}
use Rattle.straightening.proofs.TurnLaws.{Taken, taken, keys_added, no_use, standard_no_use}

-- ---- one turn

module _ (d n : ℕ) (p : Tracked) (u : Use) (rank : IsRank d) (t : Taken d n p.sum u) where
  -- what holds of the old keys and of those added holds of the new ones
  pub keys_after : (P : Key → Type 0) → AllKeys P p.sum → ((l : Key) → IsAdded d n t.term.0 l → P l)
      → AllKeys P (plus_terms p (additions u)).sum
  keys_after P old new =
      subst (AllKeys P) (sym (use_adds p u))
      (all_plus P p.sum (multiple u) old
      (all_so _ _ (λ s a. new s.0 a) (multiple u).terms (keys_added d n p.sum u rank t)))

  pub value_after : value (plus_terms p (additions u)).sum ≡ value p.sum
  value_after =
      ap value (use_adds p u) ∙ value_of_sum p.sum (multiple u)
      ∙ ap (Polynomials.◌⊕◌ (value p.sum))
      (ap (λ (w : Use). value (multiple w)) (sym t.used)
      ∙ value_multiple d n t.term t.row t.column rank t.key t.violation)
      ∙ polynomial_ring.add_zero (value p.sum)

  -- the use has the class of the key that it takes away
  pub like_taken : HasLike p.sum u.exponents (use_points u)
  like_taken = record {
    key = t.term.0;
    there = t.there;
    parameters = ap (λ (w : Use). w.exponents) t.used;
    same_points =
        subst (λ (w : Use). HasPoints (use_points w) t.term.0) t.used
        (points_here d n t.term t.row t.column rank t.key t.violation (λ z. t.there (t.once ∙ z)));
  }

-- ---- runs

-- what holds of runs without a turn, and of a run behind a turn
module _ (Good : Tracked → Type 0) (Says : Tracked → Run → Type 0)
    (stay : (p : Tracked) (stop : Option Stop) → Good p → (stop ≡ None → turn p.sum ≡ None) → Says p (ended p stop))
    (next : (p : Tracked) (u : Use) → Good p → turn p.sum ≡ Some u → Good (plus_terms p (additions u)))
    (go : (p : Tracked) (u : Use) (r : Run) → Good p → turn p.sum ≡ Some u → Says (plus_terms p (additions u)) r
    → Says p (after_use u r)) where
  pub by_turns : (budget : ℕ) (p : Tracked) → Good p → Says p (run budget p)
  by_turns zero p h = step (turn p.sum) refl
    where
      step : (o : Option Use) → turn p.sum ≡ o
          → Says p (elim o [ None ↦ ended p None | Some u ↦ ended p (Some turns_stop) ])
      step None e = stay p None h (λ k. e)
      step (Some u) e = stay p (Some turns_stop) h (λ k. cc)
  by_turns (suc budget) p h = step (λ q g. by_turns budget q g) (turn p.sum) refl
    where
      limited : ((q : Tracked) → Good q → Says q (run budget q)) → (u : Use) → turn p.sum ≡ Some u → (o : Option Limit)
          → Says p (elim o [
            | Some limit ↦ ended p (Some (limit_stop limit))
            | None ↦ after_use u (run budget (plus_terms p (additions u)))
          ])
      limited ih u e (Some limit) = stay p (Some (limit_stop limit)) h (λ k. cc)
      limited ih u e None =
          go p u (run budget (plus_terms p (additions u))) h e (ih (plus_terms p (additions u)) (next p u h e))

      step : ((q : Tracked) → Good q → Says q (run budget q)) → (o : Option Use) → turn p.sum ≡ o
          → Says p (elim o [
            | None ↦ ended p None
            | Some u ↦ elim (first_limit p (additions u)) [
              | Some limit ↦ ended p (Some (limit_stop limit))
              | None ↦ after_use u (run budget (plus_terms p (additions u)))
            ]
          ])
      step ih None e = stay p None h (λ k. e)
      step ih (Some u) e = limited ih u e (first_limit p (additions u))

-- the polynomial is one of rank d in n parameters
abbrev Formed : ℕ → ℕ → Tracked → Type 0
Formed d n p = IsBracketPolynomial d n p.sum

pub formed_after : (d n : ℕ) → IsRank d → (p : Tracked) (u : Use) → Formed d n p → turn p.sum ≡ Some u
    → Formed d n (plus_terms p (additions u))
formed_after d n rank p u h e =
    keys_after d n p u rank (taken d n p.sum u h e) (IsKey d n) h (λ l a. a.key)

pub run_keeps_value : RunKeepsValue
run_keeps_value d n budget p rank keys =
    by_turns (Formed d n) (λ q r. value r.last.sum ≡ value q.sum) (λ q stop h k. refl) (formed_after d n rank)
    (λ q u r h e k. k ∙ value_after d n q u rank (taken d n q.sum u h e)) budget p keys

pub run_ends_well : RunEndsWell
run_ends_well d n budget p rank keys =
    by_turns (Formed d n) (λ q r. EndsWell d n r)
    (λ q stop h k. record { keys = h; normal = λ e. no_use d n q.sum.terms h (k e) }) (formed_after d n rank)
    (λ q u r h e k. record { keys = k.keys; normal = k.normal }) budget p keys

-- ---- classes

pub all_like : (f : BracketPolynomial) → AllKeys (λ k. HasLike f k.exponents (points k.rows)) f
all_like f =
    all_so _ (λ (t : Key × ℤ). HasLike f t.0.exponents (points t.0.rows))
    (λ t h. record { key = t.0; there = h; parameters = refl; same_points = λ i. refl }) f.terms (all_have_terms f)

pub like_further : (f g : BracketPolynomial) (es ps : List ℕ) → AllKeys (λ k. HasLike f k.exponents (points k.rows)) g
    → HasLike g es ps → HasLike f es ps
like_further f g es ps h l =
    let k : HasLike f l.key.exponents (points l.key.rows) =
    holds_of_term (λ k. HasLike f k.exponents (points k.rows)) g l.key h l.there in
    record {
      key = k.key;
      there = k.there;
      parameters = k.parameters ∙ l.parameters;
      same_points = λ i. k.same_points i ∙ l.same_points i;
    }

-- each key behind a turn has the class of one before it
pub like_after : (d n : ℕ) → IsRank d → (p : Tracked) (u : Use) → Formed d n p → turn p.sum ≡ Some u
    → AllKeys (λ l. HasLike p.sum l.exponents (points l.rows)) (plus_terms p (additions u)).sum
like_after d n rank p u h e =
    let t : Taken d n p.sum u = taken d n p.sum u h e in
    keys_after d n p u rank t (λ l. HasLike p.sum l.exponents (points l.rows)) (all_like p.sum)
    (λ l a. record {
      key = t.term.0;
      there = t.there;
      parameters = sym a.parameters;
      same_points = λ i. sym (a.same_points i);
    })

keeps_after : (d n : ℕ) → IsRank d → (p : Tracked) (u : Use) (r : Run) → Formed d n p → turn p.sum ≡ Some u
    → KeepsClasses (plus_terms p (additions u)) r → KeepsClasses p (after_use u r)
keeps_after d n rank p u r h e k =
    let q : Tracked = plus_terms p (additions u) in
    let like : AllKeys (λ l. HasLike p.sum l.exponents (points l.rows)) q.sum = like_after d n rank p u h e in
    record {
      keys =
          all_so _ _ (λ (s : Key × ℤ) g. like_further p.sum q.sum s.0.exponents (points s.0.rows) like g) r.last.sum.terms
          k.keys;
      uses = (
        like_taken d n p u rank (taken d n p.sum u h e),
        all_so _ _ (λ (w : Use) g. like_further p.sum q.sum w.exponents (use_points w) like g) r.uses k.uses,
      );
    }

pub run_keeps_classes : RunKeepsClasses
run_keeps_classes d n budget p rank keys =
    by_turns (Formed d n) KeepsClasses (λ q stop h k. record { keys = all_like q.sum; uses = tt }) (formed_after d n rank)
    (keeps_after d n rank) budget p keys

-- ---- normal polynomials

pub no_turn_of_normal : NoTurnOfNormal
no_turn_of_normal d n zero p rank normal =
    ap (λ (o : Option Use). elim o as (λ _. Run) [ None ↦ ended p None | Some u ↦ ended p (Some turns_stop) ])
    (standard_no_use d n p.sum.terms normal)
no_turn_of_normal d n (suc budget) p rank normal =
    ap (λ (o : Option Use). elim o as (λ _. Run) [
      | None ↦ ended p None
      | Some u ↦ elim (first_limit p (additions u)) as (λ _. Run) [
        | Some limit ↦ ended p (Some (limit_stop limit))
        | None ↦ after_use u (run budget (plus_terms p (additions u)))
      ]
    ])
    (standard_no_use d n p.sum.terms normal)
