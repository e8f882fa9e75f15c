-- Uses of syzygies: what is read is written again and lies within the limits, and what is written is read again.
use Rattle.std.proofs.Common.{◌≡◌, ◌≢◌, ℕ, ◌+◌, ◌^◌, ◌≤◌, true, false, not, List, ◌∷◌, ◌++◌, length, sym, ap, ◌∙◌, codes, ℤ, pos}
use Rattle.std.specs.Prelude.{◌&&◌, neg_ℤ}
use Rattle.std.specs.List.{list_all}
use Rattle.std.proofs.lemmas.List.Folds.{list_all-append}
use Rattle.coordinate_model.specs.Sequences.{IsRank}
use Rattle.coordinate_model.specs.Sums.{is_zero}
use Rattle.coordinate_model.specs.Key.{Key}
use Rattle.coordinate_model.specs.Syzygy.{Use, use_key}
use Rattle.bracket_poly.specs.Tracked.{fits}
use Rattle.bracket_poly.proofs.TrackedLaws as tracked
use Rattle.step_types.specs.declared.names.Names.{Names}
use Rattle.proof_text.specs.Lines.{spaced}
use Rattle.proof_text.specs.Forms.{Spelt, Form, PlainForm, row_word, spelt_words, form_line, IsRowOf, IsForm}
use Rattle.proof_text.specs.Meant.{is_among, points_meant, term_meant, use_meant, is_ordered}
use Rattle.proof_text.specs.Terms.{point_names}
use Rattle.proof_text.specs.Proofs.{use_line}
use Rattle.proof_text.specs.Kinds.{is_named, is_numbered, is_unnamed, is_misnumbered, is_disordered}
use Rattle.proof_text.specs.State.{State}
use Rattle.proof_text.specs.Told.{IsUseTold}
use Rattle.proof_text.proofs.NumberLaws.{and_true}
use Rattle.proof_text.proofs.NameLaws.{names_again, points_below, points_again, points_among, points_run, length-map}
use Rattle.proof_text.proofs.TermLaws.{KnowsNames, term_read, term_spelt, term_written}

pub not_pos : (c : ℤ) → is_zero c ≡ false → c ≢ pos 0
not_pos c some e = let never = ap is_zero e in cc

not_least : (c : ℤ) → fits c ≡ true → c ≢ neg_ℤ (pos (2 ^ 127))
not_least c small e = let never = ap fits e in cc

-- the use that is meant is written so, and lies within the limits
pub record IsUseRead (names : Names) (t : Spelt (List (List ℕ))) (alpha beta gamma : List (List ℕ)) : Type 0 where
  pub written : use_line names (use_meant names t alpha beta gamma) ≡ form_line (Form.Use t alpha beta gamma)
  pub told : IsUseTold names (use_meant names t alpha beta gamma)

pub use_read : (names : Names) (t : Spelt (List (List ℕ))) (alpha beta gamma : List (List ℕ)) → IsRank names.rank
    → length names.params ≤ 64 → IsForm (IsRowOf names.rank) names.rank (Form.Use t alpha beta gamma)
    → is_named names t ≡ true → list_all (is_among names.free) (alpha ++ (beta ++ gamma)) ≡ true
    → is_numbered t ≡ true → is_ordered names t ≡ true → IsUseRead names t alpha beta gamma
use_read names t alpha beta gamma rank few formed named points numbered ordered =
    let term = term_read names 62 t few formed.0 named numbered ordered in
    let a = and_true (list_all (is_among names.free) alpha) (list_all (is_among names.free) (beta ++ gamma))
    (sym (list_all-append (is_among names.free) alpha (beta ++ gamma)) ∙ points) in
    let b = and_true (list_all (is_among names.free) beta) (list_all (is_among names.free) gamma)
    (sym (list_all-append (is_among names.free) beta gamma) ∙ a.1) in
    let five : length (points_meant names beta) ≡ names.rank + 1 = length-map _ beta ∙ formed.4 in
    let three : length (points_meant names alpha) + length (points_meant names gamma) + 1 ≡ names.rank =
    ap (λ n. n + length (points_meant names gamma) + 1) (length-map _ alpha)
    ∙ ap (λ n. length alpha + n + 1) (length-map _ gamma) ∙ formed.5 in
    record {
      written =
          ap (λ ws. spaced (codes "use" ∷ (ws ++ (codes ";" ∷ (point_names names (points_meant names alpha)
          ++ (codes ";" ∷ (point_names names (points_meant names beta) ++ (codes ";" ∷ point_names names (points_meant names gamma)))))))))
          term.written
          ∙ ap (λ ws. spaced (codes "use" ∷ (spelt_words row_word t ++ (codes ";" ∷ (ws
          ++ (codes ";" ∷ (point_names names (points_meant names beta) ++ (codes ";" ∷ point_names names (points_meant names gamma)))))))))
          (names_again names alpha a.0)
          ∙ ap (λ ws. spaced (codes "use" ∷ (spelt_words row_word t ++ (codes ";" ∷ (alpha
          ++ (codes ";" ∷ (ws ++ (codes ";" ∷ point_names names (points_meant names gamma)))))))))
          (names_again names beta b.0)
          ∙ ap (λ ws. spaced (codes "use" ∷ (spelt_words row_word t ++ (codes ";" ∷ (alpha ++ (codes ";" ∷ (beta ++ (codes ";" ∷ ws))))))))
          (names_again names gamma b.1);
      told = record {
        formed = record {
          rank = rank;
          formed = record {
            beta_points = five;
            other_points = three;
            not_zero = not_pos (term_meant names t).1 term.some;
            not_least = not_least (term_meant names t).1 term.small;
            ascending = term.key.formed.ascending;
            small = term.key.within.small;
          };
          parameters = term.key.formed.parameters;
          rows = term.key.formed.each;
        };
        small = term.small;
        key = term.key.within;
        alpha = points_below names alpha a.0;
        beta = points_below names beta b.0;
        gamma = points_below names gamma b.1;
      };
    }

-- ---- uses that are written

abbrev pub use_form : Names → Use → PlainForm
use_form names u =
    Form.Use (term_spelt names (use_key u, u.multiplier)) (point_names names u.alpha) (point_names names u.beta) (point_names names u.gamma)

-- what is spelt so means the use, has its line and passes the tests
pub record IsUseWritten (names : Names) (u : Use) : Type 0 where
  pub formed : IsForm (IsRowOf names.rank) names.rank (use_form names u)
  pub means : use_meant names (term_spelt names (use_key u, u.multiplier)) (point_names names u.alpha) (point_names names u.beta) (point_names names u.gamma) ≡ u
  pub line : form_line (use_form names u) ≡ use_line names u
  pub named : is_unnamed names (use_form names u) ≡ false
  pub numbered : is_misnumbered (use_form names u) ≡ false
  pub ordered : (s : State) → is_disordered names s (use_form names u) ≡ false

pub use_written : (names : Names) (u : Use) → KnowsNames names → IsUseTold names u → IsUseWritten names u
use_written names u know told =
    let term = term_written names 62 (use_key u, u.multiplier) know
    (record { parameters = told.formed.parameters; each = told.formed.rows; ascending = told.formed.formed.ascending })
    told.key told.small (tracked.not_zero u.multiplier told.formed.formed.not_zero) in
    let a = points_again names u.alpha know.points_differ told.alpha in
    let b = points_again names u.beta know.points_differ told.beta in
    let c = points_again names u.gamma know.points_differ told.gamma in
    let among : list_all (is_among names.free) (point_names names u.alpha ++ (point_names names u.beta ++ point_names names u.gamma)) ≡ true =
    list_all-append (is_among names.free) (point_names names u.alpha) (point_names names u.beta ++ point_names names u.gamma)
    ∙ rw (points_among names u.alpha told.alpha)
    (list_all-append (is_among names.free) (point_names names u.beta) (point_names names u.gamma)
    ∙ rw (points_among names u.beta told.beta) (points_among names u.gamma told.gamma)) in
    let passes : is_named names (term_spelt names (use_key u, u.multiplier))
    && list_all (is_among names.free) (point_names names u.alpha ++ (point_names names u.beta ++ point_names names u.gamma)) ≡ true =
    rw term.named among in
    record {
      formed = (
        term.formed,
        points_run names u.alpha know.points_run told.alpha,
        points_run names u.beta know.points_run told.beta,
        points_run names u.gamma know.points_run told.gamma,
        length-map _ u.beta ∙ told.formed.formed.beta_points,
        ap (λ n. n + length (point_names names u.gamma) + 1) (length-map _ u.alpha)
            ∙ ap (λ n. length u.alpha + n + 1) (length-map _ u.gamma) ∙ told.formed.formed.other_points,
      );
      means =
          ap (λ (x : Key × ℤ). record {
            alpha = points_meant names (point_names names u.alpha);
            beta = points_meant names (point_names names u.beta);
            gamma = points_meant names (point_names names u.gamma);
            multiplier = x.1;
            exponents = x.0.exponents;
            rest = x.0.rows;
          }) term.means
          ∙ ap (λ ps. record {
            alpha = ps;
            beta = points_meant names (point_names names u.beta);
            gamma = points_meant names (point_names names u.gamma);
            multiplier = u.multiplier;
            exponents = u.exponents;
            rest = u.rest;
          }) a
          ∙ ap (λ ps. record {
            alpha = u.alpha;
            beta = ps;
            gamma = points_meant names (point_names names u.gamma);
            multiplier = u.multiplier;
            exponents = u.exponents;
            rest = u.rest;
          }) b
          ∙ ap (λ ps. record {
            alpha = u.alpha;
            beta = u.beta;
            gamma = ps;
            multiplier = u.multiplier;
            exponents = u.exponents;
            rest = u.rest;
          }) c;
      line =
          ap (λ ws. spaced (codes "use" ∷ (ws ++ (codes ";" ∷ (point_names names u.alpha
          ++ (codes ";" ∷ (point_names names u.beta ++ (codes ";" ∷ point_names names u.gamma)))))))) term.words;
      named = ap not passes;
      numbered = ap not term.numbered;
      ordered = λ s. ap not term.ordered;
    }
