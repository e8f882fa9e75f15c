use Rattle.std.proofs.Common.{◌≡◌, ℕ, ◌<◌, List, ◌∷◌, ◌++◌, take, length, get_or, set, refl, sym, ap, ap₂, ◌∙◌}
use Rattle.std.proofs.Common.{of_z, w8}
use Rattle.std.specs.Prelude.{ℤ, ◌+ℤ◌, FitsSigned}
use Rattle.std.specs.List.{AllByRecursion, remove}
use Rattle.syzygies.specs.declared.pair.PairTerm.{PairTerm}
use Rattle.syzygies.specs.Terms.{pair_of, term_of, terms_of}
use Rattle.syzygies.specs.SplitTerms.{IsSign}
use Rattle.syzygies.specs.Collected.{IsSmall, AddsAt}
use Rattle.syzygies.proofs.EightBits.{again, sum_fits, sum_again, sum_zero, sum_nonzero}
use Rattle.syzygies.proofs.CollectedLaws.{entry_is, entry_all, map-remove, map-replace, keep-zero, keep-nonzero}
use Rattle.syzygies.proofs.collect.add_at.Goals as goal

module _ {d : ℕ} (xs : List (PairTerm d)) (i : ℕ) (x : PairTerm d) (more : ℤ) (h : i < length xs) (e : x ≡ get_or xs i x)
    (all : AllByRecursion IsSmall (terms_of xs)) (one : IsSign more) where
  small : IsSmall (term_of x)
  small = entry_all term_of IsSmall xs i x h e all

  fits : FitsSigned w8 (again x.sign_count +ℤ again more)
  fits = sum_fits (pair_of x) x.sign_count more small one

  removed : (new : List (PairTerm d)) → new ≡ remove xs i → of_z w8 (again x.sign_count +ℤ again more) ≡ 0
      → AddsAt i more (terms_of xs) (terms_of new)
  removed new r z t rest at =
      let is = entry_is term_of xs i x t rest h e at in
      ap terms_of r ∙ map-remove term_of xs i
      ∙ ap (λ w. take i (terms_of xs) ++ w)
      (sym
      (keep-zero t.0 (t.1 +ℤ more) rest
      (ap (λ u. u.1 +ℤ more) is.0 ∙ sum_zero (pair_of x) x.sign_count more small one z)
      ∙ is.1))

  replaced : (y : PairTerm d) → term_of y ≡ (pair_of x, again (again x.sign_count +ℤ again more))
      → (of_z w8 (again x.sign_count +ℤ again more) ≡ 0 → ⊥) → AddsAt i more (terms_of xs) (terms_of (set xs i y))
  replaced y same n t rest at =
      let is = entry_is term_of xs i x t rest h e at in
      map-replace term_of xs i y h
      ∙ ap (λ w. take i (terms_of xs) ++ w)
      (ap₂ ◌∷◌ (same ∙ ap (λ z. (pair_of x, z)) (sum_again (pair_of x) x.sign_count more small one)) (sym is.1)
      ∙ sym
      (keep-nonzero t.0 (t.1 +ℤ more) rest
      (λ z. sum_nonzero (pair_of x) x.sign_count more small one n (sym (ap (λ u. u.1 +ℤ more) is.0) ∙ z))
      ∙ ap (λ u. (u.0, u.1 +ℤ more) ∷ rest) is.0))

pub overflow_add-sign_count : goal.overflow_add-sign_count
overflow_add-sign_count g c =
    fits c.args.terms.now.items c.args.place c.index-found.result.now c.args.more c.requires.within
    c.index-found.ensures c.requires.small c.requires.one

pub returns-then-sign_count-eq0 : goal.returns-then-sign_count-eq0
returns-then-sign_count-eq0 g c =
    removed c.args.terms.now.items c.args.place c.index-found.result.now c.args.more c.requires.within
    c.index-found.ensures c.requires.small c.requires.one c.remove.new.self.items c.remove.ensures.items
    c.if-sign_count-eq0.true

pub returns-else-sign_count-eq0 : goal.returns-else-sign_count-eq0
returns-else-sign_count-eq0 g c =
    replaced c.args.terms.now.items c.args.place c.index-found.result.now c.args.more c.requires.within
    c.index-found.ensures c.requires.small c.requires.one _ refl c.if-sign_count-eq0.false
