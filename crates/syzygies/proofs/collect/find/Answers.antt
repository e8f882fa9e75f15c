use Rattle.std.proofs.Common.{◌≡◌, ℕ, ◌<◌, List, take, length, get_or, Ordering, Less, Equal, Greater, sym, ap, ◌∙◌, arith}
use Rattle.std.proofs.Common.{add-one}
use Rattle.std.proofs.lemmas.List.{length-map}
use Rattle.std.specs.List.{AllByRecursion}
use Rattle.coordinate_model.specs.Key.{Key, key_cmp}
use Rattle.syzygies.specs.declared.pair.PairTerm.{PairTerm}
use Rattle.syzygies.specs.Terms.{pair_of, term_of, terms_of}
use Rattle.syzygies.specs.Collected.{StandsAt}
use Rattle.syzygies.proofs.CollectedLaws.{entry_is, all_more}
use Rattle.syzygies.proofs.collect.find.Goals as goal

-- at an entry whose pair compares so
at_entry : {d : ℕ} (r : Ordering) (k : Key) (xs : List (PairTerm d)) (i : ℕ) (x : PairTerm d) → i < length xs
    → x ≡ get_or xs i x → AllByRecursion (λ t. key_cmp k t.0 ≡ Greater) (take i (terms_of xs))
    → key_cmp k (pair_of x) ≡ r → StandsAt r k (terms_of xs) i
at_entry r k xs i x h e all c = record {
  within = (let n : length (terms_of xs) ≡ length xs = length-map xs term_of in omega arith);
  after = all;
  next = λ t rest d. ap (λ u. key_cmp k u.0) (entry_is term_of xs i x t rest h e d).0 ∙ c;
}

pub returns-in-Less-clause-place : goal.returns-in-Less-clause-place
returns-in-Less-clause-place g c =
    at_entry Less (pair_of c.args.term.now) c.args.terms.now c.loop-place.place c.index-terms-place.result
    c.loop-place-test.true c.index-terms-place.is c.loop-place.invariant (sym c.compare.ensures ∙ c.in-Less.is)

pub returns-in-Equal-clause-place : goal.returns-in-Equal-clause-place
returns-in-Equal-clause-place g c =
    at_entry Equal (pair_of c.args.term.now) c.args.terms.now c.loop-place.place c.index-terms-place.result
    c.loop-place-test.true c.index-terms-place.is c.loop-place.invariant (sym c.compare.ensures ∙ c.in-Equal.is)

pub loop-place-preserved : goal.loop-place-preserved
loop-place-preserved g c =
    rw add-one
    (all_more term_of (λ t. key_cmp (pair_of c.args.term.now) t.0 ≡ Greater) c.args.terms.now c.loop-place.place
    c.index-terms-place.result c.loop-place-test.true c.index-terms-place.is c.loop-place.invariant
    (sym c.compare.ensures ∙ c.in-Greater.is))
