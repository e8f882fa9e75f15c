use Rattle.std.proofs.Common.{◌<◌, length, ap, subst, ◌∙◌, sym, Equal, Less}
use Rattle.std.proofs.lemmas.List.{length-map}
use Rattle.syzygies.specs.Terms.{pair_of, term_of, terms_of}
use Rattle.syzygies.specs.Collected.{StandsAt, AddsAt}
use Rattle.syzygies.proofs.EightBits.{again-sign}
use Rattle.syzygies.proofs.CollectedLaws.{added_there, added_new, map-insert, sign-nonzero}
use Rattle.syzygies.proofs.collect.collect.Goals as goal

pub returns-in-Ok : goal.returns-in-Ok
returns-in-Ok g c =
    let same = c.deref.ensures.value in
    added_there (pair_of c.args.term) c.args.term.sign_count (terms_of c.args.terms.now.items)
    (terms_of c.add_at.new.terms.items) c.in-Ok.place
    (subst (λ w. StandsAt Equal (pair_of c.args.term) (terms_of w) c.in-Ok.place) same c.in-Ok.ensures.place)
    (subst (λ n. c.in-Ok.place < n) (ap length same ∙ sym (length-map c.args.terms.now.items term_of))
    c.in-Ok.ensures.found)
    (subst
    (λ z. AddsAt c.in-Ok.place z (terms_of c.args.terms.now.items) (terms_of c.add_at.new.terms.items))
    (again-sign c.args.term.sign_count c.requires.one) c.add_at.ensures)

pub returns-in_ok-insert-in-Err : goal.returns-in_ok-insert-in-Err
returns-in_ok-insert-in-Err g c =
    added_new (pair_of c.args.term) c.args.term.sign_count (terms_of c.args.terms.now.items)
    (terms_of c.insert.new.self.items) c.in-Err.place
    (subst (λ w. StandsAt Less (pair_of c.args.term) (terms_of w) c.in-Err.place) c.deref.ensures.value
    c.in-Err.ensures.place)
    (sign-nonzero c.args.term.sign_count c.requires.one)
    (ap terms_of c.in_ok-insert-in-Err.ensures.items
    ∙ map-insert term_of c.args.terms.now.items c.in-Err.place c.args.term)
