use Rattle.std.proofs.Common.{◌≡◌, ℕ, ◌+◌, ◌-◌, List, length, drop, replicate, ap, ◌∙◌, sym, arith}
use Rattle.std.proofs.lemmas.List.{drop-replicate, drop-drop}
use borrow.Rule.Slice.PartMut.{drop_put}
use Rattle.bracket_terms.specs.Extensors.{IsExtensor}
use Rattle.bracket_terms.proofs.ExtensorLaws.{length-points_of}
use Rattle.bracket_terms.proofs.join.in_sequence.Goals as goal

unused_left : (m n : ℕ) → 4 - m - n ≡ 4 - (m + n)
unused_left m n = omega arith

-- behind the points of both the places stay unused
still_unused : (m n : ℕ) (places : List ℕ) → IsExtensor m places → drop (m + n) places ≡ replicate (4 - (m + n)) 0
still_unused m n places f =
    sym (drop-drop n m places) ∙ ap (drop n) f.unused ∙ drop-replicate n (4 - m) 0
    ∙ ap (λ k. replicate k 0) (unused_left m n)

pub returns-clause-unused : goal.returns-clause-unused
returns-clause-unused c =
    drop_put c.args.a.now.size (c.args.a.now.size + c.args.b.now.size) c.args.a.now.points c.copy_from_slice.new.self
    (omega arith) (omega (arith, c.args.a.now.formed.four))
    (omega (
      arith,
      ap length (c.copy_from_slice.ensures.after ∙ c.used.ensures),
      length-points_of c.args.b.now.size c.args.b.now.points c.args.b.now.formed,
    ))
    ∙ still_unused c.args.a.now.size c.args.b.now.size c.args.a.now.points c.args.a.now.formed
