-- The samples of the numbers 1 and 2, worked by hand.
use Rattle.std.specs.Prelude.{◌≡◌, ℕ, List, [], ◌∷◌, codes}
use Rattle.construction_reader.specs.declared.types.ObjectKind.TheVariants.{Point}
use Rattle.construction_reader.specs.Said.{Object, Recipe, Claim, Sentence, Row}
use Rattle.sample_maker.specs.Sample.{sample_of}
use Rattle.sample_maker.proofs.Shown.{sample_shown}

-- free A B C D E F
abbrev free_line : Row
free_line = record {
  line = 3;
  sentence = Sentence.Free
      (codes "A" ∷ codes "B" ∷ codes "C" ∷ codes "D" ∷ codes "E" ∷ codes "F" ∷ []);
}

-- (join a b)
abbrev join : List ℕ → List ℕ → Object
join a b = Object.Join (Object.Named a) (Object.Named b)

-- point name = meet a b
abbrev point_line : ℕ → List ℕ → Object → Object → Row
point_line line name a b = record { line = line; sentence = Sentence.Define Point name (Recipe.Meet a b) }

-- conclude collinear name A B
abbrev collinear_line : ℕ → List ℕ → Row
collinear_line line name = record {
  line = line;
  sentence = Sentence.Conclude (Claim.Collinear
      (Object.Named name ∷ Object.Named (codes "A") ∷ Object.Named (codes "B") ∷ []));
}

first : sample_of 1 ≡ record {
  rank = 3;
  rows = free_line
      ∷ point_line 4 (codes "P1") (join (codes "A") (codes "F")) (join (codes "B") (codes "E"))
      ∷ collinear_line 5 (codes "P1") ∷ [];
}
first = sample_shown 1

second : sample_of 2 ≡ record {
  rank = 3;
  rows = free_line
      ∷ point_line 4 (codes "P1") (join (codes "A") (codes "B")) (join (codes "D") (codes "F"))
      ∷ point_line 5 (codes "P2") (join (codes "P1") (codes "E")) (join (codes "F") (codes "D"))
      ∷ collinear_line 6 (codes "P2") ∷ [];
}
second = sample_shown 2
