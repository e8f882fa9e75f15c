-- What a version of the language decides by itself. All else of the grammar is the same in every version.
use Rattle.std.specs.Prelude.{ℕ, ◌≤◌, Bool, nat_lt, List, codes}
use Rattle.construction_reader.specs.Words.{is_name_byte, is_name}

-- the rules that a version decides
pub record Rules : Type 0 where
  -- the word behind `construction`
  pub version : List ℕ
  -- whether the byte may stand in a run
  pub is_run_byte : ℕ → Bool
  -- the ranks are those from the least to the greatest
  pub least_rank : ℕ
  pub greatest_rank : ℕ
  -- whether the token may stand behind `with`
  pub is_weight : List ℕ → Bool
  -- how many conclusions a text may have
  pub most_conclusions : ℕ

-- version 1
abbrev pub version_1 : Rules
version_1 = record {
  version = codes "1";
  is_run_byte = is_name_byte;
  least_rank = 3;
  greatest_rank = 4;
  is_weight = is_name;
  most_conclusions = 1;
}

-- a rank of the version
abbrev pub IsRankBy : Rules → ℕ → Type 0
IsRankBy rules rank = (rules.least_rank ≤ rank) × (rank ≤ rules.greatest_rank)

-- whether a text may have several conclusions
abbrev pub allows_several : Rules → Bool
allows_several rules = nat_lt 1 rules.most_conclusions
