-- Reading one split from a table.
use Rattle.std.proofs.Common.{◌≡◌, ℕ, ◌<◌, List, ◌++◌, map, length, get_or, sym, ap, ◌∙◌, arith}
use Rattle.std.proofs.lemmas.List.{length-map}
use Rattle.std.proofs.lemmas.Option.{slice_get-map, slice_get-get_or}
use Rattle.std.specs.Prelude.{slice_get, Some}
use Rattle.std.specs.Option.{option_map}
use Rattle.coordinate_model.specs.Sequences.{range, splits, sign_of}
use Rattle.split_tables.specs.Masks.{places_of, IsSplitAt, IsTable}
use Rattle.split_tables.specs.declared.signed_split.SignedSplit.{SignedSplit}

map_at : {X Y : Type 0} (f : X → Y) (xs : List X) (ys : List Y) (i : ℕ) (d : X) → map f xs ≡ ys → i < length xs
    → slice_get ys i ≡ Some (f (get_or xs i d))
map_at f xs ys i d e h =
    ap (λ w. slice_get w i) (sym e) ∙ slice_get-map f xs i ∙ ap (option_map f) (slice_get-get_or xs i d h)

-- a table whose parts and signs are those of the list ts has at each place the parts and the sign of the entry of ts
entry_at : {X Y Z : Type 0} (parts : X → Y) (sign : X → Z) (f : Y → Z) (xs : List X) (ts : List Y) (i : ℕ) (d : X)
    → map parts xs ≡ ts → map sign xs ≡ map f ts → i < length ts
    → (slice_get ts i ≡ Some (parts (get_or xs i d))) × (sign (get_or xs i d) ≡ f (parts (get_or xs i d)))
entry_at {X} parts sign f xs ts i d e s h =
    let count : length xs ≡ length ts = sym (length-map xs parts) ∙ ap length e in
    let here : i < length xs = omega arith in
    let x : X = get_or xs i d in
    let all : slice_get ts i ≡ Some (parts x) = map_at parts xs ts i d e here in
    let signs : Some (sign x) ≡ Some (f (parts x)) =
    sym (map_at sign xs (map f ts) i d s here) ∙ slice_get-map f ts i ∙ ap (option_map f) all in
    (all, cc)

pub split_at : (n k i : ℕ) (table : List SignedSplit) (d : SignedSplit) → IsTable n k table
    → i < length (splits k (range n)) → IsSplitAt n k i (get_or table i d)
split_at n k i table d t h =
    let found = entry_at {X = SignedSplit} (λ s. (places_of s.chosen, places_of s.rest)) (λ s. s.sign)
    (λ p. sign_of (p.0 ++ p.1)) table (splits k (range n)) i d t.all t.signs h in
    record { split = found.0; sign = found.1 }
