use Rattle.std.proofs.Common.{◌≡◌, ◌∙◌, ◌++◌, ℕ, List, map, ap, arith}
use Rattle.coordinate_model.specs.Key.{Key}
use Rattle.proof_text.specs.Lines.{behind_spaces}
use Rattle.proof_text.specs.Terms.{power_texts, row_text}
use Rattle.proof_text.proofs.KeyWords.{some_put}
use Rattle.proof_text.proofs.key.add_key.Goals as goal

pub returns-else-len-before : goal.returns-else-len-before
returns-else-len-before g c =
    let names = c.args.names.now in
    let key = c.args.key.now in
    let line = c.args.line.now.items in
    let powers = c.in_ok-add_powers.ensures in
    let rows = c.in_ok-add_rows.ensures in
    let same_rows = c.rows.ensures.rows in
    let view = c.key.view_is in
    let put : c.add_rows.new.line.items
    ≡ (line ++ behind_spaces (power_texts names.params key.exponents)) ++ behind_spaces (map (row_text names) key.rows) =
    rows ∙ ap (λ (bs : List ℕ). bs ++ behind_spaces (map (row_text names) c.rows.result.now)) powers
    ∙ ap (λ (es : List ℕ). (line ++ behind_spaces (power_texts names.params es))
    ++ behind_spaces (map (row_text names) c.rows.result.now)) (ap (λ (k : Key). k.exponents) view)
    ∙ ap (λ (rs : List (List ℕ)). (line ++ behind_spaces (power_texts names.params key.exponents))
    ++ behind_spaces (map (row_text names) rs)) (same_rows ∙ ap (λ (k : Key). k.rows) view) in
    some_put line c.add_rows.new.line.items (power_texts names.params key.exponents) (map (row_text names) key.rows) put
    (λ e. c.if-len-before.false (grind arith))
