use Rattle.std.proofs.Common.{◌≡◌, ℕ, ◌+◌, ◌-◌, List, ◌++◌, length, replicate, drop, sym, ap, ap₂, ◌∙◌, append_assoc, arith}
use Rattle.std.proofs.lemmas.List.{drop-replicate, drop_at}
use Rattle.syzygies.proofs.points.joined.Goals as goal

-- what is behind two lists that were written into places of 0
behind : (n a b : ℕ) (front back : List ℕ) → replicate n 0 ≡ front ++ back → length front ≡ a
    → drop b back ≡ replicate (n - (a + b)) 0
behind n a b front back e h =
    ap (drop b) (sym (drop_at front back a h) ∙ ap (drop a) (sym e) ∙ drop-replicate a n 0)
    ∙ drop-replicate b (n - a) 0 ∙ ap (λ m. replicate m 0) (omega arith)

pub returns : goal.returns
returns g c =
    let a : List ℕ = c.args.first.now in
    let b : List ℕ = c.args.second.now in
    let rest : drop (length b) c.split_at_mut-front.result.1.now ≡ replicate (g.row.N - (length a + length b)) 0 =
    behind g.row.N (length a) (length b) c.split_at_mut-front.result.0.now c.split_at_mut-front.result.1.now
    c.split_at_mut-front.ensures.value c.split_at_mut-front.ensures.front_len in
    ap₂ (λ (x y : List ℕ). x ++ (y ++ drop (length b) c.split_at_mut-front.result.1.now)) c.copy_from_slice.ensures.after
    c.copy_from_slice-2.ensures.after
    ∙ ap (λ (w : List ℕ). a ++ (b ++ w)) rest ∙ sym (append_assoc a b _)
