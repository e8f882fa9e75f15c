use Rattle.std.proofs.lemmas.Iterator.Consumers.{YieldsList-from_first, count_from_yields_List}
use Rattle.proof_text.proofs.line_words.count.Goals as goal

pub returns : goal.returns
returns c =
    count_from_yields_List c.again.result c.count.result c.count.ensures.ran
    (YieldsList-from_first (λ word. word) (λ words. words) c.args.words.now c.again.ensures.same)
