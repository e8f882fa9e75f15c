use Rattle.proof_text.proofs.WordSteps.{all_words}
use Rattle.proof_text.proofs.line_words.Words.of.Goals as goal

pub returns : goal.returns
returns c = all_words c.args.line.now
