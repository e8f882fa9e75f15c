use Rattle.syzygies.proofs.Additions.{additions_ascend}
use Rattle.syzygies.proofs.laws.additions.Goals as goal

pub returns : goal.returns
returns c = additions_ascend
