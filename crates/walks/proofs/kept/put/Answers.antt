-- `walks::kept::put` meets its contract.
-- Assumes nothing.
use Rattle.walks.proofs.BytesLaws.{put_word}
use Rattle.walks.proofs.kept.put.Goals as goal

pub returns : goal.returns
returns c = put_word c.args.choice c.args.v c.args.x c.less.result c.join.result c.requires.0 c.requires.1 c.less.ensures c.join.ensures
