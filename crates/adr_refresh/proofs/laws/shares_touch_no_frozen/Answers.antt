use Rattle.adr_refresh.proofs.FreezeLemmas.{shares_touch}
use Rattle.adr_refresh.proofs.laws.shares_touch_no_frozen.Goals as goal

pub returns : goal.returns
returns c = shares_touch
