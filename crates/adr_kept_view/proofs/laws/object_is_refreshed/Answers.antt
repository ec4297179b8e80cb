use Rattle.adr_kept_view.proofs.ObjectLemmas.{object_refreshed}
use Rattle.adr_kept_view.proofs.laws.object_is_refreshed.Goals as goal

pub returns : goal.returns
returns c owner rows beside before base now old change keeps stands was tells told = object_refreshed owner rows beside before base now old keeps stands was change tells told
