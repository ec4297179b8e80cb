use Rattle.std.proofs.Common.{◌≡◌, take, sum_by}
use Rattle.adr_split.specs.Quotas.{quota_of}
use Rattle.adr_split.proofs.parts.missing.Given as goal

abbrev pub invariant-loop-share : goal.invariant-loop-share
invariant-loop-share l = l.given ≡ sum_by (quota_of l.amount l.total) (take l.share-index l.shares)
