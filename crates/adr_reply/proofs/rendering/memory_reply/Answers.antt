use Rattle.std.proofs.Common.{refl}
use Rattle.std.specs.Fmt.{digits}
use Rattle.adr_reply.specs.Replies.{reply_bytes}
use Rattle.adr_reply.proofs.MemoryReply.{memory_body}
use Rattle.adr_reply.proofs.rendering.memory_reply.Goals as goal

pub returns : goal.returns
unfolding reply_bytes digits
returns c = rw memory_body refl
