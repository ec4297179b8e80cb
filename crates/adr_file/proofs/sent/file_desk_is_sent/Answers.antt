use denote.Param.Send.{sendable}
use Rattle.adr_file.proofs.Sending.{file_desk_send}
use Rattle.adr_file.proofs.sent.file_desk_is_sent.Goals as goal

pub sent-requires-send-T : goal.sent-requires-send-T
sent-requires-send-T c κs = search (sendable, file_desk_send)
