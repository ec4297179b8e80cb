use denote.Param.Send.{sendable}
use Rattle.adr_file.proofs.Sending.{file_desk_send}
use Rattle.adr_node.proofs.serve.serve_file.Goals as goal

-- a desk over a file may go to another thread
pub serve_over-requires-send-D : goal.serve_over-requires-send-D
serve_over-requires-send-D g c κs within = search (sendable, file_desk_send)
