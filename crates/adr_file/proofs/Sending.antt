-- What a desk over a file stands on may go to another thread, and so may it.
use denote.Param.Send.{IsSend, sendable}
use denote.Param.SendFields.{declared_send, as_row_send}
use Rattle.adr_desk.proofs.desk.SqlDesk.TheSendSync as desk
use Rattle.sqlite_store.proofs.store.FileStore.TheSendSync as store
use Rattle.sqlite_disk.proofs.modelled.Modelled.TheSendSync as modelled
use Rattle.sqlite_std_file.specs.contracts.host.Host as Host
use Rattle.adr_file.specs.contracts.desk.FileDesk.{the_row, the_type}

host_send : IsSend Host.the_row
host_send = search sendable depth 20

pub file_desk_send : IsSend the_row
file_desk_send = declared_send the_type (search (sendable, as_row_send, desk.the_send, store.the_send, modelled.the_send, host_send) depth 20, tt)
