-- The reply where memory ran out, as bytes.
use Rattle.std.proofs.Common.{◌≡◌, codes, refl}
use Rattle.std.specs.Fmt.{digits}
use Rattle.json.specs.Print.{escape_byte}
use Rattle.adr_text.specs.declared.refusal.Refusal.TheVariants.{OutOfMemory}
use Rattle.adr_written.specs.Objects.{problem_data, problem_text}

pub memory_body : problem_text OutOfMemory ≡ codes "{\"detail\":\"out of memory\",\"status\":500,\"title\":\"OutOfMemory\"}"
unfolding problem_text problem_data digits escape_byte
memory_body = refl
