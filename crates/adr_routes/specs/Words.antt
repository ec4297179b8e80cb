-- Texts and ids, from bytes.
use Rattle.std.specs.Prelude.{ℕ, List, Option, Some, None, option_and_then, if◌then◌else◌}
use Rattle.std.specs.Result.{result_ok}
use Rattle.std.specs.Str.{is_utf8}
use Rattle.adr_text.specs.Ids.{id_of}

-- the bytes, where they are text: UTF-8
unfoldable pub text_from : List ℕ → Option (List ℕ)
text_from bytes = if is_utf8 bytes then Some bytes else None

-- the object id that the bytes are
unfoldable pub id_from : List ℕ → Option (List ℕ)
id_from bytes = option_and_then (λ text. result_ok (id_of text)) (text_from bytes)
